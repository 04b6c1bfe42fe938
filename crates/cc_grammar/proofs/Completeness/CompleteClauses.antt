-- What is derived is read: the parts of statements.
use Rattle.std.specs.Prelude.{◌≡◌, ℕ, zero, suc, ◌+◌, ◌<◌, ◌≤◌, max, Bool, true, false, cond, List, [], ◌∷◌, ◌++◌, Ok, Option, Some, None}
use Rattle.std.proofs.Common.{refl, sym, ap, arith, ◌∙◌, append_assoc, append-nil}
use Rattle.cc_ast.specs.declared.place.Place.{Place}
use Rattle.cc_lexer.specs.declared.token.Mark.{Mark}
use Rattle.cc_lexer.specs.declared.token.Mark.TheVariants as mark
use Rattle.cc_lexer.specs.declared.word.Word.TheVariants as word
use Rattle.cc_grammar.specs.Symbols.{Kind, Symbols, real, look, rest, is_mark, is_word}
use Rattle.cc_grammar.specs.Symbols as k
use Rattle.cc_grammar.specs.RawTree.{RawExpr, RawTarget, RawStmt, RawDeclarator, RawCase, RawInit, RawCatch, RawFinally, MaybeExpr, stmts}
use Rattle.cc_grammar.specs.RawTree as raw
use Rattle.cc_grammar.specs.Signs.{assign_of, target_of}
use Rattle.cc_grammar.specs.Grammar as g
use Rattle.cc_grammar.specs.Grammar.{Context, in_loop, inside, At, Sign, Reserved, Ends, E, Declarator, Declarators, Init, Optional, Cases, Catch, Finally, T, Body}
use Rattle.cc_grammar.specs.Reading.{Outcome, Sized, and_then, ends_list, clause_of}
use Rattle.cc_grammar.specs.Reading as r
use Rattle.cc_grammar.proofs.Marked.{In}
use Rattle.cc_grammar.proofs.Views.{mark_true, mark_self}
use Rattle.cc_grammar.proofs.Mono.{lower}
use Rattle.cc_grammar.proofs.Shrinks.{reals, at_less, variable_less, e_less, declarator_less, declarators_less, optional_less, body_less}
use Rattle.cc_grammar.proofs.Steps.{step, chosen_at, skipped_at, rest_at, mark_at, word_at, table_at, taken, taken_variable}
use Rattle.cc_grammar.proofs.Firsts.{opens, begins, no_mark, no_word}
use Rattle.cc_grammar.proofs.Quiet.{Quiet, looser, at_next, close_paren, semicolon, colon, comma, word_in}
use Rattle.cc_grammar.proofs.Completeness.CompleteLists.{Reads, CompleteInner, statements_read}
use Rattle.cc_grammar.proofs.OnSymbols as s

no_equal : (x : Kind) → assign_of x ≡ None → is_mark mark.Equal x ≡ false
no_equal x e = by (is_mark mark.Equal x) refl where
  by : (b : Bool) → is_mark mark.Equal x ≡ b → is_mark mark.Equal x ≡ false
  by false q = q
  by true q = let no : Some None ≡ None = ap assign_of (sym (mark_true mark.Equal x q)) ∙ e in (cc)

-- the brace, or the next clause
cases_begin : {c : Context} {h : ℕ} {seen : Bool} {xs ys : Symbols} {cs : List RawCase} → Cases c h seen xs cs ys → ends_list (look xs).kind ≡ true
cases_begin (g.no_case o) = table_at ends_list o
cases_begin (g.case o x p b m) = table_at ends_list o
cases_begin (g.default o p b m) = table_at ends_list o

pub catch_at : {c : Context} {h : ℕ} {xs ys : Symbols} {f : RawCatch} → Catch c h xs f ys → is_word word.Catch (look xs).kind ≡ true
catch_at (g.caught o p v q b x) = word_at o

pub finally_at : {c : Context} {h : ℕ} {xs ys : Symbols} {f : RawFinally} → Finally c h xs f ys → is_word word.Finally (look xs).kind ≡ true
finally_at (g.finally o b x) = word_at o

pub no_catch_at : {c : Context} {h : ℕ} {xs ys : Symbols} {f : RawFinally} → Finally c h xs f ys → is_word word.Catch (look xs).kind ≡ false
no_catch_at (g.finally o b x) = table_at (is_word word.Catch) o

module _ (d n : ℕ) (inner : In) (all : CompleteInner d n inner) where
  -- ---- variables

  module _ (expr : Bool → ℕ → s.Reader (Sized RawExpr)) (b : Bool) (h : ℕ) (complete : (xs ys : Symbols) (e : RawExpr) → reals xs < n → E h b 1 xs e ys → Quiet b 1 (look ys).kind → Reads h (expr b 1 xs) e ys) where
    declarator_read : {v : RawDeclarator} {xs ys : Symbols} → reals xs < n → Declarator h b xs v ys → Quiet b 1 (look ys).kind → Reads h (s.declarator d n inner expr b xs) v ys
    unfolding r.declarator
    declarator_read {ys} ln (g.unset v) q = record { height = 0; low = omega arith; is = step _ (taken_variable v) (skipped_at (is_mark mark.Equal (look ys).kind) _ _ (no_equal (look ys).kind (q.assigning (omega arith))) refl) }
    declarator_read ln (g.set v c x) q = let p = complete _ _ _ (omega (arith, variable_less v, at_less c)) x q in
        record { height = p.height; low = p.low; is = step _ (taken_variable v) (chosen_at _ _ _ (mark_at c) (step _ (ap (expr b 1) (rest_at c) ∙ p.is) refl)) }

    declarators_read : (m : ℕ) {vs : List RawDeclarator} {xs ys : Symbols} (found : List RawDeclarator) (j : ℕ) → reals xs < m → reals xs < n → j ≤ h → Declarators h b xs vs ys → Quiet b 0 (look ys).kind
        → Reads h (s.declarators d n inner expr b m found j xs) (found ++ vs) ys
    unfolding r.declarators
    declarators_read zero found j lm ln lj x q = absurd (omega arith)
    declarators_read (suc m) {ys} found j lm ln lj (g.last_declarator x) q = let p = declarator_read ln x (looser 1 (omega arith) q) in
        record { height = max j p.height; low = omega (arith, p.low); is = step _ p.is (skipped_at (is_mark mark.Comma (look ys).kind) _ _ (q.comma refl) refl) }
    declarators_read (suc m) found j lm ln lj (g.more_declarators {v} {vs} {ws} x c y) q =
        let p = declarator_read ln x (at_next c (comma b)) in
        let w = declarators_read m (found ++ v ∷ []) (max j p.height) (omega (arith, declarator_less x, at_less c)) (omega (arith, declarator_less x, at_less c)) (omega (arith, p.low)) y q in
        record {
          height = w.height;
          low = w.low;
          is = step _ p.is (chosen_at _ _ _ (mark_at c) (ap (s.declarators d n inner expr b m (found ++ v ∷ []) (max j p.height)) (rest_at c)
              ∙ w.is ∙ ap (λ (u : List RawDeclarator). Ok ((u, w.height), ws)) (append_assoc found (v ∷ []) vs)));
        }

    pub all_declarators_read : {vs : List RawDeclarator} {xs ys : Symbols} → reals xs < n → Declarators h b xs vs ys → Quiet b 0 (look ys).kind → Reads h (s.declarators d n inner expr b n [] 0 xs) vs ys
    all_declarators_read ln x q = declarators_read n [] 0 ln ln (omega arith) x q

  -- ---- heads

  pub head_read : {h : ℕ} {xs ys zs ws : Symbols} {e : RawExpr} → reals xs < n → h < d → Sign mark.OpenParen xs ys → E h true 0 ys e zs → Sign mark.CloseParen zs ws → Reads h (s.head d n inner xs) e ws
  unfolding r.head
  head_read {h} ln lt o x c = let p = all.expr true 0 h (omega (arith, at_less o)) (omega arith) (omega arith) lt x (at_next c (close_paren true)) in
      record { height = p.height; low = p.low; is = step _ (taken o) (step _ p.is (step _ (taken c) refl)) }

  optional_read : (m : Mark) {h : ℕ} {xs ys zs : Symbols} {e : MaybeExpr} → opens (k.mark m) ≡ false → Quiet true 0 (k.mark m) → reals xs < n → h < d → Optional h xs e ys → Sign m ys zs → Reads h (s.optional d n inner m xs) e ys
  unfolding r.optional
  optional_read m f q ln lt g.absent c = record { height = 0; low = omega arith; is = chosen_at _ _ _ (mark_at c) refl }
  optional_read m {h} {xs} f q ln lt (g.present x) c = let p = all.expr true 0 h ln (omega arith) (omega arith) lt x (at_next c q) in
      record { height = p.height; low = p.low; is = skipped_at (is_mark m (look xs).kind) _ _ (no_mark m (look xs).kind f (begins x)) (step _ p.is refl) }

  for_rest_read : (c : Context) (p : Place) (a : RawInit) (j : ℕ) {h i u : ℕ} {e f : MaybeExpr} {b : List RawStmt} {us vs ws ts os rs ps : Symbols} → reals us < n → u ≤ d → h < u → i < u → j ≤ h
      → Sign mark.Semicolon us vs → Optional h vs e ws → Sign mark.Semicolon ws ts → Optional h ts f os → Sign mark.CloseParen os rs → T (in_loop c) i rs b ps
      → Reads u (s.for_rest d n inner c p (a, j) us) (raw.for p a e f (stmts b) ∷ []) ps
  unfolding r.for_rest
  for_rest_read c p a j {i} ln lu lh li lj q x o y w z =
      let e = optional_read mark.Semicolon refl (semicolon true) (omega (arith, at_less q)) (omega arith) x o in
      let f = optional_read mark.CloseParen refl (close_paren true) (omega (arith, at_less q, optional_less x, at_less o)) (omega arith) y w in
      let t = all.stmt (in_loop c) i (omega (arith, at_less q, optional_less x, at_less o, optional_less y, at_less w)) (omega arith) z in
      record {
        height = max (max j (max e.height f.height)) t.height + 1;
        low = omega (arith, e.low, f.low, t.low);
        is =
            step _ (taken q) (step _ e.is (step _ (taken o) (step _ f.is (step _ (taken w) (step _ t.is refl)))));
      }

  for_in_read : (c : Context) (p : Place) (t : raw.RawForTarget) (j : ℕ) {h i u : ℕ} {f : RawExpr} {b : List RawStmt} {us vs ws ts os : Symbols} → reals us < n → u ≤ d → h < u → i < u → j ≤ h
      → Reserved word.In us vs → E h true 0 vs f ws → Sign mark.CloseParen ws ts → T (in_loop c) i ts b os → Reads u (s.for_in d n inner c p t j us) (raw.for_in p t f (stmts b) ∷ []) os
  unfolding r.for_in
  for_in_read c p t j {h} {i} ln lu lh li lj q x o z =
      let e = all.expr true 0 h (omega (arith, at_less q)) (omega arith) (omega arith) (omega arith) x (at_next o (close_paren true)) in
      let w = all.stmt (in_loop c) i (omega (arith, at_less q, e_less x, at_less o)) (omega arith) z in
      record {
        height = max (max j e.height) w.height + 1;
        low = omega (arith, e.low, w.low);
        is =
            step _ (ap (inner.expr true 0) (rest_at q) ∙ e.is) (step _ (taken o) (step _ w.is refl));
      }

  vars_rest : (c : Context) (p : Place) (vs : List RawDeclarator) (j : ℕ) (us : Symbols) → s.for_vars_by d n inner c p vs j false us ≡ s.for_rest d n inner c p (raw.init_vars (raw.declarators vs), j) us
  vars_rest c p [] j us = refl
  vars_rest c p (v ∷ []) j us = refl
  vars_rest c p (v ∷ w ∷ vs) j us = refl

  value_rest : (c : Context) (p : Place) (x : Sized RawExpr) (o : Option RawTarget) (us : Symbols) → s.for_value_by d n inner c p x o false us ≡ s.for_rest d n inner c p (raw.init_value x.0, x.1) us
  value_rest c p x None us = refl
  value_rest c p x (Some t) us = refl

  -- what stands behind the parenthesis of a `for`
  abbrev for_head : Context → Place → s.Reader (Sized (List RawStmt))
  for_head c p zs = cond (is_word word.Var (look zs).kind)
      (λ i. and_then (s.declarators d n inner inner.expr false n [] 0 (rest i)) (λ vs j. s.for_vars_by d n inner c p vs.0 vs.1 (is_word word.In (look j).kind) j))
      (cond (is_mark mark.Semicolon (look zs).kind) (s.for_rest d n inner c p (raw.no_init, 0))
      (λ i. and_then (inner.expr false 0 i) (λ x j. s.for_value_by d n inner c p x (target_of x.0) (is_word word.In (look j).kind) j))) zs

  for_declarators : {h : ℕ} {vs : List RawDeclarator} {xs ys : Symbols} → reals xs < n → h < d → Declarators h false xs vs ys → Quiet false 0 (look ys).kind → Reads h (s.declarators d n inner inner.expr false n [] 0 xs) vs ys
  for_declarators {h} ln lt x q = all_declarators_read inner.expr false h (λ _ _ _ l y z. all.expr false 1 h l (omega arith) (omega arith) lt y z) ln x q

  pub for_read : (c : Context) (p : Place) {h i u : ℕ} {a : RawInit} {e f : MaybeExpr} {b : List RawStmt} {zs us vs ws ts os rs ps : Symbols} → reals zs < n → u ≤ d → h < u → i < u
      → Init h zs a us → Sign mark.Semicolon us vs → Optional h vs e ws → Sign mark.Semicolon ws ts → Optional h ts f os → Sign mark.CloseParen os rs → T (in_loop c) i rs b ps
      → Reads u (for_head c p zs) (raw.for p a e f (stmts b) ∷ []) ps
  for_read c p ln lu lh li (g.no_init {xs}) q x o y w z =
      let t = for_rest_read c p raw.no_init 0 ln lu lh li (omega arith) q x o y w z in
      record { height = t.height; low = t.low; is = skipped_at (is_word word.Var (look xs).kind) _ _ (table_at (is_word word.Var) q) (chosen_at _ _ _ (mark_at q) t.is) }
  for_read c p {h} ln lu lh li (g.init_value {e = v} {xs} {ys} m) q x o y w z =
      let u = all.expr false 0 h ln (omega arith) (omega arith) (omega arith) m (at_next q (semicolon false)) in
      let t = for_rest_read c p (raw.init_value v) u.height (omega (arith, e_less m)) lu lh li u.low q x o y w z in
      record {
        height = t.height;
        low = t.low;
        is = skipped_at (is_word word.Var (look xs).kind) _ _ (no_word word.Var (look xs).kind refl (begins m))
            (skipped_at (is_mark mark.Semicolon (look xs).kind) _ _ (no_mark mark.Semicolon (look xs).kind refl (begins m))
            (step _ u.is (ap (λ b. s.for_value_by d n inner c p (v, u.height) (target_of v) b ys) (table_at (is_word word.In) q) ∙ value_rest c p (v, u.height) (target_of v) ys ∙ t.is)));
      }
  for_read c p ln lu lh li (g.init_vars {vs = ds} {xs} {zs} v m) q x o y w z =
      let u = for_declarators (omega (arith, at_less v)) (omega arith) m (at_next q (semicolon false)) in
      let t = for_rest_read c p (raw.init_vars (raw.declarators ds)) u.height (omega (arith, at_less v, declarators_less m)) lu lh li u.low q x o y w z in
      record {
        height = t.height;
        low = t.low;
        is = chosen_at _ _ _ (word_at v) (step _ (ap (s.declarators d n inner inner.expr false n [] 0) (rest_at v) ∙ u.is)
            (ap (λ b. s.for_vars_by d n inner c p ds u.height b zs) (table_at (is_word word.In) q) ∙ vars_rest c p ds u.height zs ∙ t.is));
      }

  pub for_in_target_read : (c : Context) (p : Place) {h i u : ℕ} {e f : RawExpr} {t : RawTarget} {b : List RawStmt} {zs us vs ws ts os : Symbols} → reals zs < n → u ≤ d → h < u → i < u
      → E h false 15 zs e us → target_of e ≡ Some t → Reserved word.In us vs → E h true 0 vs f ws → Sign mark.CloseParen ws ts → T (in_loop c) i ts b os
      → Reads u (for_head c p zs) (raw.for_in p (raw.in_target t) f (stmts b) ∷ []) os
  for_in_target_read c p {h} {e} {t} {zs} {us} ln lu lh li m r q x o z =
      let v = all.expr false 0 h ln (omega arith) (omega arith) (omega arith) (lower 0 (omega arith) (λ no. absurd (omega arith)) m) (at_next q word_in) in
      let w = for_in_read c p (raw.in_target t) v.height (omega (arith, e_less m)) lu lh li v.low q x o z in
      record {
        height = w.height;
        low = w.low;
        is = skipped_at (is_word word.Var (look zs).kind) _ _ (no_word word.Var (look zs).kind refl (begins m))
            (skipped_at (is_mark mark.Semicolon (look zs).kind) _ _ (no_mark mark.Semicolon (look zs).kind refl (begins m))
            (step _ v.is (ap (λ b. s.for_value_by d n inner c p (e, v.height) (target_of e) b us) (word_at q) ∙ ap (λ o. s.for_value_by d n inner c p (e, v.height) o true us) r ∙ w.is)));
      }

  pub for_in_var_read : (c : Context) (p : Place) {h i u : ℕ} {v : RawDeclarator} {f : RawExpr} {b : List RawStmt} {zs us vs ws ts os rs : Symbols} → reals zs < n → u ≤ d → h < u → i < u
      → Reserved word.Var zs us → Declarator h false us v vs → Reserved word.In vs ws → E h true 0 ws f ts → Sign mark.CloseParen ts os → T (in_loop c) i os b rs
      → Reads u (for_head c p zs) (raw.for_in p (raw.in_declared v.variable v.value) f (stmts b) ∷ []) rs
  for_in_var_read c p {v} {vs} ln lu lh li m y q x o z =
      let u = for_declarators (omega (arith, at_less m)) (omega arith) (g.last_declarator y) (at_next q word_in) in
      let w = for_in_read c p (raw.in_declared v.variable v.value) u.height (omega (arith, at_less m, declarator_less y)) lu lh li u.low q x o z in
      record {
        height = w.height;
        low = w.low;
        is = chosen_at _ _ _ (word_at m) (step _ (ap (s.declarators d n inner inner.expr false n [] 0) (rest_at m) ∙ u.is)
            (ap (λ b. s.for_vars_by d n inner c p (v ∷ []) u.height b vs) (word_at q) ∙ w.is));
      }

  -- ---- the clauses of a `switch`

  cases_read : (c : Context) (m : ℕ) {h : ℕ} {seen : Bool} {cs : List RawCase} {xs ys : Symbols} (found : List RawCase) (j : ℕ) → reals xs < m → reals xs < n → h < d → j ≤ h → Cases c h seen xs cs ys
      → Reads h (s.clauses d n inner c m seen found j xs) (found ++ cs) ys
  unfolding r.clauses
  cases_read c zero found j lm ln lt lj x = absurd (omega arith)
  cases_read c (suc m) found j lm ln lt lj (g.no_case {s = seen} {xs} {ys} o) =
      record {
        height = j;
        low = lj;
        is = ap (λ w. s.clause_by d n inner (s.clauses d n inner c m) c seen found j w xs) (table_at clause_of o)
            ∙ ap (λ ys. Ok ((found, j), ys)) (rest_at o) ∙ ap (λ (w : List RawCase). Ok ((w, j), ys)) (sym (append-nil found));
      }
  cases_read c (suc m) {h} found j lm ln lt lj (g.case {s = seen} {e} {b} {cs} {xs} {ws} o x p y z) =
      let v = all.expr true 0 h (omega (arith, at_less o)) (omega arith) (omega arith) lt x (at_next p (colon true)) in
      let w = statements_read d n inner all c (omega (arith, at_less o, e_less x, at_less p)) lt y (cases_begin z) in
      let a : RawCase = record { test = raw.one_expr e; body = b } in
      let q = cases_read c m (found ++ a ∷ []) (max j (max v.height w.height)) (omega (arith, at_less o, e_less x, at_less p, body_less y)) (omega (arith, at_less o, e_less x, at_less p, body_less y)) lt (omega (arith, v.low, w.low)) z in
      record {
        height = q.height;
        low = q.low;
        is = ap (λ w. s.clause_by d n inner (s.clauses d n inner c m) c seen found j w xs) (table_at clause_of o)
            ∙ step _ (ap (inner.expr true 0) (rest_at o) ∙ v.is) (step _ (taken p) (step _ w.is (q.is ∙ ap (λ (w : List RawCase). Ok ((w, q.height), ws)) (append_assoc found (a ∷ []) cs))));
      }
  cases_read c (suc m) {h} found j lm ln lt lj (g.default {b} {cs} {xs} {ws} o p y z) =
      let w = statements_read d n inner all c (omega (arith, at_less o, at_less p)) lt y (cases_begin z) in
      let a : RawCase = record { test = raw.no_expr; body = b } in
      let q = cases_read c m (found ++ a ∷ []) (max j w.height) (omega (arith, at_less o, at_less p, body_less y)) (omega (arith, at_less o, at_less p, body_less y)) lt (omega (arith, w.low)) z in
      record {
        height = q.height;
        low = q.low;
        is = ap (λ w. s.clause_by d n inner (s.clauses d n inner c m) c false found j w xs) (table_at clause_of o)
            ∙ step _ (ap (s.expect mark.Colon) (rest_at o) ∙ taken p) (step _ w.is (q.is ∙ ap (λ (w : List RawCase). Ok ((w, q.height), ws)) (append_assoc found (a ∷ []) cs)));
      }

  pub all_cases_read : (c : Context) {h : ℕ} {cs : List RawCase} {xs ys : Symbols} → reals xs < n → h < d → Cases c h false xs cs ys → Reads h (s.clauses d n inner c n false [] 0 xs) cs ys
  all_cases_read c ln lt x = cases_read c n [] 0 ln ln lt (omega arith) x

  -- ---- the clauses of a `try`

  pub block_in_read : (c : Context) (h : ℕ) {b : List RawStmt} {xs ys : Symbols} → reals xs < n → h < d → (look xs).kind ≡ k.mark mark.OpenBrace → T (inside c) h xs b ys → Reads h (s.block_in d n inner c xs) b ys
  unfolding r.block_in
  block_in_read c h {xs} ln lt e x = let p = all.stmt (inside c) h ln lt x in
      record { height = p.height; low = p.low; is = chosen_at (is_mark mark.OpenBrace (look xs).kind) _ _ (ap (is_mark mark.OpenBrace) e ∙ mark_self mark.OpenBrace) p.is }

  pub catch_read : (c : Context) (h : ℕ) {f : RawCatch} {xs ys : Symbols} → reals xs < n → h < d → Catch (inside c) h xs f ys → Reads h (s.catch d n inner c xs) f ys
  unfolding r.catch
  catch_read c h ln lt (g.caught o p v q b x) = let w = block_in_read c h (omega (arith, at_less o, at_less p, variable_less v, at_less q)) lt b x in
      record { height = w.height; low = w.low; is = step _ (ap (s.expect mark.OpenParen) (rest_at o) ∙ taken p) (step _ (taken_variable v) (step _ (taken q) (step _ w.is refl))) }

  pub finally_read : (c : Context) (h : ℕ) {f : RawFinally} {xs ys : Symbols} → reals xs < n → h < d → Finally (inside c) h xs f ys → Reads h (s.finally d n inner c xs) f ys
  unfolding r.finally
  finally_read c h ln lt (g.finally o b x) = let w = block_in_read c h (omega (arith, at_less o)) lt b x in
      record { height = w.height; low = w.low; is = step _ (ap (s.block_in d n inner c) (rest_at o) ∙ w.is) refl }
