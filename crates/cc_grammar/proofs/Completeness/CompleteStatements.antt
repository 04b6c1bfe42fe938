-- What is derived is read: statements.
use Rattle.std.specs.Prelude.{◌≡◌, ℕ, ◌+◌, ◌<◌, ◌≤◌, max, ◌||◌, Bool, true, false, cond, nat_lt, List, [], ◌∷◌, Ok, Err, Some, None}
use Rattle.std.proofs.Common.{refl, sym, ap, arith, ◌∙◌}
use Rattle.cc_lexer.specs.declared.token.Mark.TheVariants as mark
use Rattle.cc_lexer.specs.declared.word.Word.TheVariants as word
use Rattle.cc_grammar.specs.Symbols.{Kind, Lexeme, Symbols, real, look, rest, is_mark, is_word}
use Rattle.cc_grammar.specs.Symbols as k
use Rattle.cc_grammar.specs.RawTree.{RawExpr, RawStmt, stmts, cases}
use Rattle.cc_grammar.specs.RawTree as raw
use Rattle.cc_grammar.specs.Signs.{refused_name, prefix_of}
use Rattle.cc_grammar.specs.Grammar as g
use Rattle.cc_grammar.specs.Grammar.{Context, Labels, inside, in_loop, in_switch, labelled, is_among, At, Sign, Reserved, Ends, E, T, opens_no_expression}
use Rattle.cc_grammar.specs.Reading.{Outcome, Sized, Start, and_then, start_of, semicolon_symbol, label_of, label_by, ends_return, is_ending, is_remedy, is_some_label, variable_of, allowed}
use Rattle.cc_grammar.specs.Reading as r
use Rattle.cc_grammar.specs.Fronts.{is_end}
use Rattle.cc_grammar.proofs.Clashes.{clash}
use Rattle.cc_grammar.proofs.Marked.{In}
use Rattle.cc_grammar.proofs.Shrinks.{reals, at_less, e_less, t_less, catch_less, variable_less}
use Rattle.cc_grammar.proofs.Steps.{step, opened, chosen_at, skipped_at, kind_at, rest_at, mark_at, word_at, table_at, taken, taken_word, taken_variable, ends_at}
use Rattle.cc_grammar.proofs.Firsts.{opens, begins, no_label, Starts, plainly, with_name, starts}
use Rattle.cc_grammar.proofs.Quiet.{at_end, end_colon}
use Rattle.cc_grammar.proofs.Completeness.CompleteLists.{Reads, CompleteInner, body_read, function_read}
use Rattle.cc_grammar.proofs.Completeness.CompleteOperands.{variable_head}
use Rattle.cc_grammar.proofs.Stopping.{by_head}
use Rattle.cc_grammar.proofs.Completeness.CompleteExpressions.{expr_read}
use Rattle.cc_grammar.proofs.Completeness.CompleteClauses.{all_declarators_read, head_read, for_read, for_in_target_read, for_in_var_read, all_cases_read, block_in_read, catch_read, finally_read, catch_at, finally_at, no_catch_at}
use Rattle.cc_grammar.proofs.OnSymbols as s

-- ---- what ends a jump

no_label_at : (x : Kind) (line : Bool) {xs ys : Symbols} → At x xs ys → label_by x line ≡ None → label_by (look xs).kind line ≡ None
no_label_at x line c e = ap (λ y. label_by y line) (kind_at c) ∙ e

end_label : {xs ys : Symbols} → Ends xs ys → label_of (look xs) ≡ None
end_label (g.written {xs} c) = no_label_at _ (look xs).after_line c refl
end_label g.added = refl

named_label : {v : List ℕ} {xs ys : Symbols} → (look xs).after_line ≡ false → At (k.name v) xs ys → label_of (look xs) ≡ Some v
named_label {v} {xs} e c = ap (λ y. label_by y (look xs).after_line) (kind_at c) ∙ ap (label_by (k.name v)) e

or_true : (b : Bool) → (b || true) ≡ true
or_true true = refl
or_true false = refl

some_label : (v : List ℕ) (ls : Labels) → is_among v ls ≡ true → is_some_label ls ≡ true
some_label v [] e = let no : false ≡ true = e in (cc)
some_label v (l ∷ ls) e = refl

-- it ends a `return`, by its line and its kind
abbrev returning : Bool → Kind → Bool
returning line x = line || is_mark mark.Semicolon x || is_ending x || is_mark mark.CloseBrace x || is_end x

semicolon_returns : (line : Bool) → returning line (k.mark mark.Semicolon) ≡ true
semicolon_returns true = refl
semicolon_returns false = refl

end_returns : {xs ys : Symbols} → Ends xs ys → ends_return (look xs) ≡ true
end_returns (g.written {xs} c) = ap (returning (look xs).after_line) (kind_at c) ∙ semicolon_returns (look xs).after_line
end_returns g.added = refl

opening_returns : (x : Kind) → opens x ≡ true → returning false x ≡ false
opening_returns (k.mark mark.Semicolon) e = clash (sym e)
opening_returns (k.mark mark.CloseBrace) e = clash (sym e)
opening_returns (k.due k.ending) e = clash (sym e)
opening_returns k.end e = clash (sym e)
opening_returns _ e = refl

value_goes_on : (xs : Symbols) → (look xs).after_line ≡ false → opens (look xs).kind ≡ true → ends_return (look xs) ≡ false
value_goes_on xs e b = ap (λ line. returning line (look xs).kind) e ∙ opening_returns (look xs).kind b

-- ---- a statement that begins with a brace is a block

abbrev is_brace : Kind → Bool
is_brace (k.mark mark.OpenBrace) = true
is_brace _ = false

no_brace : {x : Kind} {xs ys : Symbols} → At x xs ys → is_brace x ≡ false → (look xs).kind ≡ k.mark mark.OpenBrace → ⊥
no_brace c f e = clash (sym (ap is_brace (sym (kind_at c) ∙ e)) ∙ f)

block_height : {c : Context} {h : ℕ} {xs ys : Symbols} {b : List RawStmt} → T c h xs b ys → (look xs).kind ≡ k.mark mark.OpenBrace → 0 < h
block_height (g.block lt o x p) e = omega arith
block_height (g.vars o x z) e = absurd (no_brace o refl e)
block_height (g.empty o) e = absurd (no_brace o refl e)
block_height (g.simple b x z) e = clash (sym (ap opens_no_expression e) ∙ b)
block_height (g.if_else lt lu lv o p x q y u z) e = omega arith
block_height (g.if_only lt lu o p x q y u) e = omega arith
block_height (g.do_while lt lu o x p q y u z) e = omega arith
block_height (g.while lt lu o p x q y) e = omega arith
block_height (g.for lt lu o p i q x u y v z) e = omega arith
block_height (g.for_in lt lu o p x t q y u z) e = omega arith
block_height (g.for_in_var lt lu o p q x u y v z) e = omega arith
block_height (g.continue a o z) e = absurd (no_brace o refl e)
block_height (g.continue_to a o u p i z) e = absurd (no_brace o refl e)
block_height (g.break a o z) e = absurd (no_brace o refl e)
block_height (g.break_to o u p i z) e = absurd (no_brace o refl e)
block_height (g.return a o z) e = absurd (no_brace o refl e)
block_height (g.return_value a o u x z) e = absurd (no_brace o refl e)
block_height (g.switch lt lu o p x q u y) e = omega arith
block_height (g.label lt o p i x) e = omega arith
block_height (g.half_label o p q) e = absurd (no_brace o refl e)
block_height (g.throw o u x z) e = absurd (no_brace o refl e)
block_height (g.try_catch lt lu o b x y n) e = omega arith
block_height (g.try_finally lt lu o b x y) e = omega arith
block_height (g.try_both lt lu lv o b x y z) e = omega arith
block_height (g.declare a lt o v x) e = omega arith
block_height (g.any_statement o) e = absurd (no_brace o refl e)

module _ (d n : ℕ) (inner : In) (all : CompleteInner d n inner) where
  by_start : (c : Context) (xs : Symbols) {z : Outcome Symbols (Sized (List RawStmt))} (x : Start) → start_of (look xs).kind ≡ x → s.stmt_by d n inner c x xs ≡ z → s.stmt_of d n inner c xs ≡ z
  unfolding r.stmt_of
  by_start c xs x e h = ap (λ y. s.stmt_by d n inner c y xs) e ∙ h

  -- ---- expression statements

  by_name : (v : List ℕ) (xs : Symbols) → (look xs).kind ≡ k.name v → refused_name v ≡ None → s.expr_of d n inner true 0 xs ≡ s.after_head d n inner true 0 (raw.var (g.at xs) v, 0) (rest xs)
  unfolding r.expr_of
  by_name v xs e f = ap (λ o. s.expr_by d n inner true 0 o xs) (ap prefix_of e)
      ∙ step (s.after_head d n inner true 0) (by_head d n inner true xs (r.is_variable v) (variable_head (look xs).kind v (ap variable_of e ∙ ap (λ c. allowed c v) f)) refl) refl

  simple_read : (c : Context) {h : ℕ} {xs ys zs : Symbols} {e : RawExpr} → reals xs < n → h ≤ d → opens_no_expression (look xs).kind ≡ false → E h true 0 xs e ys → Ends ys zs
      → Reads h (s.stmt_of d n inner c xs) (raw.simple (g.at xs) e ∷ []) zs
  unfolding r.plain r.begins_with_name
  simple_read c {h} {xs} {ys} {zs} {e} ln le b x z = by (look xs).kind refl (starts (look xs).kind (begins x) b) where
    p : Reads h (s.expr_of d n inner true 0 xs) e ys
    p = expr_read d n inner all true 0 h ln (omega arith) (λ no. absurd (omega arith)) le x (at_end true z)

    by : (y : Kind) → (look xs).kind ≡ y → Starts y → Reads h (s.stmt_of d n inner c xs) (raw.simple (g.at xs) e ∷ []) zs
    by y f (plainly q) = record { height = p.height; low = p.low; is = by_start c xs r.is_plain (ap start_of f ∙ q) (step _ p.is (step _ (ends_at z) refl)) }
    by y f (with_name {n = v} q) = record {
      height = p.height;
      low = p.low;
      is = by_start c xs (r.is_name v) (ap start_of f)
          (ap (λ w. s.name_by d n inner c (g.at xs) v (refused_name v) w (rest xs)) (no_label x f (end_colon z)) ∙ ap (λ w. s.name_by d n inner c (g.at xs) v w false (rest xs)) q
          ∙ step _ (sym (by_name v xs f q) ∙ p.is) (step _ (ends_at z) refl));
    }

  -- ---- jumps

  continue_read : (c : Context) {xs ys zs : Symbols} → c.continues ≡ true → Reserved word.Continue xs ys → Ends ys zs → s.stmt_of d n inner c xs ≡ Ok ((raw.continue (g.at xs) None ∷ [], 0), zs)
  unfolding r.continue
  continue_read c a (g.at_token t {ys} f) z = by_start c (real t ∷ ys) r.is_continue (ap start_of f) (chosen_at c.continues _ _ a
      (ap (λ w. s.jump_by d n inner (raw.continue t.place) true c.loops w ys) (end_label z) ∙ step _ (ends_at z) refl))

  continue_to_read : (c : Context) {v : List ℕ} {xs ys zs ws : Symbols} → c.continues ≡ true → Reserved word.Continue xs ys → (look ys).after_line ≡ false → At (k.name v) ys zs → is_among v c.loops ≡ true → Ends zs ws
      → s.stmt_of d n inner c xs ≡ Ok ((raw.continue (g.at xs) (Some v) ∷ [], 0), ws)
  unfolding r.continue
  continue_to_read c {v} a (g.at_token t {ys} f) e p i z = by_start c (real t ∷ ys) r.is_continue (ap start_of f) (chosen_at c.continues _ _ a
      (ap (λ w. s.jump_by d n inner (raw.continue t.place) true c.loops w ys) (named_label e p) ∙ chosen_at (is_among v c.loops) _ _ i (step _ (ap semicolon_symbol (rest_at p) ∙ ends_at z) refl)))

  break_read : (c : Context) {xs ys zs : Symbols} → c.breaks ≡ true → Reserved word.Break xs ys → Ends ys zs → s.stmt_of d n inner c xs ≡ Ok ((raw.break (g.at xs) None ∷ [], 0), zs)
  unfolding r.break
  break_read c a (g.at_token t {ys} f) z = by_start c (real t ∷ ys) r.is_break (ap start_of f) (chosen_at (c.breaks || is_some_label c.labels) _ _ (ap (λ b. b || is_some_label c.labels) a)
      (ap (λ w. s.jump_by d n inner (raw.break t.place) c.breaks c.labels w ys) (end_label z) ∙ chosen_at c.breaks _ _ a (step _ (ends_at z) refl)))

  break_to_read : (c : Context) {v : List ℕ} {xs ys zs ws : Symbols} → Reserved word.Break xs ys → (look ys).after_line ≡ false → At (k.name v) ys zs → is_among v c.labels ≡ true → Ends zs ws
      → s.stmt_of d n inner c xs ≡ Ok ((raw.break (g.at xs) (Some v) ∷ [], 0), ws)
  unfolding r.break
  break_to_read c {v} (g.at_token t {ys} f) e p i z = by_start c (real t ∷ ys) r.is_break (ap start_of f) (chosen_at (c.breaks || is_some_label c.labels) _ _ (ap (λ b. c.breaks || b) (some_label v c.labels i) ∙ or_true c.breaks)
      (ap (λ w. s.jump_by d n inner (raw.break t.place) c.breaks c.labels w ys) (named_label e p) ∙ chosen_at (is_among v c.labels) _ _ i (step _ (ap semicolon_symbol (rest_at p) ∙ ends_at z) refl)))

  return_read : (c : Context) {xs ys zs : Symbols} → c.returns ≡ true → Reserved word.Return xs ys → Ends ys zs → s.stmt_of d n inner c xs ≡ Ok ((raw.return (g.at xs) raw.no_expr ∷ [], 0), zs)
  unfolding r.return
  return_read c a (g.at_token t {ys} f) z = by_start c (real t ∷ ys) r.is_return (ap start_of f) (chosen_at c.returns _ _ a (chosen_at (ends_return (look ys)) _ _ (end_returns z) (step _ (ends_at z) refl)))

  return_value_read : (c : Context) {h : ℕ} {e : RawExpr} {xs ys zs ws : Symbols} → reals xs < n → h ≤ d → c.returns ≡ true → Reserved word.Return xs ys → (look ys).after_line ≡ false → E h true 0 ys e zs → Ends zs ws
      → Reads h (s.stmt_of d n inner c xs) (raw.return (g.at xs) (raw.one_expr e) ∷ []) ws
  unfolding r.return
  return_value_read c {h} ln le a (g.at_token t {ys} f) q x z = let p = expr_read d n inner all true 0 h (omega arith) (omega arith) (λ no. absurd (omega arith)) le x (at_end true z) in
      record {
        height = p.height;
        low = p.low;
        is = by_start c (real t ∷ ys) r.is_return (ap start_of f)
            (chosen_at c.returns _ _ a (skipped_at (ends_return (look ys)) _ _ (value_goes_on ys q (begins x)) (step _ p.is (step _ (ends_at z) refl))));
      }

  throw_read : (c : Context) {h : ℕ} {e : RawExpr} {xs ys zs ws : Symbols} → reals xs < n → h ≤ d → Reserved word.Throw xs ys → (look ys).after_line ≡ false → E h true 0 ys e zs → Ends zs ws
      → Reads h (s.stmt_of d n inner c xs) (raw.throw (g.at xs) e ∷ []) ws
  unfolding r.throw
  throw_read c {h} ln le (g.at_token t {ys} f) q x z = let p = expr_read d n inner all true 0 h (omega arith) (omega arith) (λ no. absurd (omega arith)) le x (at_end true z) in
      record { height = p.height; low = p.low; is = by_start c (real t ∷ ys) r.is_throw (ap start_of f) (skipped_at (look ys).after_line _ _ q (step _ p.is (step _ (ends_at z) refl))) }

  -- ---- a `try`

  abbrev try_head : Context → Symbols → Outcome Symbols (Sized (List RawStmt))
  try_head c xs = cond (nat_lt 1 d) (s.try d n inner c xs) (Err (record { cause = r.depth; place = (look xs).place }, xs))

  try_catch_read : (c : Context) {u h i : ℕ} {b : List RawStmt} {f : raw.RawCatch} {xs ys zs ws : Symbols} → reals xs < n → u ≤ d → h < u → i < u → Reserved word.Try xs ys → (look ys).kind ≡ k.mark mark.OpenBrace
      → T (inside c) h ys b zs → g.Catch (inside c) i zs f ws → is_word word.Finally (look ws).kind ≡ false → Reads u (try_head c xs) (raw.try (g.at xs) (stmts b) f raw.no_finally ∷ []) ws
  unfolding r.try r.after_catch
  try_catch_read c {h} {i} {zs} {ws} ln lu lh li (g.at_token t {ys} q) e x y m =
      let p = block_in_read d n inner all c h (omega arith) (omega arith) e x in
      let w = catch_read d n inner all c i (omega (arith, t_less x)) (omega arith) y in
      record {
        height = max p.height w.height + 1;
        low = omega (arith, p.low, w.low);
        is = opened 1 d _ _ (omega (arith, block_height x e))
            (step _ p.is (chosen_at (is_word word.Catch (look zs).kind) _ _ (catch_at y) (step _ w.is (skipped_at (is_word word.Finally (look ws).kind) _ _ m refl))));
      }

  try_both_read : (c : Context) {u h i j : ℕ} {b : List RawStmt} {f : raw.RawCatch} {v : raw.RawFinally} {xs ys zs ws vs : Symbols} → reals xs < n → u ≤ d → h < u → i < u → j < u → Reserved word.Try xs ys → (look ys).kind ≡ k.mark mark.OpenBrace
      → T (inside c) h ys b zs → g.Catch (inside c) i zs f ws → g.Finally (inside c) j ws v vs → Reads u (try_head c xs) (raw.try (g.at xs) (stmts b) f v ∷ []) vs
  unfolding r.try r.after_catch
  try_both_read c {h} {i} {j} {zs} {ws} ln lu lh li lj (g.at_token t {ys} q) e x y z =
      let p = block_in_read d n inner all c h (omega arith) (omega arith) e x in
      let w = catch_read d n inner all c i (omega (arith, t_less x)) (omega arith) y in
      let o = finally_read d n inner all c j (omega (arith, t_less x, catch_less y)) (omega arith) z in
      record {
        height = max p.height (max w.height o.height) + 1;
        low = omega (arith, p.low, w.low, o.low);
        is = opened 1 d _ _ (omega (arith, block_height x e))
            (step _ p.is (chosen_at (is_word word.Catch (look zs).kind) _ _ (catch_at y) (step _ w.is (chosen_at (is_word word.Finally (look ws).kind) _ _ (finally_at z) (step _ o.is refl)))));
      }

  try_finally_read : (c : Context) {u h i : ℕ} {b : List RawStmt} {v : raw.RawFinally} {xs ys zs ws : Symbols} → reals xs < n → u ≤ d → h < u → i < u → Reserved word.Try xs ys → (look ys).kind ≡ k.mark mark.OpenBrace
      → T (inside c) h ys b zs → g.Finally (inside c) i zs v ws → Reads u (try_head c xs) (raw.try (g.at xs) (stmts b) raw.no_catch v ∷ []) ws
  unfolding r.try
  try_finally_read c {h} {i} {zs} ln lu lh li (g.at_token t {ys} q) e x y =
      let p = block_in_read d n inner all c h (omega arith) (omega arith) e x in
      let w = finally_read d n inner all c i (omega (arith, t_less x)) (omega arith) y in
      record {
        height = max p.height w.height + 1;
        low = omega (arith, p.low, w.low);
        is = opened 1 d _ _ (omega (arith, block_height x e))
            (step _ p.is (skipped_at (is_word word.Catch (look zs).kind) _ _ (no_catch_at y) (chosen_at (is_word word.Finally (look zs).kind) _ _ (finally_at y) (step _ w.is refl))));
      }

  -- ---- statements

  flat : {h : ℕ} {b : List RawStmt} {o : Outcome Symbols (Sized (List RawStmt))} {ys : Symbols} → o ≡ Ok ((b, 0), ys) → Reads h o b ys
  flat q = record { height = 0; low = omega arith; is = q }

  started : (c : Context) (xs : Symbols) {h : ℕ} {b : List RawStmt} {ys : Symbols} (x : Start) → start_of (look xs).kind ≡ x → Reads h (s.stmt_by d n inner c x xs) b ys → Reads h (s.stmt_of d n inner c xs) b ys
  started c xs x e p = record { height = p.height; low = p.low; is = by_start c xs x e p.is }

  pub stmt_read : (c : Context) (h : ℕ) {xs ys : Symbols} {b : List RawStmt} → reals xs < n → h ≤ d → T c h xs b ys → Reads h (s.stmt_of d n inner c xs) b ys
  unfolding r.block r.vars r.choice r.otherwise r.do_while r.while r.for r.switch r.begins_with_name r.declaration
  stmt_read c u ln lu (g.block lt (g.at_token t {ys} f) x p) = let w = body_read d n inner all (inside c) (omega arith) (omega arith) x p in
      started c (real t ∷ ys) r.is_block (ap start_of f) (record { height = w.height + 1; low = omega (arith, w.low); is = opened 0 d _ _ (omega arith) (step _ w.is refl) })
  stmt_read c u ln lu (g.vars (g.at_token t {ys} f) x z) =
      let w = all_declarators_read d n inner all (s.expr_of d n inner) true u (λ _ _ _ l e q. expr_read d n inner all true 1 u l (omega arith) (λ no. absurd (omega arith)) lu e q) (omega arith) x (at_end true z) in
      started c (real t ∷ ys) r.is_vars (ap start_of f) (record { height = w.height; low = w.low; is = step _ w.is (step _ (ends_at z) refl) })
  stmt_read c u ln lu (g.empty (g.at_token t {ys} f)) = flat (by_start c (real t ∷ ys) r.is_empty (ap start_of f) refl)
  stmt_read c u ln lu (g.simple b x z) = simple_read c ln lu b x z
  stmt_read c u ln lu (g.if_else {h} {i} {j} lt lv lw (g.at_token t {ys} f) p x q y m z) =
      let e = head_read d n inner all (omega arith) (omega arith) p x q in
      let a = all.stmt (inside c) i (omega (arith, at_less p, e_less x, at_less q)) (omega arith) y in
      let b = all.stmt (inside c) j (omega (arith, at_less p, e_less x, at_less q, t_less y, at_less m)) (omega arith) z in
      started c (real t ∷ ys) r.is_if (ap start_of f) (record {
        height = max e.height (max a.height b.height) + 1;
        low = omega (arith, e.low, a.low, b.low);
        is =
            opened 0 d _ _ (omega arith) (step _ e.is (step _ a.is (chosen_at _ _ _ (word_at m) (step _ (ap (inner.stmt (inside c)) (rest_at m) ∙ b.is) refl))));
      })
  stmt_read c u ln lu (g.if_only {h} {i} {ws} lt lv (g.at_token t {ys} f) p x q y m) =
      let e = head_read d n inner all (omega arith) (omega arith) p x q in
      let a = all.stmt (inside c) i (omega (arith, at_less p, e_less x, at_less q)) (omega arith) y in
      started c (real t ∷ ys) r.is_if (ap start_of f) (record {
        height = max e.height a.height + 1;
        low = omega (arith, e.low, a.low);
        is =
            opened 0 d _ _ (omega arith) (step _ e.is (step _ a.is (skipped_at (is_word word.Else (look ws).kind) _ _ m refl)));
      })
  stmt_read c u ln lu (g.do_while {h} {i} lt lv (g.at_token t {ys} f) x p q y m z) =
      let b = all.stmt (in_loop c) h (omega arith) (omega arith) x in
      let e = head_read d n inner all (omega (arith, t_less x, at_less p)) (omega arith) q y m in
      started c (real t ∷ ys) r.is_do (ap start_of f) (record {
        height = max e.height b.height + 1;
        low = omega (arith, e.low, b.low);
        is =
            opened 0 d _ _ (omega arith) (step _ b.is (step _ (taken_word p) (step _ e.is (step _ (ends_at z) refl))));
      })
  stmt_read c u ln lu (g.while {h} {i} lt lv (g.at_token t {ys} f) p x q y) =
      let e = head_read d n inner all (omega arith) (omega arith) p x q in
      let b = all.stmt (in_loop c) i (omega (arith, at_less p, e_less x, at_less q)) (omega arith) y in
      started c (real t ∷ ys) r.is_while (ap start_of f) (record { height = max e.height b.height + 1; low = omega (arith, e.low, b.low); is = opened 0 d _ _ (omega arith) (step _ e.is (step _ b.is refl)) })
  stmt_read c u ln lu (g.for lt lv (g.at_token t {ys} f) p i q x m y o z) =
      let w = for_read d n inner all c t.place (omega (arith, at_less p)) lu lt lv i q x m y o z in
      started c (real t ∷ ys) r.is_for (ap start_of f) (record { height = w.height; low = w.low; is = opened 0 d _ _ (omega arith) (step _ (taken p) w.is) })
  stmt_read c u ln lu (g.for_in lt lv (g.at_token t {ys} f) p x i q y o z) =
      let w = for_in_target_read d n inner all c t.place (omega (arith, at_less p)) lu lt lv x i q y o z in
      started c (real t ∷ ys) r.is_for (ap start_of f) (record { height = w.height; low = w.low; is = opened 0 d _ _ (omega arith) (step _ (taken p) w.is) })
  stmt_read c u ln lu (g.for_in_var lt lv (g.at_token t {ys} f) p m x q y o z) =
      let w = for_in_var_read d n inner all c t.place (omega (arith, at_less p)) lu lt lv m x q y o z in
      started c (real t ∷ ys) r.is_for (ap start_of f) (record { height = w.height; low = w.low; is = opened 0 d _ _ (omega arith) (step _ (taken p) w.is) })
  stmt_read c u ln lu (g.continue a o z) = flat (continue_read c a o z)
  stmt_read c u ln lu (g.continue_to a o e p i z) = flat (continue_to_read c a o e p i z)
  stmt_read c u ln lu (g.break a o z) = flat (break_read c a o z)
  stmt_read c u ln lu (g.break_to o e p i z) = flat (break_to_read c o e p i z)
  stmt_read c u ln lu (g.return a o z) = flat (return_read c a o z)
  stmt_read c u ln lu (g.return_value a o e x z) = return_value_read c ln lu a o e x z
  stmt_read c u ln lu (g.switch lt lv (g.at_token t {ys} f) p x q o y) =
      let e = head_read d n inner all (omega arith) (omega arith) p x q in
      let w = all_cases_read d n inner all (in_switch c) (omega (arith, at_less p, e_less x, at_less q, at_less o)) (omega arith) y in
      started c (real t ∷ ys) r.is_switch (ap start_of f) (record { height = max e.height w.height + 1; low = omega (arith, e.low, w.low); is = opened 0 d _ _ (omega arith) (step _ e.is (step _ (taken o) (step _ w.is refl))) })
  stmt_read c u ln lu (g.label {h} {n = v} lt (g.at_token t {ys} f) p i x) =
      let w = all.stmt (labelled v c) h (omega (arith, at_less p)) (omega arith) x in
      started c (real t ∷ ys) (r.is_name v) (ap start_of f) (record {
        height = w.height + 1;
        low = omega (arith, w.low);
        is =
            ap (λ b. s.name_by d n inner c t.place v (refused_name v) b ys) (mark_at p) ∙ skipped_at (is_among v c.labels) _ _ i (opened 0 d _ _ (omega arith) (step _ (ap (inner.stmt (labelled v c)) (rest_at p) ∙ w.is) refl));
      })
  stmt_read c u ln lu (g.half_label {n = v} {x} {zs} (g.at_token t {ys} f) e q) = flat (by_start c (real t ∷ ys) (r.is_name v) (ap start_of f)
      (ap (λ b. s.name_by d n inner c t.place v (refused_name v) b ys) (table_at (is_mark mark.Colon) q) ∙ ap (λ w. s.name_by d n inner c t.place v w false ys) e
      ∙ chosen_at (is_remedy (look ys).kind) _ _ (table_at is_remedy q) (ap (λ us. Ok (([], 0), us)) (rest_at q))))
  stmt_read c u ln lu (g.throw o e x z) = throw_read c ln lu o e x z
  stmt_read c u ln lu (g.try_catch {xs} lt lv (g.at_token t {ys} f) b x y m) = started c (real t ∷ ys) r.is_try (ap start_of f) (try_catch_read c ln lu lt lv (g.at_token t f) b x y m)
  stmt_read c u ln lu (g.try_finally lt lv (g.at_token t {ys} f) b x y) = started c (real t ∷ ys) r.is_try (ap start_of f) (try_finally_read c ln lu lt lv (g.at_token t f) b x y)
  stmt_read c u ln lu (g.try_both lt lv lw (g.at_token t {ys} f) b x y z) = started c (real t ∷ ys) r.is_try (ap start_of f) (try_both_read c ln lu lt lv lw (g.at_token t f) b x y z)
  stmt_read c u ln lu (g.declare a lt (g.at_token t {ys} f) v x) =
      let w = function_read d n inner all (omega (arith, variable_less v)) (omega arith) x in
      started c (real t ∷ ys) r.is_declaration (ap start_of f) (record {
        height = w.height + 1;
        low = omega (arith, w.low);
        is =
            chosen_at c.declares _ _ a (opened 0 d _ _ (omega arith) (step _ (taken_variable v) (step _ w.is refl)));
      })
  stmt_read c u ln lu (g.any_statement (g.at_token t {ys} f)) = flat (by_start c (real t ∷ ys) r.is_any (ap start_of f) refl)
