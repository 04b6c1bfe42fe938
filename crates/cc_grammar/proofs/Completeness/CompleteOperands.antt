-- What is derived is read: primary expressions, and what goes on with them by dots, brackets and calls.
use Rattle.std.specs.Prelude.{◌≡◌, ℕ, zero, suc, ◌+◌, ◌<◌, ◌≤◌, max, Bool, true, false, nat_lt, List, [], Ok, Option, Some, None}
use Rattle.std.proofs.Common.{refl, sym, ap, arith, ◌∙◌, ltb-true}
use Rattle.cc_ast.specs.Syntax.{Prim, undefined}
use Rattle.cc_lexer.specs.declared.token.Mark.TheVariants as mark
use Rattle.cc_lexer.specs.declared.word.Word.TheVariants as word
use Rattle.cc_grammar.specs.Symbols.{Kind, Symbols, look, rest, is_mark}
use Rattle.cc_grammar.specs.Symbols as k
use Rattle.cc_grammar.specs.RawTree.{RawExpr, RawStmt, RawField, Named, exprs, fields, stmts}
use Rattle.cc_grammar.specs.RawTree as raw
use Rattle.cc_grammar.specs.Signs.{parenthesised, literal_of, property_of}
use Rattle.cc_grammar.specs.Grammar as g
use Rattle.cc_grammar.specs.Grammar.{At, Sign, Reserved, Variable, OwnName, E, Elements, Fields, Arguments, Function}
use Rattle.cc_grammar.specs.Reading.{Outcome, Sized, Head, Suffix, and_then, head_of, head_by, variable_of, suffix_of}
use Rattle.cc_grammar.specs.Reading as r
use Rattle.cc_grammar.proofs.Marked.{In}
use Rattle.cc_grammar.proofs.Meets.{Done, ok, err, after, any_done}
use Rattle.cc_grammar.proofs.Views.{mark_true}
use Rattle.cc_grammar.proofs.Mono.{bounded}
use Rattle.cc_grammar.proofs.Shrinks.{reals, at_less, e_less, own_less}
use Rattle.cc_grammar.proofs.Steps.{step, opened, chosen_at, skipped_at, same_cond, kind_at, rest_at, mark_at, table_at, taken, variable_at, variable_rest}
use Rattle.cc_grammar.proofs.Quiet.{at_next, close_paren, close_bracket}
use Rattle.cc_grammar.proofs.Completeness.CompleteLists.{Reads, CompleteInner, arguments_of_read, all_elements_read, all_fields_read, function_read, own_name_read}
use Rattle.cc_grammar.proofs.Stopping.{by_head, no_more_suffixes}
use Rattle.cc_grammar.proofs.OnSymbols as s

-- ---- the heads of tokens

literal_head : (x : Kind) (p : Prim) → literal_of x ≡ Some p → head_of x ≡ r.is_literal p
unfolding head_of
literal_head x p e = ap (λ o. head_by o (variable_of x) x) e

no_literal : (x : Kind) (v : List ℕ) → variable_of x ≡ Some v → literal_of x ≡ None
no_literal (k.name n) v e = refl
no_literal (k.due k.variable) v e = refl
no_literal _ v e = cc

pub variable_head : (x : Kind) (v : List ℕ) → variable_of x ≡ Some v → head_of x ≡ r.is_variable v
unfolding head_of
variable_head x v e = ap (λ o. head_by o (variable_of x) x) (no_literal x v e) ∙ ap (λ o. head_by None o x) e

-- ---- suffixes

dot_suffix : (calls : Bool) → suffix_of calls (k.mark mark.Dot) ≡ r.by_dot
dot_suffix true = refl
dot_suffix false = refl

bracket_suffix : (calls : Bool) → suffix_of calls (k.mark mark.OpenBracket) ≡ r.by_bracket
bracket_suffix true = refl
bracket_suffix false = refl

call_suffix : (calls : Bool) → (calls ≡ false → ⊥) → suffix_of calls (k.mark mark.OpenParen) ≡ r.by_call
call_suffix true h = refl
call_suffix false h = absurd (h refl)

pub fewer_suffixes : (x : Kind) → suffix_of true x ≡ r.no_suffix → suffix_of false x ≡ r.no_suffix
fewer_suffixes (k.mark mark.Dot) e = e
fewer_suffixes (k.mark mark.OpenBracket) e = e
fewer_suffixes _ e = refl

pub no_call : (x : Kind) → suffix_of true x ≡ r.no_suffix → is_mark mark.OpenParen x ≡ false
no_call x e = by (is_mark mark.OpenParen x) refl where
  by : (b : Bool) → is_mark mark.OpenParen x ≡ b → is_mark mark.OpenParen x ≡ false
  by false q = q
  by true q = let no : r.by_call ≡ r.no_suffix = ap (suffix_of true) (sym (mark_true mark.OpenParen x q)) ∙ e in (cc)

pub neither_suffix : (x : Kind) → suffix_of false x ≡ r.no_suffix → is_mark mark.OpenParen x ≡ false → suffix_of true x ≡ r.no_suffix
neither_suffix (k.mark mark.Dot) e f = e
neither_suffix (k.mark mark.OpenBracket) e f = e
neither_suffix (k.mark mark.OpenParen) e f = let no : true ≡ false = f in (cc)
neither_suffix _ e f = refl

-- two that go on alike behind what it reads
same_after_done : {A B : Type 0} {P : A → Symbols → Type 0} (o : Outcome Symbols A) (f h : A → Symbols → Outcome Symbols B) → Done P o → ((a : A) (i : Symbols) → P a i → f a i ≡ h a i)
    → and_then o f ≡ and_then o h
same_after_done o f h (ok {a} {i} p) e = e a i p
same_after_done o f h err e = refl

module _ (d n : ℕ) (inner : In) (all : CompleteInner d n inner) where
  this_read : (b : Bool) {xs ys : Symbols} → Reserved word.This xs ys → s.primary d n inner b xs ≡ Ok ((raw.this (g.at xs), 0), ys)
  unfolding head_of
  this_read b {xs} c = by_head d n inner b xs r.is_this (table_at head_of c) (ap (λ ys. Ok ((raw.this (g.at xs), 0), ys)) (rest_at c))

  operand_read : (b : Bool) {xs ys : Symbols} → At (k.due k.operand) xs ys → s.primary d n inner b xs ≡ Ok ((raw.lit (g.at xs) undefined, 0), ys)
  unfolding head_of
  operand_read b {xs} c = by_head d n inner b xs r.is_operand (table_at head_of c) (ap (λ ys. Ok ((raw.lit (g.at xs) undefined, 0), ys)) (rest_at c))

  literal_read : (b : Bool) {x : Kind} {p : Prim} {xs ys : Symbols} → At x xs ys → literal_of x ≡ Some p → s.primary d n inner b xs ≡ Ok ((raw.lit (g.at xs) p, 0), ys)
  literal_read b {x} {p} {xs} c e = by_head d n inner b xs (r.is_literal p) (table_at head_of c ∙ literal_head x p e) (ap (λ ys. Ok ((raw.lit (g.at xs) p, 0), ys)) (rest_at c))

  variable_read : (b : Bool) {v : List ℕ} {xs ys : Symbols} → Variable xs v ys → s.primary d n inner b xs ≡ Ok ((raw.var (g.at xs) v, 0), ys)
  variable_read b {v} {xs} c = by_head d n inner b xs (r.is_variable v) (variable_head (look xs).kind v (variable_at c)) (ap (λ ys. Ok ((raw.var (g.at xs) v, 0), ys)) (variable_rest c))

  paren_read : (b : Bool) {h e : ℕ} {xs ys zs ws : Symbols} {a : RawExpr} → reals xs < n → e ≤ d → h < e → Sign mark.OpenParen xs ys → E h true 0 ys a zs → Sign mark.CloseParen zs ws
      → Reads e (s.primary d n inner b xs) (parenthesised (look xs) a) ws
  unfolding head_of r.parentheses
  paren_read b {h} {xs} ln le lt o x c =
      let p = all.expr true 0 h (omega (arith, at_less o)) (omega arith) (omega arith) (omega arith) x (at_next c (close_paren true)) in
      record {
        height = p.height + 1;
        low = omega (arith, p.low);
        is =
            by_head d n inner b xs r.is_paren (table_at head_of o) (opened 0 d _ _ (omega arith) (step _ (ap (inner.expr true 0) (rest_at o) ∙ p.is) (step _ (taken c) refl)));
      }

  array_read : (b : Bool) {h e : ℕ} {xs ys zs : Symbols} {es : List RawExpr} → reals xs < n → e ≤ d → h < e → Sign mark.OpenBracket xs ys → Elements h ys es zs
      → Reads e (s.primary d n inner b xs) (raw.list (g.at xs) (exprs es)) zs
  unfolding head_of r.array
  array_read b {xs} ln le lt o x =
      let p = all_elements_read d n inner all (omega (arith, at_less o)) (omega arith) x in
      record {
        height = p.height + 1;
        low = omega (arith, p.low);
        is =
            by_head d n inner b xs r.is_array (table_at head_of o) (opened 0 d _ _ (omega arith) (step _ (ap (s.elements d n inner n [] 0) (rest_at o) ∙ p.is) refl));
      }

  object_read : (b : Bool) {h e : ℕ} {xs ys zs : Symbols} {fs : List RawField} → reals xs < n → e ≤ d → h < e → Sign mark.OpenBrace xs ys → Fields h ys fs zs
      → Reads e (s.primary d n inner b xs) (raw.object (g.at xs) (fields fs)) zs
  unfolding head_of r.object
  object_read b {xs} ln le lt o x =
      let p = all_fields_read d n inner all (omega (arith, at_less o)) (omega arith) x in
      record {
        height = p.height + 1;
        low = omega (arith, p.low);
        is =
            by_head d n inner b xs r.is_object (table_at head_of o) (opened 0 d _ _ (omega arith) (step _ (ap (s.object_fields d n inner n [] 0) (rest_at o) ∙ p.is) refl));
      }

  function_expr_read : (b : Bool) {h e : ℕ} {xs ys zs ws : Symbols} {o : Option Named} {ps : List Named} {body : List RawStmt} → reals xs < n → e ≤ d → h < e → Reserved word.Function xs ys → OwnName ys o zs
      → Function h zs ps body ws → Reads e (s.primary d n inner b xs) (raw.fun (g.at xs) o ps (stmts body)) ws
  unfolding head_of r.function_expr
  function_expr_read b {xs} ln le lt f w (g.function_body p q u x c) =
      let y = function_read d n inner all (omega (arith, at_less f, own_less w)) (omega arith) (g.function_body p q u x c) in
      record {
        height = y.height + 1;
        low = omega (arith, y.low);
        is =
            by_head d n inner b xs r.is_function (table_at head_of f) (opened 0 d _ _ (omega arith) (step _ (ap s.own_name (rest_at f) ∙ own_name_read w p) (step _ y.is refl)));
      }

  new_call_read : (b : Bool) {h i e : ℕ} {xs ys zs ws vs : Symbols} {f : RawExpr} {args : List RawExpr} → reals xs < n → e ≤ d → h < e → i < e → Reserved word.New xs ys → E h b 18 ys f zs → Sign mark.OpenParen zs ws
      → Arguments i ws args vs → Reads e (s.primary d n inner b xs) (raw.new (g.at xs) f (exprs args)) vs
  unfolding head_of r.new_expr
  new_call_read b {h} {xs} ln le lt lu o x p y =
      let c = all.callee b 18 h (omega (arith, at_less o)) (omega arith) (omega arith) x (table_at (suffix_of false) p) (λ e. absurd (omega arith)) in
      let q = arguments_of_read d n inner all (omega (arith, at_less o, e_less x, at_less p)) (omega arith) y in
      record {
        height = max c.height q.height + 1;
        low = omega (arith, c.low, q.low);
        is =
            by_head d n inner b xs r.is_new (table_at head_of o) (opened 0 d _ _ (omega arith) (step _ (ap (inner.expr b 17) (rest_at o) ∙ c.is)
            (chosen_at _ _ _ (mark_at p) (step _ (ap (s.arguments_of d n inner) (rest_at p) ∙ q.is) refl))));
      }

  new_read : (b : Bool) {h e : ℕ} {xs ys zs : Symbols} {f : RawExpr} → reals xs < n → e ≤ d → h < e → Reserved word.New xs ys → E h b 17 ys f zs → suffix_of true (look zs).kind ≡ r.no_suffix
      → Reads e (s.primary d n inner b xs) (raw.new (g.at xs) f raw.no_exprs) zs
  unfolding head_of r.new_expr
  new_read b {h} {xs} {zs} ln le lt o x q =
      let c = all.callee b 17 h (omega (arith, at_less o)) (omega arith) (omega arith) x (fewer_suffixes (look zs).kind q) (λ _. no_call (look zs).kind q) in
      record {
        height = c.height + 1;
        low = omega (arith, c.low);
        is =
            by_head d n inner b xs r.is_new (table_at head_of o) (opened 0 d _ _ (omega arith) (step _ (ap (inner.expr b 17) (rest_at o) ∙ c.is)
            (skipped_at (is_mark mark.OpenParen (look zs).kind) _ _ (no_call (look zs).kind q) refl)));
      }

  -- ---- the loop over suffixes has enough turns

  dotted_raises : (a : Sized RawExpr) (ys : Symbols) → Done (λ (b : Sized RawExpr) _. a.1 < b.1) (s.dotted d n inner a ys)
  unfolding r.dotted
  dotted_raises a ys = by (property_of (look (rest ys)).kind) where
    by : (v : Option (List ℕ)) → Done (λ (b : Sized RawExpr) _. a.1 < b.1) (and_then (s.property_by d n inner v (rest ys)) (λ p i. Ok ((raw.member (look ys).place a.0 p.0 p.1, a.1 + 1), i)))
    by None = err
    by (Some v) = ok (omega arith)

  bracketed_raises : (a : Sized RawExpr) (ys : Symbols) → Done (λ (b : Sized RawExpr) _. a.1 < b.1) (s.bracketed d n inner a ys)
  unfolding r.bracketed
  bracketed_raises a ys = after (any_done (inner.expr true 0 (rest ys))) (λ x i _. after (any_done (s.expect mark.CloseBracket i)) (λ _ j _. ok (omega arith)))

  called_raises : (a : Sized RawExpr) (ys : Symbols) → Done (λ (b : Sized RawExpr) _. a.1 < b.1) (s.called d n inner a ys)
  unfolding r.called
  called_raises a ys = after (any_done (s.arguments_of d n inner (rest ys))) (λ x i _. ok (omega arith))

  more_turns : (a : Sized RawExpr) (ys : Symbols) (p q : Sized RawExpr → s.Reader (Sized RawExpr)) (x : Suffix) → ((b : Sized RawExpr) (zs : Symbols) → a.1 < d → a.1 < b.1 → p b zs ≡ q b zs)
      → s.suffix_by d n inner p a x ys ≡ s.suffix_by d n inner q a x ys
  more_turns a ys p q r.no_suffix h = refl
  more_turns a ys p q r.by_dot h = same_cond (nat_lt a.1 d) _ _ _ (λ lt. same_after_done (s.dotted d n inner a ys) p q (dotted_raises a ys) (λ b zs up. h b zs (ltb-true _ _ lt) up))
  more_turns a ys p q r.by_bracket h = same_cond (nat_lt a.1 d) _ _ _ (λ lt. same_after_done (s.bracketed d n inner a ys) p q (bracketed_raises a ys) (λ b zs up. h b zs (ltb-true _ _ lt) up))
  more_turns a ys p q r.by_call h = same_cond (nat_lt a.1 d) _ _ _ (λ lt. same_after_done (s.called d n inner a ys) p q (called_raises a ys) (λ b zs up. h b zs (ltb-true _ _ lt) up))

  more_suffixes : (calls : Bool) (m : ℕ) (a : Sized RawExpr) (ys : Symbols) → d < m + a.1 → s.suffixes d n inner calls m a ys ≡ s.suffixes d n inner calls (suc m) a ys
  unfolding r.suffixes
  more_suffixes calls zero a ys lt = more_turns a ys (λ _. r.stops Symbols look rest r.semicolon_symbol r.depth) (s.suffixes d n inner calls 0) (suffix_of calls (look ys).kind) (λ b zs lu _. absurd (omega arith))
  more_suffixes calls (suc m) a ys lt = more_turns a ys (s.suffixes d n inner calls m) (s.suffixes d n inner calls (suc m)) (suffix_of calls (look ys).kind) (λ b zs _ lu. more_suffixes calls m b zs (omega arith))

  -- ---- one suffix

  dot_step : (calls : Bool) (e : RawExpr) (j : ℕ) {x : Kind} {v : List ℕ} {ys zs ws : Symbols} → j < d → Sign mark.Dot ys zs → At x zs ws → property_of x ≡ Some v
      → s.suffixes d n inner calls (suc d) (e, j) ys ≡ s.suffixes d n inner calls (suc d) (raw.member (g.at ys) e (g.at zs) v, j + 1) ws
  unfolding r.suffixes r.dotted
  dot_step calls e j {x} {v} {ys} {zs} {ws} lt (g.at_token t f) p q =
      ap (λ w. s.suffix_by d n inner (s.suffixes d n inner calls d) (e, j) w ys) (ap (suffix_of calls) f ∙ dot_suffix calls)
      ∙ opened j d _ _ lt (step _ (ap (λ w. and_then (s.property_by d n inner w zs) (λ p i. Ok ((raw.member t.place e p.0 p.1, j + 1), i))) (table_at property_of p ∙ q) ∙ ap (λ us. Ok ((raw.member t.place e (g.at zs) v, j + 1), us)) (rest_at p))
      (more_suffixes calls d (raw.member t.place e (g.at zs) v, j + 1) ws (omega arith)))

  bracket_step : (calls : Bool) (e : RawExpr) (j : ℕ) {i : ℕ} {f : RawExpr} {ys zs ws vs : Symbols} → reals zs < n → j < d → i < d → Sign mark.OpenBracket ys zs → E i true 0 zs f ws → Sign mark.CloseBracket ws vs
      → (u : ℕ) × (u ≤ i) × (s.suffixes d n inner calls (suc d) (e, j) ys ≡ s.suffixes d n inner calls (suc d) (raw.index (g.at ys) e f, max j u + 1) vs)
  unfolding r.suffixes r.bracketed
  bracket_step calls e j {i} {f} {ys} {zs} {ws} {vs} ln lt lu o y c =
      let p = all.expr true 0 i ln (omega arith) (omega arith) lu y (at_next c (close_bracket true)) in (
        p.height,
        p.low,
        ap (λ w. s.suffix_by d n inner (s.suffixes d n inner calls d) (e, j) w ys) (ap (suffix_of calls) (kind_at o) ∙ bracket_suffix calls)
            ∙ opened j d _ _ lt (step _ (step _ (ap (inner.expr true 0) (rest_at o) ∙ p.is) (step _ (taken c) refl)) (more_suffixes calls d (raw.index (g.at ys) e f, max j p.height + 1) vs (omega arith))),
      )

  call_step : (calls : Bool) → (calls ≡ false → ⊥) → (e : RawExpr) (j : ℕ) {i : ℕ} {args : List RawExpr} {ys zs ws : Symbols} → reals zs < n → j < d → i < d → Sign mark.OpenParen ys zs → Arguments i zs args ws
      → (u : ℕ) × (u ≤ i) × (s.suffixes d n inner calls (suc d) (e, j) ys ≡ s.suffixes d n inner calls (suc d) (raw.call (g.at ys) e (exprs args), max j u + 1) ws)
  unfolding r.suffixes r.called
  call_step calls h e j {i} {args} {ys} {zs} {ws} ln lt lu o y =
      let p = arguments_of_read d n inner all ln lu y in (
        p.height,
        p.low,
        ap (λ w. s.suffix_by d n inner (s.suffixes d n inner calls d) (e, j) w ys) (ap (suffix_of calls) (kind_at o) ∙ call_suffix calls h)
            ∙ opened j d _ _ lt (step _ (step _ (ap (s.arguments_of d n inner) (rest_at o) ∙ p.is) refl) (more_suffixes calls d (raw.call (g.at ys) e (exprs args), max j p.height + 1) ws (omega arith))),
      )

  -- ---- the loop over suffixes takes over with e

  pub record ChainFrom (calls b : Bool) (h : ℕ) (xs : Symbols) (e : RawExpr) (ys : Symbols) : Type 0 where
    pub height : ℕ
    pub low : height ≤ h
    pub is : and_then (s.primary d n inner b xs) (s.suffixes d n inner calls (suc d)) ≡ s.suffixes d n inner calls (suc d) (e, height) ys

  from_primary : {calls b : Bool} {h : ℕ} {xs ys : Symbols} {e : RawExpr} → Reads h (s.primary d n inner b xs) e ys → ChainFrom calls b h xs e ys
  from_primary p = record { height = p.height; low = p.low; is = step _ p.is refl }

  flat : {h : ℕ} {e : RawExpr} {o : Outcome Symbols (Sized RawExpr)} {ys : Symbols} → o ≡ Ok ((e, 0), ys) → Reads h o e ys
  flat q = record { height = 0; low = omega arith; is = q }

  pub at_chain : {h m : ℕ} {xs ys : Symbols} {e : RawExpr} (calls b : Bool) → reals xs < n → 15 ≤ m → (calls ≡ false → 17 ≤ m) → (¬ (m ≡ 16) → m ≤ 17 → suffix_of true (look ys).kind ≡ r.no_suffix)
      → h ≤ d → E h b m xs e ys → ChainFrom calls b h xs e ys
  at_chain calls b ln lm f q le (g.this c) = from_primary (flat (this_read b c))
  at_chain calls b ln lm f q le (g.name v) = from_primary (flat (variable_read b v))
  at_chain calls b ln lm f q le (g.literal c e) = from_primary (flat (literal_read b c e))
  at_chain calls b ln lm f q le (g.operand c) = from_primary (flat (operand_read b c))
  at_chain calls b ln lm f q le (g.paren lt o x c) = from_primary (paren_read b ln le lt o x c)
  at_chain calls b ln lm f q le (g.array lt o x) = from_primary (array_read b ln le lt o x)
  at_chain calls b ln lm f q le (g.object lt o x) = from_primary (object_read b ln le lt o x)
  at_chain calls b ln lm f q le (g.function lt o w x) = from_primary (function_expr_read b ln le lt o w x)
  at_chain calls b ln lm f q le (g.dotted {e} g.chain v lt x o p u) =
      let w = at_chain calls b ln (omega arith) (λ z. omega (arith, f z)) (λ ne _. absurd (ne refl)) (omega arith) x in
      record { height = w.height + 1; low = omega (arith, w.low); is = w.is ∙ dot_step calls e w.height (omega (arith, w.low)) o p u }
  at_chain calls b ln lm f q le (g.dotted {e} g.member_chain v lt x o p u) =
      let w = at_chain calls b ln (omega arith) (λ z. omega arith) (λ _ no. absurd (omega arith)) (omega arith) x in
      record { height = w.height + 1; low = omega (arith, w.low); is = w.is ∙ dot_step calls e w.height (omega (arith, w.low)) o p u }
  at_chain calls b ln lm f q le (g.bracketed {e} g.chain v lt lu x o y p) =
      let w = at_chain calls b ln (omega arith) (λ z. omega (arith, f z)) (λ ne _. absurd (ne refl)) (omega arith) x in
      let c = bracket_step calls e w.height (omega (arith, e_less x, at_less o)) (omega (arith, w.low)) (omega arith) o y p in
      record { height = max w.height c.0 + 1; low = omega (arith, w.low, c.1); is = w.is ∙ c.2 }
  at_chain calls b ln lm f q le (g.bracketed {e} g.member_chain v lt lu x o y p) =
      let w = at_chain calls b ln (omega arith) (λ z. omega arith) (λ _ no. absurd (omega arith)) (omega arith) x in
      let c = bracket_step calls e w.height (omega (arith, e_less x, at_less o)) (omega (arith, w.low)) (omega arith) o y p in
      record { height = max w.height c.0 + 1; low = omega (arith, w.low, c.1); is = w.is ∙ c.2 }
  at_chain calls b ln lm f q le (g.call {e} v lt lu x o y) =
      let w = at_chain calls b ln (omega arith) (λ z. omega (arith, f z)) (λ ne _. absurd (ne refl)) (omega arith) x in
      let c = call_step calls (λ z. omega (arith, f z)) e w.height (omega (arith, e_less x, at_less o)) (omega (arith, w.low)) (omega arith) o y in
      record { height = max w.height c.0 + 1; low = omega (arith, w.low, c.1); is = w.is ∙ c.2 }
  at_chain calls b ln lm f q le (g.new_call v lt lu o x p y) = from_primary (new_call_read b ln le lt lu o x p y)
  at_chain calls b ln lm f q le (g.new v i lt o x) = from_primary (new_read b ln le lt o x (q i v))
  at_chain calls b ln lm f q le (g.postfix v lt x t u o p) = absurd (omega arith)
  at_chain calls b ln lm f q le (g.prefix v lt o p x t) = absurd (omega arith)
  at_chain calls b ln lm f q le (g.wrong_prefix v lt o p x t c) = absurd (omega arith)
  at_chain calls b ln lm f q le (g.binary {o} v lt lu x c p y) = absurd (omega (arith, bounded o))
  at_chain calls b ln lm f q le (g.conditional v lt lu lv x o y p z) = absurd (omega arith)
  at_chain calls b ln lm f q le (g.assign v lt lu x t o p y) = absurd (omega arith)
  at_chain calls b ln lm f q le (g.comma lt lu x o y) = absurd (omega arith)

  -- the callee of a `new`
  pub callee_read : (b : Bool) (l h : ℕ) {xs ys : Symbols} {e : RawExpr} → reals xs < n → 17 ≤ l → h ≤ d → E h b l xs e ys → suffix_of false (look ys).kind ≡ r.no_suffix
      → (l ≡ 17 → is_mark mark.OpenParen (look ys).kind ≡ false) → Reads h (s.expr_of d n inner b 17 xs) e ys
  unfolding r.expr_of
  callee_read b l h {xs} {ys} {e} ln ll le x f q =
      let w = at_chain false b ln (omega arith) (λ _. ll) (λ _ no. neither_suffix (look ys).kind f (q (omega arith))) le x in
      record { height = w.height; low = w.low; is = w.is ∙ no_more_suffixes d n inner false (suc d) (e, w.height) ys f }
