-- The readers of symbols and of tokens go alike: variables, lists of expressions and statements, and functions.
use Rattle.std.specs.Prelude.{◌≡◌, ℕ, zero, suc, ◌<◌, max, ◌&&◌, Bool, true, false, cond, List, [], ◌∷◌, ◌++◌, Ok, Err, Option, Some, None, is_some}
use Rattle.std.proofs.Common.{refl, sym, arith, subst}
use Rattle.cc_ast.specs.declared.place.Place.{Place}
use Rattle.cc_ast.specs.declared.reading.Construct.TheVariants as construct
use Rattle.cc_lexer.specs.declared.token.Mark.{Mark}
use Rattle.cc_lexer.specs.declared.token.Mark.TheVariants as mark
use Rattle.cc_grammar.specs.Symbols.{Kind, Lexeme, Symbols, real, look, rest, is_mark}
use Rattle.cc_grammar.specs.Symbols as k
use Rattle.cc_grammar.specs.RawTree.{RawExpr, RawStmt, RawKey, RawField, Named}
use Rattle.cc_grammar.specs.Signs.{key_of, is_accessor}
use Rattle.cc_grammar.specs.Grammar.{Context, of_function}
use Rattle.cc_grammar.specs.Reading.{Outcome, Sized, look_token, rest_tokens, variable_of, is_element, ends_list, and_then}
use Rattle.cc_grammar.specs.Reading as r
use Rattle.cc_grammar.proofs.Marked.{In}
use Rattle.cc_grammar.proofs.Copying.Copies.{L, Copies, Quiet, Shows, Bars, Head, goes, goes_in, halts, Starts, starts, halts_end, started}
use Rattle.cc_grammar.proofs.Copying.CopySteps.{quiet, shows, bars_after, copies_after, copies_then, goes_after, starts_after, copies_pure, Chosen, by_token, by_taking, by_none, absent, decide, decide_first, fork, fork_shows, split, at_end, head_of_start, fails_bar, stops_here, refuses_here, expects, expect_bar}
use Rattle.cc_grammar.proofs.OnSymbols as s
use Rattle.cc_grammar.proofs.OnTokens as t

-- behind a part of a list: a comma and more, or what closes the list
pub comma_or : {A : Type 0} (late : Bool) (m : Mark) (p : Symbols → Outcome Symbols A) (P : L → Outcome L A) (a : A) (us : L) → ((vs : L) → Starts late Quiet p vs (P vs))
    → Copies late Quiet (λ xs. cond {A = Symbols → Outcome Symbols A} (is_mark mark.Comma (look xs).kind) (λ i. p (rest i)) (λ i. and_then (s.expect m i) (λ _ j. Ok (a, j))) xs) us
    (cond {A = L → Outcome L A} (is_mark mark.Comma (look_token us).kind) (λ i. P (rest_tokens i)) (λ i. and_then (t.expect m i) (λ _ j. Ok (a, j))) us)
comma_or late m p P a us again = fork (λ t. is_mark mark.Comma t.kind) _ _ _ _ us quiet
    (λ e. by_taking absent (λ t vs _. goes (started (again vs))))
    (λ _. by_token (starts_after _ _ quiet (expects late m us) (λ _ vs. copies_pure late a vs)) (bars_after (s.expect m) _ (expect_bar m)))

-- ---- variables

variable_head : (late : Bool) (v : Option (List ℕ)) (w : Lexeme) (us : L) → Head true late Quiet (λ xs. s.variable_by v (real w ∷ xs)) w us (t.variable_by v (w ∷ us))
variable_head late None w us = halts refl tt
variable_head late (Some n) w us = goes (copies_pure late _ us)

pub variable_copy : (late : Bool) (ts : L) → Starts late Quiet s.variable ts (t.variable ts)
unfolding r.variable
variable_copy late ts = decide_first (λ t. variable_of t.kind) s.variable_by t.variable_by ts (fails_bar r.a_variable) (halts_end refl) (λ w us. variable_head late (variable_of w.kind) w us)

pub variable_bar : Bars s.variable
unfolding r.variable
variable_bar = fails_bar r.a_variable

pub params_copy : (late : Bool) (m : ℕ) (before : List Named) (ts : L) → Starts late Quiet (s.params m before) ts (t.params m before ts)
unfolding r.params
params_copy late zero before ts = stops_here late r.spent refl ts
params_copy late (suc m) before ts = starts_after _ _ quiet (variable_copy late ts) (λ v us. comma_or late mark.CloseParen _ _ _ us (params_copy late m (before ++ v ∷ [])))

params_bar : (m : ℕ) (before : List Named) → Bars (s.params (suc m) before)
unfolding r.params
params_bar m before = bars_after s.variable _ variable_bar

pub params_of_copy : (late : Bool) (turns : ℕ) (ts : L) → 0 < turns → Starts late Quiet (s.params_of turns) ts (t.params_of turns ts)
unfolding r.params_of
params_of_copy late zero ts lt = absurd (omega arith)
params_of_copy late (suc m) [] lt = at_end _ (params_copy late (suc m) [] []) refl
params_of_copy late (suc m) (t ∷ us) lt = starts (split (is_mark mark.CloseParen t.kind) _ _ _ _ (λ e. goes (copies_pure late [] us)) (λ _. head_of_start (params_copy late (suc m) [] (t ∷ us)))) (params_bar m [])

-- what stands inside goes alike
pub record CopyInner (inner : In) (outer : t.In) : Type 0 where
  pub expr : (n : Bool) (l : ℕ) (ts : L) → Starts true Quiet (inner.expr n l) ts (outer.expr n l ts)
  pub stmt : (c : Context) (ts : L) → Starts false Quiet (inner.stmt c) ts (outer.stmt c ts)

-- and reads no insertion first
pub record BarsInner (inner : In) : Type 0 where
  pub expr : (n : Bool) (l : ℕ) → Bars (inner.expr n l)
  pub stmt : (c : Context) → Bars (inner.stmt c)

module _ (d turns : ℕ) (inner : In) (outer : t.In) (alike : CopyInner inner outer) (bars : BarsInner inner) (some : 0 < turns) where
  elements_bar : (m : ℕ) (before : List RawExpr) (h : ℕ) → Bars (s.elements d turns inner (suc m) before h)
  unfolding r.elements
  elements_bar m before h = bars_after (inner.expr true 1) _ (bars.expr true 1)

  pub elements_copy : (m : ℕ) (before : List RawExpr) (h : ℕ) (ts : L) → Starts true Quiet (s.elements d turns inner m before h) ts (t.elements d turns outer m before h ts)
  unfolding r.elements
  elements_copy zero before h ts = stops_here true r.spent refl ts
  elements_copy (suc m) before h [] = at_end _ (starts_after _ _ quiet (alike.expr true 1 []) (λ x us. comma_or true mark.CloseBracket _ _ _ us (elements_copy m (before ++ x.0 ∷ []) (max h x.1)))) refl
  elements_copy (suc m) before h (t ∷ us) = starts (split (is_mark mark.CloseBracket t.kind) _ _ _ _
      (λ e. goes (copies_pure true (before, h) us))
      (λ _. split (is_element t.kind) _ _ _ _
      (λ e. goes (copies_after _ _ quiet (started (expects true mark.CloseBracket us)) (λ _ vs. copies_pure true (before, h) vs)))
      (λ _. split (is_mark mark.Comma t.kind) _ _ _ _ (λ _. halts refl tt)
      (λ _. goes_after _ _ quiet (head_of_start (alike.expr true 1 (t ∷ us))) (λ x us. comma_or true mark.CloseBracket _ _ _ us (elements_copy m (before ++ x.0 ∷ []) (max h x.1))))))) (elements_bar m before h)

  no_accessor : (b : Bool) → (b && false) ≡ false
  no_accessor true = refl
  no_accessor false = refl

  -- a key, and the colon behind it
  module _ {A : Type 0} (f : Place × RawKey → s.Reader A) (g : Place × RawKey → t.Reader A) (same : (y : Place × RawKey) (us : L) → Copies true Quiet (f y) us (g y us)) where
    abbrev Coloned : Place × RawKey → s.Reader A
    Coloned y xs = and_then (s.expect mark.Colon xs) (λ _ i. f y i)

    abbrev ColonedTokens : Place × RawKey → t.Reader A
    ColonedTokens y us = and_then (t.expect mark.Colon us) (λ _ i. g y i)

    keyed : (b : Bool) (p : Place) (y : RawKey) → s.Reader A
    keyed b p y xs = and_then (cond b (r.refuse Symbols look rest r.semicolon_symbol construct.Accessor p) (r.pure Symbols look rest r.semicolon_symbol (p, y)) xs) Coloned

    keyed_tokens : (b : Bool) (p : Place) (y : RawKey) → t.Reader A
    keyed_tokens b p y us = and_then (cond b (r.refuse L look_token rest_tokens r.semicolon_token construct.Accessor p) (r.pure L look_token rest_tokens r.semicolon_token (p, y)) us) ColonedTokens

    coloned_bar : (p : Place) (y : RawKey) → Bars (keyed false p y)
    unfolding keyed
    coloned_bar p y = bars_after (s.expect mark.Colon) _ (expect_bar mark.Colon)

    keyed_copy : (p : Place) (y : RawKey) (c : Bool) (us : L) → Copies true Quiet (λ xs. keyed (c && is_some (key_of (look xs).kind)) p y xs) us (keyed_tokens (c && is_some (key_of (look_token us).kind)) p y us)
    unfolding keyed keyed_tokens
    keyed_copy p y c us = decide (λ u. c && is_some (key_of u.kind)) (λ v. keyed v p y) (λ v. keyed_tokens v p y) us quiet by where
      by : (v : Bool) → (c && is_some (key_of (look_token us).kind)) ≡ v → Chosen true Quiet (λ u. c && is_some (key_of u.kind)) v (keyed v p y) (keyed (c && false) p y) (keyed_tokens v p y) us
      by true e = by_token (refuses_here true _ refl us) (subst (λ v. Bars (keyed v p y)) (sym (no_accessor c)) (coloned_bar p y))
      by false e = by_none (no_accessor c) (started (starts_after _ _ quiet (expects true mark.Colon us) (λ _ vs. same (p, y) vs)))

    key_head : (o : Option RawKey) (w : Lexeme) (us : L) → Head true true Quiet (λ xs. and_then (s.key_by d turns inner o (real w ∷ xs)) Coloned) w us (and_then (t.key_by d turns outer o (w ∷ us)) ColonedTokens)
    unfolding keyed keyed_tokens
    key_head None w us = halts refl tt
    key_head (Some y) w us = goes (keyed_copy w.place y (is_accessor w.kind) us)

  field_bar : Bars (s.field d turns inner)
  unfolding r.field
  field_bar xs = record { fault = r.fault r.a_token k.semicolon; no_limit = refl; is = refl }

  pub field_copy : (ts : L) → Starts true Quiet (s.field d turns inner) ts (t.field d turns outer ts)
  unfolding r.field
  field_copy [] = halts_end refl
  field_copy (w ∷ us) = starts (key_head _ _ (λ y vs. copies_after _ _ quiet (started (alike.expr true 1 vs)) (λ x ws. copies_pure true _ ws)) (key_of w.kind) w us) field_bar

  object_fields_bar : (m : ℕ) (before : List RawField) (h : ℕ) → Bars (s.object_fields d turns inner (suc m) before h)
  unfolding r.object_fields
  object_fields_bar m before h = bars_after (s.field d turns inner) _ field_bar

  pub object_fields_copy : (m : ℕ) (before : List RawField) (h : ℕ) (ts : L) → Starts true Quiet (s.object_fields d turns inner m before h) ts (t.object_fields d turns outer m before h ts)
  unfolding r.object_fields
  object_fields_copy zero before h ts = stops_here true r.spent refl ts
  object_fields_copy (suc m) before h [] = at_end _ (starts_after _ _ quiet (field_copy []) (λ x us. comma_or true mark.CloseBrace _ _ _ us (object_fields_copy m (before ++ x.0 ∷ []) (max h x.1)))) refl
  object_fields_copy (suc m) before h (t ∷ us) = starts (split (is_mark mark.CloseBrace t.kind) _ _ _ _
      (λ e. goes (copies_pure true (before, h) us))
      (λ _. goes_after _ _ quiet (head_of_start (field_copy (t ∷ us))) (λ x us. comma_or true mark.CloseBrace _ _ _ us (object_fields_copy m (before ++ x.0 ∷ []) (max h x.1))))) (object_fields_bar m before h)

  pub arguments_copy : (m : ℕ) (before : List RawExpr) (h : ℕ) (ts : L) → Starts true Quiet (s.arguments d turns inner m before h) ts (t.arguments d turns outer m before h ts)
  unfolding r.arguments
  arguments_copy zero before h ts = stops_here true r.spent refl ts
  arguments_copy (suc m) before h ts = starts_after _ _ quiet (alike.expr true 1 ts) (λ x us. comma_or true mark.CloseParen _ _ _ us (arguments_copy m (before ++ x.0 ∷ []) (max h x.1)))

  arguments_bar : (m : ℕ) → 0 < m → Bars (s.arguments_of d m inner)
  unfolding r.arguments_of r.arguments
  arguments_bar zero lt = absurd (omega arith)
  arguments_bar (suc m) lt = bars_after (inner.expr true 1) _ (bars.expr true 1)

  pub arguments_of_copy : (ts : L) → Starts true Quiet (s.arguments_of d turns inner) ts (t.arguments_of d turns outer ts)
  unfolding r.arguments_of
  arguments_of_copy [] = at_end _ (arguments_copy turns [] 0 []) refl
  arguments_of_copy (t ∷ us) = starts (split (is_mark mark.CloseParen t.kind) _ _ _ _ (λ e. goes (copies_pure true ([], 0) us)) (λ _. head_of_start (arguments_copy turns [] 0 (t ∷ us)))) (arguments_bar turns some)

  pub list_copy : (c : Context) (m : ℕ) (before : List RawStmt) (h : ℕ) (ts : L) → Copies false Shows (s.list d turns inner c m before h) ts (t.list d turns outer c m before h ts)
  unfolding r.list
  list_copy c zero before h ts = started (stops_here false r.spent refl ts)
  list_copy c (suc m) before h ts = fork_shows (λ t. ends_list t.kind) (before, h) _ _ ts refl (bars_after (inner.stmt c) _ (bars.stmt c))
      (λ _. copies_after _ _ shows (started (alike.stmt c ts)) (λ x us. list_copy c m (before ++ x.0) (max h x.1) us))

  pub body_copy : (c : Context) (ts : L) → Copies false Quiet (s.body d turns inner c) ts (t.body d turns outer c ts)
  unfolding r.body
  body_copy c ts = copies_then _ _ quiet (list_copy c turns [] 0 ts) (λ b us. starts_after _ _ quiet (expects false mark.CloseBrace us) (λ _ vs. copies_pure false b vs))

  -- behind a brace
  braced_copy : {A : Type 0} (f : Sized (List RawStmt) → A) (ts : L) → Starts true Quiet (λ xs. and_then (s.expect mark.OpenBrace xs) (λ _ i. and_then (s.body d turns inner of_function i) (λ b j. Ok (f b, j)))) ts
      (and_then (t.expect mark.OpenBrace ts) (λ _ i. and_then (t.body d turns outer of_function i) (λ b j. Ok (f b, j))))
  unfolding r.expect
  braced_copy f [] = halts_end refl
  braced_copy f (u ∷ us) = starts (by (is_mark mark.OpenBrace u.kind) refl) (λ xs. record { fault = r.fault r.a_token k.semicolon; no_limit = refl; is = refl }) where
    by : (b : Bool) → is_mark mark.OpenBrace u.kind ≡ b → Head true true Quiet (λ xs. and_then (cond {A = Outcome Symbols (Unit {0})} b (Ok (tt, xs)) (Err (r.fault r.a_token u, real u ∷ xs))) (λ _ i. and_then (s.body d turns inner of_function i) (λ b j. Ok (f b, j)))) u us
        (and_then (cond {A = Outcome L (Unit {0})} b (Ok (tt, us)) (Err (r.fault r.a_token u, u ∷ us))) (λ _ i. and_then (t.body d turns outer of_function i) (λ b j. Ok (f b, j))))
    by true e = goes_in e (copies_after _ _ quiet (body_copy of_function us) (λ b vs. copies_pure false (f b) vs))
    by false e = halts refl tt

  pub function_copy : (ts : L) → Starts true Quiet (s.function d turns inner) ts (t.function d turns outer ts)
  unfolding r.function
  function_copy ts = starts_after _ _ quiet (expects true mark.OpenParen ts) (λ _ us. copies_after _ _ quiet (started (params_of_copy true turns us some)) (λ ps vs. started (braced_copy (λ b. ((ps, b.0), b.1)) vs)))
