-- How a `for` goes on behind what it begins with.
use Rattle.std.proofs.Common.{◌≡◌, refl, sym, ap, ◌∙◌, ℕ, ◌+◌, max, Bool, true, false, List, [], ◌∷◌, length, Option, Some, None, Ok, Err, ◌≢◌, arith, rules}
use Rattle.std.specs.Prelude.{is_some, slice_get}
use Rattle.cc_ast.specs.declared.place.Place.{Place}
use Rattle.cc_grammar.specs.Grammar.{Context, in_loop}
use Rattle.cc_grammar.specs.RawTree as S
use Rattle.cc_lexer.specs.declared.token.Mark.{Mark}
use Rattle.cc_lexer.specs.declared.token.Mark.TheVariants as mark
use Rattle.cc_grammar.specs.Reading.{Outcome, Sized, and_then, rest_tokens}
use Rattle.cc_grammar.specs.Reading as r
use Rattle.cc_trees.proofs.Chains.{assoc, under, closed_same}
use Rattle.cc_raw.specs.declared.tree.RawDeclarator.{RawDeclarator}
use Rattle.cc_cursor.specs.declared.limits.Limits.{Limits}
use Rattle.cc_trees.specs.StatementParts as parts
use Rattle.cc_cursor.specs.Reads.{Tokens, within, expect}
use Rattle.cc_statements.specs.ReadsStatements as spec
use Rattle.cc_statements.specs.ForSteps.{in_rest, closed_optional, turning, for_behind}

higher : (a b c : ℕ) → max (max a b) c ≡ max a (max b c)
higher a b c = omega arith

-- a `for-in` with this target, of what stands behind it
abbrev in_made : Place → S.RawForTarget → ℕ → Sized (S.RawExpr × List S.RawStmt) → Tokens → Outcome Tokens (Sized (List S.RawStmt))
in_made p g h x ts = Ok ((S.for_in p g x.0.0 (S.stmts x.0.1) ∷ [], max h x.1 + 1), ts)

in_body : (p : Place) (g : S.RawForTarget) (h : ℕ) (e : Sized S.RawExpr) (o : Outcome Tokens (Sized (List S.RawStmt)))
    → and_then o (λ b ws. Ok ((S.for_in p g e.0 (S.stmts b.0) ∷ [], max (max h e.1) b.1 + 1), ws))
    ≡ and_then (and_then o (λ b ws. Ok (((e.0, b.0), max e.1 b.1), ws))) (in_made p g h)
in_body p g h e (Ok b) = ap (λ n. Ok ((S.for_in p g e.0 (S.stmts b.0.0) ∷ [], n + 1), b.1)) (higher h e.1 b.0.1)
in_body p g h e (Err x) = refl

in_closed : (m : Limits) (c : Context) (p : Place) (g : S.RawForTarget) (h : ℕ) (e : Sized S.RawExpr) (o : Outcome Tokens (Unit {0}))
    → and_then o (λ _ vs. and_then ((within m).stmt (in_loop c) vs) (λ b ws. Ok ((S.for_in p g e.0 (S.stmts b.0) ∷ [], max (max h e.1) b.1 + 1), ws)))
    ≡ and_then (and_then o (λ _ vs. and_then ((within m).stmt (in_loop c) vs) (λ b ws. Ok (((e.0, b.0), max e.1 b.1), ws)))) (in_made p g h)
in_closed m c p g h e (Ok u) = in_body p g h e ((within m).stmt (in_loop c) u.1)
in_closed m c p g h e (Err x) = refl

in_value : (m : Limits) (c : Context) (p : Place) (g : S.RawForTarget) (h : ℕ) (o : Outcome Tokens (Sized S.RawExpr))
    → and_then o (λ e us. and_then (expect mark.CloseParen us) (λ _ vs. and_then ((within m).stmt (in_loop c) vs)
    (λ b ws. Ok ((S.for_in p g e.0 (S.stmts b.0) ∷ [], max (max h e.1) b.1 + 1), ws))))
    ≡ and_then (and_then o (λ e us. and_then (expect mark.CloseParen us) (λ _ vs. and_then ((within m).stmt (in_loop c) vs)
    (λ b ws. Ok (((e.0, b.0), max e.1 b.1), ws))))) (in_made p g h)
in_value m c p g h (Ok e) = in_closed m c p g h e.0 (expect mark.CloseParen e.1)
in_value m c p g h (Err x) = refl

pub in_opened : (m : Limits) (c : Context) (p : Place) (g : S.RawForTarget) (h : ℕ) (ts : Tokens)
    → spec.for_in m c p g h ts ≡ and_then (in_rest m c (rest_tokens ts)) (λ x us. Ok ((S.for_in p g x.0.0 (S.stmts x.0.1) ∷ [], max h x.1 + 1), us))
unfolding r.for_in
in_opened m c p g h ts = in_value m c p g h ((within m).expr true 0 (rest_tokens ts))

pub in_rest_opened : (m : Limits) (c : Context) (ts : Tokens) → in_rest m c ts
    ≡ and_then (spec.closed_expr m 0 mark.CloseParen ts) (λ e us. and_then ((within m).stmt (in_loop c) us) (λ b vs. Ok (((e.0, b.0), max e.1 b.1), vs)))
in_rest_opened m c ts = closed_same ((within m).expr true 0 ts) (expect mark.CloseParen) (λ e us. and_then ((within m).stmt (in_loop c) us) (λ b vs. Ok (((e.0, b.0), max e.1 b.1), vs)))

-- ---- a `for` behind what it begins with

abbrev turned : Limits → Context → Place → Sized S.RawInit → Sized (S.MaybeExpr × S.MaybeExpr) → Tokens → Outcome Tokens (Sized (List S.RawStmt))
turned m c p a x ts = and_then ((within m).stmt (in_loop c) ts) (λ b us. Ok ((S.for p a.0 x.0.0 x.0.1 (S.stmts b.0) ∷ [], max (max a.1 x.1) b.1 + 1), us))

optional_opened : {D : Type 0} (m : Limits) (k : Mark) (ts : Tokens) (h : Sized S.MaybeExpr → Tokens → Outcome Tokens D)
    → and_then (closed_optional m k ts) h ≡ and_then (spec.optional m k ts) (λ x us. and_then (expect k us) (λ _ vs. h x vs))
optional_opened m k ts h = sym (closed_same (spec.optional m k ts) (expect k) h)

abbrev stepped : {D : Type 0} → Limits → (Sized (S.MaybeExpr × S.MaybeExpr) → Tokens → Outcome Tokens D) → Sized S.MaybeExpr → Tokens → Outcome Tokens D
stepped m h x ts = and_then (spec.optional m mark.CloseParen ts) (λ y us. and_then (expect mark.CloseParen us) (λ _ vs. h ((x.0, y.0), max x.1 y.1) vs))

with_step : {D : Type 0} (m : Limits) (h : Sized (S.MaybeExpr × S.MaybeExpr) → Tokens → Outcome Tokens D) (x : Sized S.MaybeExpr) (ts : Tokens)
    → and_then (and_then (closed_optional m mark.CloseParen ts) (λ y us. Ok (((x.0, y.0), max x.1 y.1), us))) h ≡ stepped m h x ts
with_step m h x ts = assoc (closed_optional m mark.CloseParen ts) (λ y us. Ok (((x.0, y.0), max x.1 y.1), us)) h
    ∙ optional_opened m mark.CloseParen ts (λ y us. h ((x.0, y.0), max x.1 y.1) us)

with_test : {D : Type 0} (m : Limits) (h : Sized (S.MaybeExpr × S.MaybeExpr) → Tokens → Outcome Tokens D) (ts : Tokens)
    → and_then (and_then (closed_optional m mark.Semicolon ts) (λ x us. and_then (closed_optional m mark.CloseParen us) (λ y vs. Ok (((x.0, y.0), max x.1 y.1), vs)))) h
    ≡ and_then (spec.optional m mark.Semicolon ts) (λ x us. and_then (expect mark.Semicolon us) (λ _ vs. stepped m h x vs))
with_test m h ts = assoc (closed_optional m mark.Semicolon ts) (λ x us. and_then (closed_optional m mark.CloseParen us) (λ y vs. Ok (((x.0, y.0), max x.1 y.1), vs))) h
    ∙ under (closed_optional m mark.Semicolon ts) _ (stepped m h) (with_step m h)
    ∙ optional_opened m mark.Semicolon ts (stepped m h)

rest_turned : (m : Limits) (c : Context) (p : Place) (a : Sized S.RawInit) (ts : Tokens) → spec.for_rest m c p a ts ≡ and_then (turning m ts) (turned m c p a)
unfolding r.for_rest
rest_turned m c p a ts = sym (assoc (expect mark.Semicolon ts) _ (turned m c p a) ∙ under (expect mark.Semicolon ts) _ _ (λ _ us. with_test m (turned m c p a) us))

-- a `for` with this beginning, of what stands behind it
abbrev made : Place → Sized S.RawInit → Sized ((S.MaybeExpr × S.MaybeExpr) × List S.RawStmt) → Tokens → Outcome Tokens (Sized (List S.RawStmt))
made p a x ts = Ok ((S.for p a.0 x.0.0.0 x.0.0.1 (S.stmts x.0.1) ∷ [], max a.1 x.1 + 1), ts)

with_body : (p : Place) (a : Sized S.RawInit) (x : Sized (S.MaybeExpr × S.MaybeExpr)) (o : Outcome Tokens (Sized (List S.RawStmt)))
    → and_then o (λ b us. Ok ((S.for p a.0 x.0.0 x.0.1 (S.stmts b.0) ∷ [], max (max a.1 x.1) b.1 + 1), us))
    ≡ and_then (and_then o (λ b us. Ok (((x.0, b.0), max x.1 b.1), us))) (made p a)
with_body p a x (Ok b) = ap (λ n. Ok ((S.for p a.0 x.0.0 x.0.1 (S.stmts b.0.0) ∷ [], n + 1), b.1)) (higher a.1 x.1 b.0.1)
with_body p a x (Err y) = refl

pub rest_opened : (m : Limits) (c : Context) (p : Place) (a : Sized S.RawInit) (ts : Tokens) → spec.for_rest m c p a ts
    ≡ and_then (for_behind m c ts) (λ x us. Ok ((S.for p a.0 x.0.0.0 x.0.0.1 (S.stmts x.0.1) ∷ [], max a.1 x.1 + 1), us))
rest_opened m c p a ts = rest_turned m c p a ts
    ∙ under (turning m ts) (turned m c p a) _ (λ x us. with_body p a x ((within m).stmt (in_loop c) us))
    ∙ sym (assoc (turning m ts) (λ x us. and_then ((within m).stmt (in_loop c) us) (λ b vs. Ok (((x.0, b.0), max x.1 b.1), vs))) (made p a))

pub vars_without_in : (m : Limits) (c : Context) (p : Place) (vs : List S.RawDeclarator) (h : ℕ) (ts : Tokens)
    → spec.for_vars m c p vs h false ts ≡ spec.for_rest m c p (S.init_vars (S.declarators vs), h) ts
vars_without_in m c p [] h ts = refl
vars_without_in m c p (v ∷ []) h ts = refl
vars_without_in m c p (v ∷ w ∷ vs) h ts = refl

pub many_vars : (m : Limits) (c : Context) (p : Place) (ds : List RawDeclarator) (h : ℕ) (b : Bool) (ts : Tokens) → length ds ≢ 1
    → spec.for_vars m c p (parts.declarators ds) h b ts ≡ spec.for_rest m c p (S.init_vars (S.declarators (parts.declarators ds)), h) ts
many_vars m c p [] h b ts n = refl
many_vars m c p (d ∷ []) h b ts n = absurd (n refl)
many_vars m c p (d ∷ e ∷ ds) h b ts n = refl

pub one_var : (m : Limits) (c : Context) (p : Place) (ds : List RawDeclarator) (d : RawDeclarator) (h : ℕ) (ts : Tokens) → length ds ≡ 1 → slice_get ds 0 ≡ Some d
    → spec.for_vars m c p (parts.declarators ds) h true ts ≡ spec.for_in m c p (S.in_declared (parts.declarator d).variable (parts.declarator d).value) h ts
one_var m c p [] d h ts n e = absurd (omega (arith, n))
one_var m c p (x ∷ []) d h ts n e = search (rules, e)
one_var m c p (x ∷ y ∷ ds) d h ts n e = absurd (omega (arith, n))

pub value_without_in : (m : Limits) (c : Context) (p : Place) (x : Sized S.RawExpr) (g : Option S.RawTarget) (ts : Tokens)
    → spec.for_value m c p x g false ts ≡ spec.for_rest m c p (S.init_value x.0, x.1) ts
value_without_in m c p x None ts = refl
value_without_in m c p x (Some g) ts = refl

pub no_target : (m : Limits) (c : Context) (p : Place) (x : Sized S.RawExpr) (g : Option S.RawTarget) (b : Bool) (ts : Tokens) → is_some g ≡ false
    → spec.for_value m c p x g b ts ≡ spec.for_rest m c p (S.init_value x.0, x.1) ts
no_target m c p x None b ts n = refl
no_target m c p x (Some g) b ts n = search (rules, n)

pub ruleset for_steps = (vars_without_in, many_vars, one_var, value_without_in, no_target)
