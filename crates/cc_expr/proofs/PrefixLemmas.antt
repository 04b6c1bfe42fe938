-- A `delete` that is refused, and one that isn't, and the trees of unary operators.
use Rattle.std.specs.Prelude.{ℤ, pos, negsuc}
use Rattle.std.proofs.Common.{◌≡◌, ◌∙◌, refl, ap, ℕ, zero, suc, Bool, true, false, Ok, Err, if◌then◌else◌, ◌≤ℤ◌, arith}
use Rattle.std.proofs.lemmas.Int.{ints}
use Rattle.cc_ast.specs.declared.operator.UnOp.{UnOp}
use Rattle.cc_ast.specs.declared.operator.UnOp.TheVariants as u
use Rattle.cc_ast.specs.declared.place.Place.{Place}
use Rattle.cc_ast.specs.Syntax.{whole}
use Rattle.cc_ast.specs.declared.reading.Construct.TheVariants as construct
use Rattle.cc_grammar.specs.RawTree as S
use Rattle.cc_grammar.specs.Signs.{Prefix, unary_tree}
use Rattle.cc_grammar.specs.Reading.{Outcome, Sized, Fault, is_delete, look_token, rest_tokens, semicolon_token}
use Rattle.cc_grammar.specs.Reading as r
use Rattle.cc_grammar.specs.ReadingExpressions.{prefixed}
use Rattle.cc_cursor.specs.declared.limits.Limits.{Limits}
use Rattle.cc_cursor.specs.Reads.{Tokens, opened, unless_deleted}
use Rattle.cc_expr.specs.Expressions as spec

abbrev limits : ℕ → ℕ → Limits
limits t d = record { turns = t; depth = d }

abbrev Answer : Type 0
Answer = Outcome Tokens (Sized S.RawExpr)

abbrev done : Tokens → Outcome Tokens (Unit {0})
done i = Ok (tt, i)

unless_true : (b : Bool) (x : Fault × Tokens) (i j : Tokens) (o : Answer) → (if b then Err x else done i) ≡ done j → (if b then Err x else o) ≡ o
unless_true true x i j o e = cc
unless_true false x i j o e = refl

if_true : (b : Bool) (x y : Fault × Tokens) (i : Tokens) (o : Answer) → (if b then Err x else done i) ≡ Err y → (if b then Err x else o) ≡ Err y
if_true true x y i o e = cc
if_true false x y i o e = cc

abbrev unless : {A : Type 0} → Outcome Tokens Bool → Place → Outcome Tokens A → Outcome Tokens A
unless x q o = r.unless_deleted Tokens look_token rest_tokens semicolon_token x q o

kept : (x : Outcome Tokens Bool) (q : Place) (i j : Tokens) (o : Answer) → unless x q (done i) ≡ done j → unless x q o ≡ o
kept (Ok p) q i j o e = unless_true p.0 (record { cause = r.refused construct.DeleteName; place = q }, p.1) i j o e
kept (Err x) q i j o e = cc

refused : (x : Outcome Tokens Bool) (q : Place) (i : Tokens) (y : Fault × Tokens) (o : Answer) → unless x q (done i) ≡ Err y → unless x q o ≡ Err y
refused (Ok p) q i y o e = if_true p.0 (record { cause = r.refused construct.DeleteName; place = q }, p.1) y i o e
refused (Err x) q i y o e = cc

pub prefixed_plain : (t d : ℕ) (n : Bool) (o : Prefix) (i : Tokens) → is_delete o ≡ false → spec.prefixed (limits t d) n o i ≡ spec.deep_prefix (limits t d) n o i
unfolding prefixed
prefixed_plain t d n o i e = ap (λ b. (if b then (λ j. unless_deleted t j (spec.deep_prefix (limits t d) n o j)) else spec.deep_prefix (limits t d) n o) i) e

pub prefixed_kept : (t d : ℕ) (n : Bool) (o : Prefix) (i j : Tokens) → is_delete o ≡ true → unless_deleted t i (done i) ≡ done j
    → spec.prefixed (limits t d) n o i ≡ spec.deep_prefix (limits t d) n o i
unfolding prefixed
prefixed_kept t d n o i j e k = ap (λ b. (if b then (λ j. unless_deleted t j (spec.deep_prefix (limits t d) n o j)) else spec.deep_prefix (limits t d) n o) i) e
    ∙ kept (opened t 0 (rest_tokens i)) (look_token i).place i j (spec.deep_prefix (limits t d) n o i) k

pub prefixed_refused : (t d : ℕ) (n : Bool) (o : Prefix) (i : Tokens) (y : Fault × Tokens) → is_delete o ≡ true → unless_deleted t i (done i) ≡ Err y
    → spec.prefixed (limits t d) n o i ≡ Err y
unfolding prefixed
prefixed_refused t d n o i y e k = ap (λ b. (if b then (λ j. unless_deleted t j (spec.deep_prefix (limits t d) n o j)) else spec.deep_prefix (limits t d) n o) i) e
    ∙ refused (opened t 0 (rest_tokens i)) (look_token i).place i y (spec.deep_prefix (limits t d) n o i) k

-- ---- a minus or `void` before a whole literal, and the other unary operators

pub minus_not : (z : ℤ) (p q : Place) → z ≤ℤ pos 0 → unary_tree u.Minus p (S.lit q (whole z)) ≡ S.unary p u.Minus (S.lit q (whole z))
minus_not (pos zero) p q less = refl
minus_not (pos (suc n)) p q less = absurd (omega (arith, ints))
minus_not (negsuc n) p q less = refl

pub void_not : (z : ℤ) (p q : Place) → (z ≡ pos 0 → ⊥) → unary_tree u.Void p (S.lit q (whole z)) ≡ S.unary p u.Void (S.lit q (whole z))
void_not (pos zero) p q other = absurd (other refl)
void_not (pos (suc n)) p q other = refl
void_not (negsuc n) p q other = refl

pub ruleset whole_steps = (minus_not, void_not)

pub other_unary : (o : UnOp) (p : Place) (e : S.RawExpr) → (o ≡ u.Minus → ⊥) → (o ≡ u.Void → ⊥) → unary_tree o p e ≡ S.unary p o e
other_unary u.Minus p e m v = absurd (m refl)
other_unary u.Void p e m v = absurd (v refl)
other_unary o p e m v = refl
