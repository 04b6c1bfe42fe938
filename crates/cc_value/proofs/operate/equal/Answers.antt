use Rattle.std.proofs.Common.{◌≡◌, ◌∙◌, ap, sym, rules, Bool, List, ℕ, Option, Some}
use Rattle.cc_meaning.specs.Operators.{list_eq, equal_prims}
use Rattle.cc_value.specs.declared.value.Value.{Value}
use Rattle.cc_value.specs.declared.value.Value.TheVariants as V
use Rattle.cc_value.specs.Bridge.{value_of, equal_of}
use Rattle.cc_value.proofs.Cases.{equal-Undefined, equal-Null, equal-Truth, equal-Whole, equal-Text, equal-Object, equal-Outside, same_bits}
use Rattle.cc_value.proofs.operate.equal.Goals as goal

both : (u v x y : Value) → u ≡ x → v ≡ y → equal_of (value_of x) (value_of y) ≡ equal_of (value_of u) (value_of v)
both u v x y e f = ap (λ (z : Value). equal_of (value_of z) (value_of y)) (sym e) ∙ ap (λ (z : Value). equal_of (value_of u) (value_of z)) (sym f)

left : (u v x : Value) (r : Option Bool) → u ≡ x → equal_of (value_of x) (value_of v) ≡ r → r ≡ equal_of (value_of u) (value_of v)
left u v x r e f = sym f ∙ ap (λ (z : Value). equal_of (value_of z) (value_of v)) (sym e)

pub returns-in-Undefined : goal.returns-in-Undefined
returns-in-Undefined c = ap (λ (b : Bool). Some b) c.is_nothing.ensures ∙ left c.args.a.now c.args.b.now V.Undefined _ c.in-Undefined.is (equal-Undefined c.args.b.now)

pub returns-in-Null : goal.returns-in-Null
returns-in-Null c = ap (λ (b : Bool). Some b) c.is_nothing-in-Null.ensures ∙ left c.args.a.now c.args.b.now V.Null _ c.in-Null.is (equal-Null c.args.b.now)

pub returns-in_default : goal.returns-in_default
returns-in_default c = c.nothing_else.ensures ∙ left c.args.a.now c.args.b.now (V.Truth c.in-Truth.x) _ c.in-Truth.is (equal-Truth c.in-Truth.x c.args.b.now c.in_default.not-Truth)

pub returns-in_default-b : goal.returns-in_default-b
returns-in_default-b c = c.nothing_else-in_default-b.ensures ∙ left c.args.a.now c.args.b.now (V.Whole c.in-Whole.x) _ c.in-Whole.is (equal-Whole c.in-Whole.x c.args.b.now c.in_default-b.not-Whole)

pub returns-in_default-b-2 : goal.returns-in_default-b-2
returns-in_default-b-2 c = c.nothing_else-in_default-b-2.ensures ∙ left c.args.a.now c.args.b.now (V.Text c.in-Text.x) _ c.in-Text.is (equal-Text c.in-Text.x c.args.b.now c.in_default-b-2.not-Text)

pub returns-in_default-b-3 : goal.returns-in_default-b-3
returns-in_default-b-3 c = c.nothing_else-in_default-b-3.ensures ∙ left c.args.a.now c.args.b.now (V.Object c.in-Object.x) _ c.in-Object.is (equal-Object c.in-Object.x c.args.b.now c.in_default-b-3.not-Object)

pub returns-in_default-b-4 : goal.returns-in_default-b-4
returns-in_default-b-4 c = c.nothing_else-in_default-b-4.ensures ∙ left c.args.a.now c.args.b.now (V.Outside c.in-Outside.x) _ c.in-Outside.is (equal-Outside c.in-Outside.x c.args.b.now c.in_default-b-4.not-Outside)

pub returns-in-Truth-b : goal.returns-in-Truth-b
unfolding equal_prims
returns-in-Truth-b c = both c.args.a.now c.args.b.now (V.Truth c.in-Truth.x) (V.Truth c.in-Truth-b.y) c.in-Truth.is c.in-Truth-b.is

pub returns-in-Whole-b : goal.returns-in-Whole-b
unfolding equal_prims
returns-in-Whole-b c = ap (λ (b : Bool). Some b) (same_bits c.in-Whole.x c.in-Whole-b.y (search rules) (search rules)) ∙ both c.args.a.now c.args.b.now (V.Whole c.in-Whole.x) (V.Whole c.in-Whole-b.y) c.in-Whole.is c.in-Whole-b.is

pub returns-in-Text-b : goal.returns-in-Text-b
unfolding equal_prims
returns-in-Text-b c =
    ap (λ (b : Bool). Some b) (c.is_equal.ensures ∙ ap (λ (s : List ℕ). list_eq s c.as_slice-in-Text-b.result.now) (c.as_slice.ensures.value ∙ c.x.view_is) ∙ ap (λ (s : List ℕ). list_eq c.in-Text.x s) (c.as_slice-in-Text-b.ensures.value ∙ c.y.view_is))
    ∙ both c.args.a.now c.args.b.now (V.Text c.in-Text.x) (V.Text c.in-Text-b.y) c.in-Text.is c.in-Text-b.is
