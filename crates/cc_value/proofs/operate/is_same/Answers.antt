use Rattle.std.proofs.Common.{◌≡◌, ◌∙◌, ap, sym, rules, false, List, ℕ}
use Rattle.cc_meaning.specs.Operators.{strict_equal, list_eq}
use Rattle.cc_value.specs.declared.value.Value.{Value}
use Rattle.cc_value.specs.declared.value.Value.TheVariants as V
use Rattle.cc_value.specs.Bridge.{value_of}
use Rattle.cc_value.proofs.Cases.{same-Undefined, same-Null, same-Truth, same-Whole, same-Text, same-Object, same-Outside, same_bits}
use Rattle.cc_value.proofs.operate.is_same.Goals as goal

-- both sides are known
both : (u v x y : Value) → u ≡ x → v ≡ y → strict_equal (value_of x) (value_of y) ≡ strict_equal (value_of u) (value_of v)
both u v x y e f = ap (λ (z : Value). strict_equal (value_of z) (value_of y)) (sym e) ∙ ap (λ (z : Value). strict_equal (value_of u) (value_of z)) (sym f)

left : (u v x : Value) → u ≡ x → strict_equal (value_of x) (value_of v) ≡ false → false ≡ strict_equal (value_of u) (value_of v)
left u v x e f = sym f ∙ ap (λ (z : Value). strict_equal (value_of z) (value_of v)) (sym e)

pub returns-in-Undefined-b : goal.returns-in-Undefined-b
unfolding strict_equal
returns-in-Undefined-b c = both c.args.a.now c.args.b.now V.Undefined V.Undefined c.in-Undefined.is c.in-Undefined-b.is

pub returns-in_default : goal.returns-in_default
returns-in_default c = left c.args.a.now c.args.b.now V.Undefined c.in-Undefined.is (same-Undefined c.args.b.now c.in_default.not-Undefined)

pub returns-in-Null-b : goal.returns-in-Null-b
unfolding strict_equal
returns-in-Null-b c = both c.args.a.now c.args.b.now V.Null V.Null c.in-Null.is c.in-Null-b.is

pub returns-in_default-b : goal.returns-in_default-b
returns-in_default-b c = left c.args.a.now c.args.b.now V.Null c.in-Null.is (same-Null c.args.b.now c.in_default-b.not-Null)

pub returns-in-Truth-b : goal.returns-in-Truth-b
unfolding strict_equal
returns-in-Truth-b c = both c.args.a.now c.args.b.now (V.Truth c.in-Truth.x) (V.Truth c.in-Truth-b.y) c.in-Truth.is c.in-Truth-b.is

pub returns-in_default-b-2 : goal.returns-in_default-b-2
returns-in_default-b-2 c = left c.args.a.now c.args.b.now (V.Truth c.in-Truth.x) c.in-Truth.is (same-Truth c.in-Truth.x c.args.b.now c.in_default-b-2.not-Truth)

pub returns-in-Whole-b : goal.returns-in-Whole-b
unfolding strict_equal
returns-in-Whole-b c = same_bits c.in-Whole.x c.in-Whole-b.y (search rules) (search rules) ∙ both c.args.a.now c.args.b.now (V.Whole c.in-Whole.x) (V.Whole c.in-Whole-b.y) c.in-Whole.is c.in-Whole-b.is

pub returns-in_default-b-3 : goal.returns-in_default-b-3
returns-in_default-b-3 c = left c.args.a.now c.args.b.now (V.Whole c.in-Whole.x) c.in-Whole.is (same-Whole c.in-Whole.x c.args.b.now c.in_default-b-3.not-Whole)

pub returns-in-Text-b : goal.returns-in-Text-b
unfolding strict_equal
returns-in-Text-b c = c.is_equal.ensures ∙ ap (λ (s : List ℕ). list_eq s c.as_slice-in-Text-b.result.now) (c.as_slice.ensures.value ∙ c.x.view_is) ∙ ap (λ (s : List ℕ). list_eq c.in-Text.x s) (c.as_slice-in-Text-b.ensures.value ∙ c.y.view_is) ∙ both c.args.a.now c.args.b.now (V.Text c.in-Text.x) (V.Text c.in-Text-b.y) c.in-Text.is c.in-Text-b.is

pub returns-in_default-b-4 : goal.returns-in_default-b-4
returns-in_default-b-4 c = left c.args.a.now c.args.b.now (V.Text c.in-Text.x) c.in-Text.is (same-Text c.in-Text.x c.args.b.now c.in_default-b-4.not-Text)

pub returns-in-Object-b : goal.returns-in-Object-b
unfolding strict_equal
returns-in-Object-b c = both c.args.a.now c.args.b.now (V.Object c.in-Object.x) (V.Object c.in-Object-b.y) c.in-Object.is c.in-Object-b.is

pub returns-in_default-b-5 : goal.returns-in_default-b-5
returns-in_default-b-5 c = left c.args.a.now c.args.b.now (V.Object c.in-Object.x) c.in-Object.is (same-Object c.in-Object.x c.args.b.now c.in_default-b-5.not-Object)

pub returns-in-Outside-b : goal.returns-in-Outside-b
unfolding strict_equal
returns-in-Outside-b c = both c.args.a.now c.args.b.now (V.Outside c.in-Outside.x) (V.Outside c.in-Outside-b.y) c.in-Outside.is c.in-Outside-b.is

pub returns-in_default-b-6 : goal.returns-in_default-b-6
returns-in_default-b-6 c = left c.args.a.now c.args.b.now (V.Outside c.in-Outside.x) c.in-Outside.is (same-Outside c.in-Outside.x c.args.b.now c.in_default-b-6.not-Outside)
