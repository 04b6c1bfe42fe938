use Rattle.std.proofs.Common.{◌≡◌, not, eqb, length, ◌∙◌, ap, sym, rules, List, ℕ}
use Rattle.cc_meaning.specs.Operators.{truthy}
use Rattle.cc_value.specs.declared.value.Value.{Value}
use Rattle.cc_value.specs.declared.value.Value.TheVariants as V
use Rattle.cc_value.specs.Bridge.{value_of}
use Rattle.cc_value.proofs.Cases.{truthy_bits, truthy_length}
use Rattle.cc_value.proofs.operate.is_truthy.Goals as goal

at : (u x : Value) → u ≡ x → truthy (value_of x) ≡ truthy (value_of u)
at u x e = ap (λ (z : Value). truthy (value_of z)) (sym e)

pub returns-in-Undefined : goal.returns-in-Undefined
unfolding truthy
returns-in-Undefined c = at c.args.value.now V.Undefined c.in-Undefined.is

pub returns-in-Null : goal.returns-in-Null
unfolding truthy
returns-in-Null c = at c.args.value.now V.Null c.in-Null.is

pub returns-in-Truth : goal.returns-in-Truth
unfolding truthy
returns-in-Truth c = at c.args.value.now (V.Truth c.in-Truth.b) c.in-Truth.is

pub returns-in-Whole : goal.returns-in-Whole
unfolding truthy
returns-in-Whole c = truthy_bits c.in-Whole.z (search rules) ∙ at c.args.value.now (V.Whole c.in-Whole.z) c.in-Whole.is

pub returns-in-Text : goal.returns-in-Text
unfolding truthy
returns-in-Text c = ap not (c.is_empty.ensures ∙ ap (λ (t : List ℕ). eqb (length t) 0) (c.as_slice.ensures.value ∙ c.text.view_is)) ∙ truthy_length c.in-Text.text ∙ at c.args.value.now (V.Text c.in-Text.text) c.in-Text.is

pub returns-in-Object : goal.returns-in-Object
unfolding truthy
returns-in-Object c = at c.args.value.now (V.Object c.in-Object.field-0) c.in-Object.is

pub returns-in-Outside : goal.returns-in-Outside
unfolding truthy
returns-in-Outside c = at c.args.value.now (V.Outside c.in-Outside.field-0) c.in-Outside.is
