use Rattle.std.proofs.Common.{◌≡◌, ap, sym, subst}
use Rattle.cc_meaning.specs.Operators.{Outcome, type_text}
use Rattle.cc_value.specs.declared.value.Value.{Value}
use Rattle.cc_value.specs.declared.value.Value.TheVariants as V
use Rattle.cc_value.specs.Bridge.{value_of, type_of, Answers}
use Rattle.cc_value.proofs.operate.type_name.Goals as goal

at : (u v : Value) → u ≡ v → type_of (value_of v) ≡ type_of (value_of u)
at u v e = ap (λ (x : Value). type_of (value_of x)) (sym e)

pub returns-in-Undefined : goal.returns-in-Undefined
unfolding type_text
returns-in-Undefined c = subst (λ (o : Outcome). Answers c.ascii.result o) (at c.args.value.now V.Undefined c.in-Undefined.is) c.ascii.ensures

pub returns-in-Null : goal.returns-in-Null
unfolding type_text
returns-in-Null c = subst (λ (o : Outcome). Answers c.ascii-in-Null.result o) (at c.args.value.now V.Null c.in-Null.is) c.ascii-in-Null.ensures

pub returns-in-Truth : goal.returns-in-Truth
unfolding type_text
returns-in-Truth c = subst (λ (o : Outcome). Answers c.ascii-in-Truth.result o) (at c.args.value.now (V.Truth c.in-Truth.field-0) c.in-Truth.is) c.ascii-in-Truth.ensures

pub returns-in-Whole : goal.returns-in-Whole
unfolding type_text
returns-in-Whole c = subst (λ (o : Outcome). Answers c.ascii-in-Whole.result o) (at c.args.value.now (V.Whole c.in-Whole.field-0) c.in-Whole.is) c.ascii-in-Whole.ensures

pub returns-in-Text : goal.returns-in-Text
unfolding type_text
returns-in-Text c = subst (λ (o : Outcome). Answers c.ascii-in-Text.result o) (at c.args.value.now (V.Text c.in-Text.field-0) c.in-Text.is) c.ascii-in-Text.ensures

pub returns-in-Object : goal.returns-in-Object
returns-in-Object c = sym (at c.args.value.now (V.Object c.in-Object.field-0) c.in-Object.is)

pub returns-in-Outside : goal.returns-in-Outside
returns-in-Outside c = sym (at c.args.value.now (V.Outside c.in-Outside.field-0) c.in-Outside.is)
