use Rattle.std.proofs.Common.{◌≡◌, ◌∙◌, ap, refl, None, List, ℕ, Result, slice_get}
use Rattle.std.specs.Bool.{⊤}
use Rattle.cc_ast.specs.Syntax.{Prim, undefined, null, truth, whole, text}
use Rattle.cc_ast.specs.declared.operator.UnOp.TheVariants.{Typeof}
use Rattle.cc_meaning.specs.Values.{prim}
use Rattle.cc_meaning.specs.Operators.{type_text}
use Rattle.cc_meaning.specs.Acts.{object_type}
use Rattle.cc_meaning.specs.Rules.{unary_rule}
use Rattle.cc_meaning.specs.State.{Obj}
use Rattle.cc_value.specs.declared.value.Value.{Value}
use Rattle.cc_value.specs.declared.value.Value.TheVariants as V
use Rattle.cc_value.specs.declared.value.OpFault.{OpFault}
use Rattle.cc_value.specs.Bridge.{value_of}
use Rattle.cc_heap.specs.Answers.{Tells, type_in}
use Rattle.cc_heap.proofs.OperatorLaws.{tells-text, type-of-prim, type-of-object, type-of-outside}
use Rattle.cc_heap.proofs.heap.Heap.type_name.Goals as goal

-- the type of a primitive value that is known
known : (r : Result (List ℕ) OpFault) (os : List Obj) (u v : Value) (p : Prim) → u ≡ v → value_of v ≡ prim p → Tells r None (λ t. t ≡ type_text p) ⊤ → Tells r (unary_rule Typeof (value_of u)) (λ t. prim (text t) ≡ type_in os (value_of u)) ⊤
known r os u v p e is told =
    let both = type-of-prim os u p (ap value_of e ∙ is) in
    tells-text r (type_text p) (unary_rule Typeof (value_of u)) (type_in os (value_of u)) both.0 both.1 told

pub returns-in-Undefined : goal.returns-in-Undefined
unfolding type_text
returns-in-Undefined c = known c.named.result c.args.self.now.objs c.args.value.now V.Undefined undefined c.in-Undefined.is refl c.named.ensures

pub returns-in-Null : goal.returns-in-Null
unfolding type_text
returns-in-Null c = known c.named-in-Null.result c.args.self.now.objs c.args.value.now V.Null null c.in-Null.is refl c.named-in-Null.ensures

pub returns-in-Truth : goal.returns-in-Truth
unfolding type_text
returns-in-Truth c = known c.named-in-Truth.result c.args.self.now.objs c.args.value.now (V.Truth c.in-Truth.field-0) (truth c.in-Truth.field-0) c.in-Truth.is refl c.named-in-Truth.ensures

pub returns-in-Whole : goal.returns-in-Whole
unfolding type_text
returns-in-Whole c = known c.named-in-Whole.result c.args.self.now.objs c.args.value.now (V.Whole c.in-Whole.field-0) (whole c.in-Whole.field-0) c.in-Whole.is refl c.named-in-Whole.ensures

pub returns-in-Text : goal.returns-in-Text
unfolding type_text
returns-in-Text c = known c.named-in-Text.result c.args.self.now.objs c.args.value.now (V.Text c.in-Text.field-0) (text c.in-Text.field-0) c.in-Text.is refl c.named-in-Text.ensures

pub returns-in-Object : goal.returns-in-Object
returns-in-Object c =
    let n = c.in-Object.number in
    let os = c.args.self.now.objs in
    let v = c.args.value.now in
    let both = type-of-object os v n c.in-Object.is in
    tells-text c.object_type.result (object_type (slice_get os n)) (unary_rule Typeof (value_of v)) (type_in os (value_of v)) both.0 both.1 c.object_type.ensures

pub returns-in-Outside : goal.returns-in-Outside
returns-in-Outside c = type-of-outside c.args.value.now c.in-Outside.field-0 c.in-Outside.is
