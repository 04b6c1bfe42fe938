use Rattle.std.proofs.Common.{◌∙◌, ap, sym, List, Option, slice_get}
use Rattle.std.specs.Option.{option_copied}
use Rattle.cc_meaning.specs.Rules.{prototype_at, prototype_object}
use Rattle.cc_meaning.specs.SlotRules.{prototype_of_function}
use Rattle.cc_meaning.specs.State.{Obj}
use Rattle.cc_value.specs.declared.value.Value.{Value}
use Rattle.cc_value.specs.Bridge.{value_of}
use Rattle.cc_heap.proofs.OperatorLaws.{none-at}
use Rattle.cc_heap.proofs.heap.Heap.prototype_of.Goals as goal

pub returns-in-Some : goal.returns-in-Some
unfolding prototype_at
returns-in-Some c = λ s e.
    c.prototype.ensures
    ∙ ap (λ (o : Option Obj). prototype_object (prototype_of_function o)) (sym (ap option_copied c.in-Some.is) ∙ c.object.ensures ∙ ap (λ (os : List Obj). slice_get os c.in-Object.number) (sym e))
    ∙ sym (ap (λ (v : Value). prototype_at s (value_of v)) c.in-Object.is)

pub returns-in-None : goal.returns-in-None
unfolding prototype_at prototype_object prototype_of_function
returns-in-None c = λ s e.
    ap (λ (o : Option Obj). prototype_object (prototype_of_function o)) (sym (ap option_copied c.in-None.is) ∙ c.object.ensures ∙ ap (λ (os : List Obj). slice_get os c.in-Object.number) (sym e))
    ∙ sym (ap (λ (v : Value). prototype_at s (value_of v)) c.in-Object.is)

pub returns-in_default : goal.returns-in_default
returns-in_default c = λ s e. sym (none-at s c.args.value.now c.in_default.not-Object)
