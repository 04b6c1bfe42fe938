use Rattle.std.proofs.Common.{◌∙◌, ap, sym, Some}
use Rattle.cc_meaning.specs.Rules.{prototype_object}
use Rattle.cc_meaning.specs.State.{Slot}
use Rattle.cc_value.specs.declared.value.Value.{Value}
use Rattle.cc_value.specs.Bridge.{value_of}
use Rattle.cc_heap.proofs.OperatorLaws.{no-object}
use Rattle.cc_heap.proofs.object.object_in.Goals as goal

pub returns-in-Object : goal.returns-in-Object
unfolding prototype_object
returns-in-Object c =
    ap (λ (v : Value). prototype_object (Some (value_of v))) (sym c.in-Object.is) ∙ ap (λ (s : Slot). prototype_object (Some s.value)) c.slot.view_is

pub returns-in_default : goal.returns-in_default
returns-in_default c =
    sym (no-object c.slot.inside.value c.in_default.not-Object) ∙ ap (λ (s : Slot). prototype_object (Some s.value)) c.slot.view_is
