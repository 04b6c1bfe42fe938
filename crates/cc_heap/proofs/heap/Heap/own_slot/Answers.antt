use Rattle.std.proofs.Common.{◌∙◌, ap, sym, List, slice_get}
use Rattle.std.specs.Option.{option_map, option_copied}
use Rattle.cc_meaning.specs.State.{Slot}
use Rattle.cc_meaning.specs.Store.{slots_in, find_slot}
use Rattle.cc_heap.specs.Store.{slot_named}
use Rattle.cc_heap.proofs.SlotLaws.{find_named, value-copied}
use Rattle.cc_heap.proofs.heap.Heap.own_slot.Goals as goal

pub returns-in-Some-clause-slot : goal.returns-in-Some-clause-slot
unfolding slots_in
returns-in-Some-clause-slot c =
    c.get.ensures ∙ ap (slot_named c.slots.result.now) (c.as_slice.ensures.value ∙ c.name.view_is) ∙ ap (λ (xs : List Slot). slot_named xs c.args.name.now) (c.slots.ensures ∙ sym (ap slots_in (sym c.object.ensures ∙ ap option_copied c.in-Some.is)))

pub returns-in-Some-clause-value : goal.returns-in-Some-clause-value
returns-in-Some-clause-value c =
    value-copied c.get.result
    ∙ ap (option_map (λ (s : Slot). s.value)) (returns-in-Some-clause-slot c)
    ∙ find_named (slots_in (slice_get c.args.self.now.objs c.args.object)) c.args.name.now

pub returns-in-None-clause-slot : goal.returns-in-None-clause-slot
unfolding slots_in
returns-in-None-clause-slot c = ap (λ (xs : List Slot). slot_named xs c.args.name.now) (sym (ap slots_in (sym c.object.ensures ∙ ap option_copied c.in-None.is)))

pub returns-in-None-clause-value : goal.returns-in-None-clause-value
unfolding slots_in find_slot
returns-in-None-clause-value c = ap (λ (xs : List Slot). find_slot xs c.args.name.now) (sym (ap slots_in (sym c.object.ensures ∙ ap option_copied c.in-None.is)))
