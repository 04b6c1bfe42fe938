use Rattle.std.proofs.Common.{position, sym, ap, ◌∙◌}
use Rattle.cc_core.specs.Events.{at_found, one_more}
use Rattle.cc_core.specs.SlotState.{slots_of, is_pending_inside, is_claimed_inside}
use Rattle.cc_core.proofs.SlotLemmas.{slots_of_found, found_here, found_claimed, position_within, get_here}
use Rattle.cc_core.proofs.Cursor.{none_set}
use Rattle.cc_core.proofs.slots.Slots.repeat.Goals as goal

pub returns-in-None-clause-found : goal.returns-in-None-clause-found
returns-in-None-clause-found c xs = rw (← c.self.view_is) (found_claimed xs c.self.inside.items.items ∙ sym (c.in-None.ensures ∙ ap (position is_claimed_inside) c.deref.ensures.value))

pub returns-in-None-clause-slots : goal.returns-in-None-clause-slots
returns-in-None-clause-slots c xs =
    let none = found_claimed xs c.self.inside.items.items ∙ sym (c.in-None.ensures ∙ ap (position is_claimed_inside) c.deref.ensures.value) in
    rw (← c.self.view_is) (sym (ap (λ o. at_found one_more o (slots_of xs c.self.inside.items.items)) none))

pub repeat_slot-requires-clause-claimed : goal.repeat_slot-requires-clause-claimed
repeat_slot-requires-clause-claimed c =
    let at = sym (c.in-Some.ensures ∙ ap (position is_claimed_inside) c.deref.ensures.value) in
    found_here is_claimed_inside c.self.inside.items.items c.in-Some.slot c.index_mut-at.result.now at c.index_mut-at.ensures.value

pub repeat_slot-requires-clause-room : goal.repeat_slot-requires-clause-room
repeat_slot-requires-clause-room c =
    let at = sym (c.in-Some.ensures ∙ ap (position is_claimed_inside) c.deref.ensures.value) in
    let room = rw (← c.self.view_is) at c.requires.room in
    room c.in-Some.slot c.index_mut-at.result.now at (get_here c.self.inside.items.items c.in-Some.slot c.index_mut-at.result.now (position_within is_claimed_inside c.self.inside.items.items c.in-Some.slot at) c.index_mut-at.ensures.value)

pub invariant_of-self : goal.invariant_of-self
invariant_of-self c = none_set is_pending_inside c.self.inside.from c.self.inside.items.items c.in-Some.slot c.repeat_slot.new.at c.repeat_slot.ensures.taken c.self.invariant

pub returns-in-Some-clause-found : goal.returns-in-Some-clause-found
returns-in-Some-clause-found c xs = rw (← c.self.view_is) (found_claimed xs c.self.inside.items.items ∙ sym (c.in-Some.ensures ∙ ap (position is_claimed_inside) c.deref.ensures.value))

pub returns-in-Some-clause-slots : goal.returns-in-Some-clause-slots
returns-in-Some-clause-slots c xs =
    let at = sym (c.in-Some.ensures ∙ ap (position is_claimed_inside) c.deref.ensures.value) in
    rw (← c.self.view_is) (slots_of_found one_more _ xs c.self.inside.items.items c.in-Some.slot c.repeat_slot.new.at c.index_mut-at.result.now (found_claimed xs c.self.inside.items.items ∙ at)
    (position_within is_claimed_inside c.self.inside.items.items c.in-Some.slot at) c.index_mut-at.ensures.value c.repeat_slot.ensures.slot)
