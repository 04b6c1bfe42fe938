use Rattle.cc_core.specs.Events.{entered}
use Rattle.cc_core.specs.SlotState.{is_pending_inside}
use Rattle.cc_core.proofs.SlotLemmas.{slots_of_changed, get_here}
use Rattle.cc_core.proofs.Cursor.{none_set}
use Rattle.cc_core.proofs.slots.Slots.enter.Goals as goal

pub enter_slot-requires : goal.enter_slot-requires
enter_slot-requires c =
    let room = rw (← c.self.view_is) at c.requires.room in
    room _ (get_here c.self.inside.items.items c.args.slot c.index_mut-at.result.now (rw (← c.self.view_is) at c.requires.slot) c.index_mut-at.ensures.value)

pub invariant_of-self : goal.invariant_of-self
invariant_of-self c = none_set is_pending_inside c.self.inside.from c.self.inside.items.items c.args.slot c.enter_slot.new.at c.enter_slot.ensures.taken c.self.invariant

pub returns : goal.returns
returns c xs = rw (← c.self.view_is) (slots_of_changed entered xs c.self.inside.items.items c.args.slot c.enter_slot.new.at c.index_mut-at.result.now (rw (← c.self.view_is) at c.requires.slot) c.index_mut-at.ensures.value c.enter_slot.ensures.slot)
