use Rattle.cc_core.specs.Events.{put_in}
use Rattle.cc_core.specs.SlotState.{is_pending_inside}
use Rattle.cc_core.proofs.SlotLemmas.{slots_of_changed, is_done_of}
use Rattle.cc_core.proofs.Cursor.{none_set}
use Rattle.cc_core.proofs.slots.Slots.hold.Goals as goal

pub invariant_of-self : goal.invariant_of-self
invariant_of-self c = none_set is_pending_inside c.self.inside.from c.self.inside.items.items c.args.slot c.hold_slot.new.at c.hold_slot.ensures.taken c.self.invariant

pub returns-clause-put : goal.returns-clause-put
returns-clause-put c xs = rw (← c.self.view_is) (slots_of_changed (put_in c.args.scope) xs c.self.inside.items.items c.args.slot c.hold_slot.new.at c.index_mut-at.result.now (rw (← c.self.view_is) at c.requires) c.index_mut-at.ensures.value c.hold_slot.ensures.put)

pub returns-clause-done : goal.returns-clause-done
returns-clause-done c xs = rw (← c.self.view_is) (is_done_of _ xs c.self.inside.items.items c.args.slot c.index_mut-at.result.now (rw (← c.self.view_is) at c.requires) c.index_mut-at.ensures.value c.hold_slot.ensures.done)
