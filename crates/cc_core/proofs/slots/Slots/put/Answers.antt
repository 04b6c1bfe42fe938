use Rattle.cc_core.specs.Events.{put_in}
use Rattle.cc_core.specs.SlotState.{is_pending_inside}
use Rattle.cc_core.proofs.SlotLemmas.{slots_of_changed, slots_of_put, is_done_of}
use Rattle.cc_core.proofs.Cursor.{none_set}
use Rattle.cc_core.proofs.slots.Slots.put.Goals as goal

pub invariant_of-self : goal.invariant_of-self
invariant_of-self c = none_set is_pending_inside c.self.inside.from c.self.inside.items.items c.args.slot c.put_slot.new.at c.put_slot.ensures.taken c.self.invariant

pub returns-clause-put : goal.returns-clause-put
returns-clause-put c new xs y lt = rw (← c.self.view_is) (slots_of_put y xs c.self.inside.items.items c.args.slot c.put_slot.new.at c.index_mut-at.result.now (rw (← c.self.view_is) at c.requires) c.index_mut-at.ensures.value lt (λ x. c.put_slot.ensures.put new x y))

pub returns-clause-same : goal.returns-clause-same
returns-clause-same c old xs y = rw (← c.self.view_is) (slots_of_changed (put_in y) xs c.self.inside.items.items c.args.slot c.put_slot.new.at c.index_mut-at.result.now (rw (← c.self.view_is) at c.requires) c.index_mut-at.ensures.value (λ x. c.put_slot.ensures.same old x y))

pub returns-clause-done : goal.returns-clause-done
returns-clause-done c xs = rw (← c.self.view_is) (is_done_of _ xs c.self.inside.items.items c.args.slot c.index_mut-at.result.now (rw (← c.self.view_is) at c.requires) c.index_mut-at.ensures.value c.put_slot.ensures.done)
