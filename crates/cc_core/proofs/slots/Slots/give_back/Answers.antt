use Rattle.std.proofs.Common.{arith}
use Rattle.cc_core.specs.Events.{given_back}
use Rattle.cc_core.specs.SlotState.{is_pending_inside}
use Rattle.cc_core.proofs.SlotLemmas.{slots_of_changed}
use Rattle.cc_core.proofs.Cursor.{none_set_later, none_less}
use Rattle.cc_core.proofs.slots.Slots.give_back.Goals as goal

pub invariant_of-self : goal.invariant_of-self
invariant_of-self c = none_set_later is_pending_inside c.args.slot c.self.inside.items.items c.args.slot c.give_back_slot.new.at (omega arith) (none_less is_pending_inside c.self.inside.from c.args.slot c.self.inside.items.items (omega arith) c.self.invariant)

pub invariant_of-self-else-slot-self : goal.invariant_of-self-else-slot-self
invariant_of-self-else-slot-self c = none_set_later is_pending_inside c.self.inside.from c.self.inside.items.items c.args.slot c.give_back_slot.new.at (omega arith) c.self.invariant

pub returns-then-slot-self : goal.returns-then-slot-self
returns-then-slot-self c xs = rw (← c.self.view_is) (slots_of_changed given_back xs c.self.inside.items.items c.args.slot c.give_back_slot.new.at c.index_mut-at.result.now (rw (← c.self.view_is) at c.requires) c.index_mut-at.ensures.value c.give_back_slot.ensures)

pub returns-else-slot-self : goal.returns-else-slot-self
returns-else-slot-self c xs = rw (← c.self.view_is) (slots_of_changed given_back xs c.self.inside.items.items c.args.slot c.give_back_slot.new.at c.index_mut-at.result.now (rw (← c.self.view_is) at c.requires) c.index_mut-at.ensures.value c.give_back_slot.ensures)
