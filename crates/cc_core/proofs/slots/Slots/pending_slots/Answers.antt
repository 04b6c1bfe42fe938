use Rattle.cc_core.proofs.SlotLemmas.{places_pending}
use Rattle.cc_core.proofs.slots.Slots.pending_slots.Goals as goal

pub returns : goal.returns
returns c xs = rw (← c.self.view_is, places_pending xs c.self.inside.items.items, ← c.deref.ensures.value) c.pending_of.ensures
