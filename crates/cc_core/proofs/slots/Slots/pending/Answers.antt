use Rattle.std.proofs.Common.{length, sym, ap, ◌∙◌}
use Rattle.cc_core.specs.State.{places}
use Rattle.cc_core.specs.SlotState.{is_pending_inside}
use Rattle.cc_core.proofs.SlotLemmas.{places_pending}
use Rattle.cc_core.proofs.slots.Slots.pending.Goals as goal

pub returns : goal.returns
returns c xs = rw (← c.self.view_is) (c.pending_count.ensures ∙ (ap (λ ss. length (places is_pending_inside 0 ss)) c.deref.ensures.value ∙ ap length (sym (places_pending xs c.self.inside.items.items))))
