use Rattle.std.proofs.Common.{slice_get, sym, ap, ◌∙◌}
use Rattle.cc_core.specs.State.{places}
use Rattle.cc_core.specs.SlotState.{is_pending_inside}
use Rattle.cc_core.proofs.SlotLemmas.{places_pending}
use Rattle.cc_core.proofs.slots.Slots.pending_slot.Goals as goal

pub returns : goal.returns
returns c xs = rw (← c.self.view_is) (ap (λ ks. slice_get ks c.args.k) (places_pending xs c.self.inside.items.items) ∙ (ap (λ ss. slice_get (places is_pending_inside 0 ss) c.args.k) (sym c.deref.ensures.value) ∙ c.pending_at.ensures))
