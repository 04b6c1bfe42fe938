use Rattle.std.proofs.Common.{length, ap, ◌∙◌}
use Rattle.cc_core.specs.State.{places}
use Rattle.cc_core.specs.SlotState.{is_open_inside}
use Rattle.cc_core.proofs.LaidLemmas.{undone_is}
use Rattle.cc_core.proofs.slots.Slots.undone.Goals as goal

pub returns : goal.returns
returns c xs = rw (← c.self.view_is) (c.undone_of.ensures ∙ (ap (λ ss. length (places is_open_inside 0 ss)) c.deref.ensures.value ∙ undone_is xs c.self.inside.items.items))
