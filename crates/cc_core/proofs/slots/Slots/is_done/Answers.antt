use Rattle.cc_core.proofs.SlotLemmas.{is_done_of}
use Rattle.cc_core.proofs.slots.Slots.is_done.Goals as goal

pub returns : goal.returns
returns c xs = rw (← c.self.view_is) (is_done_of _ xs c.self.inside.items.items c.args.slot c.index.result.now (rw (← c.self.view_is) at c.requires) c.index.ensures c.has_scope.ensures)
