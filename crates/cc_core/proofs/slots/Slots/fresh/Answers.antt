use Rattle.std.proofs.Common.{rules}
use Rattle.cc_core.proofs.LaidLemmas.{fresh_of}
use Rattle.cc_core.proofs.slots.Slots.fresh.Goals as goal

pub returns : goal.returns
returns c xs len = fresh_of xs c.loop-i.items.items c.loop-i.invariant.0 (search rules)
