use Rattle.cc_rename.specs.Counting.{Took}
use Rattle.cc_rename.specs.Uses.{slot_uses}
use Rattle.cc_rename.proofs.mention.count_params.Given as goal

abbrev pub invariant-loop-k : goal.invariant-loop-k
invariant-loop-k l = Took l.initial.tally.globals.items l.initial.tally.slots.items l.tally.globals.items l.tally.slots.items (slot_uses l.from l.k)
