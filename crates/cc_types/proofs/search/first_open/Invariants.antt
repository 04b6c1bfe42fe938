use Rattle.std.proofs.Common.{length, ◌-◌, ◌≤◌}
use Rattle.cc_types.specs.Marks.{NoneOpenBelow}
use Rattle.cc_types.proofs.search.first_open.Given as goal

abbrev pub invariant-loop-at : goal.invariant-loop-at
invariant-loop-at l = (l.at ≤ length l.marks) × (NoneOpenBelow l.fn.from l.marks → NoneOpenBelow l.at l.marks)

abbrev pub decreases-loop-at : goal.decreases-loop-at
decreases-loop-at l = length l.marks - l.at
