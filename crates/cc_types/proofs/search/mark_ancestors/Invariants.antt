use Rattle.std.proofs.Common.{◌≡◌, ◌≤◌, ◌<◌, length, sum_by}
use Rattle.cc_types.specs.declared.search.Mark.TheVariants.{Open}
use Rattle.cc_types.specs.Marks.{mark_at, NoneOpenBelow}
use Rattle.cc_types.proofs.Marking.{IsWalk, left_of}
use Rattle.cc_types.proofs.search.mark_ancestors.Given as goal

abbrev pub invariant-loop-at : goal.invariant-loop-at
invariant-loop-at l =
    IsWalk l.classes l.fn.class l.marks × (l.at ≤ length l.marks) × (l.at < length l.marks → mark_at l.marks l.at ≡ Open)
    × NoneOpenBelow l.at l.marks × (l.fn.class < length l.classes)

abbrev pub decreases-loop-at : goal.decreases-loop-at
decreases-loop-at l = sum_by left_of l.marks
