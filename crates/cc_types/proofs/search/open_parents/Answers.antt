use Rattle.std.proofs.Common.{refl}
use Rattle.cc_types.specs.Types.{parents_of}
use Rattle.cc_types.proofs.search.open_parents.Goals as goal
use Rattle.cc_types.proofs.search.open_parents.Goals.{in-Some, in_default}

pub returns-clause-marks : goal.returns-clause-marks
unfolding parents_of
returns-clause-marks c =
    elim c.match-class.branch [
      | in-Some w ↦ rw (c.open_each.ensures.marks, c.as_slice.ensures, w.marks-is, w.open_class-low.ensures.marks, w.in-Some.is) refl
      | in_default w ↦ rw (c.open_each.ensures.marks, c.as_slice.ensures, w.marks-is, w.in_default.is) refl
    ]
