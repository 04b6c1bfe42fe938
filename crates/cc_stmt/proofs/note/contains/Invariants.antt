use Rattle.std.proofs.Common.{◌≡◌, length}
use Rattle.cc_stmt.specs.Notes as spec
use Rattle.cc_stmt.proofs.note.contains.Given as goal

abbrev pub invariant-loop-behind : goal.invariant-loop-behind
invariant-loop-behind l = spec.contains l.text l.rest ≡ spec.contains l.text l.units

abbrev pub decreases-loop-behind : goal.decreases-loop-behind
decreases-loop-behind l = length l.rest
