-- What was read so far stands after what the list held, and the room is what the limit leaves.
use Rattle.std.proofs.Common.{◌≡◌, ◌+◌, List, ℕ, ◌++◌, length}
use Rattle.std.specs.Io.KnownBytes.{Consumes}
use Rattle.cc_host.proofs.transfer.read_up_to.Given as goal

abbrev pub invariant-loop-room : goal.invariant-loop-room
invariant-loop-room g l = (got : List ℕ) × (l.into.items ≡ l.initial.into.items ++ got)
    × Consumes (g.R.Read.remaining l.initial.reader) (g.R.Read.remaining l.reader) got × (length got + l.room ≡ l.limit)

abbrev pub decreases-loop-room : goal.decreases-loop-room
decreases-loop-room g l = l.room
