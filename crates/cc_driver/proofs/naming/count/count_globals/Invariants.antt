use Rattle.std.proofs.Common.{◌≡◌, ℕ, ◌<◌, vec_len, slice_index, take}
use Rattle.cc_driver.specs.Naming.{occurrences}
use Rattle.cc_driver.proofs.naming.count.count_globals.Given as goal

abbrev pub invariant-loop-piece : goal.invariant-loop-piece
invariant-loop-piece l =
    (vec_len l.counts ≡ l.n) × ((g : ℕ) → g < l.n → slice_index l.counts.items g ≡ occurrences (take l.piece-index l.pieces) g)
