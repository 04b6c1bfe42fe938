use Rattle.std.proofs.Common.{◌≡◌, ℕ, ◌<◌, length, get_or}
use Rattle.cc_value.proofs.texts.is_equal.Given as goal

abbrev pub invariant-loop-i : goal.invariant-loop-i
invariant-loop-i l = (length l.s ≡ length l.t) × ((k : ℕ) → k < l.i → get_or l.s k 0 ≡ get_or l.t k 0)
