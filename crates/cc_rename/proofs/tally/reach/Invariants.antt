use Rattle.std.proofs.Common.{◌≡◌, ℕ, ◌≤◌, ◌-◌, max, get_or, length}
use Rattle.cc_rename.proofs.tally.reach.Given as goal

abbrev pub invariant-loop-counts : goal.invariant-loop-counts
invariant-loop-counts l = ((k : ℕ) → get_or l.counts.items k 0 ≡ get_or l.initial.counts.items k 0) × (length l.initial.counts.items ≤ length l.counts.items) × (length l.counts.items ≤ max (length l.initial.counts.items) l.n)

abbrev pub decreases-loop-counts : goal.decreases-loop-counts
decreases-loop-counts l = l.n - length l.counts.items
