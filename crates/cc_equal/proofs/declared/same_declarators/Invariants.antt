use Rattle.std.proofs.Common.{◌≡◌, length, take}
use Rattle.cc_equal.proofs.declared.same_declarators.Given as goal

abbrev pub invariant-loop-e : goal.invariant-loop-e
invariant-loop-e l = (l.i ≡ l.e-index) × (length l.others ≡ length l.e-items) × (take l.e-index l.e-items ≡ take l.e-index l.others)
