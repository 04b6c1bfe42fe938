use Rattle.std.proofs.Common.{◌≡◌, length}
use Rattle.cc_clear.specs.Clear.{NoDocs}
use Rattle.core_bench.proofs.scopes.Given as goal

abbrev pub invariant-loop-at : goal.invariant-loop-at
invariant-loop-at l = NoDocs l.made × (length l.made ≡ l._at)
