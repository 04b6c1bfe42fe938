use Rattle.std.proofs.Common.{◌≡◌, length, take}
use Rattle.cc_equal.proofs.scope.same_scopes.Given as goal

abbrev pub invariant-loop-scope : goal.invariant-loop-scope
invariant-loop-scope l = (l.i ≡ l.scope-index) × (length l.others ≡ length l.scope-items) × (take l.scope-index l.scope-items ≡ take l.scope-index l.others)
