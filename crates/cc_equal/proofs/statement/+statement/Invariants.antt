use Rattle.std.proofs.Common.{◌≡◌, length, take}
use Rattle.cc_equal.proofs.statement.+statement.Given as goal

abbrev pub invariant-same_stmts-loop-e : goal.invariant-same_stmts-loop-e
invariant-same_stmts-loop-e l = (l.i ≡ l.e-index) × (length l.others ≡ length l.e-items) × (take l.e-index l.e-items ≡ take l.e-index l.others)

abbrev pub invariant-same_cases-loop-e : goal.invariant-same_cases-loop-e
invariant-same_cases-loop-e l = (l.i ≡ l.e-index) × (length l.others ≡ length l.e-items) × (take l.e-index l.e-items ≡ take l.e-index l.others)
