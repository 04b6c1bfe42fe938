use Rattle.cc_flags.specs.Words.{settings_of}
use Rattle.cc_flags.proofs.LimitLaws.{LimitsSoFar}
use Rattle.cc_flags.proofs.limit.check_limits.Given as goal

abbrev pub invariant-loop-item : goal.invariant-loop-item
invariant-loop-item l = LimitsSoFar (settings_of l.items) l.item-index l.files l.chunks
