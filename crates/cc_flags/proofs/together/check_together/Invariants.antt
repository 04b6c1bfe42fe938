use Rattle.cc_flags.specs.Words.{settings_of}
use Rattle.cc_flags.proofs.TogetherLaws.{MetSoFar}
use Rattle.cc_flags.proofs.together.check_together.Given as goal

abbrev pub invariant-loop-item : goal.invariant-loop-item
invariant-loop-item l = MetSoFar (settings_of l.items) l.item-index l.met
