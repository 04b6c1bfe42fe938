use Rattle.cc_flags.specs.Words.{settings_of}
use Rattle.cc_flags.proofs.FormFaults.{SoundSoFar}
use Rattle.cc_flags.proofs.check.read_items.Given as goal

abbrev pub invariant-loop-item : goal.invariant-loop-item
invariant-loop-item l = SoundSoFar (settings_of l.items) l.item-index l.given
