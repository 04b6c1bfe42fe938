use Rattle.std.proofs.Common.{◌-◌, length}
use Rattle.cc_flags.specs.Texts.{texts}
use Rattle.cc_flags.specs.Words.{settings_of}
use Rattle.cc_flags.proofs.CutLaws.{CutSoFar}
use Rattle.cc_flags.proofs.cut.cut_words.Given as goal

abbrev pub invariant-loop-at : goal.invariant-loop-at
invariant-loop-at l = CutSoFar l.call (texts l.words) l.at (settings_of l.items.items)

abbrev pub decreases-loop-at : goal.decreases-loop-at
decreases-loop-at l = length l.words - l.at
