use Rattle.std.proofs.Common.{take}
use Rattle.cc_flags.specs.Words.{settings_of}
use Rattle.cc_flags.proofs.OutputLaws.{AreWrappers}
use Rattle.cc_flags.proofs.output.chunk_wrappers.Given as goal

abbrev pub invariant-loop-item : goal.invariant-loop-item
invariant-loop-item l = AreWrappers (settings_of l.items) (settings_of (take l.item-index l.items)) l.wrappers.items
