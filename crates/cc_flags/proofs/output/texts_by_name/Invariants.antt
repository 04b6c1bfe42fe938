use Rattle.std.proofs.Common.{take}
use Rattle.cc_flags.specs.Words.{settings_of}
use Rattle.cc_flags.specs.Wrapping.{text_in}
use Rattle.cc_flags.proofs.OutputLaws.{HasLast}
use Rattle.cc_flags.proofs.output.texts_by_name.Given as goal

abbrev pub invariant-loop-item : goal.invariant-loop-item
invariant-loop-item l = HasLast (text_in l.texts) (settings_of (take l.item-index l.items))
