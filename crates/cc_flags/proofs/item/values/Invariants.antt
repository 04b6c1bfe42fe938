use Rattle.std.proofs.Common.{◌≡◌, take}
use Rattle.cc_flags.specs.Texts.{texts}
use Rattle.cc_flags.specs.Words.{settings_of, values_of}
use Rattle.cc_flags.proofs.item.values.Given as goal

abbrev pub invariant-loop-item : goal.invariant-loop-item
invariant-loop-item l = texts l.values.items ≡ values_of l.flag (settings_of (take l.item-index l.items))
