use Rattle.std.proofs.Common.{◌≡◌, take}
use Rattle.std.specs.Option.{option_copied}
use Rattle.cc_flags.specs.Words.{settings_of, value_of}
use Rattle.cc_flags.proofs.item.last_value.Given as goal

abbrev pub invariant-loop-item : goal.invariant-loop-item
invariant-loop-item l = option_copied l.last ≡ value_of l.flag (settings_of (take l.item-index l.items))
