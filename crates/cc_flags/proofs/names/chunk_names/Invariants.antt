use Rattle.std.proofs.Common.{take}
use Rattle.cc_flags.specs.Words.{settings_of, chunk_names}
use Rattle.cc_flags.specs.Forming.{HaveSame, names_in}
use Rattle.cc_flags.proofs.names.chunk_names.Given as goal

abbrev pub invariant-loop-item : goal.invariant-loop-item
invariant-loop-item l = HaveSame (names_in l.names) (chunk_names (settings_of (take l.item-index l.items)))
