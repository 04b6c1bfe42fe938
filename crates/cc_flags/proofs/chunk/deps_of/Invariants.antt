use Rattle.std.proofs.Common.{◌+◌, length}
use Rattle.std.specs.Option.{option_copied, option_map_or}
use Rattle.cc_flags.specs.Texts.{texts}
use Rattle.cc_flags.proofs.ChunkLaws.{NamesSoFar}
use Rattle.cc_flags.proofs.chunk.deps_of.Given as goal

abbrev pub invariant-loop-rest : goal.invariant-loop-rest
invariant-loop-rest l = NamesSoFar (option_copied l.text) (option_copied l.rest) (texts l.deps.items)

abbrev pub decreases-loop-rest : goal.decreases-loop-rest
decreases-loop-rest l = option_map_or (λ names. length names.now + 1) l.rest 0
