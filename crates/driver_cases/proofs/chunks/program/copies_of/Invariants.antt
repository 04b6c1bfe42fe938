use Rattle.std.proofs.Common.{◌≡◌, take}
use Rattle.driver_cases.proofs.chunks.program.copies_of.Given as goal

abbrev pub invariant-loop-chunk : goal.invariant-loop-chunk
invariant-loop-chunk l = l.copies ≡ take l.chunk-index l.chunks
