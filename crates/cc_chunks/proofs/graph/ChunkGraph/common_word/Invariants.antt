use Rattle.std.proofs.Common.{take}
use Rattle.cc_chunks.specs.Tables.{IsCommonWord}
use Rattle.cc_chunks.proofs.graph.ChunkGraph.common_word.Given as goal

abbrev pub invariant-loop-k : goal.invariant-loop-k
invariant-loop-k l = IsCommonWord l.self.chunks (take l.k-index l.chunks) l.at l.common
