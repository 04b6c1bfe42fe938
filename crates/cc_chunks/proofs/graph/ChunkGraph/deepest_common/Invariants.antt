use Rattle.std.proofs.Common.{◌≢◌, ◌%◌, ◌/◌}
use Rattle.cc_chunks.specs.Tables.{IsCommonWord}
use Rattle.cc_chunks.proofs.DeepestLaws.{BestBelow}
use Rattle.cc_chunks.proofs.graph.ChunkGraph.deepest_common.Given as goal

abbrev pub invariant-loop-c : goal.invariant-loop-c
invariant-loop-c l = record {
  best : BestBelow l.self.chunks l.chunks l.deepest l.c;
  word : l.c % 64 ≢ 0 → IsCommonWord l.self.chunks l.chunks (l.c / 64) l.common;
}
