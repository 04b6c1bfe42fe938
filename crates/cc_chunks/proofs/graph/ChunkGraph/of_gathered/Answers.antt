use Rattle.std.proofs.Common.{subst, sym}
use Rattle.cc_chunks.specs.Graph.{DependsDown}
use Rattle.cc_chunks.proofs.graph.ChunkGraph.of_gathered.Goals as goal

pub with_chunks-requires : goal.with_chunks-requires
with_chunks-requires c = subst DependsDown (sym c.in_ok-chunks.ensures) c.requires
