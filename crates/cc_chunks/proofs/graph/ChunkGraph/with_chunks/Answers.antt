use Rattle.std.proofs.Common.{subst, sym, ◌∙◌}
use Rattle.cc_chunks.specs.Graph.{DependsDown}
use Rattle.cc_chunks.proofs.graph.ChunkGraph.with_chunks.Goals as goal

pub table_of-requires : goal.table_of-requires
table_of-requires c = subst DependsDown (sym (c.as_slice.ensures ∙ c.get.ensures)) c.requires
