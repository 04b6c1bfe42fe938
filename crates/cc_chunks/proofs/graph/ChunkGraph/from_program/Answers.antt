use Rattle.std.proofs.Common.{subst, sym, ap, ◌∙◌}
use Rattle.cc_chunks.specs.Graph.{DependsDown}
use Rattle.cc_chunks.proofs.graph.ChunkGraph.from_program.Goals as goal

pub with_chunks-requires : goal.with_chunks-requires
with_chunks-requires c = subst DependsDown (sym (c.in_ok-chunks.ensures ∙ ap (λ p. p.chunks) c.program.view_is)) c.requires
