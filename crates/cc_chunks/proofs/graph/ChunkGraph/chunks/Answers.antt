use Rattle.std.proofs.Common.{subst, ap}
use Rattle.cc_chunks.specs.Graph.{DependsDown}
use Rattle.cc_chunks.proofs.graph.ChunkGraph.chunks.Goals as goal

pub returns-clause-down : goal.returns-clause-down
returns-clause-down c = subst DependsDown (ap (λ g. g.chunks) c.self.view_is) c.self.invariant.down
