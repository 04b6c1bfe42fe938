use Rattle.std.proofs.Common.{subst, sym, ◌∙◌}
use Rattle.cc_chunks.specs.Graph.{DependsDown}
use Rattle.driver_cases.proofs.chunks.graph_again.Goals as goal

pub from_program-requires : goal.from_program-requires
from_program-requires c = subst DependsDown (sym (c.in_ok-program.ensures ∙ c.chunks.ensures.chunks)) c.chunks.ensures.down
