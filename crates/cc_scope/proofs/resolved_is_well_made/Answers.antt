use Rattle.cc_scope.proofs.resolved_is_well_made.Goals as goal
use Rattle.cc_scope.proofs.Made as m

pub returns : goal.returns
returns c = m.answered_made
