use Rattle.cc_scope.proofs.reads_back.Goals as goal
use Rattle.cc_scope.proofs.Globals as g

pub returns : goal.returns
returns c = g.reads_back
