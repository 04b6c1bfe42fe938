use Rattle.cc_scope.proofs.written_is_answered.Goals as goal
use Rattle.cc_scope.proofs.Globals as g
use Rattle.cc_scope.proofs.Answered as a

pub returns : goal.returns
returns c = λ v apart P S same count O w well. (a.is_answered v apart P S count O w well, g.reads_back v apart P S same count O w)
