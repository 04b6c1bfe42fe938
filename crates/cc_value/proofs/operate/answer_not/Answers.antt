use Rattle.std.proofs.Common.{ap}
use Rattle.cc_meaning.specs.Operators.{answer_not}
use Rattle.cc_value.proofs.operate.answer_not.Goals as goal

pub returns-in-Some : goal.returns-in-Some
unfolding answer_not
returns-in-Some c = ap answer_not c.in-Some.is

pub returns-in-None : goal.returns-in-None
unfolding answer_not
returns-in-None c = ap answer_not c.in-None.is
