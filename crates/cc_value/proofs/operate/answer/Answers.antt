use Rattle.std.proofs.Common.{ap}
use Rattle.cc_meaning.specs.Operators.{answer_of}
use Rattle.cc_value.proofs.operate.answer.Goals as goal

pub returns-in-Some : goal.returns-in-Some
unfolding answer_of
returns-in-Some c = ap answer_of c.in-Some.is

pub returns-in-None : goal.returns-in-None
unfolding answer_of
returns-in-None c = ap answer_of c.in-None.is
