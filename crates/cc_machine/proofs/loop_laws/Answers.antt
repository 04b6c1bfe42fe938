use Rattle.cc_machine.proofs.loop_laws.Goals as goal
use Rattle.cc_machine.proofs.Ends.{laws}
use Rattle.cc_acts.proofs.Judging.{verdicts}

pub returns-clause-loops : goal.returns-clause-loops
returns-clause-loops c = laws

pub returns-clause-verdicts : goal.returns-clause-verdicts
returns-clause-verdicts c = verdicts (Unit {0})
