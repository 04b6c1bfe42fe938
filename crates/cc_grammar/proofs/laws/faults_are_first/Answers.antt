use Rattle.cc_grammar.proofs.laws.faults_are_first.Goals as goal
use Rattle.cc_grammar.proofs.Refusing.FirstFaults.{first_fault}

pub returns : goal.returns
returns c = first_fault
