use Rattle.cc_grammar.proofs.laws.derived_lists_have_no_fault.Goals as goal
use Rattle.cc_grammar.proofs.Refusing.NoFaults.{no_fault}

pub returns : goal.returns
returns c = no_fault
