use Rattle.cc_grammar.proofs.laws.one_tree.Goals as goal
use Rattle.cc_grammar.proofs.OneReading.{one}

pub returns : goal.returns
returns c = one
