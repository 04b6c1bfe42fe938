use Rattle.cc_grammar.proofs.laws.trees_are_small.Goals as goal
use Rattle.cc_grammar.proofs.Small.{small}

pub returns : goal.returns
returns c = small
