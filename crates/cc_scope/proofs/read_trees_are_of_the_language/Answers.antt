use Rattle.cc_scope.proofs.read_trees_are_of_the_language.Goals as goal
use Rattle.cc_scope.proofs.Given as d

pub returns : goal.returns
returns c = d.of_reading
