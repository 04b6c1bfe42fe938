use Rattle.cc_scope.proofs.the_last_comment_counts.Goals as goal
use Rattle.cc_scope.proofs.Annotations as a

pub returns-clause-of_places : goal.returns-clause-of_places
returns-clause-of_places c = a.last_counts

pub returns-clause-of_variables : goal.returns-clause-of_variables
returns-clause-of_variables c = a.last_declaration

pub returns-clause-of_declarations : goal.returns-clause-of_declarations
returns-clause-of_declarations c = a.are_declared
