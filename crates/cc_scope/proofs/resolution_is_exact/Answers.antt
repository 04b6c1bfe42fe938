use Rattle.cc_scope.proofs.resolution_is_exact.Goals as goal
use Rattle.cc_scope.proofs.Counts as k
use Rattle.cc_scope.proofs.Parents as p
use Rattle.cc_scope.proofs.Limits as l

pub returns-clause-of_refusals : goal.returns-clause-of_refusals
returns-clause-of_refusals c = k.exact

pub returns-clause-of_counts : goal.returns-clause-of_counts
returns-clause-of_counts c = λ S. (k.scopes_counted S, k.places_counted S)

pub returns-clause-of_parents : goal.returns-clause-of_parents
returns-clause-of_parents c = p.no_loop

pub returns-clause-of_limits : goal.returns-clause-of_limits
returns-clause-of_limits c = l.limited
