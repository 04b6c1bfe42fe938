use Rattle.core_cases.proofs.Lists.{none_more, one_longer}
use Rattle.core_cases.proofs.made.scopes.Goals as goal

pub loop-at-preserved : goal.loop-at-preserved
loop-at-preserved c = rw c.in_ok-push.ensures.ok (none_more c.loop-at.made c.in_ok-an_empty_scope.field-0 c.loop-at.invariant.0 c.in_ok-an_empty_scope.ensures, one_longer c.loop-at.made c.in_ok-an_empty_scope.field-0 c.loop-at._at c.loop-at.invariant.1)
