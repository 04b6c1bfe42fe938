use Rattle.cc_fold.proofs.laws.kept_scope_stays.Goals as goal
use Rattle.cc_fold.proofs.KeptScopes.{scope_kept}

pub returns : goal.returns
returns c = scope_kept
