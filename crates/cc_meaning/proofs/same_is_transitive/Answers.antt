use Rattle.cc_meaning.proofs.same_is_transitive.Goals as goal
use Rattle.cc_meaning.proofs.SameLaws.{transitive}

pub returns : goal.returns
returns c = transitive
