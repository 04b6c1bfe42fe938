use Rattle.cc_meaning.proofs.same_is_reflexive.Goals as goal
use Rattle.cc_meaning.proofs.SameLaws.{reflexive}

pub returns : goal.returns
returns c = reflexive
