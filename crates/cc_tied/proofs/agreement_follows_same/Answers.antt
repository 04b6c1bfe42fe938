use Rattle.cc_tied.proofs.agreement_follows_same.Goals as goal
use Rattle.cc_tied.proofs.Equality.Erase.{agreement_follows_same}

pub returns : goal.returns
returns c = agreement_follows_same
