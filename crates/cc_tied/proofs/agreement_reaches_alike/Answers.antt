use Rattle.cc_tied.proofs.agreement_reaches_alike.Goals as goal
use Rattle.cc_tied.proofs.Alike.Ends.{agreement_reaches_alike}

pub returns : goal.returns
returns c = agreement_reaches_alike
