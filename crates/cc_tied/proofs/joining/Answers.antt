use Rattle.cc_tied.proofs.joining.Goals as goal
use Rattle.cc_tied.proofs.Alike.Ends.{joining}

pub returns : goal.returns
returns c = joining
