use Rattle.cc_tied.proofs.alike_runs.Goals as goal
use Rattle.cc_tied.proofs.Alike.Ends.{alike_runs}

pub returns : goal.returns
returns c = alike_runs
