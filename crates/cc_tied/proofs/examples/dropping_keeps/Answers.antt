use Rattle.cc_tied.proofs.examples.dropping_keeps.Goals as goal
use Rattle.cc_tied.proofs.Worked.DropKeeps.{dropping_keeps}

pub returns : goal.returns
returns c = dropping_keeps
