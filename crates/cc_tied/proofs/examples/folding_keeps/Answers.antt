use Rattle.cc_tied.proofs.examples.folding_keeps.Goals as goal
use Rattle.cc_tied.proofs.Worked.FoldKeeps.{folding_keeps}

pub returns : goal.returns
returns c = folding_keeps
