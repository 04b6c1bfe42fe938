use Rattle.cc_fold.proofs.laws.folding_keeps.Goals as goal
use Rattle.cc_fold.proofs.FoldingKeeps.{folding_keeps}

pub returns : goal.returns
returns c = folding_keeps
