use Rattle.cc_tied.proofs.examples.inlining_keeps.Goals as goal
use Rattle.cc_tied.proofs.Worked.InlineKeeps.{inlining_keeps}

pub returns : goal.returns
returns c = inlining_keeps
