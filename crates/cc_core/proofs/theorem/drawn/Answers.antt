use Rattle.cc_core.proofs.Draws.{draws}
use Rattle.cc_core.proofs.theorem.drawn.Goals as goal

pub returns : goal.returns
returns g c = λ s k slot at. draws s k slot at
