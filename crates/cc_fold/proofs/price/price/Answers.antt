use Rattle.std.proofs.Common.{sym}
use Rattle.cc_fold.proofs.Layers.{other_price}
use Rattle.cc_fold.proofs.price.price.Goals as goal

pub returns-in_default : goal.returns-in_default
returns-in_default c = sym (other_price c.args.e.now c.in_default.not-Tick)
