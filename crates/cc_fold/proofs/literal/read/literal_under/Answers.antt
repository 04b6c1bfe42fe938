use Rattle.std.proofs.Common.{sym}
use Rattle.cc_fold.proofs.Layers.{other_literal}
use Rattle.cc_fold.proofs.literal.read.literal_under.Goals as goal

pub returns-in_default : goal.returns-in_default
returns-in_default c = let n = c.in_default in sym (other_literal c.args.price c.args.e.now n.not-Undefined n.not-Null n.not-Truth n.not-Whole n.not-Text)
