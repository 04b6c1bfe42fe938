use Rattle.std.proofs.Common.{sym, ap}
use Rattle.std.specs.Option.{option_map}
use Rattle.cc_fold.specs.Literals.{tested}
use Rattle.cc_fold.proofs.Layers.{other_literal}
use Rattle.cc_fold.proofs.choice.test_under.Goals as goal

pub returns-in_default : goal.returns-in_default
returns-in_default c = let n = c.in_default in sym (ap (option_map tested) (other_literal c.args.price c.args.e.now n.not-Undefined n.not-Null n.not-Truth n.not-Whole n.not-Text))
