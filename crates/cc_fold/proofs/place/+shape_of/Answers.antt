use Rattle.std.proofs.Common.{sym}
use Rattle.cc_fold.proofs.Layers.{other_shape}
use Rattle.cc_fold.proofs.place.+shape_of.Goals as goal

pub returns-in_default : goal.returns-in_default
returns-in_default t c = let n = c.in_default in sym (other_shape c.args.e.now n.not-Var n.not-Fun n.not-Member n.not-Index n.not-Cast n.not-Tick)
