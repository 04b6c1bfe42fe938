use Rattle.std.proofs.Common.{sym, ap, is_some}
use Rattle.cc_trees.proofs.TargetLemmas.{no_target}
use Rattle.cc_trees.proofs.targets.+is_target.Goals as goal

pub returns-in_default : goal.returns-in_default
returns-in_default t c = let n = c.in_default in sym (ap is_some (no_target c.args.e.now n.not-Var n.not-Member n.not-Index n.not-Cast))
