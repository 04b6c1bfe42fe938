use Rattle.std.proofs.Common.{sym}
use Rattle.cc_trees.proofs.TargetLemmas.{no_variable}
use Rattle.cc_trees.proofs.targets.+is_variable.Goals as goal

pub returns-in_default : goal.returns-in_default
returns-in_default t c = let n = c.in_default in sym (no_variable c.args.e.now n.not-Var n.not-Cast)
