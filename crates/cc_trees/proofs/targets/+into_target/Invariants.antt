use Rattle.cc_raw.specs.Bridge.{raw_expr}
use Rattle.cc_trees.proofs.TargetLemmas.{casts}
use Rattle.cc_trees.proofs.targets.+into_target.Given as goal

abbrev pub decreases-into_target : goal.decreases-into_target
decreases-into_target l = casts (raw_expr l.e)
