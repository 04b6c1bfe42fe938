use Rattle.std.proofs.Common.{◌≡◌, map, take}
use Rattle.cc_ast.specs.Bridge.{field, term}
use Rattle.cc_tied.specs.Placed.{a_value}
use Rattle.cc_fold.specs.Built.{built_in}
use Rattle.cc_fold.specs.Walk.{fold_expr, fold_field}
use Rattle.cc_fold.proofs.expression.+expression.Given as goal

abbrev pub invariant-fold_exprs-loop-e : goal.invariant-fold_exprs-loop-e
invariant-fold_exprs-loop-e l = map term l.folded ≡ map (fold_expr (built_in l.plan) l.in_target a_value) (map term (take l.e-index l.items))

abbrev pub invariant-fold_pairs-loop-pair : goal.invariant-fold_pairs-loop-pair
invariant-fold_pairs-loop-pair l = map field l.folded ≡ map (fold_field (built_in l.plan) l.in_target) (map field (take l.pair-index l.items))
