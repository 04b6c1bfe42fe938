use Rattle.std.proofs.Common.{◌≡◌, drop}
use Rattle.cc_ast.specs.Bridge.{term_fields, terms}
use Rattle.cc_fold.specs.Keeps.{keeps_all, keeps_fields}
use Rattle.cc_fold.proofs.keeps.expression.+expression.Given as goal

abbrev pub invariant-keeps_exprs-loop-e : goal.invariant-keeps_exprs-loop-e
invariant-keeps_exprs-loop-e l = keeps_all (terms (drop l.e-index l.e-items)) ≡ keeps_all (terms l.e-items)

abbrev pub invariant-keeps_pairs-loop-pair : goal.invariant-keeps_pairs-loop-pair
invariant-keeps_pairs-loop-pair l = keeps_fields (term_fields (drop l.pair-index l.pair-items)) ≡ keeps_fields (term_fields l.pair-items)
