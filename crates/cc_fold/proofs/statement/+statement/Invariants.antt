use Rattle.std.proofs.Common.{◌≡◌, map, take}
use Rattle.cc_ast.specs.StmtBridge.{term_case, term_stmt}
use Rattle.cc_fold.specs.Built.{built_in}
use Rattle.cc_fold.specs.Walk.{fold_case, fold_stmt}
use Rattle.cc_fold.proofs.statement.+statement.Given as goal

abbrev pub invariant-fold_stmts-loop-s : goal.invariant-fold_stmts-loop-s
invariant-fold_stmts-loop-s l = map term_stmt l.folded ≡ map (fold_stmt (built_in l.plan)) (map term_stmt (take l.s-index l.items))

abbrev pub invariant-fold_cases-loop-case : goal.invariant-fold_cases-loop-case
invariant-fold_cases-loop-case l = map term_case l.folded ≡ map (fold_case (built_in l.plan)) (map term_case (take l.case-index l.items))
