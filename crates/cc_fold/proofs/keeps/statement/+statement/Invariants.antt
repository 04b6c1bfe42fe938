use Rattle.std.proofs.Common.{◌≡◌, drop}
use Rattle.cc_ast.specs.StmtBridge.{term_cases, term_stmts}
use Rattle.cc_fold.specs.Keeps.{keeps_cases, keeps_stmts}
use Rattle.cc_fold.proofs.keeps.statement.+statement.Given as goal

abbrev pub invariant-keeps_stmts-loop-s : goal.invariant-keeps_stmts-loop-s
invariant-keeps_stmts-loop-s l = keeps_stmts (term_stmts (drop l.s-index l.s-items)) ≡ keeps_stmts (term_stmts l.s-items)

abbrev pub invariant-keeps_cases-loop-case : goal.invariant-keeps_cases-loop-case
invariant-keeps_cases-loop-case l = keeps_cases (term_cases (drop l.case-index l.case-items)) ≡ keeps_cases (term_cases l.case-items)
