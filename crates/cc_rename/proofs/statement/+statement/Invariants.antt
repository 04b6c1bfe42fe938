use Rattle.std.proofs.Common.{◌≡◌, ◌++◌, take}
use Rattle.cc_ast.specs.StmtBridge.{term_stmts, term_cases}
use Rattle.cc_rename.specs.Steps.{met_stmts, met_cases}
use Rattle.cc_rename.proofs.statement.+statement.Given as goal

abbrev pub invariant-meet_stmts-loop-s : goal.invariant-meet_stmts-loop-s
invariant-meet_stmts-loop-s l = l.met ≡ l.initial.met ++ met_stmts l.catches (term_stmts (take l.s-index l.s-items))

abbrev pub invariant-meet_cases-loop-case : goal.invariant-meet_cases-loop-case
invariant-meet_cases-loop-case l = l.met ≡ l.initial.met ++ met_cases l.catches (term_cases (take l.case-index l.case-items))
