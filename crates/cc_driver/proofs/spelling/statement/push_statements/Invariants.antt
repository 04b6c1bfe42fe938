use Rattle.std.proofs.Common.{◌≡◌, drop, Some}
use Rattle.cc_ast.specs.StmtBridge.{term_stmts}
use Rattle.cc_driver.specs.Spelling.{join, spell_statements}
use Rattle.cc_driver.proofs.spelling.statement.push_statements.Given as goal

abbrev pub invariant-loop-statement : goal.invariant-loop-statement
invariant-loop-statement l = join (Some l.pieces) (spell_statements (term_stmts (drop l.statement-index l.statements))) ≡ join (Some l.initial.pieces) (spell_statements (term_stmts l.statements))
