use Rattle.std.proofs.Common.{arith, ◌≡◌, Some, None}
use Rattle.std.proofs.lemmas.Grind.{common_steps}
use Rattle.cc_ast.specs.StmtBridge.{term_stmt, term_stmts}
use Rattle.cc_driver.specs.Spelling.{join, spell_statement, spell_statements}
use Rattle.cc_driver.proofs.SpellingLaws.{statements_go_on, statements_fail, statements_end}
use Rattle.cc_driver.proofs.spelling.statement.push_statements.Goals as goal

pub returns-then-not-branch : goal.returns-then-not-branch
returns-then-not-branch c =
    let failed : None ≡ join (Some c.loop-statement.pieces) (spell_statement (term_stmt c.statement-item.result)) = grind (arith, common_steps) in
    statements_fail (join (Some c.args.pieces.now) (spell_statements (term_stmts c.args.statements.now))) c.args.statements.now c.loop-statement.statement-index c.statement-item.result c.loop-statement.pieces (omega arith) c.statement-item.is c.loop-statement.invariant failed

pub loop-statement-preserved : goal.loop-statement-preserved
loop-statement-preserved c =
    let put : Some c.push_statement.new.pieces ≡ join (Some c.loop-statement.pieces) (spell_statement (term_stmt c.statement-item.result)) = grind (arith, common_steps) in
    statements_go_on (join (Some c.args.pieces.now) (spell_statements (term_stmts c.args.statements.now))) c.args.statements.now c.loop-statement.statement-index c.statement-item.result c.loop-statement.pieces (omega arith) c.statement-item.is c.loop-statement.invariant _ put

pub returns : goal.returns
returns c = statements_end (join (Some c.args.pieces.now) (spell_statements (term_stmts c.args.statements.now))) c.args.statements.now c.loop-statement.statement-index c.loop-statement.pieces (omega arith) c.loop-statement.invariant
