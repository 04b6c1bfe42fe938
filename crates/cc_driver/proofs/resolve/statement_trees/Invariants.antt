use Rattle.std.proofs.Common.{◌≡◌, map, take}
use Rattle.cc_ast.specs.StmtBridge.{term_stmt}
use Rattle.cc_driver.specs.Source.{statement_tree}
use Rattle.cc_driver.specs.FormChecks.{names_in}
use Rattle.cc_driver.proofs.resolve.statement_trees.Given as goal

abbrev pub invariant-loop-statement : goal.invariant-loop-statement
invariant-loop-statement l = map term_stmt l.trees ≡ map (statement_tree (names_in l.fn.table)) (take l.statement-index l.statements)
