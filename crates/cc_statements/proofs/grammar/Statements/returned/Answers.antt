use Rattle.std.proofs.Common.{arith}
use Rattle.std.proofs.lemmas.Grind.{common_steps}
use Rattle.cc_statements.proofs.Opened.{return_opened}
use Rattle.cc_statements.proofs.grammar.Statements.returned.Goals as goal

pub returns-then-not-context-clause-reads : goal.returns-then-not-context-clause-reads
returns-then-not-context-clause-reads g c = grind (arith, common_steps, return_opened)

pub returns-then-ends_return-clause-reads : goal.returns-then-ends_return-clause-reads
returns-then-ends_return-clause-reads g c = grind (arith, common_steps, return_opened)

pub returns-in_err-e-clause-reads : goal.returns-in_err-e-clause-reads
returns-in_err-e-clause-reads g c = grind (arith, common_steps, return_opened)

pub returns-clause-reads : goal.returns-clause-reads
returns-clause-reads g c = grind (arith, common_steps, return_opened)
