use Rattle.std.proofs.Common.{arith}
use Rattle.std.proofs.lemmas.Grind.{common_steps}
use Rattle.cc_statements.proofs.Opened.{otherwise_opened}
use Rattle.cc_statements.proofs.grammar.Grammar.otherwise.Goals as goal

pub returns-in_err-otherwise-clause-reads : goal.returns-in_err-otherwise-clause-reads
returns-in_err-otherwise-clause-reads g c = grind (arith, common_steps, otherwise_opened)

pub returns-clause-reads : goal.returns-clause-reads
returns-clause-reads g c = grind (arith, common_steps, otherwise_opened)
