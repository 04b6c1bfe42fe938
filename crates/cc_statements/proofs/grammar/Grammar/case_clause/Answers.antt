use Rattle.std.proofs.Common.{arith}
use Rattle.std.proofs.lemmas.Grind.{common_steps}
use Rattle.cc_statements.proofs.ClauseLemmas.{case_opened}
use Rattle.cc_statements.proofs.grammar.Grammar.case_clause.Goals as goal

pub returns-in_err-test-clause-reads : goal.returns-in_err-test-clause-reads
returns-in_err-test-clause-reads g c = grind (arith, common_steps, case_opened)

pub returns-in_err-body-clause-reads : goal.returns-in_err-body-clause-reads
returns-in_err-body-clause-reads g c = grind (arith, common_steps, case_opened)

pub returns-clause-reads : goal.returns-clause-reads
returns-clause-reads g c = grind (arith, common_steps, case_opened)
