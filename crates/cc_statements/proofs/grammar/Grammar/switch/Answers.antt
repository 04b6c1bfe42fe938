use Rattle.std.proofs.Common.{arith}
use Rattle.std.proofs.lemmas.Grind.{common_steps}
use Rattle.cc_statements.proofs.ClauseLemmas.{switch_opened}
use Rattle.cc_statements.proofs.grammar.Grammar.switch.Goals as goal

pub returns-in_err-room-clause-reads : goal.returns-in_err-room-clause-reads
returns-in_err-room-clause-reads g c = grind (arith, common_steps, switch_opened)

pub returns-in_err-e-clause-reads : goal.returns-in_err-e-clause-reads
returns-in_err-e-clause-reads g c = grind (arith, common_steps, switch_opened)

pub returns-in_err-i-clause-reads : goal.returns-in_err-i-clause-reads
returns-in_err-i-clause-reads g c = grind (arith, common_steps, switch_opened)

pub returns-clause-reads : goal.returns-clause-reads
returns-clause-reads g c = grind (arith, common_steps, switch_opened)
