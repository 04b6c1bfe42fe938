use Rattle.std.proofs.Common.{arith}
use Rattle.std.proofs.lemmas.Grind.{common_steps}
use Rattle.cc_statements.proofs.Opened.{try_opened}
use Rattle.cc_statements.proofs.grammar.Grammar.try_statement.Goals as goal

pub returns-in_err-room-clause-reads : goal.returns-in_err-room-clause-reads
returns-in_err-room-clause-reads g c = grind (arith, common_steps, try_opened)

pub returns-in_err-body-clause-reads : goal.returns-in_err-body-clause-reads
returns-in_err-body-clause-reads g c = grind (arith, common_steps, try_opened)

pub returns-then-sees_word-clause-reads : goal.returns-then-sees_word-clause-reads
returns-then-sees_word-clause-reads g c = grind (arith, common_steps, try_opened)

pub returns-then-not-sees_word-clause-reads : goal.returns-then-not-sees_word-clause-reads
returns-then-not-sees_word-clause-reads g c = grind (arith, common_steps, try_opened)

pub returns-clause-reads : goal.returns-clause-reads
returns-clause-reads g c = grind (arith, common_steps, try_opened)
