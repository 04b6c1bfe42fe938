use Rattle.std.proofs.Common.{arith}
use Rattle.std.proofs.lemmas.Grind.{common_steps}
use Rattle.cc_grammar.specs.Reading.{begins_with_name}
use Rattle.cc_statements.proofs.grammar.Statements.begins_with_name.Goals as goal

pub returns-then-sees-clause-reads : goal.returns-then-sees-clause-reads
unfolding begins_with_name
returns-then-sees-clause-reads g c = grind (arith, common_steps)

pub returns-in-Some-clause-reads : goal.returns-in-Some-clause-reads
unfolding begins_with_name
returns-in-Some-clause-reads g c = grind (arith, common_steps)

pub returns-in_err-e-clause-reads : goal.returns-in_err-e-clause-reads
unfolding begins_with_name
returns-in_err-e-clause-reads g c = grind (arith, common_steps)

pub returns-clause-reads : goal.returns-clause-reads
unfolding begins_with_name
returns-clause-reads g c = grind (arith, common_steps)
