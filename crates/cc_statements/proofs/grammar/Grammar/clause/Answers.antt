use Rattle.std.proofs.Common.{arith}
use Rattle.std.proofs.lemmas.Grind.{common_steps}
use Rattle.cc_statements.proofs.grammar.Grammar.clause.Goals as goal

pub returns-in-Nothing-clause-reads : goal.returns-in-Nothing-clause-reads
returns-in-Nothing-clause-reads g c = grind (arith, common_steps)

pub returns-then-seen-clause-reads : goal.returns-then-seen-clause-reads
returns-then-seen-clause-reads g c = grind (arith, common_steps)

pub returns-in-Close-clause-reads : goal.returns-in-Close-clause-reads
returns-in-Close-clause-reads g c = grind (arith, common_steps)
