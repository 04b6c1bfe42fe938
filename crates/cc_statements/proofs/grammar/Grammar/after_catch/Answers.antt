use Rattle.std.proofs.Common.{arith}
use Rattle.std.proofs.lemmas.Grind.{common_steps}
use Rattle.cc_statements.proofs.Opened.{after_catch_opened}
use Rattle.cc_statements.proofs.grammar.Grammar.after_catch.Goals as goal

pub returns-in_err-finally-clause-reads : goal.returns-in_err-finally-clause-reads
returns-in_err-finally-clause-reads g c = grind (arith, common_steps, after_catch_opened)

pub returns-clause-reads : goal.returns-clause-reads
returns-clause-reads g c = grind (arith, common_steps, after_catch_opened)
