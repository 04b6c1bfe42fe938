use Rattle.std.proofs.Common.{refl}
use Rattle.cc_driver.specs.Compile.{no_externs, no_source}
use Rattle.cc_driver.proofs.StepLemmas.{memory_refuses}
use Rattle.cc_driver.proofs.output.output_of.Goals as goal

pub returns-in_err-extern_names-clause-err : goal.returns-in_err-extern_names-clause-err
returns-in_err-extern_names-clause-err c = memory_refuses _ _ _ c.from_residual.ensures.1

pub returns-in_default-clause-err : goal.returns-in_default-clause-err
returns-in_default-clause-err c = no_externs (rw c.in_default.is at c.in_ok-extern_names.ensures)

pub returns-in_err-statements-clause-err : goal.returns-in_err-statements-clause-err
returns-in_err-statements-clause-err c = memory_refuses _ _ _ c.from_residual-in_err-statements.ensures.1

pub returns-in_default-2-clause-err : goal.returns-in_default-2-clause-err
returns-in_default-2-clause-err c =
    no_source (rw c.in-Some.is at c.in_ok-extern_names.ensures) (rw c.in_default-2.is at c.in_ok-statements.ensures)

pub made-requires-clause-of_externs : goal.made-requires-clause-of_externs
made-requires-clause-of_externs c = (c.args.externs.now, rw c.in-Some.is at c.in_ok-extern_names.ensures)

pub made-requires-clause-of_source : goal.made-requires-clause-of_source
made-requires-clause-of_source c = (c.args.source.now, refl, rw c.in-Some-2.is at c.in_ok-statements.ensures)

pub returns-in_err-made-clause-err : goal.returns-in_err-made-clause-err
returns-in_err-made-clause-err c = memory_refuses _ _ _ c.from_residual-in_err-made.ensures.1

pub returns-clause-ok : goal.returns-clause-ok
returns-clause-ok c = record {
  names = c.in-Some.extern_names;
  statements = c.in-Some-2.statements;
  of_externs = rw c.in-Some.is at c.in_ok-extern_names.ensures;
  of_source = rw c.in-Some-2.is at c.in_ok-statements.ensures;
  output = c.in_ok-made.ensures;
}
