use Rattle.std.proofs.Common.{◌≡◌, drop, []}
use Rattle.cc_driver.specs.FormChecks.{all_declared, names_in}
use Rattle.cc_driver.proofs.form.check.all_declared.Given as goal

abbrev pub invariant-loop-statement : goal.invariant-loop-statement
invariant-loop-statement l = all_declared (names_in l.fn.externs) [] l.fn.statements ≡ all_declared (names_in l.fn.externs) (names_in l.table) (drop l.statement-index l.fn.statements)
