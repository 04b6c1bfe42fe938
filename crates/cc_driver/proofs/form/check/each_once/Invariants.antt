use Rattle.std.proofs.Common.{◌≡◌, drop, []}
use Rattle.cc_driver.specs.FormChecks.{each_once, names_in}
use Rattle.cc_driver.proofs.form.check.each_once.Given as goal

abbrev pub invariant-loop-name : goal.invariant-loop-name
invariant-loop-name l = each_once [] l.fn.names ≡ each_once (names_in l.table) (drop l.name-index l.fn.names)
