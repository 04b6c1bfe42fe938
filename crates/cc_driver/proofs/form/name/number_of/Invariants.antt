use Rattle.std.proofs.Common.{◌≡◌, take}
use Rattle.cc_driver.specs.FormReading.{number_behind}
use Rattle.cc_driver.proofs.form.name.number_of.Given as goal

abbrev pub invariant-loop-digit : goal.invariant-loop-digit
invariant-loop-digit l = l.number ≡ number_behind 0 (take l.digit-index l.fn.digits)
