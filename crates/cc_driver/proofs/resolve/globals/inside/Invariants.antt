use Rattle.std.proofs.Common.{◌≡◌, map, take}
use Rattle.cc_driver.specs.Form.{declared}
use Rattle.cc_driver.specs.Source.{global_of_main}
use Rattle.cc_driver.proofs.resolve.globals.inside.Given as goal

abbrev pub invariant-loop-statement : goal.invariant-loop-statement
invariant-loop-statement l = l.globals ≡ map global_of_main (declared (take l.statement-index l.statements))
