use Rattle.std.proofs.Common.{◌+◌, ◌-◌, length}
use Rattle.cc_driver.proofs.GivingLaws.{Giving}
use Rattle.cc_driver.proofs.naming.given.give_names.Given as goal

abbrev pub invariant-giving : goal.invariant-giving
invariant-giving l = Giving l.initial.passed.keys l.ranks l.k l.passed.keys l.given

abbrev pub decreases-giving : goal.decreases-giving
decreases-giving l = (length l.ranks - length l.given) + length l.passed.keys
