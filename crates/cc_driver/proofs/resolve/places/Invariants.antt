use Rattle.std.proofs.Common.{◌≡◌}
use Rattle.cc_driver.specs.Source.{places_from}
use Rattle.cc_driver.proofs.resolve.places.Given as goal

abbrev pub invariant-loop-offset : goal.invariant-loop-offset
invariant-loop-offset l = l.places ≡ places_from 0 l.offset
