use Rattle.std.proofs.Common.{◌≡◌, map, take}
use Rattle.cc_driver.specs.Source.{global_of_no_chunk}
use Rattle.cc_driver.proofs.resolve.globals.outside.Given as goal

abbrev pub invariant-loop-name : goal.invariant-loop-name
invariant-loop-name l = l.globals ≡ map global_of_no_chunk (take l.name-index l.names)
