use Rattle.std.proofs.Common.{◌≡◌, take}
use Rattle.cc_driver.specs.FormChecks.{names_in}
use Rattle.cc_driver.specs.Reach.{names_of}
use Rattle.cc_driver.proofs.resolve.globals.global_table.Given as goal

abbrev pub invariant-loop-global : goal.invariant-loop-global
invariant-loop-global l = names_in l.table ≡ names_of (take l.global-index l.fn.globals)
