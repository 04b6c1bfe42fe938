use Rattle.std.proofs.Common.{◌≡◌, take, map}
use Rattle.cc_driver.specs.NamingSteps.{kept_name}
use Rattle.cc_driver.proofs.naming.given.kept_names.Given as goal

abbrev pub invariant-loop-global : goal.invariant-loop-global
invariant-loop-global l = l.names ≡ map kept_name (take l.global-index l.globals)
