use Rattle.std.proofs.Common.{◌≡◌, ◌||◌, ℕ, List, drop}
use Rattle.cc_driver.specs.Names.{is_in}
use Rattle.cc_driver.specs.Naming.{other_names}
use Rattle.cc_driver.specs.NamingSteps.{has_name}
use Rattle.cc_driver.proofs.naming.passed.add_names.Given as goal

abbrev pub invariant-loop-global : goal.invariant-loop-global
invariant-loop-global l = (name : List ℕ) → (has_name l.passed.keys name || is_in name (other_names (drop l.global-index l.globals))) ≡ (has_name l.initial.passed.keys name || is_in name (other_names l.globals))
