use Rattle.std.proofs.Common.{◌≡◌, ◌<◌, length, All}
use Rattle.cc_driver.specs.NamingSteps.{assigned}
use Rattle.cc_driver.proofs.naming.given.assign.Given as goal

abbrev pub invariant-loop-last : goal.invariant-loop-last
invariant-loop-last l = (assigned l.given l.names ≡ assigned l.initial.given l.initial.names) × All (λ g. g.global < length l.names) l.given

abbrev pub decreases-loop-last : goal.decreases-loop-last
decreases-loop-last l = length l.given
