use Rattle.std.proofs.Common.{◌≡◌, ◌++◌, drop, map}
use Rattle.cc_driver.specs.Naming.{own_globals}
use Rattle.cc_driver.specs.NamingSteps.{rank_of}
use Rattle.cc_driver.proofs.naming.rank.own_ranks.Given as goal

abbrev pub invariant-loop-g : goal.invariant-loop-g
invariant-loop-g l = l.ranks.items ++ map (rank_of l.pieces) (own_globals l.g (drop l.g l.globals)) ≡ map (rank_of l.pieces) (own_globals 0 l.globals)
