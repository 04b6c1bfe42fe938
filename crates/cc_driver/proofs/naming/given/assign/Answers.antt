use Rattle.cc_driver.proofs.GivenLaws.{assign_turn}
use Rattle.cc_driver.proofs.naming.given.assign.Goals as goal

pub loop-last-preserved : goal.loop-last-preserved
loop-last-preserved c = assign_turn c.loop-last.given c.pop.new.self c.in-Some.last c.loop-last.names c.set.new.self _ c.in-Some.ensures c.set.ensures c.loop-last.invariant.0 c.loop-last.invariant.1
