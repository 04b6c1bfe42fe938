use Rattle.cc_clear.specs.Clear.{clear}
use Rattle.core_cases.proofs.Claims.{few_closed}
use Rattle.core_cases.proofs.counted.Counted.close.Goals as goal

pub invariant_of-self : goal.invariant_of-self
invariant_of-self c = record { few = rw c.in-Ok.ensures.event (few_closed clear c.args.self.now.shop.state c.in-Ok.ensures.done) }
