use Rattle.cc_core.specs.Events.{Claims}
use Rattle.cc_core.proofs.OutLaws.{few_event}
use Rattle.cc_clear.specs.Clear.{clear}
use Rattle.core_cases.proofs.counted.Counted.claim.Goals as goal

pub invariant_of-self : goal.invariant_of-self
invariant_of-self c = record { few = rw c.claim-claim.ensures.event (few_event clear c.args.self.now.shop.state Claims c.args.self.now.most c.args.self.now.few) }
