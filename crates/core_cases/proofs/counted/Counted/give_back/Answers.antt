use Rattle.cc_core.specs.Events.{GivesBack}
use Rattle.cc_core.proofs.OutLaws.{few_event}
use Rattle.cc_clear.specs.Clear.{clear}
use Rattle.core_cases.proofs.counted.Counted.give_back.Goals as goal

pub invariant_of-self : goal.invariant_of-self
invariant_of-self c =
    record { few = rw c.give_back.ensures.event (few_event clear c.args.self.now.shop.state (GivesBack c.args.claim.phase c.args.claim.slot) c.args.self.now.most c.args.self.now.few) }
