use Rattle.cc_core.specs.Events.{Repeats}
use Rattle.cc_core.proofs.OutLaws.{few_event, room}
use Rattle.cc_clear.specs.Clear.{clear}
use Rattle.core_cases.proofs.counted.Counted.repeat.Goals as goal

pub repeat-claim-requires-clause-room : goal.repeat-claim-requires-clause-room
repeat-claim-requires-clause-room c κs k s first at = room c.args.self.now.most c.args.self.now.shop.state.slots c.args.self.now.few c.requires k s at

pub invariant_of-self : goal.invariant_of-self
invariant_of-self c = record { few = rw c.repeat-claim.ensures.event (few_event clear c.args.self.now.shop.state Repeats c.args.self.now.most c.args.self.now.few) }
