use Rattle.cc_core.proofs.OutLaws.{few_of_none}
use Rattle.core_cases.proofs.counted.Counted.exchange.Goals as goal

pub invariant_of-self : goal.invariant_of-self
invariant_of-self c = record { few = rw c.replace.ensures.after (few_of_none c.args.self.now.most _ c.requires) }
