use Rattle.cc_core.proofs.OutLaws.{few_of_none}
use Rattle.core_cases.proofs.counted.Counted.renew.Goals as goal

pub invariant_of-self : goal.invariant_of-self
invariant_of-self c = record { few = few_of_none 0 _ c.in_ok-self.ensures }
