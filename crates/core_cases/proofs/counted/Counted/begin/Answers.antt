use Rattle.cc_core.proofs.OutLaws.{few_of_none}
use Rattle.core_cases.proofs.counted.Counted.begin.Goals as goal

pub invariant_of-result : goal.invariant_of-result
invariant_of-result c = record { few = few_of_none 0 _ c.in_ok-a_shop.ensures }
