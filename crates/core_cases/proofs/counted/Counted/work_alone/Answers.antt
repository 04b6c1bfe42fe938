use Rattle.std.proofs.Common.{ℕ, subst}
use Rattle.cc_core.specs.Outs.{AtMostOut}
use Rattle.cc_core.proofs.OutLaws.{few_of_none}
use Rattle.core_cases.proofs.Claims.{none_of_few}
use Rattle.core_cases.proofs.counted.Counted.work_alone.Goals as goal

pub work_alone-requires-after_bounds : goal.work_alone-requires-after_bounds
work_alone-requires-after_bounds c κs =
    rw c.exchange-given.ensures.given (none_of_few _ (subst (λ (n : ℕ). AtMostOut n c.args.self.now.shop.state.slots) c.requires c.args.self.now.few))

pub invariant_of-self : goal.invariant_of-self
invariant_of-self c = record { few = few_of_none _ _ c.in_ok-work_alone.ensures.none_out }
