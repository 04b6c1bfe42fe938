use Rattle.std.proofs.Common.{ℕ, ◌<◌, subst}
use Rattle.cc_core.proofs.ShopLemmas.{kept_length}
use Rattle.core_cases.proofs.counted.Counted.bench_make.Goals as goal

pub make-requires-clause-slot : goal.make-requires-clause-slot
make-requires-clause-slot c κs =
    rw c.in_ok-bench.ensures (subst (λ (n : ℕ). c.args.claim.now.slot < n) (kept_length _ _ _ c.sound.ensures.kept) c.requires)
