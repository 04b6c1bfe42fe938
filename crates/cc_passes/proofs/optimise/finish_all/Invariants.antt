use Rattle.cc_passes.proofs.RoundLaws.{Stands}
use Rattle.cc_passes.proofs.optimise.finish_all.Given as goal

abbrev pub invariant-loop-round : goal.invariant-loop-round
invariant-loop-round l = Stands l.fn.shop.state.source l._round l.shop.state
