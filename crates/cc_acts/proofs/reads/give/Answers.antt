use Rattle.std.proofs.Common.{[], sym, ap}
use Rattle.cc_meaning.specs.Monad.{ok, ret}
use Rattle.cc_meaning.specs.Values.{Val}
use Rattle.cc_acts.proofs.reads.give.Goals as goal

pub returns : goal.returns
unfolding ret
returns c = λ s. ap (λ (x : Val). ok [] x s) (sym (c.in_ok-copy_or_undefined.ensures {u = tt}))
