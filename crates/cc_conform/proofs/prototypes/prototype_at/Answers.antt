use Rattle.std.proofs.Common.{refl}
use Rattle.cc_meaning.specs.Rules.{prototype_at}
use Rattle.cc_conform.proofs.PrototypeLemmas.{plain_state}
use Rattle.cc_conform.proofs.prototypes.prototype_at.Goals as goal

pub returns : goal.returns
unfolding prototype_at
returns c = c.prototype_of.ensures (plain_state c.args.heap.now.objs) refl
