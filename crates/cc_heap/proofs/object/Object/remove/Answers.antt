use Rattle.std.proofs.Common.{◌∙◌, ap, List}
use Rattle.cc_meaning.specs.Acts.{drop_own}
use Rattle.cc_meaning.specs.State.{Slot}
use Rattle.cc_heap.specs.contracts.object.Object.{the_view}
use Rattle.cc_heap.proofs.object.Object.remove.Goals as goal

pub returns-clause-slots : goal.returns-clause-slots
unfolding drop_own
returns-clause-slots c =
    ap (λ (xs : List Slot). record (the_view c.self.inside) { slots = xs }) c.remove.ensures.slots ∙ ap (drop_own c.args.name.now) c.self.view_is
