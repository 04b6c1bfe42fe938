use Rattle.std.proofs.Common.{◌∙◌, ap, List, is_some}
use Rattle.cc_meaning.specs.Acts.{drop_own}
use Rattle.cc_meaning.specs.State.{Slot}
use Rattle.cc_meaning.specs.Store.{find_slot}
use Rattle.cc_heap.specs.contracts.heap.Heap.{the_view}
use Rattle.cc_heap.proofs.ChangeLaws.{unchanged, changed, its-slots, no-slots}
use Rattle.cc_heap.proofs.heap.Heap.remove_slot.Goals as goal

pub returns-in_default-clause-slots : goal.returns-in_default-clause-slots
returns-in_default-clause-slots c =
    unchanged (the_view c.self.inside) c.args.self.now c.self.view_is (drop_own c.args.name.now) c.args.object c.in_default.ensures.item.3

pub returns-in_default-clause-had : goal.returns-in_default-clause-had
unfolding find_slot
returns-in_default-clause-had c =
    ap (λ (xs : List Slot). is_some (find_slot xs c.args.name.now)) (no-slots (the_view c.self.inside) c.args.self.now c.self.view_is c.args.object c.in_default.ensures.item.3)

pub returns-clause-slots : goal.returns-clause-slots
returns-clause-slots c =
    changed (the_view c.self.inside) c.args.self.now c.self.view_is (drop_own c.args.name.now) c.args.object c.in-Some.object.now c.remove.new.self c.in-Some.ensures.item.3.0 c.in-Some.ensures.value c.remove.ensures.slots

pub returns-clause-had : goal.returns-clause-had
returns-clause-had c =
    c.remove.ensures.had
    ∙ ap (λ (xs : List Slot). is_some (find_slot xs c.args.name.now)) (its-slots (the_view c.self.inside) c.args.self.now c.self.view_is c.args.object c.in-Some.object.now c.in-Some.ensures.item.3.0 c.in-Some.ensures.value)
