use Rattle.std.proofs.Common.{◌∙◌, ap, refl, nat_eq, List, ℕ, Vec, Global}
use Rattle.std.specs.Cmp.Lexicographic.{pointwise}
use Rattle.cc_meaning.specs.State.{Slot}
use Rattle.cc_heap.specs.Store.{slot_named}
use Rattle.cc_heap.proofs.SlotLaws.{asks, lookup-named}
use Rattle.cc_heap.proofs.slots.Slots.get.Goals as goal

pub returns : goal.returns
returns c =
    let n = c.args.name.now in
    c.get.ensures.value
    ∙ lookup-named n (λ (k : Vec ℕ Global). pointwise nat_eq n k.items) (λ k. asks n n refl k.items) c.self.inside.by_name.entries c.self.invariant
    ∙ ap (λ (xs : List Slot). slot_named xs n) c.self.view_is
