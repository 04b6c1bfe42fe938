use Rattle.std.proofs.Common.{◌≡◌, ◌∙◌, ap, sym, subst, Bool, List, ℕ, nat_eq, None, Vec, Global}
use Rattle.std.specs.Cmp.Lexicographic.{pointwise}
use Rattle.std.specs.Map.{values_of}
use Rattle.cc_meaning.specs.State.{Slot}
use Rattle.cc_meaning.specs.Store.{set_slot}
use Rattle.cc_heap.specs.Store.{slot_named}
use Rattle.cc_heap.specs.Table.{AreNamed}
use Rattle.cc_heap.specs.declared.slot.Slot.TheInside.{Inside}
use Rattle.cc_heap.proofs.SlotLaws.{asks, put-new, named-new}
use Rattle.cc_heap.proofs.slots.Slots.add.Goals as goal

-- the key has the units of the slot's name
keyed : (c : goal.Joined-branch-3) → c.in_ok-key.key.items ≡ c.args.slot.name
keyed c = c.in_ok-key.ensures.items ∙ c.as_slice.ensures.value ∙ ap (λ (x : Inside). x.name) c.slot-inside.view_is ∙ ap (λ (s : Slot). s.name) c.slot.view_is

new : (c : goal.Joined-branch-3) → slot_named (values_of c.self.inside.by_name.entries) c.args.slot.name ≡ None
new c = ap (λ (xs : List Slot). slot_named xs c.args.slot.name) c.self.view_is ∙ c.requires

abbrev same_keys : Vec ℕ Global → Vec ℕ Global → Bool
same_keys j k = pointwise nat_eq j.items k.items

pub invariant_of-self-2 : goal.invariant_of-self-2
invariant_of-self-2 c =
    subst AreNamed (sym c.in_ok-insert.ensures.entries)
    (named-new same_keys c.in_ok-key.key c.args.slot (keyed c) (λ k. asks c.in_ok-key.key.items c.args.slot.name (keyed c) k.items) c.self.inside.by_name.entries c.self.invariant (new c))

pub returns-clause-put : goal.returns-clause-put
returns-clause-put c =
    ap values_of c.in_ok-insert.ensures.entries
    ∙ put-new same_keys c.in_ok-key.key c.args.slot (keyed c) (λ k. asks c.in_ok-key.key.items c.args.slot.name (keyed c) k.items) c.self.inside.by_name.entries c.self.invariant (new c)
    ∙ ap (λ (xs : List Slot). set_slot xs c.args.slot.name c.args.slot.kind c.args.slot.value) c.self.view_is
