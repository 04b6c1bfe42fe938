use Rattle.std.proofs.Common.{◌≡◌, ◌∙◌, ap, sym, subst, refl, Bool, List, ℕ, nat_eq, Some, Vec, Global}
use Rattle.std.specs.Cmp.Lexicographic.{pointwise}
use Rattle.std.specs.Map.{lookup, values_of}
use Rattle.std.specs.Option.{option_copied_mut}
use Rattle.cc_meaning.specs.Operators.{list_eq}
use Rattle.cc_meaning.specs.State.{Slot}
use Rattle.cc_meaning.specs.Store.{set_slot}
use Rattle.cc_value.specs.Bridge.{value_of}
use Rattle.cc_heap.specs.Kinds.{kind_of}
use Rattle.cc_heap.specs.Store.{slot_named}
use Rattle.cc_heap.specs.Table.{AreNamed}
use Rattle.cc_heap.specs.contracts.slot.Slot.{the_view}
use Rattle.cc_heap.proofs.SlotLaws.{asks, lookup-named, set-named, named-set}
use Rattle.cc_heap.proofs.slots.Slots.put.Goals as goal

module _ (c : goal.After-drop-name-inside) where
  abbrev test : Vec ℕ Global → Bool
  test k = pointwise nat_eq c.as_slice.result.now k.items

  tests : (k : Vec ℕ Global) → test k ≡ list_eq k.items c.args.name
  tests k = asks c.as_slice.result.now c.args.name (c.as_slice.ensures.value ∙ c.name.view_is) k.items

  abbrev before : Slot
  before = the_view c.slot.inside

  there : lookup test c.self.inside.by_name.entries ≡ Some before
  there = sym c.get_mut.ensures.value ∙ ap option_copied_mut c.in-Some.is ∙ ap Some (sym c.slot.view_is)

  abbrev after : Slot
  after = record before { value = value_of c.args.value }

pub invariant_of-self : goal.invariant_of-self
invariant_of-self c =
    subst AreNamed (sym (c.get_mut.follows.holds (after c)).0)
    (named-set c.args.name (test c) (tests c) (before c) (after c) refl c.self.inside.by_name.entries c.self.invariant (there c))

pub returns-in-Some-clause-put : goal.returns-in-Some-clause-put
returns-in-Some-clause-put c =
    ap values_of (c.get_mut.follows.holds (after c)).0
    ∙ set-named c.args.name (test c) (tests c) (before c) (kind_of c.args.kind) (value_of c.args.value) c.self.inside.by_name.entries c.self.invariant (there c)
    ∙ ap (λ (xs : List Slot). set_slot xs c.args.name (kind_of c.args.kind) (value_of c.args.value)) c.self.view_is

pub add-requires : goal.add-requires
add-requires c =
    let q = c.as_slice.result.now in
    let n = c.args.name in
    ap (λ m. slot_named (values_of m.entries) n) c.get_mut.follows.holds-at-none
    ∙ sym (lookup-named n (λ (k : Vec ℕ Global). pointwise nat_eq q k.items) (λ k. asks q n (c.as_slice.ensures.value ∙ c.name.view_is) k.items) c.self.inside.by_name.entries c.self.invariant)
    ∙ sym c.get_mut.ensures.value
    ∙ ap option_copied_mut c.in-None.is
