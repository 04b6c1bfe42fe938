use Rattle.std.proofs.Common.{◌≡◌, ◌∙◌, ap, sym, subst, Bool, List, ℕ, nat_eq, is_some, Vec, Global}
use Rattle.std.specs.Cmp.Lexicographic.{pointwise}
use Rattle.std.specs.Map.{values_of}
use Rattle.cc_meaning.specs.Operators.{list_eq}
use Rattle.cc_meaning.specs.State.{Slot}
use Rattle.cc_meaning.specs.Store.{drop_slot, find_slot}
use Rattle.cc_heap.specs.Store.{slot_named}
use Rattle.cc_heap.specs.Table.{AreNamed}
use Rattle.cc_heap.proofs.SlotLaws.{asks, find_named, lookup-named, drop-named, named-drop}
use Rattle.cc_heap.proofs.ObjectLaws.{is_some-map}
use Rattle.cc_heap.proofs.slots.Slots.remove.Goals as goal

module _ (c : goal.Joined-shift_remove) where
  abbrev test : Vec ℕ Global → Bool
  test k = pointwise nat_eq c.as_slice.result.now k.items

  tests : (k : Vec ℕ Global) → test k ≡ list_eq k.items c.args.name.now
  tests k = asks c.as_slice.result.now c.args.name.now (c.as_slice.ensures.value ∙ c.name.view_is) k.items

pub invariant_of-self : goal.invariant_of-self
invariant_of-self c =
    subst AreNamed (sym c.shift_remove.ensures.entries)
    (named-drop c.args.name.now (test c) (tests c) c.self.inside.by_name.entries c.self.invariant)

pub returns-clause-slots : goal.returns-clause-slots
returns-clause-slots c =
    ap values_of c.shift_remove.ensures.entries
    ∙ drop-named c.args.name.now (test c) (tests c) c.self.inside.by_name.entries c.self.invariant
    ∙ ap (λ (xs : List Slot). drop_slot xs c.args.name.now) c.self.view_is

pub returns-clause-had : goal.returns-clause-had
returns-clause-had c =
    c.is_some.ensures
    ∙ ap is_some (c.shift_remove.ensures.value ∙ lookup-named c.args.name.now (test c) (tests c) c.self.inside.by_name.entries c.self.invariant)
    ∙ sym (is_some-map (λ (s : Slot). s.value) (slot_named (values_of c.self.inside.by_name.entries) c.args.name.now))
    ∙ ap is_some (find_named (values_of c.self.inside.by_name.entries) c.args.name.now)
    ∙ ap (λ (xs : List Slot). is_some (find_slot xs c.args.name.now)) c.self.view_is
