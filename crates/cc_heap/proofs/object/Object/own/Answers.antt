use Rattle.std.proofs.Common.{◌≡◌, ◌∙◌, ap, sym, Option, Some, None}
use Rattle.std.specs.Option.{option_map, option_copied}
use Rattle.cc_meaning.specs.Values.{Val}
use Rattle.cc_meaning.specs.State.{Slot, Obj}
use Rattle.cc_meaning.specs.Store.{find_element, find_own, find_slot, first_of}
use Rattle.cc_heap.specs.Bridge.{held_of}
use Rattle.cc_heap.specs.Store.{slot_named}
use Rattle.cc_heap.proofs.SlotLaws.{find_named}
use Rattle.cc_heap.proofs.object.Object.own.Goals as goal

pub returns-in-Some : goal.returns-in-Some
unfolding find_own first_of
returns-in-Some c = ap (λ (o : Option Val). first_of o (find_slot c.args.self.now.slots c.args.name.now)) (ap (option_map held_of) (sym c.in-Some.is) ∙ c.element_named.ensures)

pub returns-in-Some-get : goal.returns-in-Some-get
unfolding find_own first_of
returns-in-Some-get c =
    let n = c.args.name.now in
    let none : find_element c.args.self.now.elements n ≡ None = sym c.element_named.ensures ∙ ap (option_map held_of) c.in-None.is in
    let named : slot_named c.args.self.now.slots n ≡ Some c.in-Some-get.slot.now = ap (λ (o : Obj). slot_named o.slots n) (sym c.self.view_is) ∙ sym (c.get.ensures ∙ ap (slot_named c.self.inside.slots) (c.as_slice.ensures.value ∙ c.name.view_is)) ∙ ap option_copied c.in-Some-get.is in
    let slot = sym (find_named c.args.self.now.slots n) ∙ ap (option_map (λ (s : Slot). s.value)) named ∙ ap (λ (s : Slot). Some s.value) (sym c.slot.view_is) in
    sym (λ i. first_of (none i) (slot i))

pub returns-in-None-get : goal.returns-in-None-get
unfolding find_own first_of
returns-in-None-get c =
    let n = c.args.name.now in
    let none : find_element c.args.self.now.elements n ≡ None = sym c.element_named.ensures ∙ ap (option_map held_of) c.in-None.is in
    let named : slot_named c.args.self.now.slots n ≡ None = ap (λ (o : Obj). slot_named o.slots n) (sym c.self.view_is) ∙ sym (c.get.ensures ∙ ap (slot_named c.self.inside.slots) (c.as_slice.ensures.value ∙ c.name.view_is)) ∙ ap option_copied c.in-None-get.is in
    let slot = sym (find_named c.args.self.now.slots n) ∙ ap (option_map (λ (s : Slot). s.value)) named in
    sym (λ i. first_of (none i) (slot i))
