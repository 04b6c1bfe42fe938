use Rattle.std.proofs.Common.{◌≡◌, ◌∙◌, ap, sym, not, Some, None}
use Rattle.std.specs.Option.{option_map, option_copied}
use Rattle.cc_meaning.specs.Names.{name_prototype}
use Rattle.cc_meaning.specs.Rules.{prototype_object}
use Rattle.cc_meaning.specs.SlotRules.{prototype_of_function}
use Rattle.cc_meaning.specs.State.{Obj, Slot}
use Rattle.cc_heap.specs.Kinds.{code_of}
use Rattle.cc_heap.specs.Store.{slot_named}
use Rattle.cc_heap.specs.contracts.object.Object.{the_view}
use Rattle.cc_heap.proofs.ObjectLaws.{is_some-map}
use Rattle.cc_heap.proofs.OperatorLaws.{no-prototype, its-prototype}
use Rattle.cc_heap.proofs.SlotLaws.{find_named}
use Rattle.cc_heap.proofs.object.Object.prototype.Goals as goal

pub returns-then-is_none : goal.returns-then-is_none
returns-then-is_none c =
    let o = the_view c.self.inside in
    sym (no-prototype o (is_some-map code_of c.self.inside.code ∙ c.is_none.ensures ∙ ap not c.if-is_none.true))
    ∙ ap (λ (x : Obj). prototype_object (prototype_of_function (Some x))) c.self.view_is

pub returns-in-Some : goal.returns-in-Some
returns-in-Some c =
    let o = the_view c.self.inside in
    let named : slot_named o.slots name_prototype ≡ Some c.in-Some.slot.now = sym c.get.ensures ∙ ap option_copied c.in-Some.is in
    c.object_in.ensures
    ∙ ap prototype_object (sym (sym (find_named o.slots name_prototype) ∙ ap (option_map (λ (s : Slot). s.value)) named))
    ∙ sym (its-prototype o (is_some-map code_of c.self.inside.code ∙ c.is_none.ensures ∙ ap not c.if-is_none.false))
    ∙ ap (λ (x : Obj). prototype_object (prototype_of_function (Some x))) c.self.view_is

pub returns-in-None : goal.returns-in-None
unfolding prototype_object
returns-in-None c =
    let o = the_view c.self.inside in
    let named : slot_named o.slots name_prototype ≡ None = sym c.get.ensures ∙ ap option_copied c.in-None.is in
    ap prototype_object (sym (sym (find_named o.slots name_prototype) ∙ ap (option_map (λ (s : Slot). s.value)) named))
    ∙ sym (its-prototype o (is_some-map code_of c.self.inside.code ∙ c.is_none.ensures ∙ ap not c.if-is_none.false))
    ∙ ap (λ (x : Obj). prototype_object (prototype_of_function (Some x))) c.self.view_is
