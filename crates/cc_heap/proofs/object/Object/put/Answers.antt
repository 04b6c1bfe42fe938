use Rattle.std.proofs.Common.{◌≡◌, ◌∙◌, ap, sym, subst, List, OnOk, None}
use Rattle.cc_meaning.specs.State.{Slot, Obj}
use Rattle.cc_meaning.specs.Store.{put_own}
use Rattle.cc_value.specs.Bridge.{value_of}
use Rattle.cc_heap.specs.Kinds.{kind_of}
use Rattle.cc_heap.specs.Store.{element_place}
use Rattle.cc_heap.specs.contracts.object.Object.{the_view}
use Rattle.cc_heap.proofs.ObjectLaws.{put-at, put-slot}
use Rattle.cc_heap.proofs.object.Object.put.Goals as goal

pub returns-in-Some-clause-put : goal.returns-in-Some-clause-put
returns-in-Some-clause-put c =
    subst (λ (o : Obj). OnOk c.put_element.result (c.put_element.new.self ≡ o))
    (sym (put-at c.args.name (kind_of c.args.kind) (value_of c.args.value) c.args.self.now c.in-Some.place (sym c.element_place.ensures ∙ c.in-Some.is)))
    c.put_element.ensures.put

pub returns-in_ok-put-in-None-clause-put : goal.returns-in_ok-put-in-None-clause-put
returns-in_ok-put-in-None-clause-put c =
    let k = kind_of c.args.kind in
    let v = value_of c.args.value in
    let before = the_view c.self.inside in
    let none : element_place before.elements c.args.name ≡ None = ap (λ (o : Obj). element_place o.elements c.args.name) c.self.view_is ∙ sym c.element_place.ensures ∙ c.in-None.is in
    ap (λ (xs : List Slot). record before { slots = xs }) c.in_ok-put-in-None.ensures.put
    ∙ sym (put-slot c.args.name k v before none)
    ∙ ap (put_own c.args.name k v) c.self.view_is
