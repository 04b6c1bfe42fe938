use Rattle.std.proofs.Common.{◌≡◌, ℕ, None, length, position, sym, subst, ap, ◌∙◌, arith}
use Rattle.cc_core.specs.Events.{at_found, claimed}
use Rattle.cc_core.specs.SlotState.{NoneBefore, slots_of, is_pending_inside}
use Rattle.cc_core.proofs.SlotLemmas.{slots_of_found, found_here, found_pending, position_within}
use Rattle.cc_core.proofs.Cursor.{none_anywhere, none_taken}
use Rattle.cc_core.proofs.slots.Slots.claim.Goals as goal

pub invariant_of-self : goal.invariant_of-self
invariant_of-self c =
    let ss = c.self.inside.items.items in
    let at : position is_pending_inside ss ≡ None = sym (c.in-None.ensures ∙ ap (position is_pending_inside) c.deref.ensures.value) in
    let n : length ss ≡ c.len-self-inside.result = omega (arith, c.self.inside.items.ok.0) in
    subst (λ (n : ℕ). NoneBefore is_pending_inside n ss) n (none_anywhere is_pending_inside ss at)

pub returns-in-None-clause-found : goal.returns-in-None-clause-found
returns-in-None-clause-found c xs = rw (← c.self.view_is) (found_pending xs c.self.inside.items.items ∙ sym (c.in-None.ensures ∙ ap (position is_pending_inside) c.deref.ensures.value))

pub returns-in-None-clause-slots : goal.returns-in-None-clause-slots
returns-in-None-clause-slots c xs =
    let none = found_pending xs c.self.inside.items.items ∙ sym (c.in-None.ensures ∙ ap (position is_pending_inside) c.deref.ensures.value) in
    rw (← c.self.view_is) (sym (ap (λ o. at_found claimed o (slots_of xs c.self.inside.items.items)) none))

pub claim_slot-requires : goal.claim_slot-requires
claim_slot-requires c =
    let at = sym (c.in-Some.ensures ∙ ap (position is_pending_inside) c.deref.ensures.value) in
    found_here is_pending_inside c.self.inside.items.items c.in-Some.slot c.index_mut-at.result.now at c.index_mut-at.ensures.value

pub invariant_of-self-in-Some : goal.invariant_of-self-in-Some
invariant_of-self-in-Some c =
    let at = sym (c.in-Some.ensures ∙ ap (position is_pending_inside) c.deref.ensures.value) in
    none_taken is_pending_inside c.in-Some.slot c.self.inside.items.items c.claim_slot.new.at at c.claim_slot.ensures.taken

pub returns-in-Some-clause-found : goal.returns-in-Some-clause-found
returns-in-Some-clause-found c xs = rw (← c.self.view_is) (found_pending xs c.self.inside.items.items ∙ sym (c.in-Some.ensures ∙ ap (position is_pending_inside) c.deref.ensures.value))

pub returns-in-Some-clause-slots : goal.returns-in-Some-clause-slots
returns-in-Some-clause-slots c xs =
    let at = sym (c.in-Some.ensures ∙ ap (position is_pending_inside) c.deref.ensures.value) in
    rw (← c.self.view_is) (slots_of_found claimed _ xs c.self.inside.items.items c.in-Some.slot c.claim_slot.new.at c.index_mut-at.result.now (found_pending xs c.self.inside.items.items ∙ at)
    (position_within is_pending_inside c.self.inside.items.items c.in-Some.slot at) c.index_mut-at.ensures.value c.claim_slot.ensures.slot)
