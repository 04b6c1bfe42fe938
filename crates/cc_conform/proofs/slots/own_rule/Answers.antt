use Rattle.std.proofs.Common.{◌≤◌, ◌∙◌, ◌+◌, List, Option, ℕ, drop, length, slice_get, refl, sym, ap, arith}
use Rattle.cc_meaning.specs.SlotRules.{least}
use Rattle.cc_meaning.specs.State.{Slot}
use Rattle.cc_meaning.specs.Store.{slots_in}
use Rattle.cc_conform.specs.Slots.{least_of, test_rule}
use Rattle.cc_conform.proofs.Loops.{step_got, end_got, end}
use Rattle.cc_conform.proofs.SlotLemmas.{least-None, least-assoc}
use Rattle.cc_conform.proofs.slots.own_rule.Goals as goal

pub loop-at-init : goal.loop-at-init
unfolding least
loop-at-init c = refl

pub returns-in-None : goal.returns-in-None
unfolding least_of
returns-in-None c =
    let xs = slots_in (slice_get c.args.heap.now.objs c.args.object) in
    sym (least-None c.loop-at.broken) ∙ ap (least c.loop-at.broken) (sym (end_got (least_of c.args.test c.args.name.now) xs c.loop-at.at c.in-None.ensures)) ∙ c.loop-at.invariant

pub loop-at-preserved : goal.loop-at-preserved
unfolding least_of
loop-at-preserved c =
    let F : List Slot → Option ℕ = least_of c.args.test c.args.name.now in
    let xs = slots_in (slice_get c.args.heap.now.objs c.args.object) in
    let r = test_rule c.args.test c.args.name.now c.in-Some.slot.now in
    let rest = F (drop (c.loop-at.at + 1) xs) in
    ap (λ (x : Option ℕ). least x rest) (c.least-broken.ensures ∙ ap (least c.loop-at.broken) c.test_slot.ensures)
    ∙ sym (least-assoc c.loop-at.broken r rest)
    ∙ ap (least c.loop-at.broken) (sym (step_got F xs c.loop-at.at c.in-Some.slot.now c.in-Some.ensures))
    ∙ c.loop-at.invariant

pub returns : goal.returns
unfolding least_of
returns c =
    let xs = slots_in (slice_get c.args.heap.now.objs c.args.object) in
    let past : length xs ≤ c.loop-at.at = omega (arith, c.slot_count-at-end.ensures, c.loop-at-test.false) in
    sym (least-None c.loop-at.broken) ∙ ap (least c.loop-at.broken) (sym (end (least_of c.args.test c.args.name.now) xs c.loop-at.at past)) ∙ c.loop-at.invariant
