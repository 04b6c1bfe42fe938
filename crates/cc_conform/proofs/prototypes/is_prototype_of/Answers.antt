use Rattle.std.proofs.Common.{◌≤◌, ◌<◌, ◌∙◌, true, false, List, length, sym, arith}
use Rattle.cc_meaning.specs.SlotRules.{is_prototype_of}
use Rattle.cc_meaning.specs.State.{Obj}
use Rattle.cc_conform.proofs.Loops.{end}
use Rattle.cc_conform.proofs.PrototypeLemmas.{owner-next}
use Rattle.cc_conform.proofs.prototypes.is_prototype_of.Goals as goal

pub returns-then-has_prototype : goal.returns-then-has_prototype
returns-then-has_prototype c =
    let within : c.loop-number.number < length c.args.heap.now.objs = omega (arith, c.object_count-number-end.ensures, c.loop-number-test.true) in
    sym (sym c.loop-number.invariant ∙ owner-next c.args.heap.now.objs c.loop-number.number c.args.function c.args.object true within (sym c.if-has_prototype.true ∙ c.has_prototype.ensures))

pub loop-number-preserved : goal.loop-number-preserved
loop-number-preserved c =
    let within : c.loop-number.number < length c.args.heap.now.objs = omega (arith, c.object_count-number-end.ensures, c.loop-number-test.true) in
    sym (sym c.loop-number.invariant ∙ owner-next c.args.heap.now.objs c.loop-number.number c.args.function c.args.object false within (sym c.if-has_prototype.false ∙ c.has_prototype.ensures))

pub returns : goal.returns
unfolding is_prototype_of
returns c =
    let past : length c.args.heap.now.objs ≤ c.loop-number.number = omega (arith, c.object_count-number-end.ensures, c.loop-number-test.false) in
    sym (sym c.loop-number.invariant ∙ end (λ (xs : List Obj). is_prototype_of xs c.args.function c.args.object) c.args.heap.now.objs c.loop-number.number past)
