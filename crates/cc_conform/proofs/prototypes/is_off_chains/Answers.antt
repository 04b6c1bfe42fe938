use Rattle.std.proofs.Common.{◌≤◌, ◌<◌, ◌∙◌, true, false, Some, List, length, sym, arith}
use Rattle.cc_meaning.specs.SlotRules.{is_off_chains}
use Rattle.cc_meaning.specs.State.{Obj}
use Rattle.cc_meaning.specs.Values.{obj}
use Rattle.cc_conform.proofs.Loops.{end}
use Rattle.cc_conform.proofs.PrototypeLemmas.{off-next, off-none}
use Rattle.cc_conform.proofs.prototypes.is_off_chains.Goals as goal

pub returns-then-is_on_chain : goal.returns-then-is_on_chain
returns-then-is_on_chain c =
    let within : c.loop-object.object < length c.args.heap.now.objs = omega (arith, c.object_count-object-end.ensures, c.loop-object-test.true) in
    sym (sym c.loop-object.invariant ∙ off-next c.args.heap.now.objs c.loop-object.object c.args.prototype true within (sym c.if-is_on_chain.true ∙ c.is_on_chain.ensures))

pub loop-object-preserved : goal.loop-object-preserved
loop-object-preserved c =
    let within : c.loop-object.object < length c.args.heap.now.objs = omega (arith, c.object_count-object-end.ensures, c.loop-object-test.true) in
    sym (sym c.loop-object.invariant ∙ off-next c.args.heap.now.objs c.loop-object.object c.args.prototype false within (sym c.if-is_on_chain.false ∙ c.is_on_chain.ensures))

pub returns : goal.returns
returns c =
    let past : length c.args.heap.now.objs ≤ c.loop-object.object = omega (arith, c.object_count-object-end.ensures, c.loop-object-test.false) in
    sym (sym c.loop-object.invariant ∙ end (λ (xs : List Obj). is_off_chains xs (Some (obj c.args.prototype))) c.args.heap.now.objs c.loop-object.object past ∙ off-none c.args.prototype)
