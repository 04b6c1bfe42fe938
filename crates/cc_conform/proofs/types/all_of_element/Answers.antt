use Rattle.std.proofs.Common.{◌∙◌, ◌+◌, ◌&&◌, Bool, List, drop, map, sym, ap}
use Rattle.cc_value.specs.declared.value.Value.{Value}
use Rattle.cc_value.specs.Bridge.{value_of}
use Rattle.cc_meaning.specs.State.{Tables}
use Rattle.cc_meaning.specs.Shapes.{tables_of}
use Rattle.cc_meaning.specs.Typed.{all_of_element}
use Rattle.cc_conform.proofs.Loops.{step, end}
use Rattle.cc_conform.proofs.types.all_of_element.Goals as goal

pub returns-then-not-of_element : goal.returns-then-not-of_element
unfolding all_of_element
returns-then-not-of_element c =
    let T : Tables = tables_of c.args.program.now in
    let rest : Bool = all_of_element T c.args.heap.now.objs c.args.element.now (map value_of (drop (c.loop-value.value-index + 1) c.args.values.now)) in
    sym (sym c.loop-value.invariant ∙ step (λ (vs : List Value). all_of_element T c.args.heap.now.objs c.args.element.now (map value_of vs)) c.args.values.now c.loop-value.value-index c.value-item.result c.loop-value-test.true c.value-item.is ∙ ap (λ (b : Bool). b && rest) (sym c.of_element.ensures ∙ c.if-not-of_element.true))

pub loop-value-preserved : goal.loop-value-preserved
unfolding all_of_element
loop-value-preserved c =
    let T : Tables = tables_of c.args.program.now in
    let rest : Bool = all_of_element T c.args.heap.now.objs c.args.element.now (map value_of (drop (c.loop-value.value-index + 1) c.args.values.now)) in
    sym (sym c.loop-value.invariant ∙ step (λ (vs : List Value). all_of_element T c.args.heap.now.objs c.args.element.now (map value_of vs)) c.args.values.now c.loop-value.value-index c.value-item.result c.loop-value-test.true c.value-item.is ∙ ap (λ (b : Bool). b && rest) (sym c.of_element.ensures ∙ c.if-not-of_element.false))

pub returns : goal.returns
unfolding all_of_element
returns c =
    let T : Tables = tables_of c.args.program.now in
    sym (sym c.loop-value.invariant ∙ end (λ (vs : List Value). all_of_element T c.args.heap.now.objs c.args.element.now (map value_of vs)) c.args.values.now c.loop-value.value-index c.loop-value-test.false)
