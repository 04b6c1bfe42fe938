use Rattle.std.proofs.Common.{◌∙◌, ◌+◌, ◌&&◌, Bool, List, drop, map, sym, ap}
use Rattle.cc_ast.specs.declared.tables.Element.{Element}
use Rattle.cc_value.specs.Bridge.{value_of}
use Rattle.cc_meaning.specs.State.{Tables}
use Rattle.cc_meaning.specs.Shapes.{tables_of}
use Rattle.cc_meaning.specs.Typed.{of_all_elements}
use Rattle.cc_conform.proofs.Loops.{step, end}
use Rattle.cc_conform.proofs.types.of_all_elements.Goals as goal

pub returns-then-not-all_of_element : goal.returns-then-not-all_of_element
unfolding of_all_elements
returns-then-not-all_of_element c =
    let T : Tables = tables_of c.args.program.now in
    let rest : Bool = of_all_elements T c.args.heap.now.objs (drop (c.loop-element.element-index + 1) c.args.wanted.now) (map value_of c.args.values.now) in
    sym (sym c.loop-element.invariant ∙ step (λ (es : List Element). of_all_elements T c.args.heap.now.objs es (map value_of c.args.values.now)) c.args.wanted.now c.loop-element.element-index c.element-item.result c.loop-element-test.true c.element-item.is ∙ ap (λ (b : Bool). b && rest) (sym c.all_of_element.ensures ∙ c.if-not-all_of_element.true))

pub loop-element-preserved : goal.loop-element-preserved
unfolding of_all_elements
loop-element-preserved c =
    let T : Tables = tables_of c.args.program.now in
    let rest : Bool = of_all_elements T c.args.heap.now.objs (drop (c.loop-element.element-index + 1) c.args.wanted.now) (map value_of c.args.values.now) in
    sym (sym c.loop-element.invariant ∙ step (λ (es : List Element). of_all_elements T c.args.heap.now.objs es (map value_of c.args.values.now)) c.args.wanted.now c.loop-element.element-index c.element-item.result c.loop-element-test.true c.element-item.is ∙ ap (λ (b : Bool). b && rest) (sym c.all_of_element.ensures ∙ c.if-not-all_of_element.false))

pub returns : goal.returns
unfolding of_all_elements
returns c =
    let T : Tables = tables_of c.args.program.now in
    sym (sym c.loop-element.invariant ∙ end (λ (es : List Element). of_all_elements T c.args.heap.now.objs es (map value_of c.args.values.now)) c.args.wanted.now c.loop-element.element-index c.loop-element-test.false)
