use Rattle.std.proofs.Common.{◌∙◌, not, map, slice_get, sym, ap}
use Rattle.cc_meaning.specs.Shapes.{tables_of}
use Rattle.cc_meaning.specs.SlotRules.{rule_unless}
use Rattle.cc_meaning.specs.Typed.{of_all_elements}
use Rattle.cc_value.specs.Bridge.{value_of}
use Rattle.cc_conform.proofs.WriteLemmas.{element-no_index, element-no_array, element-parts}
use Rattle.cc_conform.proofs.writes.element_rule.Goals as goal
use Rattle.cc_conform.proofs.writes.element_rule.Goals.{then-is_none-via-then-is_none, then-is_none-via-else-is_none+then-not-is_array}

pub returns-then-is_none : goal.returns-then-is_none
returns-then-is_none c =
    let T = tables_of c.args.program.now in
    let os = c.args.heap.now.objs in
    elim c.then-is_none.branch [
      | then-is_none-via-then-is_none w ↦ element-no_index T os (slice_get os c.args.object) c.args.index (value_of c.args.value.now) (c.is_none.ensures ∙ ap not w.if-is_none.true)
      | then-is_none-via-else-is_none+then-not-is_array w ↦ element-no_array T os (slice_get os c.args.object) c.args.index (value_of c.args.value.now) (sym w.is_array.ensures ∙ w.if-not-is_array.true)
    ]

pub returns : goal.returns
returns c =
    let T = tables_of c.args.program.now in
    let os = c.args.heap.now.objs in
    let all = c.of_all_elements.ensures ∙ (λ i. of_all_elements T os (c.wanted-wanted.ensures i) (map value_of (c.from_ref.ensures.value i))) in
    c.rule_unless.ensures ∙ (λ i. rule_unless (all i) 6) ∙ element-parts T os (slice_get os c.args.object) c.args.index (value_of c.args.value.now) (c.is_none.ensures ∙ ap not c.if-is_none.false) (sym c.is_array.ensures ∙ c.if-not-is_array.false)
