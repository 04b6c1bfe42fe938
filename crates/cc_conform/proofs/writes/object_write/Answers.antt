use Rattle.std.proofs.Common.{◌∙◌, slice_get}
use Rattle.cc_meaning.specs.Shapes.{tables_of}
use Rattle.cc_meaning.specs.SlotRules.{object_write, array_write_rule, element_rule, field_rule, least}
use Rattle.cc_meaning.specs.Typed.{elements_in}
use Rattle.cc_value.specs.Bridge.{value_of}
use Rattle.cc_conform.specs.Bridge.{access_of, with_store}
use Rattle.cc_conform.proofs.writes.object_write.Goals as goal

pub returns : goal.returns
unfolding object_write
returns c = λ s.
    let T = tables_of c.args.program.now in
    let a = access_of c.args.key.now in
    let S = with_store s c.args.heap.now in
    let os = c.args.heap.now.objs in
    let o = slice_get os c.args.object in
    let n = c.args.name.now in
    let v = value_of c.args.value.now in
    let index = c.index_of-index.ensures in
    let broken = c.own_slots_rule-broken.ensures in
    let by_length = c.array_write_rule-by_length.ensures ∙ (λ i. array_write_rule (elements_in o) n (index i)) in
    let by_element = c.element_rule-by_element.ensures ∙ (λ i. element_rule T os o (index i) v) in
    let by_type = c.field_rule-by_type.ensures s ∙ (λ i. field_rule T S c.args.object a n (broken i) v) in
    let by_class = c.prototype_rule-by_class.ensures s in
    let by_names = c.least.ensures ∙ (λ i. least (c.unwritten_rule-by_name.ensures i) (by_class i)) in
    let by_slots = c.least-by_slots.ensures ∙ (λ i. least (broken i) (by_names i)) in
    let third = c.least-2.ensures ∙ (λ i. least (by_type i) (by_slots i)) in
    let by_value = c.least-by_value.ensures ∙ (λ i. least (by_element i) (third i)) in
    let second = c.least-3.ensures ∙ (λ i. least (by_length i) (by_value i)) in
    c.least-4.ensures ∙ (λ i. least (c.whole_key_rule-by_key.ensures i) (second i))
