use Rattle.std.proofs.Common.{◌≡◌, ◌∙◌, slice_get, sym, ap}
use Rattle.cc_meaning.specs.Shapes.{tables_of}
use Rattle.cc_meaning.specs.SlotRules.{remove_rule, object_remove, has_slot, slots_rule, least, rule_unless}
use Rattle.cc_meaning.specs.Store.{name_of, slots_in}
use Rattle.cc_value.specs.Bridge.{value_of}
use Rattle.cc_value.specs.declared.value.Value.{Value}
use Rattle.cc_conform.specs.Bridge.{access_of, with_store}
use Rattle.cc_conform.proofs.WriteLemmas.{remove-others}
use Rattle.cc_conform.proofs.writes.remove_rule.Goals as goal

pub returns-in-Object : goal.returns-in-Object
unfolding remove_rule object_remove
returns-in-Object c = λ s.
    let T = tables_of c.args.program.now in
    let a = access_of c.args.key.now in
    let o = slice_get c.args.heap.now.objs c.in-Object.object in
    let name = c.name_of-name.ensures in
    let text : c.as_slice.result.now ≡ name_of T a = c.as_slice.ensures.value ∙ c.name.view_is ∙ name in
    let there = c.rule_unless.ensures ∙ (λ i. rule_unless (c.has_slot.ensures i) 2) ∙ (λ i. rule_unless (has_slot o (name i)) 2) in
    let rest = c.own_slots_rule.ensures ∙ (λ i. slots_rule T a (text i) (slots_in o)) in
    c.least.ensures ∙ (λ i. least (there i) (rest i)) ∙ ap (λ (x : Value). remove_rule T (with_store s c.args.heap.now) (value_of x) a) (sym c.in-Object.is)

pub returns : goal.returns
returns c = λ s. remove-others (tables_of c.args.program.now) (with_store s c.args.heap.now) (access_of c.args.key.now) c.args.on.now c.in_default.not-Object
