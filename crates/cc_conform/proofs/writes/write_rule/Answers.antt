use Rattle.std.proofs.Common.{◌≡◌, ◌∙◌, [], sym, ap}
use Rattle.cc_meaning.specs.Names.{name_proto}
use Rattle.cc_meaning.specs.Operators.{list_eq}
use Rattle.cc_meaning.specs.Shapes.{tables_of}
use Rattle.cc_meaning.specs.SlotRules.{write_rule, object_write, outside_rule, slot_rule, least, rule_if}
use Rattle.cc_meaning.specs.State.{keyed_kind}
use Rattle.cc_meaning.specs.Store.{name_of}
use Rattle.cc_value.specs.Bridge.{value_of}
use Rattle.cc_value.specs.declared.value.Value.{Value}
use Rattle.cc_conform.specs.Bridge.{access_of, with_store}
use Rattle.cc_conform.proofs.WriteLemmas.{write-others}
use Rattle.cc_conform.proofs.writes.write_rule.Goals as goal

pub returns-in-Object : goal.returns-in-Object
unfolding write_rule
returns-in-Object c = λ s.
    let T = tables_of c.args.program.now in
    let a = access_of c.args.key.now in
    let S = with_store s c.args.heap.now in
    let v = value_of c.args.value.now in
    let named : c.as_slice-name.result.now ≡ name_of T a = c.as_slice-name.ensures.value ∙ c.behind-program.view_is ∙ c.name_of.ensures in
    let proto = c.rule_if.ensures ∙ (λ i. rule_if (c.is_spelled.ensures i) 2) ∙ (λ i. rule_if (list_eq (named i) name_proto) 2) in
    let rest = c.object_write.ensures s ∙ (λ i. object_write T S c.in-Object.object a (named i) v c.args.declares) in
    c.least.ensures ∙ (λ i. least (proto i) (rest i)) ∙ ap (λ (x : Value). write_rule T S (value_of x) a v c.args.declares) (sym c.in-Object.is)

pub returns-in-Outside : goal.returns-in-Outside
unfolding write_rule outside_rule
returns-in-Outside c = λ s.
    let T = tables_of c.args.program.now in
    let a = access_of c.args.key.now in
    let S = with_store s c.args.heap.now in
    let v = value_of c.args.value.now in
    let named : c.as_slice-name.result.now ≡ name_of T a = c.as_slice-name.ensures.value ∙ c.behind-program.view_is ∙ c.name_of.ensures in
    let proto = c.rule_if-in-Outside.ensures ∙ (λ i. rule_if (c.is_spelled-in-Outside.ensures i) 2) ∙ (λ i. rule_if (list_eq (named i) name_proto) 2) in
    let rest = c.outside_rule.ensures ∙ (λ i. slot_rule T a (named i) keyed_kind []) in
    c.least-in-Outside.ensures ∙ (λ i. least (proto i) (rest i)) ∙ ap (λ (x : Value). write_rule T S (value_of x) a v c.args.declares) (sym c.in-Outside.is)

pub returns : goal.returns
returns c = λ s. write-others (tables_of c.args.program.now) (with_store s c.args.heap.now) (access_of c.args.key.now) c.args.on.now (value_of c.args.value.now) c.args.declares c.in_default.not-Object c.in_default.not-Outside
