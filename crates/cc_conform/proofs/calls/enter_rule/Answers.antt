use Rattle.std.proofs.Common.{◌∙◌, ◌&&◌, List, map, ap}
use Rattle.std.specs.Option.{option_map}
use Rattle.cc_ast.specs.Syntax.{Program}
use Rattle.cc_ast.specs.declared.tables.Class.{Class}
use Rattle.cc_meaning.specs.Rules.{all_fit, enter_rule, receiver_fits, runs_on}
use Rattle.cc_meaning.specs.Shapes.{tables_of}
use Rattle.cc_meaning.specs.SlotRules.{least, rule_unless}
use Rattle.cc_meaning.specs.Store.{code_class_from}
use Rattle.cc_value.specs.Bridge.{value_of}
use Rattle.cc_conform.specs.Bridge.{with_store}
use Rattle.cc_conform.proofs.calls.enter_rule.Goals as goal

pub returns : goal.returns
unfolding enter_rule tables_of
returns c = λ s.
    let T = tables_of c.args.program.now in
    let S = with_store s c.args.heap.now in
    let r = option_map value_of c.args.receiver.now in
    let here = c.as_slice.ensures ∙ c.get.ensures ∙ ap (λ (p : Program). p.classes) c.program.view_is in
    let class = c.code_class_from-class.ensures ∙ ap (λ (cs : List Class). code_class_from 0 cs c.args.function) here in
    let runs = c.runs_on-is_run.ensures s ∙ (λ i. runs_on T S (class i) r) in
    let received = c.receiver_fits-is_received.ensures s ∙ (λ i. receiver_fits T S (c.receiver_type-wanted.ensures i) r) in
    let all = c.all_fit.ensures s ∙ (λ i. all_fit T S (c.param_types-types.ensures i) (map value_of c.args.values.now)) in
    let first = c.rule_unless.ensures ∙ (λ i. rule_unless (runs i && received i) 5) in
    let second = c.rule_unless-2.ensures ∙ (λ i. rule_unless (all i) 6) in
    c.least.ensures ∙ (λ i. least (first i) (second i))
