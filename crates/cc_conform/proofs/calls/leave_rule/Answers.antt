use Rattle.std.proofs.Common.{◌∙◌, ◌&&◌}
use Rattle.cc_meaning.specs.Rules.{builds_well, leave_rule}
use Rattle.cc_meaning.specs.Shapes.{tables_of}
use Rattle.cc_meaning.specs.SlotRules.{rule_unless}
use Rattle.cc_meaning.specs.Typed.{of_opt_type}
use Rattle.cc_value.specs.Bridge.{value_of}
use Rattle.cc_conform.specs.Bridge.{with_store}
use Rattle.cc_conform.proofs.calls.leave_rule.Goals as goal

pub returns : goal.returns
unfolding leave_rule
returns c = λ s.
    let T = tables_of c.args.program.now in
    let v = value_of c.args.value.now in
    let typed = c.fits-is_typed.ensures ∙ (λ i. of_opt_type T c.args.heap.now.objs (c.result_type.ensures i) v) in
    let built = c.builds_well.ensures s ∙ (λ i. builds_well T (with_store s c.args.heap.now) (c.class_of_function-class.ensures i) c.args.built v) in
    c.rule_unless.ensures ∙ (λ i. rule_unless (typed i && built i) 6)
