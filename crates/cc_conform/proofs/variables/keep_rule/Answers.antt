use Rattle.std.proofs.Common.{◌∙◌}
use Rattle.cc_meaning.specs.Rules.{keep_rule}
use Rattle.cc_meaning.specs.Shapes.{tables_of}
use Rattle.cc_meaning.specs.SlotRules.{rule_unless}
use Rattle.cc_meaning.specs.Typed.{of_opt_type}
use Rattle.cc_value.specs.Bridge.{value_of}
use Rattle.cc_conform.proofs.variables.keep_rule.Goals as goal

pub returns : goal.returns
unfolding keep_rule
returns c = λ s.
    let fit = c.fits.ensures ∙ (λ i. of_opt_type (tables_of c.args.program.now) c.args.heap.now.objs (c.variable_type.ensures i) (value_of c.args.value.now)) in
    c.rule_unless.ensures ∙ (λ i. rule_unless (fit i) 6)
