use Rattle.std.proofs.Common.{◌∙◌, ◌&&◌, not}
use Rattle.cc_meaning.specs.Rules.{take_rule}
use Rattle.cc_meaning.specs.SlotRules.{least, rule_if}
use Rattle.cc_conform.proofs.variables.take_rule.Goals as goal

pub returns : goal.returns
unfolding take_rule
returns c =
    let early = c.rule_if.ensures ∙ (λ i. rule_if (c.is_settled.ensures i && not c.args.set) 11) in
    c.least.ensures ∙ (λ i. least (c.rule_unless.ensures i) (early i))
