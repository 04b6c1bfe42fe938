use Rattle.std.proofs.Common.{◌∙◌, sym}
use Rattle.cc_meaning.specs.SlotRules.{rule_unless}
use Rattle.cc_conform.proofs.UseGlobals.{codes-rule}
use Rattle.cc_conform.proofs.global_uses.codes_rule.Goals as goal

pub returns : goal.returns
returns c = c.rule_unless.ensures ∙ (λ i. rule_unless (c.are_wholes.ensures i) 2) ∙ sym (codes-rule c.args.args.now)
