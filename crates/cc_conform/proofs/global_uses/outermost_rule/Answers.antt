use Rattle.std.proofs.Common.{◌∙◌, ◌&&◌, not, sym}
use Rattle.cc_meaning.specs.SlotRules.{rule_unless}
use Rattle.cc_conform.proofs.UseGlobals.{max-rule, min-rule}
use Rattle.cc_conform.proofs.global_uses.outermost_rule.Goals as goal

pub returns : goal.returns
returns c = record {
  max = c.rule_unless.ensures ∙ (λ i. rule_unless (not (c.has_none.ensures i) && c.are_wholes.ensures i) 2) ∙ sym (max-rule c.args.args.now);
  min = c.rule_unless.ensures ∙ (λ i. rule_unless (not (c.has_none.ensures i) && c.are_wholes.ensures i) 2) ∙ sym (min-rule c.args.args.now);
}
