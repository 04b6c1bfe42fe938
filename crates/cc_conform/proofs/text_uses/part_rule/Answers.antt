use Rattle.std.proofs.Common.{◌∙◌, ◌&&◌, sym}
use Rattle.cc_meaning.specs.SlotRules.{rule_unless}
use Rattle.cc_conform.proofs.UseTexts.{slice-rule, substring-rule}
use Rattle.cc_conform.proofs.text_uses.part_rule.Goals as goal

pub returns : goal.returns
returns c = record {
  slice = λ t. c.rule_unless.ensures ∙ (λ i. rule_unless (c.are_wholes.ensures i && c.has_one_or_two.ensures i) 2) ∙ sym (slice-rule t c.args.args.now);
  substring = λ t. c.rule_unless.ensures ∙ (λ i. rule_unless (c.are_wholes.ensures i && c.has_one_or_two.ensures i) 2) ∙ sym (substring-rule t c.args.args.now);
}
