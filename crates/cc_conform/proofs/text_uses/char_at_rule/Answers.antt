use Rattle.std.proofs.Common.{◌∙◌, ◌&&◌, sym}
use Rattle.cc_meaning.specs.SlotRules.{rule_unless}
use Rattle.cc_conform.proofs.UseTexts.{char_at-rule}
use Rattle.cc_conform.proofs.text_uses.char_at_rule.Goals as goal

pub returns : goal.returns
returns c = λ t. c.rule_unless.ensures ∙ (λ i. rule_unless (c.are_wholes.ensures i && c.has_one.ensures i) 2) ∙ sym (char_at-rule t c.args.args.now)
