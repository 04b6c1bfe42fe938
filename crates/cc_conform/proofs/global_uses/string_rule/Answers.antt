use Rattle.std.proofs.Common.{◌∙◌, ◌&&◌, sym}
use Rattle.cc_meaning.specs.SlotRules.{rule_unless}
use Rattle.cc_conform.proofs.UseGlobals.{string-rule}
use Rattle.cc_conform.proofs.global_uses.string_rule.Goals as goal

pub returns : goal.returns
returns c = c.rule_unless.ensures ∙ (λ i. rule_unless (c.are_prims.ensures i && c.has_one.ensures i) 2) ∙ sym (string-rule c.args.args.now)
