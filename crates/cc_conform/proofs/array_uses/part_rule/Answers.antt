use Rattle.std.proofs.Common.{◌∙◌, ◌&&◌, sym}
use Rattle.cc_meaning.specs.SlotRules.{rule_unless}
use Rattle.cc_conform.proofs.UseArrays.{slice-rule}
use Rattle.cc_conform.proofs.array_uses.part_rule.Goals as goal

pub returns : goal.returns
returns c = λ es. c.rule_unless.ensures ∙ (λ i. rule_unless (c.are_wholes.ensures i && c.has_two_at_most.ensures i) 2) ∙ sym (slice-rule es c.args.args.now)
