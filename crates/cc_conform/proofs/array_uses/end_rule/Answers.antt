use Rattle.std.proofs.Common.{◌∙◌, map, sym}
use Rattle.cc_meaning.specs.SlotRules.{rule_unless}
use Rattle.cc_value.specs.Bridge.{value_of}
use Rattle.cc_conform.proofs.UseArrays.{pop-rule, shift-rule}
use Rattle.cc_conform.proofs.array_uses.end_rule.Goals as goal

pub returns : goal.returns
returns c = record {
  pop = λ es. c.rule_unless.ensures ∙ (λ i. rule_unless (c.has_none.ensures i) 2) ∙ sym (pop-rule es (map value_of c.args.args.now));
  shift = λ es. c.rule_unless.ensures ∙ (λ i. rule_unless (c.has_none.ensures i) 2) ∙ sym (shift-rule es (map value_of c.args.args.now));
}
