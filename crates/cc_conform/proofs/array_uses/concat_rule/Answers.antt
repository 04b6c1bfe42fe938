use Rattle.std.proofs.Common.{◌∙◌, sym}
use Rattle.cc_meaning.specs.SlotRules.{rule_unless}
use Rattle.cc_conform.proofs.UseArrays.{concat-rule}
use Rattle.cc_conform.proofs.array_uses.concat_rule.Goals as goal

pub returns : goal.returns
returns c = λ es. c.rule_unless.ensures ∙ (λ i. rule_unless (c.are_arrays.ensures i) 2) ∙ sym (concat-rule c.args.heap.now.objs es c.args.args.now)
