use Rattle.std.proofs.Common.{◌∙◌, ◌&&◌, Bool, sym, ap}
use Rattle.cc_meaning.specs.SlotRules.{rule_unless}
use Rattle.cc_conform.proofs.UseArrays.{join-takes, join-not}
use Rattle.cc_conform.proofs.array_uses.join_rule.Goals as goal

pub returns-then-are_texts-has_one_at_most : goal.returns-then-are_texts-has_one_at_most
returns-then-are_texts-has_one_at_most c =
    c.rule_unless.ensures ∙ (λ i. rule_unless (c.are_prims.ensures i) 2)
    ∙ join-takes c.args.elements.now c.args.args.now c.are_texts.result c.are_texts.ensures (ap (λ (n : Bool). c.are_texts.result && n) (sym c.has_one_at_most.ensures) ∙ c.if-are_texts-has_one_at_most.true)

pub returns-else-are_texts-has_one_at_most : goal.returns-else-are_texts-has_one_at_most
returns-else-are_texts-has_one_at_most c =
    join-not c.args.elements.now c.args.args.now c.are_texts.result c.are_texts.ensures (ap (λ (n : Bool). c.are_texts.result && n) (sym c.has_one_at_most.ensures) ∙ c.if-are_texts-has_one_at_most.false)
