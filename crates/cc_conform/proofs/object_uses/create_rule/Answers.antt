use Rattle.std.proofs.Common.{◌∙◌, List, map, sym, ap}
use Rattle.cc_meaning.specs.Built.{outcome_of, rule_in}
use Rattle.cc_meaning.specs.SlotRules.{rule_unless}
use Rattle.cc_meaning.specs.Store.{create_object}
use Rattle.cc_value.specs.Bridge.{value_of}
use Rattle.cc_value.specs.declared.value.Value.{Value}
use Rattle.cc_conform.proofs.UseObjects.{create-one, create-other}
use Rattle.cc_conform.proofs.UseTexts.{only-Some}
use Rattle.cc_conform.proofs.object_uses.create_rule.Goals as goal

pub returns-in-Some : goal.returns-in-Some
returns-in-Some c = λ T s.
    c.rule_unless.ensures ∙ (λ i. rule_unless (c.is_prototype.ensures i) 2) ∙ create-one T s c.in-Some.prototype.now
    ∙ sym (ap (λ (xs : List Value). rule_in T s (outcome_of s create_object (map value_of xs))) (only-Some c.args.operands.now c.in-Some.prototype.now (sym c.in-Some.ensures)))

pub returns-in-None : goal.returns-in-None
returns-in-None c = λ T s. create-other T s c.args.operands.now (sym c.in-None.ensures)
