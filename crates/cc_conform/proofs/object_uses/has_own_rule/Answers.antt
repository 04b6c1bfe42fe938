use Rattle.std.proofs.Common.{◌∙◌, ◌&&◌, List, map, sym, ap, arith}
use Rattle.cc_meaning.specs.Built.{outcome_of, rule_in}
use Rattle.cc_meaning.specs.SlotRules.{rule_unless}
use Rattle.cc_meaning.specs.Store.{has_own}
use Rattle.cc_value.specs.Bridge.{value_of}
use Rattle.cc_value.specs.declared.value.Value.{Value}
use Rattle.cc_conform.proofs.OperatorLemmas.{two-operands}
use Rattle.cc_conform.proofs.UseObjects.{has_own-two, has_own-other}
use Rattle.cc_conform.proofs.object_uses.has_own_rule.Goals as goal

pub returns-in-len2 : goal.returns-in-len2
returns-in-len2 c = λ T s.
    let known = two-operands c.args.operands.now c.on-item.result c.name-item.result c.in-len2.len_at_least c.in-len2.len_below c.on-item.is c.name-item.is in
    c.rule_unless.ensures ∙ (λ i. rule_unless (c.is_object.ensures i && c.is_text.ensures i) 2) ∙ has_own-two T s c.on-item.result c.name-item.result
    ∙ sym (ap (λ (xs : List Value). rule_in T s (outcome_of s has_own (map value_of xs))) known)

pub returns-in_default : goal.returns-in_default
returns-in_default c = λ T s. has_own-other T s c.args.operands.now (λ h k. omega (arith, c.in_default.len_below, h))

pub returns-in_default-2 : goal.returns-in_default-2
returns-in_default-2 c = λ T s. has_own-other T s c.args.operands.now (λ h k. omega (arith, c.in_default.len_at_least, k))
