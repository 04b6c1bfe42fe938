use Rattle.std.proofs.Common.{◌∙◌, List, map, ap, sym, arith}
use Rattle.cc_meaning.specs.Rules.{operate_rule, unary_op}
use Rattle.cc_value.specs.Bridge.{value_of}
use Rattle.cc_value.specs.declared.value.Value.{Value}
use Rattle.cc_conform.proofs.OperatorLemmas.{one-operand, not_unary}
use Rattle.cc_conform.proofs.operators.unary_operands_rule.Goals as goal

pub returns-in-len1 : goal.returns-in-len1
unfolding operate_rule
returns-in-len1 c = λ T s.
    let known = one-operand c.args.operands.now c.value-item.result c.in-len1.len_at_least c.in-len1.len_below c.value-item.is in
    c.unary_rule.ensures ∙ sym (ap (λ (xs : List Value). operate_rule T s (unary_op c.args.op) (map value_of xs)) known)

pub returns-in_default : goal.returns-in_default
returns-in_default c = λ T s. not_unary T s c.args.op c.args.operands.now (λ h k. omega (arith, c.in_default.len_below, h))

pub returns-in_default-2 : goal.returns-in_default-2
returns-in_default-2 c = λ T s. not_unary T s c.args.op c.args.operands.now (λ h k. omega (arith, c.in_default.len_at_least, k))
