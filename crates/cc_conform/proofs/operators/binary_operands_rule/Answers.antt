use Rattle.std.proofs.Common.{◌∙◌, List, map, ap, sym, arith}
use Rattle.cc_meaning.specs.Rules.{operate_rule, binary_op}
use Rattle.cc_value.specs.Bridge.{value_of}
use Rattle.cc_value.specs.declared.value.Value.{Value}
use Rattle.cc_conform.specs.Bridge.{with_store}
use Rattle.cc_conform.proofs.OperatorLemmas.{two-operands, not_binary}
use Rattle.cc_conform.proofs.operators.binary_operands_rule.Goals as goal

pub returns-in-len2 : goal.returns-in-len2
unfolding operate_rule
returns-in-len2 c = λ T s.
    let known = two-operands c.args.operands.now c.left-item.result c.right-item.result c.in-len2.len_at_least c.in-len2.len_below c.left-item.is c.right-item.is in
    c.binary_rule.ensures s ∙ sym (ap (λ (xs : List Value). operate_rule T (with_store s c.args.heap.now) (binary_op c.args.op) (map value_of xs)) known)

pub returns-in_default : goal.returns-in_default
returns-in_default c = λ T s. not_binary T (with_store s c.args.heap.now) c.args.op c.args.operands.now (λ h k. omega (arith, c.in_default.len_below, h))

pub returns-in_default-2 : goal.returns-in_default-2
returns-in_default-2 c = λ T s. not_binary T (with_store s c.args.heap.now) c.args.op c.args.operands.now (λ h k. omega (arith, c.in_default.len_at_least, k))
