use Rattle.std.proofs.Common.{◌∙◌, map, sym, ap}
use Rattle.cc_meaning.specs.Rules.{operate_rule}
use Rattle.cc_meaning.specs.Shapes.{tables_of}
use Rattle.cc_value.specs.Bridge.{value_of}
use Rattle.cc_conform.specs.Bridge.{op_of, with_store}
use Rattle.cc_conform.specs.declared.act.Op as declared
use Rattle.cc_conform.proofs.operators.operate_rule.Goals as goal

pub returns-in-Unary : goal.returns-in-Unary
returns-in-Unary c = λ s.
    let T = tables_of c.args.program.now in
    let w = with_store s c.args.heap.now in
    c.unary_operands_rule.ensures T w ∙ sym (ap (λ (op : declared.Op). operate_rule T w (op_of op) (map value_of c.args.operands.now)) c.in-Unary.is)

pub returns-in-Binary : goal.returns-in-Binary
returns-in-Binary c = λ s.
    let T = tables_of c.args.program.now in
    let w = with_store s c.args.heap.now in
    c.binary_operands_rule.ensures T s ∙ sym (ap (λ (op : declared.Op). operate_rule T w (op_of op) (map value_of c.args.operands.now)) c.in-Binary.is)

pub returns-in-Built : goal.returns-in-Built
unfolding operate_rule
returns-in-Built c = λ s.
    let T = tables_of c.args.program.now in
    let w = with_store s c.args.heap.now in
    c.built_rule.ensures s ∙ sym (ap (λ (op : declared.Op). operate_rule T w (op_of op) (map value_of c.args.operands.now)) c.in-Built.is)
