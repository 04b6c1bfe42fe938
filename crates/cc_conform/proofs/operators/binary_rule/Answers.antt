use Rattle.std.proofs.Common.{◌∙◌, ap, sym}
use Rattle.cc_ast.specs.declared.operator.BinOp.{BinOp}
use Rattle.cc_meaning.specs.Rules.{binary_rule}
use Rattle.cc_value.specs.Bridge.{value_of}
use Rattle.cc_conform.specs.Bridge.{with_store}
use Rattle.cc_conform.proofs.OperatorLemmas.{binary-others}
use Rattle.cc_conform.proofs.operators.binary_rule.Goals as goal

pub returns-in-Has : goal.returns-in-Has
unfolding binary_rule
returns-in-Has c = λ s. c.has_rule.ensures ∙ sym (ap (λ (op : BinOp). binary_rule (with_store s c.args.heap.now) op (value_of c.args.left.now) (value_of c.args.right.now)) c.in-Has.is)

pub returns-in-Instance : goal.returns-in-Instance
unfolding binary_rule
returns-in-Instance c = λ s. c.instance_rule.ensures s ∙ sym (ap (λ (op : BinOp). binary_rule (with_store s c.args.heap.now) op (value_of c.args.left.now) (value_of c.args.right.now)) c.in-Instance.is)

pub returns-in_default : goal.returns-in_default
returns-in_default c = λ s. c.binary_rule.ensures ∙ sym (binary-others (with_store s c.args.heap.now) c.args.op (value_of c.args.left.now) (value_of c.args.right.now) c.in_default.not-Has c.in_default.not-Instance)
