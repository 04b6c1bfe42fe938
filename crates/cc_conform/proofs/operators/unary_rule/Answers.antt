use Rattle.std.proofs.Common.{◌∙◌, sym}
use Rattle.cc_value.specs.Bridge.{value_of}
use Rattle.cc_conform.proofs.OperatorLemmas.{unary-others}
use Rattle.cc_conform.proofs.operators.unary_rule.Goals as goal

pub returns-in_default : goal.returns-in_default
returns-in_default c = c.unary_rule.ensures ∙ sym (unary-others c.args.op (value_of c.args.value.now) c.in_default.not-Typeof)
