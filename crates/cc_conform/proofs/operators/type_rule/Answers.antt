use Rattle.std.proofs.Common.{◌∙◌, ap, sym}
use Rattle.cc_ast.specs.declared.operator.UnOp.TheVariants.{Typeof}
use Rattle.cc_meaning.specs.Rules.{unary_rule}
use Rattle.cc_value.specs.declared.value.Value.{Value}
use Rattle.cc_value.specs.Bridge.{value_of}
use Rattle.cc_conform.proofs.OperatorLemmas.{type-others}
use Rattle.cc_conform.proofs.operators.type_rule.Goals as goal

pub returns-in-Object : goal.returns-in-Object
unfolding unary_rule
returns-in-Object c = sym (ap (λ (v : Value). unary_rule Typeof (value_of v)) c.in-Object.is)

pub returns-in_default : goal.returns-in_default
returns-in_default c = c.unary_rule.ensures ∙ sym (type-others c.args.value.now c.in_default.not-Object)
