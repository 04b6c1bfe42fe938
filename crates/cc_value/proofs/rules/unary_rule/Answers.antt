use Rattle.std.proofs.Common.{◌≡◌, ◌∙◌, ap, sym, ℕ, Option}
use Rattle.cc_ast.specs.declared.operator.UnOp.{UnOp}
use Rattle.cc_ast.specs.declared.operator.UnOp.TheVariants.{Not, Void, Typeof}
use Rattle.cc_meaning.specs.Values.{Val}
use Rattle.cc_meaning.specs.Operators.{unary_of}
use Rattle.cc_meaning.specs.Rules.{outcome_rule}
use Rattle.cc_value.specs.Bridge.{value_of}
use Rattle.cc_value.proofs.OtherCases.{by-Typeof, by-signs}
use Rattle.cc_value.proofs.Ruled.{of-Not, of-Void}
use Rattle.cc_value.proofs.rules.unary_rule.Goals as goal

by : (op wanted : UnOp) (x : Val) (r : Option ℕ) → op ≡ wanted → r ≡ outcome_rule (unary_of wanted x) → r ≡ outcome_rule (unary_of op x)
by op wanted x r e f = f ∙ ap (λ (z : UnOp). outcome_rule (unary_of z x)) (sym e)

pub returns-in-Not : goal.returns-in-Not
returns-in-Not c = by c.args.op Not (value_of c.args.value.now) _ c.in-Not.is (of-Not (value_of c.args.value.now))

pub returns-in-Void : goal.returns-in-Void
returns-in-Void c = by c.args.op Void (value_of c.args.value.now) _ c.in-Void.is (of-Void (value_of c.args.value.now))

pub returns-in-Typeof : goal.returns-in-Typeof
returns-in-Typeof c = by c.args.op Typeof (value_of c.args.value.now) _ c.in-Typeof.is (c.type_rule.ensures ∙ sym (ap outcome_rule (by-Typeof (value_of c.args.value.now))))

pub returns-in_default : goal.returns-in_default
returns-in_default c =
    let n = c.in_default in
    c.whole_rule.ensures ∙ ap outcome_rule (by-signs c.args.op (value_of c.args.value.now) n.not-Not n.not-Void n.not-Typeof)
