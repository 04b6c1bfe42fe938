use Rattle.std.proofs.Common.{◌≡◌, ◌∙◌, ap, sym, ℕ, Bool, Option}
use Rattle.cc_ast.specs.declared.operator.BinOp.{BinOp}
use Rattle.cc_ast.specs.declared.operator.BinOp.TheVariants.{Less, Greater, LessEq, GreaterEq, Equal, NotEqual, Strict, NotStrict}
use Rattle.cc_meaning.specs.Values.{Val}
use Rattle.cc_meaning.specs.Operators.{answer_of, binary_of}
use Rattle.cc_meaning.specs.Rules.{outcome_rule}
use Rattle.cc_value.specs.Bridge.{value_of}
use Rattle.cc_value.proofs.Cases.{by-Less, by-Greater, by-LessEq, by-GreaterEq, by-Equal, by-NotEqual}
use Rattle.cc_value.proofs.OtherCases.{by-others}
use Rattle.cc_value.proofs.Ruled.{of_not, of-Strict, of-NotStrict}
use Rattle.cc_value.proofs.rules.binary_rule.Goals as goal

-- the rule of an operator's outcome
by : (op wanted : BinOp) (x y : Val) (r : Option ℕ) → op ≡ wanted → r ≡ outcome_rule (binary_of wanted x y) → r ≡ outcome_rule (binary_of op x y)
by op wanted x y r e f = f ∙ ap (λ (z : BinOp). outcome_rule (binary_of z x y)) (sym e)

pub returns-in-Add : goal.returns-in-Add
returns-in-Add c = by c.args.op _ (value_of c.args.a.now) (value_of c.args.b.now) _ c.in-Add.is c.add_rule.ensures

pub returns-in-Less : goal.returns-in-Less
returns-in-Less c =
    let x = value_of c.args.a.now in
    let y = value_of c.args.b.now in
    by c.args.op Less x y _ c.in-Less.is (c.test_rule.ensures ∙ ap (λ (t : Option Bool). outcome_rule (answer_of t)) c.less.ensures ∙ sym (ap outcome_rule (by-Less x y)))

pub returns-in-Greater : goal.returns-in-Greater
returns-in-Greater c =
    let x = value_of c.args.a.now in
    let y = value_of c.args.b.now in
    by c.args.op Greater x y _ c.in-Greater.is (c.test_rule-in-Greater.ensures ∙ ap (λ (t : Option Bool). outcome_rule (answer_of t)) c.less-in-Greater.ensures ∙ sym (ap outcome_rule (by-Greater x y)))

pub returns-in-LessEq : goal.returns-in-LessEq
returns-in-LessEq c =
    let x = value_of c.args.a.now in
    let y = value_of c.args.b.now in
    by c.args.op LessEq x y _ c.in-LessEq.is (c.test_rule-in-LessEq.ensures ∙ ap (λ (t : Option Bool). outcome_rule (answer_of t)) c.less-in-LessEq.ensures ∙ of_not _ ∙ sym (ap outcome_rule (by-LessEq x y)))

pub returns-in-GreaterEq : goal.returns-in-GreaterEq
returns-in-GreaterEq c =
    let x = value_of c.args.a.now in
    let y = value_of c.args.b.now in
    by c.args.op GreaterEq x y _ c.in-GreaterEq.is (c.test_rule-in-GreaterEq.ensures ∙ ap (λ (t : Option Bool). outcome_rule (answer_of t)) c.less-in-GreaterEq.ensures ∙ of_not _ ∙ sym (ap outcome_rule (by-GreaterEq x y)))

pub returns-in-Equal : goal.returns-in-Equal
returns-in-Equal c =
    let x = value_of c.args.a.now in
    let y = value_of c.args.b.now in
    by c.args.op Equal x y _ c.in-Equal.is (c.test_rule-in-Equal.ensures ∙ ap (λ (t : Option Bool). outcome_rule (answer_of t)) c.equal.ensures ∙ sym (ap outcome_rule (by-Equal x y)))

pub returns-in-NotEqual : goal.returns-in-NotEqual
returns-in-NotEqual c =
    let x = value_of c.args.a.now in
    let y = value_of c.args.b.now in
    by c.args.op NotEqual x y _ c.in-NotEqual.is (c.test_rule-in-NotEqual.ensures ∙ ap (λ (t : Option Bool). outcome_rule (answer_of t)) c.equal-in-NotEqual.ensures ∙ of_not _ ∙ sym (ap outcome_rule (by-NotEqual x y)))

pub returns-in-Strict : goal.returns-in-Strict
returns-in-Strict c = by c.args.op Strict (value_of c.args.a.now) (value_of c.args.b.now) _ c.in-Strict.is (of-Strict (value_of c.args.a.now) (value_of c.args.b.now))

pub returns-in-NotStrict : goal.returns-in-NotStrict
returns-in-NotStrict c = by c.args.op NotStrict (value_of c.args.a.now) (value_of c.args.b.now) _ c.in-NotStrict.is (of-NotStrict (value_of c.args.a.now) (value_of c.args.b.now))

pub returns-in_default : goal.returns-in_default
returns-in_default c =
    let n = c.in_default in
    c.wholes_rule.ensures ∙ ap outcome_rule (by-others c.args.op (value_of c.args.a.now) (value_of c.args.b.now) n.not-Add n.not-Less n.not-Greater n.not-LessEq n.not-GreaterEq n.not-Equal n.not-NotEqual n.not-Strict n.not-NotStrict)
