use Rattle.std.proofs.Common.{◌≡◌, ◌∙◌, ap, sym, Bool, not, subst}
use Rattle.cc_ast.specs.Syntax.{truth}
use Rattle.cc_ast.specs.declared.operator.BinOp.{BinOp}
use Rattle.cc_ast.specs.declared.operator.BinOp.TheVariants.{Less, Greater, LessEq, GreaterEq, Equal, NotEqual}
use Rattle.cc_meaning.specs.Values.{Val, prim}
use Rattle.cc_meaning.specs.Operators.{Outcome, gives, answer_of, answer_not, binary_of}
use Rattle.cc_value.specs.Bridge.{value_of, Answers}
use Rattle.cc_value.proofs.Cases.{by-Less, by-Greater, by-LessEq, by-GreaterEq, by-Equal, by-NotEqual, by-Strict, by-NotStrict}
use Rattle.cc_value.proofs.OtherCases.{by-others}
use Rattle.cc_value.proofs.operate.binary.Goals as goal

-- the answer of a test is that of the operator
by : (op wanted : BinOp) (x y : Val) (o : Outcome) → op ≡ wanted → binary_of wanted x y ≡ o → o ≡ binary_of op x y
by op wanted x y o e f = sym f ∙ ap (λ (z : BinOp). binary_of z x y) (sym e)

pub returns-in-Less : goal.returns-in-Less
returns-in-Less c =
    let x = value_of c.args.a.now in
    let y = value_of c.args.b.now in
    subst (λ (o : Outcome). Answers c.answer.result o) (ap answer_of c.less.ensures ∙ by c.args.op Less x y _ c.in-Less.is (by-Less x y)) c.answer.ensures

pub returns-in-Greater : goal.returns-in-Greater
returns-in-Greater c =
    let x = value_of c.args.a.now in
    let y = value_of c.args.b.now in
    subst (λ (o : Outcome). Answers c.answer-in-Greater.result o) (ap answer_of c.less-in-Greater.ensures ∙ by c.args.op Greater x y _ c.in-Greater.is (by-Greater x y)) c.answer-in-Greater.ensures

pub returns-in-LessEq : goal.returns-in-LessEq
returns-in-LessEq c =
    let x = value_of c.args.a.now in
    let y = value_of c.args.b.now in
    subst (λ (o : Outcome). Answers c.answer_not.result o) (ap answer_not c.less-in-LessEq.ensures ∙ by c.args.op LessEq x y _ c.in-LessEq.is (by-LessEq x y)) c.answer_not.ensures

pub returns-in-GreaterEq : goal.returns-in-GreaterEq
returns-in-GreaterEq c =
    let x = value_of c.args.a.now in
    let y = value_of c.args.b.now in
    subst (λ (o : Outcome). Answers c.answer_not-in-GreaterEq.result o) (ap answer_not c.less-in-GreaterEq.ensures ∙ by c.args.op GreaterEq x y _ c.in-GreaterEq.is (by-GreaterEq x y)) c.answer_not-in-GreaterEq.ensures

pub returns-in-Equal : goal.returns-in-Equal
returns-in-Equal c =
    let x = value_of c.args.a.now in
    let y = value_of c.args.b.now in
    subst (λ (o : Outcome). Answers c.answer-in-Equal.result o) (ap answer_of c.equal.ensures ∙ by c.args.op Equal x y _ c.in-Equal.is (by-Equal x y)) c.answer-in-Equal.ensures

pub returns-in-NotEqual : goal.returns-in-NotEqual
returns-in-NotEqual c =
    let x = value_of c.args.a.now in
    let y = value_of c.args.b.now in
    subst (λ (o : Outcome). Answers c.answer_not-in-NotEqual.result o) (ap answer_not c.equal-in-NotEqual.ensures ∙ by c.args.op NotEqual x y _ c.in-NotEqual.is (by-NotEqual x y)) c.answer_not-in-NotEqual.ensures

pub returns-in-Strict : goal.returns-in-Strict
returns-in-Strict c =
    let x = value_of c.args.a.now in
    let y = value_of c.args.b.now in
    ap (λ (z : BinOp). binary_of z x y) c.in-Strict.is ∙ by-Strict x y ∙ ap (λ (b : Bool). gives (prim (truth (b)))) (sym c.is_same.ensures)

pub returns-in-NotStrict : goal.returns-in-NotStrict
returns-in-NotStrict c =
    let x = value_of c.args.a.now in
    let y = value_of c.args.b.now in
    ap (λ (z : BinOp). binary_of z x y) c.in-NotStrict.is ∙ by-NotStrict x y ∙ ap (λ (b : Bool). gives (prim (truth (not b)))) (sym c.is_same-in-NotStrict.ensures)

pub returns-in_default : goal.returns-in_default
returns-in_default c =
    let n = c.in_default in
    subst (λ (o : Outcome). Answers c.on_wholes.result o) (by-others c.args.op (value_of c.args.a.now) (value_of c.args.b.now) n.not-Add n.not-Less n.not-Greater n.not-LessEq n.not-GreaterEq n.not-Equal n.not-NotEqual n.not-Strict n.not-NotStrict) c.on_wholes.ensures
