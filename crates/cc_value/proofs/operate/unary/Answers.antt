use Rattle.std.proofs.Common.{◌∙◌, ap, sym, Bool, not, subst}
use Rattle.cc_ast.specs.Syntax.{truth}
use Rattle.cc_ast.specs.declared.operator.UnOp.{UnOp}
use Rattle.cc_meaning.specs.Values.{prim}
use Rattle.cc_meaning.specs.Operators.{Outcome, gives, unary_of}
use Rattle.cc_value.specs.Bridge.{value_of, Answers}
use Rattle.cc_value.proofs.OtherCases.{by-Not, by-Void, by-Typeof, by-signs}
use Rattle.cc_value.proofs.operate.unary.Goals as goal

pub returns-in-Not : goal.returns-in-Not
returns-in-Not c =
    let x = value_of c.args.value.now in
    ap (λ (z : UnOp). unary_of z x) c.in-Not.is ∙ by-Not x ∙ ap (λ (b : Bool). gives (prim (truth (not b)))) (sym c.is_truthy.ensures)

pub returns-in-Void : goal.returns-in-Void
returns-in-Void c = ap (λ (z : UnOp). unary_of z (value_of c.args.value.now)) c.in-Void.is ∙ by-Void (value_of c.args.value.now)

pub returns-in-Typeof : goal.returns-in-Typeof
returns-in-Typeof c =
    let x = value_of c.args.value.now in
    subst (λ (o : Outcome). Answers c.type_name.result o) (sym (ap (λ (z : UnOp). unary_of z x) c.in-Typeof.is ∙ by-Typeof x)) c.type_name.ensures

pub returns-in_default : goal.returns-in_default
returns-in_default c =
    let n = c.in_default in
    subst (λ (o : Outcome). Answers c.on_whole.result o) (by-signs c.args.op (value_of c.args.value.now) n.not-Not n.not-Void n.not-Typeof) c.on_whole.ensures
