use Rattle.std.proofs.Common.{◌≡◌, sym, ap, ◌∙◌}
use Rattle.std.proofs.lemmas.Result.{IfOk-weaker}
use Rattle.cc_ast.specs.declared.tree.Expr.{Expr}
use Rattle.cc_ast.specs.Bridge.{term}
use Rattle.cc_fold.specs.Fold.{unmarked}
use Rattle.cc_fold.proofs.Layers.{other_unmarked}
use Rattle.cc_fold.proofs.price.without_mark.Goals as goal

pub returns-in_default : goal.returns-in_default
returns-in_default c =
    let e = c.into_inner.result in
    let h = other_unmarked e c.in_default.not-Tick in
    IfOk-weaker c.new.result (λ (b : Expr). b ≡ e) (λ (b : Expr). term b ≡ unmarked (term c.args.e)) (λ b q. ap term q ∙ sym h ∙ ap (λ (z : Expr). unmarked (term z)) c.into_inner.ensures) c.new.ensures
