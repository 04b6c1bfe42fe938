use Rattle.std.proofs.Common.{◌≡◌, sym, ap, ◌∙◌, true}
use Rattle.std.proofs.lemmas.Result.{IfOk-weaker}
use Rattle.cc_ast.specs.declared.tree.Expr.{Expr}
use Rattle.cc_ast.specs.Bridge.{term}
use Rattle.cc_fold.specs.Built.{built_in}
use Rattle.cc_fold.specs.Leaves.{is_leaf}
use Rattle.cc_fold.specs.Places.{place_of}
use Rattle.cc_fold.specs.Walk.{fold_expr}
use Rattle.cc_fold.proofs.Layers.{no_parts}
use Rattle.cc_fold.proofs.Leaves.{leaf_stays}
use Rattle.cc_fold.proofs.expression.+expression.Goals as goal

pub fold_expr-copied_leaf-requires : goal.fold_expr-copied_leaf-requires
fold_expr-copied_leaf-requires t c =
    let n = c.in_default in
    no_parts c.args.e.now n.not-List n.not-Object n.not-Unary n.not-Binary n.not-And n.not-Or n.not-Cond n.not-Assign n.not-Step n.not-Member n.not-Index n.not-Call n.not-New n.not-Comma n.not-Cast n.not-Tick

pub fold_expr-returns-in_default : goal.fold_expr-returns-in_default
fold_expr-returns-in_default t c =
    let n = c.in_default in
    let e = c.args.e.now in
    let built = built_in c.args.plan.now in
    let leaf : is_leaf (term e) ≡ true = no_parts e n.not-List n.not-Object n.not-Unary n.not-Binary n.not-And n.not-Or n.not-Cond n.not-Assign n.not-Step n.not-Member n.not-Index n.not-Call n.not-New n.not-Comma n.not-Cast n.not-Tick in
    let stays = leaf_stays built c.args.in_target (place_of c.args.place) (term e) leaf in
    IfOk-weaker c.copied_leaf.result (λ (b : Expr). b ≡ e) (λ (b : Expr). term b ≡ fold_expr built c.args.in_target (place_of c.args.place) (term e)) (λ b q. ap term q ∙ sym stays) c.copied_leaf.ensures
