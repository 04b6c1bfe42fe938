use Rattle.std.proofs.Common.{◌∙◌, slice_get, ap, sym}
use Rattle.cc_ast.specs.Syntax.{Scope, Program}
use Rattle.cc_conform.proofs.DocLemmas.{params-Some, params-None}
use Rattle.cc_conform.proofs.docs.param_count.Goals as goal

pub returns-in-Some : goal.returns-in-Some
returns-in-Some c =
    let P = c.args.program.now in
    ap (λ (x : Scope). x.params) c.scope.view_is
    ∙ sym (params-Some P c.args.scope c.in-Some.scope.now (sym (c.in-Some.ensures.value ∙ ap (λ (p : Program). slice_get p.scopes c.args.scope) c.program.view_is)))

pub returns-in-None : goal.returns-in-None
returns-in-None c = sym (params-None c.args.program.now c.args.scope (sym (c.in-None.ensures.value ∙ ap (λ (p : Program). slice_get p.scopes c.args.scope) c.program.view_is)))
