use Rattle.std.proofs.Common.{◌∙◌, ℕ, Some, slice_get, ap, sym}
use Rattle.cc_ast.specs.Syntax.{Scope, Program}
use Rattle.cc_meaning.specs.Shapes.{tables_of}
use Rattle.cc_meaning.specs.Typed.{doc_at}
use Rattle.cc_conform.proofs.DocLemmas.{function_doc-Some, function_doc-None}
use Rattle.cc_conform.proofs.docs.function_doc.Goals as goal

pub returns-in-Some : goal.returns-in-Some
returns-in-Some c =
    let P = c.args.program.now in
    let s = c.in-Some.scope.now in
    c.doc_at.ensures ∙ ap (λ (n : ℕ). doc_at (tables_of P) (Some n)) (ap (λ (x : Scope). x.doc) c.scope.view_is)
    ∙ sym (function_doc-Some P c.args.function s (sym (c.in-Some.ensures.value ∙ ap (λ (p : Program). slice_get p.scopes c.args.function) c.program.view_is)))

pub returns-in-None : goal.returns-in-None
returns-in-None c = sym (function_doc-None c.args.program.now c.args.function (sym (c.in-None.ensures.value ∙ ap (λ (p : Program). slice_get p.scopes c.args.function) c.program.view_is)))
