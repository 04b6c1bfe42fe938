use Rattle.std.proofs.Common.{◌∙◌, List, Option, slice_get, ap}
use Rattle.cc_ast.specs.Syntax.{Program}
use Rattle.cc_ast.specs.declared.tables.GlobalInfo.{GlobalInfo}
use Rattle.cc_meaning.specs.Shapes.{tables_of}
use Rattle.cc_meaning.specs.Typed.{doc_at, global_doc, variable_doc}
use Rattle.cc_conform.proofs.docs.global_doc.Goals as goal

pub returns-in-Some : goal.returns-in-Some
unfolding variable_doc global_doc tables_of
returns-in-Some c = c.doc_at.ensures ∙ ap (λ (g : Option GlobalInfo). doc_at (tables_of c.args.program.now) (global_doc g)) (c.in-Some.ensures.value ∙ ap (λ (gs : List GlobalInfo). slice_get gs c.args.global) c.get.ensures ∙ ap (λ (p : Program). slice_get p.globals c.args.global) c.program.view_is)

pub returns-in-None : goal.returns-in-None
unfolding variable_doc global_doc doc_at tables_of
returns-in-None c = ap (λ (g : Option GlobalInfo). doc_at (tables_of c.args.program.now) (global_doc g)) (c.in-None.ensures.value ∙ ap (λ (gs : List GlobalInfo). slice_get gs c.args.global) c.get.ensures ∙ ap (λ (p : Program). slice_get p.globals c.args.global) c.program.view_is)
