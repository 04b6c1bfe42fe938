use Rattle.std.proofs.Common.{◌∙◌, List, Option, slice_get, ap}
use Rattle.cc_ast.specs.Syntax.{Program}
use Rattle.cc_ast.specs.declared.tables.GlobalInfo.{GlobalInfo}
use Rattle.cc_ast.specs.declared.tables.FlatPath.{FlatPath}
use Rattle.cc_meaning.specs.Shapes.{tables_of}
use Rattle.cc_meaning.specs.Store.{flats_in}
use Rattle.cc_meaning.specs.Typed.{doc_at, path_doc, variable_doc}
use Rattle.cc_conform.proofs.docs.path_doc.Goals as goal

pub returns-in-Some-get : goal.returns-in-Some-get
unfolding variable_doc path_doc flats_in tables_of
returns-in-Some-get c =
    let here = c.in-Some.ensures.value ∙ ap (λ (gs : List GlobalInfo). slice_get gs c.args.global) c.get.ensures ∙ ap (λ (p : Program). slice_get p.globals c.args.global) c.program.view_is in
    c.doc_at.ensures ∙ ap (λ (f : Option FlatPath). doc_at (tables_of c.args.program.now) (path_doc f)) (c.in-Some-get.ensures.value ∙ ap (λ (g : Option GlobalInfo). slice_get (flats_in g) c.args.number) here)

pub returns-in-None-get : goal.returns-in-None-get
unfolding variable_doc path_doc flats_in tables_of doc_at
returns-in-None-get c =
    let here = c.in-Some.ensures.value ∙ ap (λ (gs : List GlobalInfo). slice_get gs c.args.global) c.get.ensures ∙ ap (λ (p : Program). slice_get p.globals c.args.global) c.program.view_is in
    ap (λ (f : Option FlatPath). doc_at (tables_of c.args.program.now) (path_doc f)) (c.in-None-get.ensures.value ∙ ap (λ (g : Option GlobalInfo). slice_get (flats_in g) c.args.number) here)

pub returns-in-None : goal.returns-in-None
unfolding variable_doc path_doc flats_in tables_of doc_at
returns-in-None c = ap (λ (g : Option GlobalInfo). doc_at (tables_of c.args.program.now) (path_doc (slice_get (flats_in g) c.args.number))) (c.in-None.ensures.value ∙ ap (λ (gs : List GlobalInfo). slice_get gs c.args.global) c.get.ensures ∙ ap (λ (p : Program). slice_get p.globals c.args.global) c.program.view_is)
