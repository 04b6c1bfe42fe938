use Rattle.std.proofs.Common.{◌∙◌, Option, slice_get, ap}
use Rattle.cc_ast.specs.declared.tables.SiteDoc.{SiteDoc}
use Rattle.cc_meaning.specs.Shapes.{tables_of}
use Rattle.cc_meaning.specs.Typed.{doc_at, vars_in}
use Rattle.cc_conform.proofs.docs.declared_doc.Goals as goal

pub returns-in-Some-get : goal.returns-in-Some-get
unfolding vars_in
returns-in-Some-get c = c.doc_at.ensures ∙ ap (doc_at (tables_of c.args.program.now)) (c.in-Some-get.ensures.value ∙ ap (λ (d : Option SiteDoc). slice_get (vars_in d) c.args.number) c.in-Some.ensures)

pub returns-in-None-get : goal.returns-in-None-get
unfolding vars_in doc_at
returns-in-None-get c = ap (doc_at (tables_of c.args.program.now)) (c.in-None-get.ensures.value ∙ ap (λ (d : Option SiteDoc). slice_get (vars_in d) c.args.number) c.in-Some.ensures)

pub returns-in-None : goal.returns-in-None
unfolding vars_in doc_at
returns-in-None c = ap (λ (d : Option SiteDoc). doc_at (tables_of c.args.program.now) (slice_get (vars_in d) c.args.number)) c.in-None.ensures
