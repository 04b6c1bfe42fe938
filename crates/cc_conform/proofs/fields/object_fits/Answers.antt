use Rattle.std.proofs.Common.{◌∙◌, ℕ, List, Option, ap}
use Rattle.cc_ast.specs.Syntax.{Program}
use Rattle.cc_ast.specs.declared.tables.Class.{Class}
use Rattle.cc_meaning.specs.Shapes.{tables_of}
use Rattle.cc_meaning.specs.Typed.{of_all_types, fields_from, field_types, fields_of_class}
use Rattle.cc_value.specs.Bridge.{value_of}
use Rattle.cc_conform.proofs.fields.object_fits.Goals as goal

pub returns-in-Some : goal.returns-in-Some
unfolding field_types fields_of_class tables_of
returns-in-Some c =
    let T = tables_of c.args.program.now in
    let os = c.args.heap.now.objs in
    let v = value_of c.args.value.now in
    let here = c.as_slice.ensures ∙ c.get.ensures ∙ ap (λ (p : Program). p.classes) c.program.view_is in
    c.classes_fit.ensures ∙ ap (λ (cs : List Class). of_all_types T os (fields_from T 0 cs c.in-Some.class c.args.name.now) v) here ∙ ap (λ (d : Option ℕ). of_all_types T os (fields_of_class T d c.args.name.now) v) c.in-Some.ensures

pub returns-in-None : goal.returns-in-None
unfolding field_types fields_of_class of_all_types
returns-in-None c = ap (λ (d : Option ℕ). of_all_types (tables_of c.args.program.now) c.args.heap.now.objs (fields_of_class (tables_of c.args.program.now) d c.args.name.now) (value_of c.args.value.now)) c.in-None.ensures
