use Rattle.std.proofs.Common.{◌∙◌, ◌||◌, not, Bool, Option, Some, sym, ap}
use Rattle.cc_ast.specs.declared.tables.TypeSet.{TypeSet}
use Rattle.cc_meaning.specs.Shapes.{tables_of}
use Rattle.cc_meaning.specs.Typed.{of_opt_type, value_in, doc_at}
use Rattle.cc_value.specs.Bridge.{value_of}
use Rattle.cc_conform.proofs.FieldLemmas.{field-alone}
use Rattle.cc_conform.proofs.fields.field_fits.Goals as goal

pub returns-then-not-is_named : goal.returns-then-not-is_named
returns-then-not-is_named c =
    let T = tables_of c.args.program.now in
    let os = c.args.heap.now.objs in
    let v = value_of c.args.value.now in
    let fit = of_opt_type T os (value_in (doc_at T (Some c.args.field.now.1))) v in
    ap not c.if-not-is_named.true ∙ sym (field-alone T os v c.args.name.now c.args.field.now ∙ ap (λ (b : Bool). not b || fit) (sym c.is_named.ensures ∙ c.if-not-is_named.true))

pub returns-else-not-is_named : goal.returns-else-not-is_named
returns-else-not-is_named c =
    let T = tables_of c.args.program.now in
    let os = c.args.heap.now.objs in
    let v = value_of c.args.value.now in
    let fit = of_opt_type T os (value_in (doc_at T (Some c.args.field.now.1))) v in
    c.fits.ensures ∙ ap (λ (t : Option TypeSet). of_opt_type T os t v) c.value_type.ensures ∙ sym (field-alone T os v c.args.name.now c.args.field.now ∙ ap (λ (b : Bool). not b || fit) (sym c.is_named.ensures ∙ c.if-not-is_named.false))
