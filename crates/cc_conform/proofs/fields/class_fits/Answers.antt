use Rattle.std.proofs.Common.{◌∙◌, not, ℕ, Bool, List, sym, ap}
use Rattle.cc_ast.specs.Syntax.{Program}
use Rattle.cc_ast.specs.declared.tables.Class.{Class}
use Rattle.cc_meaning.specs.Shapes.{tables_of}
use Rattle.cc_meaning.specs.Typed.{of_all_types, types_of_fields}
use Rattle.cc_meaning.specs.Types.{subtype}
use Rattle.cc_value.specs.Bridge.{value_of}
use Rattle.cc_conform.proofs.FieldLemmas.{class-external, class-fits, class-else}
use Rattle.cc_conform.proofs.fields.class_fits.Goals as goal

pub returns-then-class : goal.returns-then-class
returns-then-class c =
    let T = tables_of c.args.program.now in
    let d = c.args.class.now in
    class-external T c.args.heap.now.objs (value_of c.args.value.now) d.external (subtype T.classes c.args.of c.args.at) (types_of_fields T c.args.name.now d.fields) c.if-class.true

pub returns-then-fields_fit : goal.returns-then-fields_fit
returns-then-fields_fit c =
    let T = tables_of c.args.program.now in
    let d = c.args.class.now in
    let all : List (ℕ × ℕ) → Bool = λ xs. of_all_types T c.args.heap.now.objs (types_of_fields T c.args.name.now xs) (value_of c.args.value.now) in
    c.if-fields_fit.true ∙ class-fits T c.args.heap.now.objs (value_of c.args.value.now) d.external (subtype T.classes c.args.of c.args.at) (types_of_fields T c.args.name.now d.fields) (ap all (sym c.as_slice.ensures) ∙ sym c.fields_fit.ensures ∙ c.if-fields_fit.true)

pub returns-else-fields_fit : goal.returns-else-fields_fit
unfolding tables_of
returns-else-fields_fit c =
    let T = tables_of c.args.program.now in
    let d = c.args.class.now in
    let all : List (ℕ × ℕ) → Bool = λ xs. of_all_types T c.args.heap.now.objs (types_of_fields T c.args.name.now xs) (value_of c.args.value.now) in
    let here = c.as_slice-else-fields_fit.ensures ∙ c.get.ensures ∙ ap (λ (p : Program). p.classes) c.program.view_is in
    ap not (c.reaches.ensures ∙ ap (λ (cs : List Class). subtype cs c.args.of c.args.at) here)
    ∙ class-else T c.args.heap.now.objs (value_of c.args.value.now) d.external (subtype T.classes c.args.of c.args.at) (types_of_fields T c.args.name.now d.fields) c.if-class.false (ap all (sym c.as_slice.ensures) ∙ sym c.fields_fit.ensures ∙ c.if-fields_fit.false)
