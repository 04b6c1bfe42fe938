use Rattle.std.proofs.Common.{◌≡◌, ◌∙◌, ◌||◌, Bool, List, slice_get, sym, ap}
use Rattle.cc_ast.specs.Syntax.{Program}
use Rattle.cc_ast.specs.declared.tables.Class.{Class}
use Rattle.cc_meaning.specs.Shapes.{tables_of}
use Rattle.cc_meaning.specs.Typed.{class_of_any, class_in}
use Rattle.cc_conform.proofs.TypeLemmas.{object-parts}
use Rattle.cc_conform.proofs.types.is_object_of.Goals as goal

pub returns-then-is_of_kind : goal.returns-then-is_of_kind
returns-then-is_of_kind c =
    let T = tables_of c.args.program.now in
    let o = slice_get c.args.heap.now.objs c.args.object in
    c.if-is_of_kind.true ∙ sym (object-parts T c.args.kinds c.args.classes.now o ∙ ap (λ (b : Bool). b || class_of_any T.classes (class_in o) c.args.classes.now) (sym c.is_of_kind.ensures ∙ c.if-is_of_kind.true))

pub returns-else-is_of_kind : goal.returns-else-is_of_kind
unfolding tables_of
returns-else-is_of_kind c =
    let T = tables_of c.args.program.now in
    let o = slice_get c.args.heap.now.objs c.args.object in
    let here : c.as_slice.result.now ≡ c.args.program.now.classes = c.as_slice.ensures ∙ c.get.ensures ∙ ap (λ (p : Program). p.classes) c.program.view_is in
    c.class_of_any.ensures ∙ ap (λ (cs : List Class). class_of_any cs c.class_of.result c.args.classes.now) here ∙ ap (λ d. class_of_any T.classes d c.args.classes.now) c.class_of.ensures
    ∙ sym (object-parts T c.args.kinds c.args.classes.now o ∙ ap (λ (b : Bool). b || class_of_any T.classes (class_in o) c.args.classes.now) (sym c.is_of_kind.ensures ∙ c.if-is_of_kind.false))
