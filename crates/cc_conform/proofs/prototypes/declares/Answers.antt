use Rattle.std.proofs.Common.{◌∙◌, ℕ, Option, true, false, slice_get, sym, ap}
use Rattle.cc_meaning.specs.Shapes.{tables_of}
use Rattle.cc_meaning.specs.SlotRules.{declares_well}
use Rattle.cc_meaning.specs.Store.{class_of_function}
use Rattle.cc_value.specs.Bridge.{value_of}
use Rattle.cc_conform.specs.Bridge.{with_store}
use Rattle.cc_conform.proofs.prototypes.declares.Goals as goal

pub returns-then-declares : goal.returns-then-declares
returns-then-declares c = λ s.
    let T = tables_of c.args.program.now in
    let S = with_store s c.args.heap.now in
    let o = slice_get c.args.heap.now.objs c.args.object in
    let v = value_of c.args.value.now in
    c.declares_well.ensures s ∙ ap (λ (d : Option ℕ). declares_well T S o d v true) c.in-Some.ensures ∙ ap (declares_well T S o (class_of_function T c.args.function) v) (sym c.if-declares.true)

pub returns-else-declares : goal.returns-else-declares
unfolding declares_well
returns-else-declares c = λ s.
    let T = tables_of c.args.program.now in
    let S = with_store s c.args.heap.now in
    let o = slice_get c.args.heap.now.objs c.args.object in
    let v = value_of c.args.value.now in
    c.if-declares.false ∙ ap (λ (d : Option ℕ). declares_well T S o d v false) c.in-Some.ensures ∙ ap (declares_well T S o (class_of_function T c.args.function) v) (sym c.if-declares.false)

pub returns-in-None : goal.returns-in-None
unfolding declares_well
returns-in-None c = λ s. ap (λ (d : Option ℕ). declares_well (tables_of c.args.program.now) (with_store s c.args.heap.now) (slice_get c.args.heap.now.objs c.args.object) d (value_of c.args.value.now) c.args.declares) c.in-None.ensures
