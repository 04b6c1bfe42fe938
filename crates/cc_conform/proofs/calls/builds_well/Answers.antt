use Rattle.std.proofs.Common.{◌≡◌, ◌∙◌, ◌||◌, Bool, true, Some, sym, ap}
use Rattle.cc_meaning.specs.Rules.{builds_well, is_instance}
use Rattle.cc_meaning.specs.Shapes.{tables_of}
use Rattle.cc_value.specs.Bridge.{value_of}
use Rattle.cc_conform.specs.Bridge.{with_store}
use Rattle.cc_conform.proofs.calls.builds_well.Goals as goal

pub returns-then-is_prim : goal.returns-then-is_prim
unfolding builds_well
returns-then-is_prim c = λ s.
    let T = tables_of c.args.program.now in
    let S = with_store s c.args.heap.now in
    let v = value_of c.args.value.now in
    let here : builds_well T S c.args.class c.args.built v ≡ builds_well T S (Some c.in-Some.class) true v = λ i. builds_well T S (c.in-Some.is i) (c.if-built.true i) v in
    c.if-is_prim.true ∙ sym (here ∙ ap (λ (b : Bool). b || is_instance T S c.in-Some.class v) (sym c.is_prim.ensures ∙ c.if-is_prim.true))

pub returns-else-is_prim : goal.returns-else-is_prim
unfolding builds_well
returns-else-is_prim c = λ s.
    let T = tables_of c.args.program.now in
    let S = with_store s c.args.heap.now in
    let v = value_of c.args.value.now in
    let here : builds_well T S c.args.class c.args.built v ≡ builds_well T S (Some c.in-Some.class) true v = λ i. builds_well T S (c.in-Some.is i) (c.if-built.true i) v in
    c.is_instance.ensures s ∙ sym (here ∙ ap (λ (b : Bool). b || is_instance T S c.in-Some.class v) (sym c.is_prim.ensures ∙ c.if-is_prim.false))

pub returns-else-built : goal.returns-else-built
unfolding builds_well
returns-else-built c = λ s. sym (λ i. builds_well (tables_of c.args.program.now) (with_store s c.args.heap.now) (c.in-Some.is i) (c.if-built.false i) (value_of c.args.value.now))

pub returns-in-None : goal.returns-in-None
unfolding builds_well
returns-in-None c = λ s. sym (λ i. builds_well (tables_of c.args.program.now) (with_store s c.args.heap.now) (c.in-None.is i) c.args.built (value_of c.args.value.now))
