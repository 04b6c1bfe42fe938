use Rattle.std.proofs.Common.{◌∙◌, ◌&&◌, not, Bool, slice_get, sym, ap}
use Rattle.cc_meaning.specs.Shapes.{tables_of}
use Rattle.cc_meaning.specs.SlotRules.{declares_well, fits_class, is_off_chains, without_slots, prototype_of_function}
use Rattle.cc_value.specs.Bridge.{value_of}
use Rattle.cc_conform.proofs.prototypes.declares_well.Goals as goal

pub returns-then-has_constructed : goal.returns-then-has_constructed
unfolding declares_well
returns-then-has_constructed c = λ s.
    let os = c.args.heap.now.objs in
    let w = prototype_of_function (slice_get os c.args.object) in
    let fit = fits_class (tables_of c.args.program.now) os c.args.class (value_of c.args.value.now) in
    sym (ap (λ (b : Bool). ((not b && without_slots os w) && is_off_chains os w) && fit) (sym c.has_constructed.ensures ∙ c.if-has_constructed.true))

pub returns-then-is_bare : goal.returns-then-is_bare
unfolding declares_well
returns-then-is_bare c = λ s.
    let os = c.args.heap.now.objs in
    let w = prototype_of_function (slice_get os c.args.object) in
    let fit = fits_class (tables_of c.args.program.now) os c.args.class (value_of c.args.value.now) in
    let made = sym c.has_constructed.ensures ∙ c.if-has_constructed.false in
    let bare = sym c.is_bare.ensures ∙ c.if-is_bare.true in
    c.fits_class.ensures ∙ sym (ap (λ (b : Bool). ((not b && without_slots os w) && is_off_chains os w) && fit) made ∙ ap (λ (b : Bool). b && fit) bare)

pub returns-else-is_bare : goal.returns-else-is_bare
unfolding declares_well
returns-else-is_bare c = λ s.
    let os = c.args.heap.now.objs in
    let w = prototype_of_function (slice_get os c.args.object) in
    let fit = fits_class (tables_of c.args.program.now) os c.args.class (value_of c.args.value.now) in
    let made = sym c.has_constructed.ensures ∙ c.if-has_constructed.false in
    let bare = sym c.is_bare.ensures ∙ c.if-is_bare.false in
    c.if-is_bare.false ∙ sym (ap (λ (b : Bool). ((not b && without_slots os w) && is_off_chains os w) && fit) made ∙ ap (λ (b : Bool). b && fit) bare)
