use Rattle.std.proofs.Common.{◌∙◌, ◌+◌, ℕ, true, false, Option, get_or, drop, sym, ap}
use Rattle.cc_meaning.specs.Shapes.{tables_of}
use Rattle.cc_meaning.specs.SlotRules.{fits_extended, is_prototype_of_class}
use Rattle.cc_conform.proofs.Loops.{end}
use Rattle.cc_conform.proofs.PrototypeLemmas.{extended-none, extended-next, extended-end}
use Rattle.cc_conform.proofs.prototypes.fits_extended.Goals as goal

pub returns-in_default : goal.returns-in_default
returns-in_default c =
    let T = tables_of c.args.program.now in
    let os = c.args.heap.now.objs in
    let ps = c.args.chain.now in
    let i = c.loop-prototype.prototype-index in
    extended-none T os ps i c.loop-prototype-test.true ∙ ap (λ (d : Option ℕ). fits_extended T os d (drop i ps)) (sym c.in_default.is) ∙ c.loop-prototype.invariant

pub returns-then-not-is_prototype_of_class : goal.returns-then-not-is_prototype_of_class
returns-then-not-is_prototype_of_class c =
    let T = tables_of c.args.program.now in
    let os = c.args.heap.now.objs in
    let ps = c.args.chain.now in
    let i = c.loop-prototype.prototype-index in
    let here = sym c.if-not-is_prototype_of_class.true ∙ c.is_prototype_of_class.ensures ∙ ap (λ (f : Option ℕ). is_prototype_of_class os f (get_or ps i 0)) c.function_of.ensures in
    sym (sym c.loop-prototype.invariant ∙ ap (λ (d : Option ℕ). fits_extended T os d (drop i ps)) c.in-Some.is ∙ extended-next T os c.in-Some.class ps i false c.loop-prototype-test.true here)

pub loop-prototype-preserved : goal.loop-prototype-preserved
loop-prototype-preserved c =
    let T = tables_of c.args.program.now in
    let os = c.args.heap.now.objs in
    let ps = c.args.chain.now in
    let i = c.loop-prototype.prototype-index in
    let here = sym c.if-not-is_prototype_of_class.false ∙ c.is_prototype_of_class.ensures ∙ ap (λ (f : Option ℕ). is_prototype_of_class os f (get_or ps i 0)) c.function_of.ensures in
    sym (sym c.loop-prototype.invariant ∙ ap (λ (d : Option ℕ). fits_extended T os d (drop i ps)) c.in-Some.is ∙ extended-next T os c.in-Some.class ps i true c.loop-prototype-test.true here
    ∙ ap (λ (d : Option ℕ). fits_extended T os d (drop (i + 1) ps)) (sym c.extended-next.ensures))

pub returns : goal.returns
returns c =
    let T = tables_of c.args.program.now in
    let os = c.args.heap.now.objs in
    extended-end T os c.loop-prototype.next c.is_none.result c.is_none.ensures ∙ sym (end (fits_extended T os c.loop-prototype.next) c.args.chain.now c.loop-prototype.prototype-index c.loop-prototype-test.false) ∙ c.loop-prototype.invariant
