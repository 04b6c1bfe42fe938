use Rattle.std.proofs.Common.{◌∙◌, true, false, List, Option, drop, map, sym}
use Rattle.cc_ast.specs.declared.tables.TypeSet.{TypeSet}
use Rattle.cc_meaning.specs.Rules.{all_fit}
use Rattle.cc_meaning.specs.Shapes.{tables_of}
use Rattle.cc_meaning.specs.Typed.{of_opt_type}
use Rattle.cc_value.specs.Bridge.{value_of}
use Rattle.cc_conform.specs.Bridge.{with_store}
use Rattle.cc_conform.proofs.Loops.{end}
use Rattle.cc_conform.proofs.CallLemmas.{fit-next, fit-end}
use Rattle.cc_conform.proofs.calls.all_fit.Goals as goal

pub returns-then-not-fits : goal.returns-then-not-fits
returns-then-not-fits c = λ s.
    let T = tables_of c.args.program.now in
    let S = with_store s c.args.heap.now in
    let fit = c.fits.ensures ∙ (λ i. of_opt_type T c.args.heap.now.objs (c.as_ref.ensures.value i) (value_of c.in-Some.value.now)) in
    sym (sym (c.loop-at.invariant s) ∙ fit-next T S c.args.types.now c.args.values.now c.loop-at.at c.index-types-at.result c.in-Some.value.now false c.loop-at-test.true c.index-types-at.is c.in-Some.ensures (sym c.if-not-fits.true ∙ fit))

pub returns-in-None : goal.returns-in-None
returns-in-None c = λ s. sym (sym (c.loop-at.invariant s) ∙ fit-end (tables_of c.args.program.now) (with_store s c.args.heap.now) c.args.types.now c.args.values.now c.loop-at.at c.index-types-at.result c.loop-at-test.true c.index-types-at.is c.in-None.ensures)

pub loop-at-preserved : goal.loop-at-preserved
loop-at-preserved c = λ s.
    let T = tables_of c.args.program.now in
    let S = with_store s c.args.heap.now in
    let fit = c.fits.ensures ∙ (λ i. of_opt_type T c.args.heap.now.objs (c.as_ref.ensures.value i) (value_of c.in-Some.value.now)) in
    sym (sym (c.loop-at.invariant s) ∙ fit-next T S c.args.types.now c.args.values.now c.loop-at.at c.index-types-at.result c.in-Some.value.now true c.loop-at-test.true c.index-types-at.is c.in-Some.ensures (sym c.if-not-fits.false ∙ fit))

pub returns : goal.returns
unfolding all_fit
returns c = λ s. sym (sym (c.loop-at.invariant s) ∙ end (λ (ts : List (Option TypeSet)). all_fit (tables_of c.args.program.now) (with_store s c.args.heap.now) ts (map value_of (drop c.loop-at.at c.args.values.now))) c.args.types.now c.loop-at.at c.loop-at-test.false)
