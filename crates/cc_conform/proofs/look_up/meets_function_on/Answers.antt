use Rattle.std.proofs.Common.{◌∙◌, ◌+◌, ℕ, Bool, List, Option, drop, unwrap_or, sym, ap}
use Rattle.std.proofs.lemmas.List.{at_drop_more}
use Rattle.cc_meaning.specs.SlotRules.{meets_function}
use Rattle.cc_conform.proofs.Loops.{end}
use Rattle.cc_conform.proofs.look_up.meets_function_on.Goals as goal

pub returns-in-Some : goal.returns-in-Some
unfolding meets_function
returns-in-Some c =
    let F : List ℕ → Bool = λ cs. meets_function c.args.heap.now.objs cs c.args.name.now in
    let rest = F (drop (c.loop-above.above-index + 1) c.args.chain.now) in
    sym (sym c.loop-above.invariant ∙ at_drop_more F c.args.chain.now c.loop-above.above-index 0 c.loop-above-test.true ∙ c.function_met.ensures rest ∙ ap (λ (o : Option Bool). unwrap_or o rest) c.in-Some.is)

pub loop-above-preserved : goal.loop-above-preserved
unfolding meets_function
loop-above-preserved c =
    let F : List ℕ → Bool = λ cs. meets_function c.args.heap.now.objs cs c.args.name.now in
    let rest = F (drop (c.loop-above.above-index + 1) c.args.chain.now) in
    sym (sym c.loop-above.invariant ∙ at_drop_more F c.args.chain.now c.loop-above.above-index 0 c.loop-above-test.true ∙ c.function_met.ensures rest ∙ ap (λ (o : Option Bool). unwrap_or o rest) c.in_default.is)

pub returns : goal.returns
unfolding meets_function
returns c = sym (sym c.loop-above.invariant ∙ end (λ (cs : List ℕ). meets_function c.args.heap.now.objs cs c.args.name.now) c.args.chain.now c.loop-above.above-index c.loop-above-test.false)
