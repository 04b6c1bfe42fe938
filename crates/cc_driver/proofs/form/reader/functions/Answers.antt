use Rattle.std.proofs.Common.{rules, arith, ◌≡◌, ◌+◌, ◌-◌, suc, length, sym}
use Rattle.std.proofs.lemmas.Grind.{common_steps}
use Rattle.cc_driver.specs.FormReading.{read_functions}
use Rattle.cc_driver.proofs.Turns.{one_more}
use Rattle.cc_driver.proofs.form.reader.functions.Goals as goal

pub loop-turn-init : goal.loop-turn-init
loop-turn-init c =
    let turns : suc (length c.args.cursor.now.rest.now) ≡ c.left-turn-end.result + 1 - 0 = omega arith in
    λ i. read_functions (turns i) (sym c.new-found.ensures i) c.args.cursor.now.at c.args.cursor.now.rest.now

pub loop-turn-preserved : goal.loop-turn-preserved
unfolding read_functions
loop-turn-preserved c =
    let e = one_more (λ n. read_functions n c.loop-turn.found c.loop-turn.cursor.at c.loop-turn.cursor.rest.now) _ c.loop-turn._turn c.loop-turn-test.true c.loop-turn.invariant in
    let read = c.in_ok-push_function.ensures.1 in
    let added = c.in_ok-push_function.ensures.2 in
    first_of (search rules, grind (arith, common_steps))
