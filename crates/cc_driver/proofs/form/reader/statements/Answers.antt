use Rattle.std.proofs.Common.{rules, arith, ◌≡◌, ◌+◌, ◌-◌, suc, length, sym}
use Rattle.std.proofs.lemmas.Grind.{common_steps}
use Rattle.cc_driver.specs.FormReading.{read_statements}
use Rattle.cc_driver.proofs.Turns.{one_more}
use Rattle.cc_driver.proofs.form.reader.statements.Goals as goal

pub loop-turn-init : goal.loop-turn-init
loop-turn-init c =
    let turns : suc (length c.args.cursor.now.rest.now) ≡ c.left-turn-end.result + 1 - 0 = omega arith in
    λ i. read_statements (turns i) (sym c.new-found.ensures i) c.args.cursor.now.at c.args.cursor.now.rest.now

pub loop-turn-preserved : goal.loop-turn-preserved
unfolding read_statements
loop-turn-preserved c =
    let e = one_more (λ n. read_statements n c.loop-turn.found c.loop-turn.cursor.at c.loop-turn.cursor.rest.now) _ c.loop-turn._turn c.loop-turn-test.true c.loop-turn.invariant in
    let read = c.in_ok-push_statement.ensures.1 in
    let added = c.in_ok-push_statement.ensures.2 in
    first_of (search rules, grind (arith, common_steps))
