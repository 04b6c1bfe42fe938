use Rattle.std.proofs.Common.{rules, arith}
use Rattle.std.proofs.lemmas.Grind.{common_steps}
use Rattle.cc_driver.specs.FormReading.{read_more}
use Rattle.cc_driver.proofs.Turns.{one_more}
use Rattle.cc_driver.proofs.form.reader.more.Goals as goal

pub loop-turn-preserved : goal.loop-turn-preserved
unfolding read_more
loop-turn-preserved c =
    let e = one_more (λ n. read_more n c.loop-turn.found c.loop-turn.cursor.at c.loop-turn.cursor.rest.now) _ c.loop-turn._turn c.loop-turn-test.true c.loop-turn.invariant in
    let read = c.in_ok-push_added.ensures.1 in
    let added = c.in_ok-push_added.ensures.2 in
    first_of (search rules, grind (arith, common_steps))
