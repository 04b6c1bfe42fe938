use Rattle.std.proofs.Common.{rules, arith, ◌≡◌, length, [], Some}
use Rattle.std.proofs.lemmas.Grind.{common_steps}
use Rattle.cc_driver.specs.FormReading.{read_values, and_then, expect}
use Rattle.cc_driver.proofs.Turns.{one_more}
use Rattle.cc_driver.proofs.form.reader.values.Goals as goal

pub loop-turn-preserved : goal.loop-turn-preserved
unfolding read_values
loop-turn-preserved c =
    let e = one_more (λ n. read_values n c.loop-turn.found c.loop-turn.cursor.at c.loop-turn.cursor.rest.now) _ c.loop-turn._turn c.loop-turn-test.true c.loop-turn.invariant in
    let read = c.in_ok-push_value.ensures.1 in
    let added = c.in_ok-push_value.ensures.2 in
    first_of (search rules, grind (arith, common_steps))

pub returns-then-look-ne44 : goal.returns-then-look-ne44
unfolding read_values
returns-then-look-ne44 c =
    let e = one_more (λ n. read_values n c.loop-turn.found c.loop-turn.cursor.at c.loop-turn.cursor.rest.now) _ c.loop-turn._turn c.loop-turn-test.true c.loop-turn.invariant in
    let read = c.in_ok-push_value.ensures.1 in
    let added = c.in_ok-push_value.ensures.2 in
    let ends : read_values (length c.args.cursor.now.rest.now) [] c.args.cursor.now.at c.args.cursor.now.rest.now
    ≡ and_then (expect 41 c.push_value.new.cursor.at c.push_value.new.cursor.rest.now) (λ u end rest. Some (c.push_value.new.found, end, rest)) = grind (arith, common_steps) in
    rw ends c.closed.ensures
