use Rattle.std.proofs.Common.{rules, arith}
use Rattle.std.proofs.lemmas.Grind.{common_steps}
use Rattle.cc_grammar.specs.Reading.{closed}
use Rattle.cc_cursor.specs.Reads as spec
use Rattle.cc_cursor.proofs.Turns.{one_more, no_more}
use Rattle.cc_cursor.proofs.ahead.closed.Goals as goal

pub returns-then-not-sees : goal.returns-then-not-sees
unfolding closed
returns-then-not-sees c =
    let e = one_more (λ n. spec.closed n c.loop-turn.cursor) c.args.count c.loop-turn._turn c.loop-turn-test.true c.loop-turn.invariant in
    first_of (search rules, grind (arith, common_steps))

pub loop-turn-preserved : goal.loop-turn-preserved
unfolding closed
loop-turn-preserved c =
    let e = one_more (λ n. spec.closed n c.loop-turn.cursor) c.args.count c.loop-turn._turn c.loop-turn-test.true c.loop-turn.invariant in
    first_of (search rules, grind (arith, common_steps))

pub returns : goal.returns
unfolding closed
returns c =
    let e = no_more (λ n. spec.closed n c.loop-turn.cursor) c.args.count c.loop-turn._turn c.loop-turn-test.false c.loop-turn.invariant in
    first_of (search rules, grind (arith, common_steps))
