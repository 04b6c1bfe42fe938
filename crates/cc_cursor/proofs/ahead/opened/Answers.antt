use Rattle.std.proofs.Common.{rules, arith}
use Rattle.std.proofs.lemmas.Grind.{common_steps}
use Rattle.cc_grammar.specs.Reading.{opened}
use Rattle.cc_cursor.specs.Reads as spec
use Rattle.cc_cursor.proofs.Turns.{one_more, no_more}
use Rattle.cc_cursor.proofs.ahead.opened.Goals as goal

pub returns-then-is_none : goal.returns-then-is_none
unfolding opened
returns-then-is_none c =
    let e = one_more (λ n. spec.opened n c.loop-count.count c.loop-count.cursor) c.args.turns c.loop-count.count c.loop-count-test.true c.loop-count.invariant in
    first_of (search rules, grind (arith, common_steps))

pub returns-then-not-sees : goal.returns-then-not-sees
unfolding opened
returns-then-not-sees c =
    let e = one_more (λ n. spec.opened n c.loop-count.count c.loop-count.cursor) c.args.turns c.loop-count.count c.loop-count-test.true c.loop-count.invariant in
    first_of (search rules, grind (arith, common_steps))

pub loop-count-preserved : goal.loop-count-preserved
unfolding opened
loop-count-preserved c =
    let e = one_more (λ n. spec.opened n c.loop-count.count c.loop-count.cursor) c.args.turns c.loop-count.count c.loop-count-test.true c.loop-count.invariant in
    first_of (search rules, grind (arith, common_steps))

pub returns : goal.returns
unfolding opened
returns c =
    let e = no_more (λ n. spec.opened n c.loop-count.count c.loop-count.cursor) c.args.turns c.loop-count.count c.loop-count-test.false c.loop-count.invariant in
    first_of (search rules, grind (arith, common_steps))
