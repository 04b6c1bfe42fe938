use Rattle.std.proofs.Common.{rules, arith, map}
use Rattle.std.proofs.lemmas.Grind.{common_steps}
use Rattle.std.proofs.lemmas.List.{map-append}
use Rattle.cc_grammar.specs.Reading.{list}
use Rattle.cc_raw.specs.Bridge.{raw_stmt}
use Rattle.cc_cursor.specs.Shown as shown
use Rattle.cc_statements.specs.ReadsStatements as spec
use Rattle.cc_cursor.proofs.Turns.{one_more, no_more}
use Rattle.cc_statements.proofs.grammar.Grammar.statements.Goals as goal

pub returns-then-ends_list-clause-reads : goal.returns-then-ends_list-clause-reads
unfolding list
returns-then-ends_list-clause-reads g c =
    let e = one_more (λ n. spec.list c.args.self.now.limits (shown.context c.args.context) n (map raw_stmt c.loop-turn.found) c.loop-turn.height c.loop-turn.cursor) _ c.loop-turn._turn c.loop-turn-test.true c.loop-turn.invariant.reads in
    first_of (search rules, grind (arith, common_steps, map-append))

pub returns-in_err-stmts-clause-reads : goal.returns-in_err-stmts-clause-reads
unfolding list
returns-in_err-stmts-clause-reads g c =
    let e = one_more (λ n. spec.list c.args.self.now.limits (shown.context c.args.context) n (map raw_stmt c.loop-turn.found) c.loop-turn.height c.loop-turn.cursor) _ c.loop-turn._turn c.loop-turn-test.true c.loop-turn.invariant.reads in
    first_of (search rules, grind (arith, common_steps, map-append))

pub loop-turn-preserved : goal.loop-turn-preserved
unfolding list
loop-turn-preserved g c =
    let e = one_more (λ n. spec.list c.args.self.now.limits (shown.context c.args.context) n (map raw_stmt c.loop-turn.found) c.loop-turn.height c.loop-turn.cursor) _ c.loop-turn._turn c.loop-turn-test.true c.loop-turn.invariant.reads in
    record { reads = first_of (search rules, grind (arith, common_steps, map-append)); low = first_of (search rules, grind (arith, common_steps)) }

pub returns-clause-reads : goal.returns-clause-reads
unfolding list
returns-clause-reads g c =
    let e = no_more (λ n. spec.list c.args.self.now.limits (shown.context c.args.context) n (map raw_stmt c.loop-turn.found) c.loop-turn.height c.loop-turn.cursor) _ c.loop-turn._turn c.loop-turn-test.false c.loop-turn.invariant.reads in
    first_of (search rules, grind (arith, common_steps))
