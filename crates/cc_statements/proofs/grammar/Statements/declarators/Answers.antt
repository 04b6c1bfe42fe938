use Rattle.std.proofs.Common.{rules, arith}
use Rattle.std.proofs.lemmas.Grind.{common_steps}
use Rattle.std.proofs.lemmas.List.{map-append}
use Rattle.cc_grammar.specs.Reading.{declarators}
use Rattle.cc_trees.specs.StatementParts as parts
use Rattle.cc_statements.specs.ReadsStatements as spec
use Rattle.cc_cursor.proofs.Turns.{one_more, no_more}
use Rattle.cc_statements.proofs.grammar.Statements.declarators.Goals as goal

pub returns-in_err-declarator-clause-reads : goal.returns-in_err-declarator-clause-reads
unfolding declarators
returns-in_err-declarator-clause-reads g c =
    let e = one_more (λ n. spec.declarators c.args.self.now.grammar.limits c.args.with_in n (parts.declarators c.loop-turn.found) c.loop-turn.height c.loop-turn.cursor) _ c.loop-turn._turn c.loop-turn-test.true c.loop-turn.invariant.reads in
    first_of (search rules, grind (arith, common_steps, map-append))

pub returns-then-not-sees-clause-reads : goal.returns-then-not-sees-clause-reads
unfolding declarators
returns-then-not-sees-clause-reads g c =
    let e = one_more (λ n. spec.declarators c.args.self.now.grammar.limits c.args.with_in n (parts.declarators c.loop-turn.found) c.loop-turn.height c.loop-turn.cursor) _ c.loop-turn._turn c.loop-turn-test.true c.loop-turn.invariant.reads in
    first_of (search rules, grind (arith, common_steps, map-append))

pub loop-turn-preserved : goal.loop-turn-preserved
unfolding declarators
loop-turn-preserved g c =
    let e = one_more (λ n. spec.declarators c.args.self.now.grammar.limits c.args.with_in n (parts.declarators c.loop-turn.found) c.loop-turn.height c.loop-turn.cursor) _ c.loop-turn._turn c.loop-turn-test.true c.loop-turn.invariant.reads in
    record { reads = first_of (search rules, grind (arith, common_steps, map-append)); low = first_of (search rules, grind (arith, common_steps)) }

pub returns-clause-reads : goal.returns-clause-reads
unfolding declarators
returns-clause-reads g c =
    let e = no_more (λ n. spec.declarators c.args.self.now.grammar.limits c.args.with_in n (parts.declarators c.loop-turn.found) c.loop-turn.height c.loop-turn.cursor) _ c.loop-turn._turn c.loop-turn-test.false c.loop-turn.invariant.reads in
    first_of (search rules, grind (arith, common_steps))
