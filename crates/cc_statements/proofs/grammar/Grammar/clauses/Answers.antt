use Rattle.std.proofs.Common.{rules, arith, ◌∙◌}
use Rattle.std.proofs.lemmas.Grind.{common_steps}
use Rattle.std.proofs.lemmas.List.{map-append}
use Rattle.cc_grammar.specs.Reading.{clauses}
use Rattle.cc_trees.specs.StatementParts as parts
use Rattle.cc_cursor.specs.Shown as shown
use Rattle.cc_statements.specs.ReadsStatements as spec
use Rattle.cc_statements.proofs.ClauseLemmas.{one_clause}
use Rattle.cc_cursor.proofs.Turns.{one_more, no_more}
use Rattle.cc_statements.proofs.grammar.Grammar.clauses.Goals as goal

pub returns-in_err-x-clause-reads : goal.returns-in_err-x-clause-reads
returns-in_err-x-clause-reads g c =
    let e = one_more (λ n. spec.clauses c.args.self.now.limits (shown.context c.args.context) n c.loop-turn.seen (parts.clauses c.loop-turn.found) c.loop-turn.height c.loop-turn.cursor) _ c.loop-turn._turn c.loop-turn-test.true c.loop-turn.invariant.reads ∙ one_clause _ _ _ _ _ _ _ in
    first_of (search rules, grind (arith, common_steps, map-append))

pub returns-in_default-clause-reads : goal.returns-in_default-clause-reads
returns-in_default-clause-reads g c =
    let e = one_more (λ n. spec.clauses c.args.self.now.limits (shown.context c.args.context) n c.loop-turn.seen (parts.clauses c.loop-turn.found) c.loop-turn.height c.loop-turn.cursor) _ c.loop-turn._turn c.loop-turn-test.true c.loop-turn.invariant.reads ∙ one_clause _ _ _ _ _ _ _ in
    first_of (search rules, grind (arith, common_steps, map-append))

pub loop-turn-preserved : goal.loop-turn-preserved
loop-turn-preserved g c =
    let e = one_more (λ n. spec.clauses c.args.self.now.limits (shown.context c.args.context) n c.loop-turn.seen (parts.clauses c.loop-turn.found) c.loop-turn.height c.loop-turn.cursor) _ c.loop-turn._turn c.loop-turn-test.true c.loop-turn.invariant.reads ∙ one_clause _ _ _ _ _ _ _ in
    record { reads = first_of (search rules, grind (arith, common_steps, map-append)); low = first_of (search rules, grind (arith, common_steps)) }

pub returns-clause-reads : goal.returns-clause-reads
unfolding clauses
returns-clause-reads g c =
    let e = no_more (λ n. spec.clauses c.args.self.now.limits (shown.context c.args.context) n c.loop-turn.seen (parts.clauses c.loop-turn.found) c.loop-turn.height c.loop-turn.cursor) _ c.loop-turn._turn c.loop-turn-test.false c.loop-turn.invariant.reads in
    first_of (search rules, grind (arith, common_steps))
