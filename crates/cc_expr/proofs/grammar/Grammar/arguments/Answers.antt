use Rattle.std.proofs.Common.{rules, arith, ◌∙◌, map}
use Rattle.std.proofs.lemmas.Grind.{common_steps}
use Rattle.cc_grammar.specs.Reading.{arguments}
use Rattle.cc_raw.specs.Bridge.{raw_expr}
use Rattle.cc_cursor.specs.Reads as spec
use Rattle.cc_cursor.proofs.Turns.{one_more, no_more}
use Rattle.cc_expr.proofs.ListLemmas.{arguments_turn}
use Rattle.cc_expr.proofs.grammar.Grammar.arguments.Goals as goal

pub returns-in_err-h-clause-reads : goal.returns-in_err-h-clause-reads
returns-in_err-h-clause-reads g c =
    let m = c.args.self.now.limits in
    let l = c.loop-turn in
    let e = one_more (λ n. spec.arguments m n (map raw_expr l.found) l.height l.cursor) _ l._turn c.loop-turn-test.true l.invariant.reads in
    let t = e ∙ arguments_turn m.turns m.depth _ (map raw_expr l.found) l.height l.cursor in
    first_of (search rules, grind (arith, common_steps))

pub returns-then-not-more-clause-reads : goal.returns-then-not-more-clause-reads
returns-then-not-more-clause-reads g c =
    let m = c.args.self.now.limits in
    let l = c.loop-turn in
    let e = one_more (λ n. spec.arguments m n (map raw_expr l.found) l.height l.cursor) _ l._turn c.loop-turn-test.true l.invariant.reads in
    let t = e ∙ arguments_turn m.turns m.depth _ (map raw_expr l.found) l.height l.cursor in
    first_of (search rules, grind (arith, common_steps))

pub loop-turn-preserved : goal.loop-turn-preserved
loop-turn-preserved g c =
    let m = c.args.self.now.limits in
    let l = c.loop-turn in
    let e = one_more (λ n. spec.arguments m n (map raw_expr l.found) l.height l.cursor) _ l._turn c.loop-turn-test.true l.invariant.reads in
    let t = e ∙ arguments_turn m.turns m.depth _ (map raw_expr l.found) l.height l.cursor in
    record { reads = first_of (search rules, grind (arith, common_steps)); low = first_of (search rules, grind (arith, common_steps)) }

pub returns-clause-reads : goal.returns-clause-reads
unfolding arguments
returns-clause-reads g c =
    let m = c.args.self.now.limits in
    let l = c.loop-turn in
    let e = no_more (λ n. spec.arguments m n (map raw_expr l.found) l.height l.cursor) _ l._turn c.loop-turn-test.false l.invariant.reads in
    first_of (search rules, grind (arith, common_steps))
