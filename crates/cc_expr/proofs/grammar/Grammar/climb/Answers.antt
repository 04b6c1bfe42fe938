use Rattle.std.proofs.Common.{rules, arith, ◌≡◌, ◌∙◌, ◌<◌, ◌≤◌, Some, None}
use Rattle.std.proofs.lemmas.Grind.{common_steps}
use Rattle.cc_grammar.specs.Reading.{look_token}
use Rattle.cc_grammar.specs.Signs.{infix_of, level}
use Rattle.cc_raw.specs.Bridge.{raw_expr}
use Rattle.cc_cursor.specs.Meant as meant
use Rattle.cc_cursor.proofs.Turns.{one_more}
use Rattle.cc_expr.specs.Expressions as spec
use Rattle.cc_expr.proofs.OperatorLemmas.{climb_none, climb_low, climb_turn}
use Rattle.cc_expr.proofs.grammar.Grammar.climb.Goals as goal

pub returns-in_default-clause-reads : goal.returns-in_default-clause-reads
returns-in_default-clause-reads g c =
    let m = c.args.self.now.limits in
    let l = c.loop-turn in
    let e = one_more (λ n. spec.climb m c.args.with_in c.args.least n (raw_expr l.e, l.height) l.cursor) _ l._turn c.loop-turn-test.true l.invariant.reads in
    let s : None ≡ infix_of c.args.with_in (look_token l.cursor).kind = first_of (grind (arith, common_steps), search rules) in
    e ∙ climb_none m.turns m.depth c.args.with_in c.args.least _ (raw_expr l.e, l.height) l.cursor s

pub returns-then-level-least-clause-reads : goal.returns-then-level-least-clause-reads
returns-then-level-least-clause-reads g c =
    let m = c.args.self.now.limits in
    let l = c.loop-turn in
    let e = one_more (λ n. spec.climb m c.args.with_in c.args.least n (raw_expr l.e, l.height) l.cursor) _ l._turn c.loop-turn-test.true l.invariant.reads in
    let s : Some (meant.binary c.in-Some.sign) ≡ infix_of c.args.with_in (look_token l.cursor).kind = first_of (grind (arith, common_steps), search rules) in
    let low : level (meant.binary c.in-Some.sign) < c.args.least = first_of (grind (arith, common_steps), search rules) in
    e ∙ climb_low m.turns m.depth c.args.with_in c.args.least _ (raw_expr l.e, l.height) l.cursor (meant.binary c.in-Some.sign) s low

pub returns-in_err-e-clause-reads : goal.returns-in_err-e-clause-reads
returns-in_err-e-clause-reads g c =
    let m = c.args.self.now.limits in
    let l = c.loop-turn in
    let e = one_more (λ n. spec.climb m c.args.with_in c.args.least n (raw_expr l.e, l.height) l.cursor) _ l._turn c.loop-turn-test.true l.invariant.reads in
    let s : Some (meant.binary c.in-Some.sign) ≡ infix_of c.args.with_in (look_token l.cursor).kind = first_of (grind (arith, common_steps), search rules) in
    let up : c.args.least ≤ level (meant.binary c.in-Some.sign) = first_of (grind (arith, common_steps), search rules) in
    let t = e ∙ climb_turn m.turns m.depth c.args.with_in c.args.least _ (raw_expr l.e, l.height) l.cursor (meant.binary c.in-Some.sign) s up in
    first_of (search rules, grind (arith, common_steps))

pub loop-turn-preserved : goal.loop-turn-preserved
loop-turn-preserved g c =
    let m = c.args.self.now.limits in
    let l = c.loop-turn in
    let e = one_more (λ n. spec.climb m c.args.with_in c.args.least n (raw_expr l.e, l.height) l.cursor) _ l._turn c.loop-turn-test.true l.invariant.reads in
    let s : Some (meant.binary c.in-Some.sign) ≡ infix_of c.args.with_in (look_token l.cursor).kind = first_of (grind (arith, common_steps), search rules) in
    let up : c.args.least ≤ level (meant.binary c.in-Some.sign) = first_of (grind (arith, common_steps), search rules) in
    let t = e ∙ climb_turn m.turns m.depth c.args.with_in c.args.least _ (raw_expr l.e, l.height) l.cursor (meant.binary c.in-Some.sign) s up in
    record {
      reads = first_of (search rules, grind (arith, common_steps));
      low = first_of (search rules, grind (arith, common_steps));
      grows = first_of (search rules, grind (arith, common_steps));
    }
