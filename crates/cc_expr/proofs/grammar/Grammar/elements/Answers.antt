use Rattle.std.proofs.Common.{rules, arith, ◌≡◌, ◌∙◌, true, false, map}
use Rattle.std.proofs.lemmas.Grind.{common_steps}
use Rattle.cc_grammar.specs.ReadingExpressions.{elements}
use Rattle.cc_lexer.specs.declared.token.Mark.TheVariants as mark
use Rattle.cc_grammar.specs.Reading.{look_token}
use Rattle.cc_grammar.specs.Symbols.{is_mark}
use Rattle.cc_raw.specs.Bridge.{raw_expr}
use Rattle.cc_expr.specs.Expressions as spec
use Rattle.cc_cursor.proofs.Turns.{one_more, no_more}
use Rattle.cc_expr.proofs.ListLemmas.{elements_end, elements_turn}
use Rattle.cc_expr.proofs.grammar.Grammar.elements.Goals as goal

pub returns-then-sees-clause-reads : goal.returns-then-sees-clause-reads
returns-then-sees-clause-reads g c =
    let m = c.args.self.now.limits in
    let l = c.loop-turn in
    let e = one_more (λ n. spec.elements m n (map raw_expr l.found) l.height l.cursor) _ l._turn c.loop-turn-test.true l.invariant.reads in
    let s : is_mark mark.CloseBracket (look_token l.cursor).kind ≡ true = first_of (grind (arith, common_steps), search rules) in
    let t = e ∙ elements_end m.turns m.depth _ (map raw_expr l.found) l.height l.cursor s in
    first_of (search rules, grind (arith, common_steps))

pub returns-in_err-h-clause-reads : goal.returns-in_err-h-clause-reads
returns-in_err-h-clause-reads g c =
    let m = c.args.self.now.limits in
    let l = c.loop-turn in
    let e = one_more (λ n. spec.elements m n (map raw_expr l.found) l.height l.cursor) _ l._turn c.loop-turn-test.true l.invariant.reads in
    let s : is_mark mark.CloseBracket (look_token l.cursor).kind ≡ false = first_of (grind (arith, common_steps), search rules) in
    let t = e ∙ elements_turn m.turns m.depth _ (map raw_expr l.found) l.height l.cursor s c.sees.ensures.real.element in
    first_of (search rules, grind (arith, common_steps))

pub returns-then-not-more-clause-reads : goal.returns-then-not-more-clause-reads
returns-then-not-more-clause-reads g c =
    let m = c.args.self.now.limits in
    let l = c.loop-turn in
    let e = one_more (λ n. spec.elements m n (map raw_expr l.found) l.height l.cursor) _ l._turn c.loop-turn-test.true l.invariant.reads in
    let s : is_mark mark.CloseBracket (look_token l.cursor).kind ≡ false = first_of (grind (arith, common_steps), search rules) in
    let t = e ∙ elements_turn m.turns m.depth _ (map raw_expr l.found) l.height l.cursor s c.sees.ensures.real.element in
    first_of (search rules, grind (arith, common_steps))

pub loop-turn-preserved : goal.loop-turn-preserved
loop-turn-preserved g c =
    let m = c.args.self.now.limits in
    let l = c.loop-turn in
    let e = one_more (λ n. spec.elements m n (map raw_expr l.found) l.height l.cursor) _ l._turn c.loop-turn-test.true l.invariant.reads in
    let s : is_mark mark.CloseBracket (look_token l.cursor).kind ≡ false = first_of (grind (arith, common_steps), search rules) in
    let t = e ∙ elements_turn m.turns m.depth _ (map raw_expr l.found) l.height l.cursor s c.sees.ensures.real.element in
    record { reads = first_of (search rules, grind (arith, common_steps)); low = first_of (search rules, grind (arith, common_steps)) }

pub returns-clause-reads : goal.returns-clause-reads
unfolding elements
returns-clause-reads g c =
    let m = c.args.self.now.limits in
    let l = c.loop-turn in
    let e = no_more (λ n. spec.elements m n (map raw_expr l.found) l.height l.cursor) _ l._turn c.loop-turn-test.false l.invariant.reads in
    first_of (search rules, grind (arith, common_steps))
