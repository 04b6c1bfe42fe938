use Rattle.std.proofs.Common.{rules, arith, ◌≡◌, ◌∙◌, true, false}
use Rattle.std.proofs.lemmas.Grind.{common_steps}
use Rattle.cc_lexer.specs.declared.token.Mark.TheVariants as mark
use Rattle.cc_grammar.specs.Reading.{look_token}
use Rattle.cc_grammar.specs.Symbols.{is_mark}
use Rattle.cc_raw.specs.Bridge.{raw_expr}
use Rattle.cc_cursor.proofs.Turns.{one_more}
use Rattle.cc_expr.specs.Expressions as spec
use Rattle.cc_expr.proofs.OperatorLemmas.{commas_none, commas_turn}
use Rattle.cc_expr.proofs.grammar.Grammar.commas.Goals as goal

pub returns-then-not-sees-clause-reads : goal.returns-then-not-sees-clause-reads
returns-then-not-sees-clause-reads g c =
    let m = c.args.self.now.limits in
    let l = c.loop-turn in
    let e = one_more (λ n. spec.commas m c.args.with_in n (raw_expr l.e, l.height) l.cursor) _ l._turn c.loop-turn-test.true l.invariant.reads in
    let s : false ≡ is_mark mark.Comma (look_token l.cursor).kind = first_of (grind (arith, common_steps), search rules) in
    e ∙ commas_none m.turns m.depth c.args.with_in _ (raw_expr l.e, l.height) l.cursor s

pub returns-in_err-e-clause-reads : goal.returns-in_err-e-clause-reads
returns-in_err-e-clause-reads g c =
    let m = c.args.self.now.limits in
    let l = c.loop-turn in
    let e = one_more (λ n. spec.commas m c.args.with_in n (raw_expr l.e, l.height) l.cursor) _ l._turn c.loop-turn-test.true l.invariant.reads in
    let s : true ≡ is_mark mark.Comma (look_token l.cursor).kind = first_of (grind (arith, common_steps), search rules) in
    let t = e ∙ commas_turn m.turns m.depth c.args.with_in _ (raw_expr l.e, l.height) l.cursor s in
    first_of (search rules, grind (arith, common_steps))

pub loop-turn-preserved : goal.loop-turn-preserved
loop-turn-preserved g c =
    let m = c.args.self.now.limits in
    let l = c.loop-turn in
    let e = one_more (λ n. spec.commas m c.args.with_in n (raw_expr l.e, l.height) l.cursor) _ l._turn c.loop-turn-test.true l.invariant.reads in
    let s : true ≡ is_mark mark.Comma (look_token l.cursor).kind = first_of (grind (arith, common_steps), search rules) in
    let t = e ∙ commas_turn m.turns m.depth c.args.with_in _ (raw_expr l.e, l.height) l.cursor s in
    record {
      reads = first_of (search rules, grind (arith, common_steps));
      low = first_of (search rules, grind (arith, common_steps));
      grows = first_of (search rules, grind (arith, common_steps));
    }
