use Rattle.std.proofs.Common.{◌≡◌, ◌∙◌, ap, rules, arith, Some}
use Rattle.std.proofs.lemmas.Grind.{common_steps}
use Rattle.cc_grammar.specs.Reading.{suffix_of, look_token}
use Rattle.cc_raw.specs.Bridge.{raw_expr}
use Rattle.cc_cursor.specs.Meant as meant
use Rattle.cc_cursor.proofs.Turns.{one_more}
use Rattle.cc_expr.specs.Expressions as spec
use Rattle.cc_expr.proofs.SuffixLemmas.{suffixes_end, suffixes_turn}
use Rattle.cc_expr.proofs.grammar.Grammar.suffixes.Goals as goal

pub returns-in_default-clause-reads : goal.returns-in_default-clause-reads
returns-in_default-clause-reads g c =
    let e = one_more (λ n. spec.suffixes c.args.self.now.limits c.args.calls n (raw_expr c.loop-turn.e, c.loop-turn.height) c.loop-turn.cursor) _ c.loop-turn._turn c.loop-turn-test.true c.loop-turn.invariant.reads in
    e ∙ suffixes_end c.args.self.now.limits.turns c.args.self.now.limits.depth c.args.calls _ (raw_expr c.loop-turn.e, c.loop-turn.height) c.loop-turn.cursor
    (c.in_default.ensures ∙ ap (suffix_of c.args.calls) c.kind.ensures.shows)

pub returns-in_err-e-clause-reads : goal.returns-in_err-e-clause-reads
returns-in_err-e-clause-reads g c =
    let e = one_more (λ n. spec.suffixes c.args.self.now.limits c.args.calls n (raw_expr c.loop-turn.e, c.loop-turn.height) c.loop-turn.cursor) _ c.loop-turn._turn c.loop-turn-test.true c.loop-turn.invariant.reads in
    let s : meant.suffix (Some c.in-Some.suffix) ≡ suffix_of c.args.calls (look_token c.loop-turn.cursor).kind
    = c.in-Some.ensures ∙ ap (suffix_of c.args.calls) c.kind.ensures.shows in
    let t = e ∙ suffixes_turn c.args.self.now.limits.turns c.args.self.now.limits.depth c.args.calls _ (raw_expr c.loop-turn.e, c.loop-turn.height) c.in-Some.suffix c.loop-turn.cursor s in
    first_of (search rules, grind (arith, common_steps))

pub loop-turn-preserved : goal.loop-turn-preserved
loop-turn-preserved g c =
    let e = one_more (λ n. spec.suffixes c.args.self.now.limits c.args.calls n (raw_expr c.loop-turn.e, c.loop-turn.height) c.loop-turn.cursor) _ c.loop-turn._turn c.loop-turn-test.true c.loop-turn.invariant.reads in
    let s : meant.suffix (Some c.in-Some.suffix) ≡ suffix_of c.args.calls (look_token c.loop-turn.cursor).kind
    = c.in-Some.ensures ∙ ap (suffix_of c.args.calls) c.kind.ensures.shows in
    let t = e ∙ suffixes_turn c.args.self.now.limits.turns c.args.self.now.limits.depth c.args.calls _ (raw_expr c.loop-turn.e, c.loop-turn.height) c.in-Some.suffix c.loop-turn.cursor s in
    record {
      reads = first_of (search rules, grind (arith, common_steps));
      low = first_of (search rules, grind (arith, common_steps));
      grows = first_of (search rules, grind (arith, common_steps));
    }
