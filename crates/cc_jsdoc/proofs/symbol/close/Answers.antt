use Rattle.std.proofs.Common.{◌≡◌, ◌+◌, ◌-◌, suc, [], ◌∷◌, ◌++◌, sym, ◌∙◌, ap, arith}
use Rattle.std.specs.Str.{chars}
use Rattle.cc_text.proofs.EscapeLemmas.{ends_trans}
use Rattle.cc_jsdoc.proofs.ClosingLemmas.{behind_close, closes-from_found, none_closes, closes_here, closes_one, opens_one, passes_one, closes_nowhere}
use Rattle.cc_jsdoc.proofs.symbol.close.Goals as goal

pub returns-then-depth-eq0-clause-value : goal.returns-then-depth-eq0-clause-value
returns-then-depth-eq0-clause-value c =
    let l = c.args.left in let r = c.args.right in let apart = c.requires in
    let zero : c.loop-c.depth ≡ 0 = omega arith in
    closes-from_found l r apart (chars c.args.text.now) (chars c.front.result.now) (chars c.in-Some.behind.now)
    (sym c.loop-c.invariant.same ∙ ap (λ n. behind_close l r (chars c.loop-c.rest.now) n) zero ∙ closes_here l r apart (chars c.loop-c.rest.now) (chars c.in-Some.behind.now) c.in-Some.c c.in-Some.ensures.characters c.if-c-right.true)
    (c.front.ensures ∙ ap (λ x. chars c.front.result.now ++ x) (c.in-Some.ensures.characters ∙ ap (λ x. x ∷ chars c.in-Some.behind.now) c.if-c-right.true))

pub loop-c-preserved-else-depth-eq0 : goal.loop-c-preserved-else-depth-eq0
loop-c-preserved-else-depth-eq0 c = record {
  utf8 = c.in-Some.ensures.text;
  ends = ends_trans (chars c.args.text.now) (chars c.loop-c.rest.now) (chars c.in-Some.behind.now) c.loop-c.invariant.ends (c.in-Some.c ∷ [], c.in-Some.ensures.characters);
  room = omega (arith, c.in-Some.ensures.shorter);
  same = closes_one c.args.left c.args.right c.requires (chars c.loop-c.rest.now) (chars c.in-Some.behind.now) c.in-Some.c c.loop-c.depth (c.loop-c.depth - 1) c.in-Some.ensures.characters c.if-c-right.true
      (let e : c.loop-c.depth ≡ suc (c.loop-c.depth - 1) = omega arith in e) ∙ c.loop-c.invariant.same;
}

pub loop-c-preserved-then-c-left : goal.loop-c-preserved-then-c-left
loop-c-preserved-then-c-left c = record {
  utf8 = c.in-Some.ensures.text;
  ends = ends_trans (chars c.args.text.now) (chars c.loop-c.rest.now) (chars c.in-Some.behind.now) c.loop-c.invariant.ends (c.in-Some.c ∷ [], c.in-Some.ensures.characters);
  room = omega (arith, c.in-Some.ensures.shorter);
  same = opens_one c.args.left c.args.right c.requires (chars c.loop-c.rest.now) (chars c.in-Some.behind.now) c.in-Some.c c.loop-c.depth (c.loop-c.depth + 1) c.in-Some.ensures.characters c.if-c-left.true
      (let e : c.loop-c.depth + 1 ≡ suc c.loop-c.depth = omega arith in e) ∙ c.loop-c.invariant.same;
}

pub loop-c-preserved : goal.loop-c-preserved
loop-c-preserved c = record {
  utf8 = c.in-Some.ensures.text;
  ends = ends_trans (chars c.args.text.now) (chars c.loop-c.rest.now) (chars c.in-Some.behind.now) c.loop-c.invariant.ends (c.in-Some.c ∷ [], c.in-Some.ensures.characters);
  room = omega (arith, c.in-Some.ensures.shorter);
  same = passes_one c.args.left c.args.right c.requires (chars c.loop-c.rest.now) (chars c.in-Some.behind.now) c.in-Some.c c.loop-c.depth c.in-Some.ensures.characters
      c.if-c-left.false c.if-c-right.false ∙ c.loop-c.invariant.same;
}

pub returns-clause-value : goal.returns-clause-value
returns-clause-value c = λ inside rest.
    none_closes c.args.left c.args.right c.requires (chars c.args.text.now) inside rest
    (sym c.loop-c.invariant.same ∙ closes_nowhere c.args.left c.args.right c.requires (chars c.loop-c.rest.now) c.loop-c.depth c.in_default.ensures.characters)
