use Rattle.std.proofs.Common.{sym, ◌∙◌}
use Rattle.std.specs.Str.{chars}
use Rattle.cc_flags.proofs.QuoteLaws.{empty-is, some-is, itself-is, step-itself, step-escape, none-behind_quote, none-at_line_end, none-at_escape, none-at_end, quoted-more, quoted-end, quoted-never}
use Rattle.cc_flags.proofs.define.quoted.Goals as goal

pub returns-then-is_empty : goal.returns-then-is_empty
returns-then-is_empty c =
    quoted-end _ _ _ c.in-Some.c (chars c.in-Some.behind.now) c.loop-c.invariant.so_far c.in-Some.ensures.characters c.if-c-eq39.true
    (empty-is c.in-Some.behind.now c.is_empty.result c.is_empty.ensures c.if-is_empty.true)

pub returns-then-c-eq39 : goal.returns-then-c-eq39
returns-then-c-eq39 c =
    quoted-never _ _ _ c.loop-c.invariant.so_far
    (λ us read. none-behind_quote c.in-Some.c _ (chars c.in-Some.behind.now) us c.in-Some.ensures.characters c.if-c-eq39.true (some-is c.in-Some.behind.now c.is_empty.result c.in-Some.ensures.text c.is_empty.ensures c.if-is_empty.false) read)

pub returns-then-is_line_end : goal.returns-then-is_line_end
returns-then-is_line_end c =
    quoted-never _ _ _ c.loop-c.invariant.so_far
    (λ us read. none-at_line_end c.in-Some.c _ (chars c.in-Some.behind.now) us c.in-Some.ensures.characters (sym c.is_line_end.ensures ∙ c.if-is_line_end.true) read)

pub loop-c-preserved-in-Some-2 : goal.loop-c-preserved-in-Some-2
loop-c-preserved-in-Some-2 c =
    let g = rw c.in-Some-2.is at c.in_ok-end.ensures in
    record {
      utf8 = g.text;
      so_far =
          quoted-more _ _ _ _ _ _ c.loop-c.invariant.so_far (step-escape c.in-Some.c _ (chars c.in-Some.behind.now) _ _ c.in-Some.ensures.characters c.if-c-eq92.true g.found) g.added;
    }

pub returns-in-None : goal.returns-in-None
returns-in-None c =
    let g = rw c.in-None.is at c.in_ok-end.ensures in
    quoted-never _ _ _ c.loop-c.invariant.so_far
    (λ us read. none-at_escape c.in-Some.c _ (chars c.in-Some.behind.now) us c.in-Some.ensures.characters c.if-c-eq92.true g read)

pub loop-c-preserved : goal.loop-c-preserved
loop-c-preserved c = record {
  utf8 = c.in-Some.ensures.text;
  so_far =
      quoted-more _ _ _ _ _ _ c.loop-c.invariant.so_far
      (step-itself c.in-Some.c _ (chars c.in-Some.behind.now) c.in-Some.ensures.characters (itself-is c.in-Some.c c.if-c-eq39.false c.if-c-eq92.false (sym c.is_line_end.ensures ∙ c.if-is_line_end.false)))
      c.in_ok-push_char.ensures;
}

pub returns : goal.returns
returns c = quoted-never _ _ _ c.loop-c.invariant.so_far (λ us read. none-at_end _ us c.in_default.ensures.characters read)
