use Rattle.std.proofs.Common.{◌<◌, ◌≤◌, [], length, ap, sym, ◌∙◌, refl, arith}
use Rattle.std.specs.Str.{chars}
use Rattle.cc_lexer.specs.declared.token.Fault.TheVariants as fault
use Rattle.cc_lexer.specs.Strings.{closes, fails, before}
use Rattle.cc_lexer.specs.declared.token.TokenKind.TheVariants as kind
use Rattle.cc_lexer.specs.Items.{token, string_item}
use Rattle.cc_lexer.proofs.StringLemmas.{read_more, read_plain, read_escape, before_none, escape_shorter, plain_is, fails_at, cut_at, unclosed_at, quote_at}
use Rattle.cc_lexer.proofs.string.string.Goals as goal

pub returns-then-c-quote : goal.returns-then-c-quote
returns-then-c-quote c =
    let rest = chars c.in-Some.behind.now in (
      before c.loop-c.list.items (closes [] rest),
      c.loop-c.invariant.left (closes [] rest) (quote_at _ _ _ _ c.in-Some.ensures.characters c.if-c-quote.true),
      (ap string_item (before_none c.loop-c.list.items rest) ∙ ap (λ us. token (kind.Text us) rest) (sym c.in_ok-units.ensures), c.in-Some.ensures.text),
    )

pub returns-then-is_line_end : goal.returns-then-is_line_end
returns-then-is_line_end c =
    (fails fault.Syntax, c.loop-c.invariant.left (fails fault.Syntax) (cut_at _ _ _ _ c.in-Some.ensures.characters (sym c.is_line_end.ensures ∙ c.if-is_line_end.true)), refl)

pub loop-c-smaller-in-Goes : goal.loop-c-smaller-in-Goes
loop-c-smaller-in-Goes c =
    let g = rw c.in-Goes.is at c.in_ok-end.ensures in
    let k : length (chars c.in-Goes.end.now) ≤ length (chars c.in-Some.behind.now) = escape_shorter _ _ _ g.found in
    let h = ap length c.in-Some.ensures.characters in
    let t : length (chars c.in-Goes.end.now) < length (chars c.loop-c.rest.now) = omega arith in t

pub loop-c-preserved-in-Goes : goal.loop-c-preserved-in-Goes
loop-c-preserved-in-Goes c =
    let g = rw c.in-Goes.is at c.in_ok-end.ensures in
    record { utf8 = g.text; left = read_more _ _ _ _ _ _ _ c.loop-c.invariant.left (read_escape _ _ _ _ _ _ c.in-Some.ensures.characters c.if-c-eq92.true g.found) g.added }

pub returns-in-Fails : goal.returns-in-Fails
returns-in-Fails c =
    let g = rw c.in-Fails.is at c.in_ok-end.ensures in
    (fails c.in-Fails.fault, c.loop-c.invariant.left (fails c.in-Fails.fault) (fails_at _ _ _ _ _ c.in-Some.ensures.characters c.if-c-eq92.true g), refl)

pub loop-c-preserved : goal.loop-c-preserved
loop-c-preserved c = record {
  utf8 = c.in-Some.ensures.text;
  left =
      read_more _ _ _ _ _ _ _ c.loop-c.invariant.left (read_plain _ _ _ _ c.in-Some.ensures.characters (plain_is _ _ c.if-c-quote.false c.if-c-eq92.false (sym c.is_line_end.ensures ∙ c.if-is_line_end.false))) c.in_ok-push_char.ensures;
}

pub returns : goal.returns
returns c = (fails fault.Syntax, c.loop-c.invariant.left (fails fault.Syntax) (unclosed_at _ _ c.in_default.ensures.characters), refl)
