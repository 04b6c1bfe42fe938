use Rattle.std.proofs.Common.{◌∙◌, sym, ap, ◌++◌, ◌∷◌, []}
use Rattle.std.specs.Str.{chars}
use Rattle.std.specs.String.{string_bytes}
use Rattle.std.proofs.lemmas.Str.{IsUtf8-string_bytes}
use Rattle.cc_jsdoc.specs.Texts.{lines, joined}
use Rattle.cc_jsdoc.proofs.TextLemmas.{left, split_is, said-more, chars-line}
use Rattle.cc_jsdoc.proofs.comment.joined.Goals as goal

pub loop-rest-preserved : goal.loop-rest-preserved
loop-rest-preserved c =
    let is = split_is (chars c.in-Some.later.now) (chars c.split_line-in-Some.result.0.now) c.split_line-in-Some.result.1 c.split_line-in-Some.ensures.lines in
    record {
      utf8 = c.split_line-in-Some.ensures.rest_text;
      said = said-more (lines (chars c.in-Some.later.now)) (chars c.split_line-in-Some.result.0.now) (chars (string_bytes c.loop-rest.said)) _ (joined (lines (chars c.args.text.now))) _ is.later is.lines_are
          (ap (λ o. chars (string_bytes c.loop-rest.said) ++ left o) (sym c.in-Some.is) ∙ c.loop-rest.invariant.said)
          (chars-line (string_bytes c.loop-rest.said) (string_bytes c.push.new.self) (string_bytes c.push_str-in-Some.new.self) _ (IsUtf8-string_bytes c.loop-rest.said) (IsUtf8-string_bytes c.push.new.self) c.in_ok-push.ensures.bytes c.in_ok-push_str-2.ensures.bytes
          ∙ ap (λ x. (chars (string_bytes c.loop-rest.said) ++ 10 ∷ []) ++ x) c.without_head.ensures)
          is.left_is;
    }
