use Rattle.std.proofs.Common.{◌≡◌, IfOk, ◌∙◌, ap, subst}
use Rattle.std.specs.Char.Utf16.{utf16_lossy_chars}
use Rattle.std.specs.Str.{chars}
use Rattle.std.specs.String.{string_bytes}
use Rattle.std.proofs.lemmas.Str.{IsUtf8-string_bytes}
use Rattle.cc_jsdoc.specs.Texts.{inside, lines, joined}
use Rattle.cc_jsdoc.proofs.TextLemmas.{chars-of}
use Rattle.cc_jsdoc.proofs.comment.text_of.Goals as goal

pub returns : goal.returns
returns c =
    let units : c.inside.result.now ≡ inside c.args.comment.now = c.inside.ensures ∙ ap inside (c.as_slice.ensures.value ∙ c.comment.view_is) in
    let all : chars c.as_str.result.now ≡ utf16_lossy_chars (inside c.args.comment.now) =
    ap chars c.as_str.ensures.value ∙ chars-of (string_bytes c.in_ok-all.all) _ (IsUtf8-string_bytes c.in_ok-all.all) c.in_ok-all.ensures ∙ ap utf16_lossy_chars units in
    subst (λ x. IfOk c.joined.result (λ said. chars (string_bytes said) ≡ joined (lines x))) all c.joined.ensures
