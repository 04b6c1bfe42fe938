use Rattle.std.proofs.Common.{◌≡◌, sym, ap, ◌∙◌}
use Rattle.std.specs.Str.{chars}
use Rattle.cc_text.specs.Utf16.{utf16}
use Rattle.cc_lexer.specs.Comments.{comment, has_line_end}
use Rattle.cc_lexer.proofs.Runs.{same_front}
use Rattle.cc_lexer.proofs.CommentLemmas.{comment_is, block_annotation, block_blank}
use Rattle.cc_lexer.proofs.comment.block.Goals as goal

pub front-whole-requires : goal.front-whole-requires
front-whole-requires c = (comment (chars c.args.inside.now), c.requires ∙ comment_is _ _ c.in-Some.ensures.value)

pub returns-then-is_annotation : goal.returns-then-is_annotation
returns-then-is_annotation c =
    let w : chars c.front-whole.result.now ≡ comment (chars c.args.inside.now) = same_front _ _ _ (sym c.front-whole.ensures ∙ c.requires ∙ comment_is _ _ c.in-Some.ensures.value) in
    (block_annotation (chars c.args.inside.now) (chars c.in-Some.rest.now) _ _ c.in-Some.ensures.value (sym c.is_annotation.ensures ∙ c.if-is_annotation.true) (c.new.ensures ∙ ap utf16 w) (c.has_line_end-line.ensures ∙ ap has_line_end w), c.in-Some.ensures.text)

pub returns-else-is_annotation : goal.returns-else-is_annotation
returns-else-is_annotation c =
    let w : chars c.front-whole.result.now ≡ comment (chars c.args.inside.now) = same_front _ _ _ (sym c.front-whole.ensures ∙ c.requires ∙ comment_is _ _ c.in-Some.ensures.value) in
    (block_blank (chars c.args.inside.now) (chars c.in-Some.rest.now) _ c.in-Some.ensures.value (sym c.is_annotation.ensures ∙ c.if-is_annotation.false) (c.has_line_end-line.ensures ∙ ap has_line_end w), c.in-Some.ensures.text)
