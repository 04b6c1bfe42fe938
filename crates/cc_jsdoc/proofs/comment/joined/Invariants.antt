use Rattle.std.proofs.Common.{◌≡◌, ◌++◌, IfSome}
use Rattle.std.specs.Str.{chars, IsUtf8}
use Rattle.std.specs.String.{string_bytes}
use Rattle.cc_jsdoc.specs.Texts as texts
use Rattle.cc_jsdoc.proofs.TextLemmas.{left, left_len}
use Rattle.cc_jsdoc.proofs.comment.joined.Given as goal

abbrev pub invariant-loop-rest : goal.invariant-loop-rest
invariant-loop-rest l = record {
  utf8 : IfSome l.rest (λ r. IsUtf8 r.now);
  said : chars (string_bytes l.said) ++ left l.rest ≡ texts.joined (texts.lines (chars l.text));
}

abbrev pub decreases-loop-rest : goal.decreases-loop-rest
decreases-loop-rest l = left_len l.rest
