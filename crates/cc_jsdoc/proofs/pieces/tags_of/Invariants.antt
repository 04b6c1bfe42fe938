use Rattle.std.proofs.Common.{IfSome}
use Rattle.std.specs.Str.{chars, IsUtf8}
use Rattle.cc_jsdoc.specs.Tags.{own_texts}
use Rattle.cc_jsdoc.proofs.PieceLemmas.{left, left_len, Given}
use Rattle.cc_jsdoc.proofs.pieces.tags_of.Given as goal

abbrev pub invariant-loop-rest : goal.invariant-loop-rest
invariant-loop-rest l = record {
  utf8 : IfSome l.rest (λ r. IsUtf8 r.now);
  given : Given (own_texts (chars l.text)) l.given.items (left l.rest);
}

abbrev pub decreases-loop-rest : goal.decreases-loop-rest
decreases-loop-rest l = left_len l.rest
