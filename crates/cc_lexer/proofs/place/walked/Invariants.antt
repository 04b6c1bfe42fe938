use Rattle.std.proofs.Common.{length}
use denote.Text.{Utf8}
use denote.Shadow.{shadow}
use Rattle.std.specs.Str.{chars}
use Rattle.cc_text.specs.Ends.{Ends}
use Rattle.cc_lexer.specs.Lexes.{Passed, HasRoom}
use Rattle.cc_lexer.proofs.place.walked.Given as goal

abbrev pub invariant-loop-c : goal.invariant-loop-c
invariant-loop-c l = record {
  utf8 : shadow (Utf8 l.left);
  ends : Ends (chars l.left) (chars l.rest);
  room : HasRoom l.current (length l.left);
  passed : Passed l.fn.place (chars l.text) l.current (chars l.left);
}

abbrev pub decreases-loop-c : goal.decreases-loop-c
decreases-loop-c l = length l.left
