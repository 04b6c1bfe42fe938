use Rattle.std.proofs.Common.{◌≡◌, ◌+◌, ◌≤◌, length}
use denote.Text.{Utf8}
use denote.Shadow.{shadow}
use Rattle.std.specs.Str.{chars}
use Rattle.cc_text.specs.Ends.{Ends}
use Rattle.cc_jsdoc.proofs.ClosingLemmas.{behind_close}
use Rattle.cc_jsdoc.proofs.symbol.close.Given as goal

abbrev pub invariant-loop-c : goal.invariant-loop-c
invariant-loop-c l = record {
  utf8 : shadow (Utf8 l.rest);
  ends : Ends (chars l.text) (chars l.rest);
  room : l.depth + length l.rest ≤ length l.text;
  same : behind_close l.left l.right (chars l.rest) l.depth ≡ behind_close l.left l.right (chars l.text) 0;
}

abbrev pub decreases-loop-c : goal.decreases-loop-c
decreases-loop-c l = length l.rest
