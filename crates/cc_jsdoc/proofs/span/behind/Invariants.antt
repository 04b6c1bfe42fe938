use Rattle.std.proofs.Common.{◌≡◌, ◌≤◌, length}
use denote.Text.{Utf8}
use denote.Shadow.{shadow}
use Rattle.std.specs.Str.{chars}
use Rattle.cc_lexer.specs.Characters.{behind}
use Rattle.cc_jsdoc.specs.Classes.{is_in}
use Rattle.cc_jsdoc.proofs.span.behind.Given as goal

abbrev pub invariant-loop-c : goal.invariant-loop-c
invariant-loop-c l = record {
  utf8 : shadow (Utf8 l.rest);
  left : behind (is_in l.class) (chars l.rest) ≡ behind (is_in l.class) (chars l.text);
  shorter : length l.rest ≤ length l.text;
}

abbrev pub decreases-loop-c : goal.decreases-loop-c
decreases-loop-c l = length l.rest
