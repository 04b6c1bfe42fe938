use Rattle.std.proofs.Common.{◌≡◌, length}
use denote.Text.{Utf8}
use denote.Shadow.{shadow}
use Rattle.std.specs.Str.{chars}
use Rattle.cc_text.specs.Whole.{is_digit_in}
use Rattle.cc_lexer.specs.Characters.{behind}
use Rattle.cc_lexer.proofs.span.behind_digits.Given as goal

abbrev pub invariant-loop-c : goal.invariant-loop-c
invariant-loop-c l = record {
  utf8 : shadow (Utf8 l.rest);
  left : behind (is_digit_in l.base) (chars l.rest) ≡ behind (is_digit_in l.base) (chars l.text);
}

abbrev pub decreases-loop-c : goal.decreases-loop-c
decreases-loop-c l = length l.rest
