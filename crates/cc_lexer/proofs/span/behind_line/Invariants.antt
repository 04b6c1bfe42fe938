use Rattle.std.proofs.Common.{◌≡◌, length, not}
use denote.Text.{Utf8}
use denote.Shadow.{shadow}
use Rattle.std.specs.Str.{chars}
use Rattle.cc_text.specs.Characters.{is_line_end}
use Rattle.cc_lexer.specs.Characters.{behind}
use Rattle.cc_lexer.proofs.span.behind_line.Given as goal

abbrev pub invariant-loop-c : goal.invariant-loop-c
invariant-loop-c l = record {
  utf8 : shadow (Utf8 l.rest);
  left : behind (λ c. not (is_line_end c)) (chars l.rest) ≡ behind (λ c. not (is_line_end c)) (chars l.text);
}

abbrev pub decreases-loop-c : goal.decreases-loop-c
decreases-loop-c l = length l.rest
