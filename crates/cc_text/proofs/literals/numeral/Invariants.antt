use Rattle.std.proofs.Common.{◌≡◌, ◌<◌, ◌^◌, length}
use denote.Text.{Utf8}
use denote.Shadow.{shadow}
use Rattle.std.specs.Str.{chars}
use Rattle.cc_text.specs.Whole as literal
use Rattle.cc_text.proofs.literals.numeral.Given as goal

abbrev pub invariant-loop-c : goal.invariant-loop-c
invariant-loop-c l = record {
  utf8 : shadow (Utf8 l.rest);
  small : l.value < 2 ^ 53;
  left : literal.numeral l.base l.value (chars l.rest) ≡ literal.numeral l.base 0 (chars l.digits);
}

abbrev pub decreases-loop-c : goal.decreases-loop-c
decreases-loop-c l = length l.rest
