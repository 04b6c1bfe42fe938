use Rattle.std.proofs.Common.{length}
use denote.Text.{Utf8}
use denote.Shadow.{shadow}
use Rattle.std.specs.Str.{chars}
use Rattle.cc_lexer.specs.Strings.{StringEnd, InString, before}
use Rattle.cc_lexer.proofs.string.string.Given as goal

abbrev pub invariant-loop-c : goal.invariant-loop-c
invariant-loop-c l = record {
  utf8 : shadow (Utf8 l.rest);
  left : (e : StringEnd) → InString l.quote (chars l.rest) e → InString l.quote (chars l.text) (before l.list.items e);
}

abbrev pub decreases-loop-c : goal.decreases-loop-c
decreases-loop-c l = length (chars l.rest)
