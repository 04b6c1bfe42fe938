use Rattle.std.proofs.Common.{length}
use denote.Text.{Utf8}
use denote.Shadow.{shadow}
use Rattle.std.specs.Str.{chars}
use Rattle.cc_lexer.specs.Lexes.{HasRoom}
use Rattle.cc_lexer.proofs.LexLemmas.{Found}
use Rattle.cc_lexer.proofs.lexing.tokens_of.Given as goal

abbrev pub invariant-loop-c : goal.invariant-loop-c
invariant-loop-c l = record {
  utf8 : shadow (Utf8 l.rest);
  room : HasRoom l.place (length l.rest);
  found : Found l.file (chars l.text) l.list.items l.after_line l.place (chars l.rest);
}

abbrev pub decreases-loop-c : goal.decreases-loop-c
decreases-loop-c l = length (chars l.rest)
