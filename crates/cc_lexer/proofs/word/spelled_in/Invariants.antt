use Rattle.std.proofs.Common.{◌≡◌, drop}
use Rattle.cc_lexer.specs.Words.{spelled_in}
use Rattle.cc_lexer.proofs.word.spelled_in.Given as goal

abbrev pub invariant-loop-word : goal.invariant-loop-word
invariant-loop-word l = spelled_in (drop l.word-index l.words) l.text ≡ spelled_in l.words l.text
