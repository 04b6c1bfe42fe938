use Rattle.std.proofs.Common.{sym, ap, ◌∙◌, length, subst}
use Rattle.cc_lexer.specs.Words.{word_of}
use Rattle.cc_lexer.proofs.WordLemmas.{no_bytes}
use Rattle.cc_lexer.proofs.word.word_of.Goals as goal

pub returns-in-None : goal.returns-in-None
returns-in-None c = sym (ap word_of (sym c.as_bytes.ensures.value) ∙ no_bytes _ c.in-None.ensures.item.3)
