use Rattle.std.proofs.Common.{◌∙◌, rules}
use Rattle.cc_lexer.proofs.QuickLemmas.{letter_start}
use Rattle.cc_lexer.proofs.classes.is_start.Goals as goal

pub returns-then-is_ascii : goal.returns-then-is_ascii
returns-then-is_ascii c = c.is_letter.ensures ∙ letter_start c.args.c (search rules)
