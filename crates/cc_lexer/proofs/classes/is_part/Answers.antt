use Rattle.std.proofs.Common.{◌∙◌, rules}
use Rattle.cc_lexer.proofs.QuickLemmas.{part_ascii}
use Rattle.cc_lexer.proofs.classes.is_part.Goals as goal

pub returns-then-is_ascii : goal.returns-then-is_ascii
returns-then-is_ascii c = c.is_letter_or_digit.ensures ∙ part_ascii c.args.c (search rules)
