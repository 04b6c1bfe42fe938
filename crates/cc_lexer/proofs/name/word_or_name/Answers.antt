use Rattle.std.proofs.Common.{sym, ◌∙◌, ap, Some, None}
use Rattle.cc_lexer.specs.declared.token.TokenKind.TheVariants as kind
use Rattle.cc_lexer.proofs.NameLemmas.{found}
use Rattle.cc_lexer.proofs.name.word_or_name.Goals as goal

pub returns-in-Some : goal.returns-in-Some
returns-in-Some c = sym (found c.args.text.now (Some c.in-Some.word) c.utf8.text (sym c.word_of.ensures ∙ c.in-Some.is))

pub returns-in-None : goal.returns-in-None
returns-in-None c = ap kind.Name c.new.ensures ∙ sym (found c.args.text.now None c.utf8.text (sym c.word_of.ensures ∙ c.in-None.is))
