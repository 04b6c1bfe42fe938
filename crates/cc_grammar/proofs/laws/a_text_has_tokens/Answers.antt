use Rattle.cc_grammar.proofs.laws.a_text_has_tokens.Goals as goal
use Rattle.cc_grammar.proofs.TextTokens.{has_text}

pub returns : goal.returns
returns c = has_text
