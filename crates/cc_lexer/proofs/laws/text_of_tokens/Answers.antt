use Rattle.cc_lexer.proofs.CoverLemmas.{lexes_covered}
use Rattle.cc_lexer.proofs.laws.text_of_tokens.Goals as goal

pub returns : goal.returns
returns c = λ text file ts s x. lexes_covered x
