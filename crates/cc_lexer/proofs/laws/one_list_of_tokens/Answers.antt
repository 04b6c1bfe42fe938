use Rattle.cc_lexer.proofs.OnceLemmas.{lexes_once}
use Rattle.cc_lexer.proofs.laws.one_list_of_tokens.Goals as goal

pub returns : goal.returns
returns c = λ text file ts us s r x y. lexes_once x y
