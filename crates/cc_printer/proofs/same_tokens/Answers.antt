use Rattle.cc_printer.proofs.same_tokens.Goals as goal
use Rattle.cc_printer.proofs.Again.{same_tokens as lemma}

pub returns : goal.returns
returns c = lemma
