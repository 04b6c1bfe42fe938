use Rattle.cc_printer.proofs.tokens_derive.Goals as goal
use Rattle.cc_printer.proofs.Back.{tokens_derive as lemma}

pub returns : goal.returns
returns c = lemma
