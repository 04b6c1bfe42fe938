use Rattle.cc_printer.proofs.text_has_tokens.Goals as goal
use Rattle.cc_printer.proofs.Back.{text_has as lemma}

pub returns : goal.returns
returns c = lemma
