use Rattle.cc_printer.proofs.text_is_utf8.Goals as goal
use Rattle.cc_printer.proofs.Bytes.{is_utf8 as lemma}

pub returns : goal.returns
returns c = lemma
