use Rattle.cc_printer.proofs.text_reads_back.Goals as goal
use Rattle.cc_printer.proofs.Back.{reads_back as lemma}

pub returns : goal.returns
returns c = lemma
