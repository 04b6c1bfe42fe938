use Rattle.cc_printer.proofs.programs_read_back.Goals as goal
use Rattle.cc_printer.proofs.WrittenPrograms.{read_back as lemma}

pub returns : goal.returns
returns c = lemma
