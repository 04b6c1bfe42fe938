use Rattle.cc_printer.proofs.programs_are_written.Goals as goal
use Rattle.cc_printer.proofs.WrittenPrograms.{are_written as lemma}

pub returns : goal.returns
returns c = lemma
