use Rattle.cc_printer.proofs.names_are_names.Goals as goal
use Rattle.cc_printer.proofs.ReadNames.{names_are_names as lemma}

pub returns : goal.returns
returns c = lemma
