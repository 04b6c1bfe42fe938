use Rattle.cc_printer.proofs.none_left_out.Goals as goal
use Rattle.cc_printer.proofs.Nesting.{none_left_out as lemma}

pub returns : goal.returns
returns c = lemma
