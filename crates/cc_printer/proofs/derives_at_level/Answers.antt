use Rattle.cc_printer.proofs.derives_at_level.Goals as goal
use Rattle.cc_printer.proofs.Back.{at_level as lemma}

pub returns : goal.returns
returns c = lemma
