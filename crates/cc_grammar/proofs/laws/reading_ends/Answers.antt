use Rattle.cc_grammar.proofs.laws.reading_ends.Goals as goal
use Rattle.cc_grammar.proofs.WholeTexts.{whole}

pub returns : goal.returns
returns c = whole
