use Rattle.cc_fold.proofs.laws.folding_keeps_well_made.Goals as goal
use Rattle.cc_fold.proofs.WellMade.KeepsWellMade.{folding_keeps_well_made}

pub returns : goal.returns
returns c = folding_keeps_well_made
