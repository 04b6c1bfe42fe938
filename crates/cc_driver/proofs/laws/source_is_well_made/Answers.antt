use Rattle.cc_driver.proofs.laws.source_is_well_made.Goals as goal
use Rattle.cc_driver.proofs.Promise.SourceWellMade.{source_well}

pub returns : goal.returns
returns c = source_well
