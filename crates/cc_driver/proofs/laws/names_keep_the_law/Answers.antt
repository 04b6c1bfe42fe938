use Rattle.cc_driver.proofs.laws.names_keep_the_law.Goals as goal
use Rattle.cc_driver.proofs.Promise.Faithful.{source_names}

pub returns : goal.returns
returns c = source_names
