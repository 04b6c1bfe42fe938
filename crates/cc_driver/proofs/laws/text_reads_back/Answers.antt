use Rattle.cc_driver.proofs.laws.text_reads_back.Goals as goal
use Rattle.cc_driver.proofs.Promise.Faithful.{reads_back}

pub returns : goal.returns
returns c = reads_back
