use Rattle.cc_written.proofs.Whole.{reads_back}
use Rattle.cc_written.proofs.written_reads_back.Goals as goal

pub returns : goal.returns
returns c = reads_back
