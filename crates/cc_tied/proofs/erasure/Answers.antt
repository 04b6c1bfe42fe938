use Rattle.cc_tied.proofs.erasure.Goals as goal
use Rattle.cc_tied.proofs.Equality.Erase.{erasure}

pub returns : goal.returns
returns c = erasure
