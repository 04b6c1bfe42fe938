use Rattle.cc_tied.proofs.depth_is_enough.Goals as goal
use Rattle.cc_tied.proofs.Equality.Erase.{depth_of_checked, depth_of_plain}

pub returns : goal.returns
returns c = record { of_checked = depth_of_checked; of_plain = depth_of_plain }
