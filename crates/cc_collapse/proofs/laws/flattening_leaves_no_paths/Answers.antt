use Rattle.cc_collapse.proofs.laws.flattening_leaves_no_paths.Goals as goal
use Rattle.cc_collapse.proofs.NoPaths.{leaves_no_paths}

pub returns : goal.returns
returns c = leaves_no_paths
