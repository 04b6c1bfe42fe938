use Rattle.std.proofs.Common.{arith}
use Rattle.cc_types.proofs.search.is_above.Goals as goal

pub whole_as_front-table : goal.whole_as_front-table
whole_as_front-table g c = (c.requires.size, omega arith)
