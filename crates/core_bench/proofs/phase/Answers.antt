use Rattle.core_bench.proofs.Fresh.{none_out}
use Rattle.core_bench.proofs.phase.Goals as goal

pub work_alone-requires-after_bounds : goal.work_alone-requires-after_bounds
work_alone-requires-after_bounds c κs = rw c.requires.1 (none_out c.requires.0.scopes)
