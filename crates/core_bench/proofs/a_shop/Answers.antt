use Rattle.cc_clear.specs.Clear.{clears_nothing}
use Rattle.core_bench.proofs.a_shop.Goals as goal

pub begin-requires-clause-fits : goal.begin-requires-clause-fits
begin-requires-clause-fits c κs = clears_nothing _ c.in_ok-a_program.ensures.no_docs
