use Rattle.cc_chunks.specs.Built.{Built}
use Rattle.cc_chunks.proofs.gathered.gather_by.Given as goal

abbrev pub invariant-loop-i : goal.invariant-loop-i
invariant-loop-i l = Built l.specs l.files l.i l.all.chunks l.all.counts l.all.taken
