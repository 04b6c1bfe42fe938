use Rattle.std.proofs.Common.{◌≡◌, replicate, None}
use Rattle.cc_heap.proofs.frame.Frame.with_places.Given as goal

abbrev pub invariant-loop : goal.invariant-loop
invariant-loop l = l.places ≡ replicate l.counter None
