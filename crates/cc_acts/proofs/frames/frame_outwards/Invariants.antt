use Rattle.std.proofs.Common.{◌≡◌, ◌-◌}
use Rattle.cc_meaning.specs.Store.{frame_up}
use Rattle.cc_acts.proofs.frames.frame_outwards.Given as goal

abbrev pub invariant-loop : goal.invariant-loop
invariant-loop l = frame_up (l.up - l.counter) l.heap.frames l.at ≡ frame_up l.up l.heap.frames l.fn.at
