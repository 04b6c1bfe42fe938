use Rattle.cc_core.specs.SlotState.{NoneBefore, is_pending_inside}
use Rattle.cc_core.proofs.slots.first_pending.Given as goal

abbrev pub invariant-loop-i : goal.invariant-loop-i
invariant-loop-i l = NoneBefore is_pending_inside l.i l.fn.slots
