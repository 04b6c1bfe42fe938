use Rattle.std.proofs.Common.{◌≡◌, ◌≤◌, length, take}
use Rattle.cc_core.specs.State.{places}
use Rattle.cc_core.specs.SlotState.{is_pending_inside}
use Rattle.cc_core.proofs.slots.pending_of.Given as goal

abbrev pub invariant-loop-i : goal.invariant-loop-i
invariant-loop-i l = (l.i ≤ length l.fn.slots) × (l.found.items ≡ places is_pending_inside 0 (take l.i l.fn.slots))
