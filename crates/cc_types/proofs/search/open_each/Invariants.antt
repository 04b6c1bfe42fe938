use Rattle.std.proofs.Common.{◌≡◌, ◌≤◌, take}
use Rattle.cc_types.specs.Marks.{opened_all, NoneOpenBelow}
use Rattle.cc_types.proofs.search.open_each.Given as goal

abbrev pub invariant-loop-parent : goal.invariant-loop-parent
invariant-loop-parent l = (l.marks ≡ opened_all l.fn.marks (take l.parent-index l.parents)) × (NoneOpenBelow l.fn.low l.fn.marks → NoneOpenBelow l.low l.marks) × (l.low ≤ l.fn.low)
