use Rattle.std.proofs.Common.{◌≡◌, ◌-◌, false, take}
use Rattle.std.specs.List.{list_any}
use Rattle.cc_types.specs.Types.{reaches}
use Rattle.cc_types.proofs.search.+climbs.Given as goal

abbrev pub decreases-climbs : goal.decreases-climbs
decreases-climbs l = l.steps

abbrev pub invariant-loop-parent : goal.invariant-loop-parent
invariant-loop-parent l = list_any (λ p. reaches (l.fn.steps - 1) l.classes p l.b) (take l.parent-index l.parent-items) ≡ false
