use Rattle.std.proofs.Common.{◌≡◌, false, take}
use Rattle.std.specs.List.{list_any}
use Rattle.cc_types.specs.Types.{subtype}
use Rattle.cc_types.proofs.instance_of.Given as goal

abbrev pub invariant-loop-wanted : goal.invariant-loop-wanted
invariant-loop-wanted l = list_any (λ d. subtype l.classes l.class d) (take l.wanted-index l.wanted-items) ≡ false
