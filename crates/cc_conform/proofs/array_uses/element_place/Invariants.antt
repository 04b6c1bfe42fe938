use Rattle.std.proofs.Common.{◌≡◌, drop, map}
use Rattle.cc_meaning.specs.Builtins.{element_place}
use Rattle.cc_value.specs.Bridge.{value_of}
use Rattle.cc_conform.proofs.array_uses.element_place.Given as goal

abbrev pub invariant-loop-at : goal.invariant-loop-at
invariant-loop-at l = element_place l.at (value_of l.value) (map value_of (drop l.at l.elements)) ≡ element_place 0 (value_of l.value) (map value_of l.elements)
