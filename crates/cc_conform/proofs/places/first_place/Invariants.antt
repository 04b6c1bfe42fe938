use Rattle.std.proofs.Common.{◌≡◌, drop}
use Rattle.cc_meaning.specs.Builtins.{first_place}
use Rattle.cc_conform.proofs.places.first_place.Given as goal

abbrev pub invariant-loop-at : goal.invariant-loop-at
invariant-loop-at l = first_place l.at l.part (drop l.at l.text) ≡ first_place 0 l.part l.text
