-- How many claims are out.
use Rattle.std.specs.Prelude.{ℕ, ◌≤◌, List, [], ◌∷◌}
use Rattle.cc_core.specs.State.{Slot}

-- on no slot more than n claims are out
abbrev pub AtMostOut : ℕ → List Slot → Type 0
AtMostOut n [] = Unit {0}
AtMostOut n (s ∷ ss) = (s.out ≤ n) × AtMostOut n ss
