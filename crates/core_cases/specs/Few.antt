-- That so many claims are out is known in one way alone.
use Rattle.std.specs.Prelude.{ℕ, List, [], ◌∷◌}
use Rattle.std.specs.Coded.{×_prop, Unit-prop, le_prop}
use Rattle.cc_core.specs.State.{Slot}
use Rattle.cc_core.specs.Outs.{AtMostOut}

pub AtMostOut-prop : (n : ℕ) (ss : List Slot) → IsProp (AtMostOut n ss)
AtMostOut-prop n [] = Unit-prop
AtMostOut-prop n (s ∷ ss) = ×_prop le_prop (AtMostOut-prop n ss)
