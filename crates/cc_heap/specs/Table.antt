-- The table of slots by name.
use Rattle.std.specs.Prelude.{◌≡◌, ℕ, List, [], ◌∷◌, Vec}
use Rattle.cc_meaning.specs.State.{Slot}

-- each slot stands under its name
abbrev pub AreNamed : {A : Type 0} → List (Vec ℕ A × Slot) → Type 0
AreNamed [] = Unit {0}
AreNamed (e ∷ es) = (e.0.items ≡ e.1.name) × AreNamed es
