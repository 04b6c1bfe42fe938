-- Texts that end in others.
use Rattle.std.specs.Prelude.{◌≡◌, ℕ, List, ◌++◌}

-- the second list is an end of the first
abbrev pub Ends : List ℕ → List ℕ → Type 0
Ends cs ds = (ws : List ℕ) × (cs ≡ ws ++ ds)
