-- Names in their order: by length, and then by their characters.
use Rattle.std.specs.Prelude.{ℕ, zero, suc, ◌-◌, ◌/◌, ◌%◌, List, [], ◌∷◌, ◌++◌, nat_lt, if◌then◌else◌, slice_index, codes}

-- the characters of names in their order, of which the first 54 may begin one
abbrev pub characters : List ℕ
characters = codes "abcdefghijklmnopqrstuvwxyzABCDEFGHIJKLMNOPQRSTUVWXYZ$_0123456789"

-- The name with a number, of so many characters at most: first the 54 names of one character, and behind them each name so far with each
-- of the 64 characters after it.
unfoldable pub name_within : ℕ → ℕ → List ℕ
name_within zero k = []
name_within (suc n) k = if nat_lt k 54 then slice_index characters k ∷ []
    else name_within n ((k - 54) / 64) ++ slice_index characters ((k - 54) % 64) ∷ []

-- the name with a number, which has no more characters than one more than that
abbrev pub nth_name : ℕ → List ℕ
nth_name k = name_within (suc k) k

-- numbers, from one on
unfoldable pub numbers : ℕ → ℕ → List ℕ
numbers k zero = []
numbers k (suc n) = k ∷ numbers (suc k) n
