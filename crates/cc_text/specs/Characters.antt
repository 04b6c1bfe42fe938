-- Classes of characters.
use Rattle.std.specs.Prelude.{ℕ, List, [], ◌∷◌, Bool, false, ◌||◌, ◌&&◌, ◌==◌, nat_lt}

-- a decimal digit (ECMA-262 5.1, 7.8.3)
abbrev pub is_digit : ℕ → Bool
is_digit c = nat_lt 47 c && nat_lt c 58

-- LF, CR, U+2028 and U+2029 (ECMA-262 5.1, 7.3)
abbrev pub is_line_end : ℕ → Bool
is_line_end c = c == 10 || c == 13 || c == 0x2028 || c == 0x2029

-- the first character is one of these
abbrev pub first_is : (ℕ → Bool) → List ℕ → Bool
first_is p [] = false
first_is p (c ∷ cs) = p c
