-- Numbers that words write.
use Rattle.std.specs.Prelude.{ℕ, ◌-◌, ◌^◌, ℤ, pos, neg_ℤ, List, [], ◌∷◌, Bool, not, ◌&&◌, ◌==◌, nat_le, nat_lt, if◌then◌else◌, Option, Some, None, option_map, length, slice_index}
use Rattle.std.specs.Str.{all_ascii_digits}
use Rattle.std.specs.Str.Parse.{digits_value}

abbrev pub has_leading_zero : List ℕ → Bool
has_leading_zero digits = nat_lt 1 (length digits) && slice_index digits 0 == 48

-- digits, without a sign and without a leading zero
abbrev pub is_decimal : List ℕ → Bool
is_decimal text = not (length text == 0) && not (has_leading_zero text) && all_ascii_digits text

-- the number of a decimal
unfoldable pub decimal : List ℕ → Option ℕ
decimal text = if is_decimal text then Some (digits_value 10 text) else None

-- the number, where it lies between these two
abbrev pub within : ℕ → ℕ → Option ℕ → Option ℕ
within least most None = None
within least most (Some n) = if nat_le least n && nat_le n most then Some n else None

-- a whole number of the language: a decimal, behind a `-` where it is below 0
unfoldable pub whole : List ℕ → Option ℤ
whole [] = None
whole (c ∷ cs) = if c == 45 then option_map (λ n. neg_ℤ (pos n)) (within 1 (2 ^ 53 - 1) (decimal cs))
    else option_map pos (within 0 (2 ^ 53 - 1) (decimal (c ∷ cs)))
