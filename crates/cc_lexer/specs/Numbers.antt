-- Numbers that the language leaves out (ECMA-262 5.1, 7.8.3).
use Rattle.std.specs.Prelude.{ℕ, List, [], ◌∷◌, Bool, false, ◌||◌, ◌&&◌, ◌==◌, is_none}
use Rattle.cc_text.specs.Characters.{is_digit, first_is}
use Rattle.cc_text.specs.Whole.{is_digit_in, numeral}
use Rattle.cc_lexer.specs.Characters.{run, behind}

-- e or E, a sign or none, and a digit
abbrev pub is_signed : List ℕ → Bool
is_signed [] = false
is_signed (c ∷ cs) = (c == 43 || c == 45) && first_is is_digit cs

abbrev pub is_exponent : List ℕ → Bool
is_exponent [] = false
is_exponent (c ∷ cs) = (c == 101 || c == 69) && (first_is is_digit cs || is_signed cs)

-- these digits of a base write a number above 2^53-1
abbrev pub is_large : ℕ → List ℕ → Bool
is_large base cs = is_none (numeral base 0 (run (is_digit_in base) cs))

abbrev pub is_large_hexadecimal : List ℕ → Bool
is_large_hexadecimal [] = false
is_large_hexadecimal (c ∷ cs) = (c == 120 || c == 88) && is_large 16 cs

-- what is behind the decimal digits at the front
abbrev pub behind_digits : List ℕ → List ℕ
behind_digits cs = behind (is_digit_in 10) cs

abbrev pub begins_with_dot : List ℕ → Bool
begins_with_dot cs = first_is (λ c. c == 46) cs

-- A text that begins with a digit c begins with a zero before a digit, with a decimal before a dot
-- or an exponent, or with a value over 2^53-1.
abbrev pub is_number_form : ℕ → List ℕ → Bool
is_number_form c cs = (c == 48 && (first_is is_digit cs || is_large_hexadecimal cs))
    || begins_with_dot (behind_digits cs) || is_exponent (behind_digits cs) || is_large 10 (c ∷ cs)
