-- Escapes of strings (ECMA-262 5.1, 7.8.4).
use Rattle.std.specs.Prelude.{◌≡◌, ℕ, Option, Some, None, option_and_then, ◌+◌, ◌*◌, ◌≤◌, List, [], ◌∷◌, not, ◌&&◌, ◌==◌, nat_lt, length, drop, if◌then◌else◌}
use Rattle.std.specs.Option.{option_map}
use Rattle.std.specs.Char.{digit_value}
use Rattle.std.specs.Char.Escape.{encode_utf16}
use Rattle.std.specs.Str.{chars, IsCharBoundary, IsUtf8}
use Rattle.cc_text.specs.Characters.{is_digit, is_line_end, first_is}
use Rattle.cc_text.specs.declared.escapes.Escape as answer
use Rattle.cc_text.specs.declared.escapes.Behind as behind

-- What stands behind a backslash: it gives units, and the text goes on with the rest; or it is an
-- octal escape; or it is none.
pub data Escaped : Type 0 where
  gives : (units rest : List ℕ) → Escaped
  octal bad : Escaped

-- the value of a hexadecimal digit at the front, with what follows it
abbrev pub hex_digit : List ℕ → Option (ℕ × List ℕ)
hex_digit [] = None
hex_digit (c ∷ cs) = if nat_lt (digit_value c) 16 then Some (digit_value c, cs) else None

-- the value of two of them, and of four
abbrev pub hex_pair : List ℕ → Option (ℕ × List ℕ)
hex_pair cs = option_and_then (λ a. option_map (λ b. (a.0 * 16 + b.0, b.1)) (hex_digit a.1)) (hex_digit cs)

abbrev pub hex_quad : List ℕ → Option (ℕ × List ℕ)
hex_quad cs = option_and_then (λ a. option_map (λ b. (a.0 * 256 + b.0, b.1)) (hex_pair a.1)) (hex_pair cs)

abbrev pub unit_of : Option (ℕ × List ℕ) → Escaped
unit_of None = bad
unit_of (Some a) = gives (a.0 ∷ []) a.1

-- the characters behind a line end that begins with c; CR LF is one
abbrev pub behind_line_end : ℕ → List ℕ → List ℕ
behind_line_end c [] = []
behind_line_end c (d ∷ cs) = if c == 13 && d == 10 then cs else d ∷ cs

-- the unit of \b, \t, \n, \v, \f and \r, and any other character for itself
abbrev pub itself : ℕ → List ℕ
itself c = if c == 98 then 8 ∷ [] else (if c == 116 then 9 ∷ [] else (if c == 110 then 10 ∷ []
    else (if c == 118 then 11 ∷ [] else (if c == 102 then 12 ∷ [] else (if c == 114 then 13 ∷ []
    else encode_utf16 c)))))

-- a digit is an octal escape, but a 0 that no digit follows
abbrev pub digit : ℕ → List ℕ → Escaped
digit c cs = if c == 48 && not (first_is is_digit cs) then gives (0 ∷ []) cs else octal

-- a line end gives nothing
abbrev pub escaped : List ℕ → Escaped
escaped [] = bad
escaped (c ∷ cs) = if is_digit c then digit c cs
    else (if c == 120 then unit_of (hex_pair cs)
    else (if c == 117 then unit_of (hex_quad cs)
    else (if is_line_end c then gives [] (behind_line_end c cs)
    else gives (itself c) cs)))

-- the escape gives these units, and the text goes on at byte n
pub record GoesOn (text : List ℕ) (e : Escaped) (units : List ℕ) (n : ℕ) : Type 0 where
  pub found : e ≡ gives units (chars (drop n text))
  pub within : n ≤ length text
  pub boundary : IsCharBoundary text n

abbrev pub Answers : List ℕ → Escaped → answer.Escape → Type 0
Answers text e (answer.TheVariants.Unit u n) = GoesOn text e (u ∷ []) n
Answers text e (answer.TheVariants.Pair u v n) = GoesOn text e (u ∷ v ∷ []) n
Answers text e (answer.TheVariants.Nothing n) = GoesOn text e [] n
Answers text e answer.TheVariants.Octal = e ≡ octal
Answers text e answer.TheVariants.Bad = e ≡ bad

-- the escape gives these units, and the text goes on with these bytes
pub record GivesText (e : Escaped) (units rest : List ℕ) : Type 0 where
  pub found : e ≡ gives units (chars rest)
  pub text : IsUtf8 rest

abbrev pub IsBehind : Escaped → behind.Behind → Type 0
IsBehind e (behind.TheVariants.Unit u rest) = GivesText e (u ∷ []) rest.now
IsBehind e (behind.TheVariants.Pair u v rest) = GivesText e (u ∷ v ∷ []) rest.now
IsBehind e (behind.TheVariants.Nothing rest) = GivesText e [] rest.now
IsBehind e behind.TheVariants.Octal = e ≡ octal
IsBehind e behind.TheVariants.Bad = e ≡ bad
