-- Texts in quotes, one escape at a time.
use Rattle.std.specs.Prelude.{◌≡◌, ℕ, List, ◌++◌, ⊤}
use Rattle.std.specs.Str.{chars, IsUtf8}
use Rattle.cc_text.specs.Escape.{Escaped, escaped, gives, octal, bad}

-- an escape adds its units, and the text goes on with the rest
pub record AddsEscape (cs old new rest : List ℕ) : Type 0 where
  pub units : List ℕ
  pub found : escaped cs ≡ gives units (chars rest)
  pub added : new ≡ old ++ units
  pub text : IsUtf8 rest

-- it is none that gives units
abbrev pub GivesNone : Escaped → Type 0
GivesNone (gives units rest) = ⊥
GivesNone octal = ⊤
GivesNone bad = ⊤
