-- The symbols of types, and marks that come in pairs.
use Rattle.std.specs.Prelude.{◌≡◌, ◌≢◌, ℕ, List, [], ◌∷◌, ◌++◌, if◌then◌else◌, Option, Some, None}
use Rattle.cc_lexer.specs.Characters.{is_start, is_part, run, behind}
use Rattle.cc_jsdoc.specs.Classes.{is_blank}

-- a word is as long as name characters follow; a mark is any other character
pub data Symbol : Type 0 where
  word : List ℕ → Symbol
  mark : ℕ → Symbol

-- the symbol that a text begins with, and what is behind it
abbrev pub first_symbol : List ℕ → Option (Symbol × List ℕ)
first_symbol [] = None
first_symbol (c ∷ cs) = if is_start c then Some (word (run is_part (c ∷ cs)), behind is_part (c ∷ cs)) else Some (mark c, cs)

-- the next symbol, which may stand behind white space
unfoldable pub symbol : List ℕ → Option (Symbol × List ℕ)
symbol text = first_symbol (behind is_blank text)

-- the next symbol is this word or mark, and the rest is behind it
abbrev pub Word : List ℕ → List ℕ → List ℕ → Type 0
Word w text rest = symbol text ≡ Some (word w, rest)

abbrev pub Mark : ℕ → List ℕ → List ℕ → Type 0
Mark c text rest = symbol text ≡ Some (mark c, rest)

-- nothing but white space is left
abbrev pub IsEnd : List ℕ → Type 0
IsEnd text = symbol text ≡ None

-- ---- pairs of marks

-- each opening mark has the closing mark that belongs to it
pub data Balanced (left right : ℕ) : List ℕ → Type 0 where
  empty : Balanced left right []
  other : {c : ℕ} {cs : List ℕ} → c ≢ left → c ≢ right → Balanced left right cs → Balanced left right (c ∷ cs)
  pair : {cs ds : List ℕ} → Balanced left right cs → Balanced left right ds → Balanced left right (left ∷ (cs ++ right ∷ ds))

-- behind an opening mark, the text up to the mark that closes it, and what is behind that
pub record Closes (left right : ℕ) (text inside rest : List ℕ) : Type 0 where
  pub balanced : Balanced left right inside
  pub parts : text ≡ inside ++ right ∷ rest
