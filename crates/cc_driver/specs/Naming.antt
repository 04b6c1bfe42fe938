-- Which names the globals of a program get: ranked by their printed occurrences, falling, ties by
-- number, they take the names in order, but for those that are passed over.
use Rattle.std.specs.Prelude.{◌≡◌, ℕ, ◌+◌, ◌*◌, ◌<◌, Bool, true, false, nat_eq, List, [], ◌∷◌, ◌++◌, length, Option, None, Some, count_by, ◌⊎◌, slice_get, slice_index, codes}
use Rattle.std.specs.List.Sorted.{IsPermutation}
use Rattle.cc_ast.specs.declared.tables.GlobalInfo.{GlobalInfo}
use Rattle.cc_ast.specs.Syntax as S
use Rattle.cc_driver.specs.Names.{is_in, reserved_words, strict_words, special_names}
use Rattle.cc_driver.specs.declared.spelling.Piece.{Piece}
use Rattle.cc_driver.specs.declared.spelling.Piece.TheVariants as piece

-- the characters of names in their order: a to z, A to Z, `$`, `_`, and the digits after the first place
abbrev pub characters : List ℕ
characters = codes "abcdefghijklmnopqrstuvwxyzABCDEFGHIJKLMNOPQRSTUVWXYZ$_0123456789"

-- names by number: first the 54 characters that may begin a name, and behind them each name so far with each of the 64 characters after it. So names go by length, and then by their characters
pub data NameNumber : ℕ → List ℕ → Type 0 where
  first_names : {k : ℕ} → k < 54 → NameNumber k (slice_index characters k ∷ [])
  longer_names : {j : ℕ} {n : List ℕ} (c : ℕ) → NameNumber j n → c < 64 → NameNumber (54 + 64 * j + c) (n ++ slice_index characters c ∷ [])

-- the names from a number on that aren't passed over, as many as are asked for
pub data Fresh (passed : List ℕ → Bool) : ℕ → List (List ℕ) → Type 0 where
  no_more : {k : ℕ} → Fresh passed k []
  passed_over : {k : ℕ} {n : List ℕ} {ns : List (List ℕ)} → NameNumber k n → passed n ≡ true → Fresh passed (k + 1) ns → Fresh passed k ns
  taken : {k : ℕ} {n : List ℕ} {ns : List (List ℕ)} → NameNumber k n → passed n ≡ false → Fresh passed (k + 1) ns → Fresh passed k (n ∷ ns)

abbrev pub is_global : ℕ → Piece → Bool
is_global g (piece.Bytes text) = false
is_global g (piece.Global h) = nat_eq g h

-- how often a global is printed
abbrev pub occurrences : List Piece → ℕ → ℕ
occurrences pieces g = count_by (is_global g) pieces

-- more occurrences come first, and of as many the lesser number
abbrev pub Outranks : List Piece → ℕ → ℕ → Type 0
Outranks pieces g h = (occurrences pieces h < occurrences pieces g) ⊎ ((occurrences pieces g ≡ occurrences pieces h) × (g < h))

pub data IsRanked (pieces : List Piece) : List ℕ → Type 0 where
  none_ranked : IsRanked pieces []
  last_ranked : {g : ℕ} → IsRanked pieces (g ∷ [])
  more_ranked : {g h : ℕ} {gs : List ℕ} → Outranks pieces g h → IsRanked pieces (h ∷ gs) → IsRanked pieces (g ∷ h ∷ gs)

-- one more at the front for a global that a chunk declares
abbrev pub if_own : {A : Type 0} → Option ℕ → A → List A → List A
if_own None x rest = rest
if_own (Some chunk) x rest = x ∷ rest

-- one more at the front for an extern or a built-in global
abbrev pub if_other : {A : Type 0} → Option ℕ → A → List A → List A
if_other None x rest = x ∷ rest
if_other (Some chunk) x rest = rest

-- the numbers of the globals that the chunks declare, where the first has the number k
abbrev pub own_globals : ℕ → List GlobalInfo → List ℕ
own_globals k [] = []
own_globals k (g ∷ gs) = if_own g.chunk k (own_globals (k + 1) gs)

-- the names of the extern and the built-in globals
abbrev pub other_names : List GlobalInfo → List (List ℕ)
other_names [] = []
other_names (g ∷ gs) = if_other g.chunk g.name (other_names gs)

-- a name that no global of a chunk may get
abbrev pub is_passed : S.Program → List ℕ → Bool
is_passed program name = is_in name (reserved_words ++ strict_words ++ special_names ++ other_names program.globals)

abbrev pub KeepsName : List (List ℕ) → ℕ → GlobalInfo → Type 0
KeepsName names k g = g.chunk ≡ None → slice_get names k ≡ Some g.name

-- the names of the globals of a program that is printed as these pieces
pub record IsNaming (program : S.Program) (pieces : List Piece) (names : List (List ℕ)) : Type 0 where
  pub ranking : List ℕ
  pub fresh : List (List ℕ)
  pub complete : length names ≡ length program.globals
  pub all_ranked : IsPermutation (own_globals 0 program.globals) ranking
  pub ranked : IsRanked pieces ranking
  pub in_order : Fresh (is_passed program) 0 fresh
  pub one_each : length fresh ≡ length ranking
  pub given : (k g : ℕ) → slice_get ranking k ≡ Some g → slice_get names g ≡ slice_get fresh k
  pub others_keep : (k : ℕ) (g : GlobalInfo) → slice_get program.globals k ≡ Some g → KeepsName names k g
