-- What holds of the names of a program's globals.
use Rattle.std.specs.Prelude.{◌≡◌, ℕ, ◌<◌, ◌⊎◌, true, false, List, Some, None, slice_get}
use Rattle.cc_ast.specs.declared.tables.GlobalInfo.{GlobalInfo}
use Rattle.cc_ast.specs.Syntax as S
use Rattle.cc_driver.specs.Names.{IsName}
use Rattle.cc_driver.specs.Naming.{NameNumber, Outranks, is_passed}
use Rattle.cc_driver.specs.declared.spelling.Piece.{Piece}

-- a global that a chunk declares gets this name
pub record IsGiven (program : S.Program) (names : List (List ℕ)) (g : ℕ) (name : List ℕ) : Type 0 where
  pub info : GlobalInfo
  pub chunk : ℕ
  pub stands : slice_get program.globals g ≡ Some info
  pub own : info.chunk ≡ Some chunk
  pub named : slice_get names g ≡ Some name

-- a global of no chunk keeps this name
pub record IsKept (program : S.Program) (names : List (List ℕ)) (g : ℕ) (name : List ℕ) : Type 0 where
  pub info : GlobalInfo
  pub stands : slice_get program.globals g ≡ Some info
  pub outer : info.chunk ≡ None
  pub named : slice_get names g ≡ Some name

-- Different globals of the chunks get different names, and none that a global of no chunk keeps or
-- that is passed over; each is a name of the form. What is printed more often comes first, and of as
-- much the lesser number; and no name is left out but those that are passed over.
pub record NamingLaw (program : S.Program) (pieces : List Piece) (names : List (List ℕ)) : Type 0 where
  pub apart : (g h : ℕ) (x : List ℕ) → IsGiven program names g x → IsGiven program names h x → g ≡ h
  pub new : (g h : ℕ) (x : List ℕ) → IsGiven program names g x → IsKept program names h x → ⊥
  pub valid : (g : ℕ) (x : List ℕ) → IsGiven program names g x → IsName x
  pub not_passed : (g : ℕ) (x : List ℕ) → IsGiven program names g x → is_passed program x ≡ false
  pub outer_kept : (g : ℕ) (x : List ℕ) (k : IsKept program names g x) → x ≡ k.info.name
  pub in_order : (g h : ℕ) (x y : List ℕ) (m n : ℕ) → IsGiven program names g x → IsGiven program names h y → Outranks pieces g h → NameNumber m x → NameNumber n y → m < n
  pub none_left_out : (g : ℕ) (x y : List ℕ) (m n : ℕ) → IsGiven program names g x → NameNumber m x → NameNumber n y → n < m → (is_passed program y ≡ true) ⊎ ((h : ℕ) × IsGiven program names h y)
