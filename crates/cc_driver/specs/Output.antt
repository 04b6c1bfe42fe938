-- The text of a program.
use Rattle.std.specs.Prelude.{◌≡◌, ℕ, List, Some}
use Rattle.cc_ast.specs.Syntax.{Program}
use Rattle.cc_driver.specs.declared.spelling.Piece.{Piece}
use Rattle.cc_driver.specs.Spelling.{spell_chunk, text_of}
use Rattle.cc_driver.specs.Naming.{IsNaming}

-- the pieces of the program under the names that its globals get
pub record IsTextOf (program : Program) (output : List ℕ) : Type 0 where
  pub pieces : List Piece
  pub names : List (List ℕ)
  pub spelled : spell_chunk program 0 ≡ Some pieces
  pub named : IsNaming program pieces names
  pub text : output ≡ text_of names pieces
