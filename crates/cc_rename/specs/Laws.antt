-- The laws of the naming.
use Rattle.std.specs.Prelude.{◌≡◌, ℕ, ◌<◌, ◌⊎◌, length, Some, None, IsTrue, IsFalse, slice_get}
use Rattle.cc_ast.specs.declared.tables.GlobalInfo.{GlobalInfo}
use Rattle.cc_ast.specs.Syntax as S
use Rattle.cc_meaning.specs.Operators.{is_in}
use Rattle.cc_meaning.specs.Alike.{In}
use Rattle.cc_meaning.specs.WellMade.{WellMade}
use Rattle.cc_printer.specs.Naming.{IsVariableName, AreNames}
use Rattle.cc_rename.specs.Order.{nth_name}
use Rattle.cc_rename.specs.Uses.{Variable, global, slot, uses, slots_of}
use Rattle.cc_rename.specs.Naming.{passed_over, free_name, variables, comes_before, new_name, naming_of}

-- The names of the extern and the built-in globals are names of variables: they are read from texts.
pub record HasOuterNames (P : S.Program) : Type 0 where
  pub names : (n : ℕ) (g : GlobalInfo) → slice_get P.globals n ≡ Some g → g.chunk ≡ None → IsVariableName g.name

-- The names with which a program is named.
pub record HasNames (P : S.Program) (ns : S.Names) : Type 0 where
  -- externs and built-in globals keep theirs
  pub outer : (n : ℕ) (g : GlobalInfo) → slice_get P.globals n ≡ Some g → g.chunk ≡ None → slice_get ns.globals n ≡ Some g.name
  pub inner : (n c : ℕ) (g : GlobalInfo) → slice_get P.globals n ≡ Some g → g.chunk ≡ Some c → slice_get ns.globals n ≡ Some (new_name P (global n))
  pub slots : (n : ℕ) → n < slots_of (uses P) → slice_get ns.slots n ≡ Some (new_name P (slot n))
  -- and there are no others
  pub globals_end : length ns.globals ≡ length P.globals
  pub slots_end : length ns.slots ≡ slots_of (uses P)

-- The names that variables get: each another one, in the order of the variables and of the names, and no name is left out but those that
-- are passed over.
pub record AreInOrder (P : S.Program) : Type 0 where
  pub apart : (v w : Variable) → In v (variables P) → In w (variables P) → new_name P v ≡ new_name P w → v ≡ w
  pub not_passed : (v : Variable) → IsFalse (is_in (new_name P v) (passed_over P))
  pub in_order : (v w : Variable) (i j : ℕ) → In v (variables P) → IsTrue (comes_before P v w) → new_name P v ≡ nth_name i → new_name P w ≡ nth_name j → i < j
  pub none_left_out : (n i j : ℕ) → free_name (passed_over P) n ≡ nth_name i → j < i
      → IsTrue (is_in (nth_name j) (passed_over P)) ⊎ ((m : ℕ) × (m < n) × (free_name (passed_over P) m ≡ nth_name j))

-- Each program is named so.
abbrev pub IsNamed : Type 0
IsNamed = (P : S.Program) → HasNames P (naming_of P) × AreInOrder P

-- The names of a well made program are all that its printing asks of them.
abbrev pub NamesServe : Type 0
NamesServe = (P : S.Program) → WellMade P → HasOuterNames P → AreNames P (naming_of P)
