-- The table of all that each chunk depends on.
use Rattle.std.specs.Prelude.{◌≡◌, ℕ, ◌/◌, ◌≤◌, ◌↔◌, List, length, slice_get, Some, IsTrue}
use Rattle.cc_ast.specs.declared.tables.ChunkInfo.{ChunkInfo}
use Rattle.cc_chunks.specs.declared.reach.Reach.{Reach}
use Rattle.cc_chunks.specs.Graph.{Depends, DependsDown, DependsOnCount, IsCommon}
use Rattle.cc_chunks.specs.Sets.{has, has_bit}

-- the entry of chunk a: the set of the chunks that it depends on, and their number
pub record IsReach (chunks : List ChunkInfo) (a : ℕ) (reach : Reach) : Type 0 where
  pub set : (b : ℕ) → IsTrue (has reach.set.words.items b) ↔ Depends chunks a b
  pub count : DependsOnCount chunks a reach.count

-- entries of the first chunks
pub record AreReaches (chunks : List ChunkInfo) (table : List Reach) : Type 0 where
  pub within : length table ≤ length chunks
  pub right : (a : ℕ) (reach : Reach) → slice_get table a ≡ Some reach → IsReach chunks a reach

-- a table of all chunks, each of which depends on lesser ones
pub record IsTable (chunks : List ChunkInfo) (table : List Reach) : Type 0 where
  pub down : DependsDown chunks
  pub all : length table ≡ length chunks
  pub reaches : AreReaches chunks table

-- a word of the set of the chunks that each of the list is or depends on, at this place
abbrev pub IsCommonWord : List ChunkInfo → List ℕ → ℕ → ℕ → Type 0
IsCommonWord chunks list at word = (c : ℕ) → c / 64 ≡ at → IsTrue (has_bit word c) ↔ IsCommon chunks list c
