-- Graphs of chunks: which depends on which, and the deepest chunk that several have in common.
use Rattle.std.specs.Prelude.{◌≡◌, ℕ, zero, suc, ◌<◌, ◌≤◌, ◌⊎◌, List, [], length, slice_get, Option, Some, None}
use Rattle.std.specs.List.{All, Contains}
use Rattle.cc_ast.specs.declared.tables.ChunkInfo.{ChunkInfo}

-- the chunks, and how many of the files each takes
pub record Graph : Type 0 where
  pub chunks : List ChunkInfo
  pub counts : List ℕ

-- the chunks that a chunk depends on directly; none of a number past the table
unfoldable pub deps_of : Option ChunkInfo → List ℕ
deps_of None = []
deps_of (Some chunk) = chunk.deps

unfoldable pub deps_at : List ChunkInfo → ℕ → List ℕ
unfolding deps_of
deps_at chunks a = deps_of (slice_get chunks a)

-- a depends on b: the transitive closure of the direct dependencies
pub data Depends (chunks : List ChunkInfo) : ℕ → ℕ → Type 0 where
  directly : {a b : ℕ} → Contains (deps_at chunks a) b → Depends chunks a b
  through : {a c b : ℕ} → Contains (deps_at chunks a) c → Depends chunks c b → Depends chunks a b

-- each chunk depends on chunks of lesser numbers alone
abbrev pub DependsDown : List ChunkInfo → Type 0
DependsDown chunks = (a b : ℕ) → Contains (deps_at chunks a) b → b < a

-- ---- the deepest common chunk

-- each of the list is this chunk or depends on it
abbrev pub IsCommon : List ChunkInfo → List ℕ → ℕ → Type 0
IsCommon chunks list c = All (λ k. (k ≡ c) ⊎ Depends chunks k c) list

-- so many of the numbers below n are of this kind
pub data CountBelow (P : ℕ → Type 0) : ℕ → ℕ → Type 0 where
  nothing : CountBelow P zero zero
  one_more : {n k : ℕ} → P n → CountBelow P n k → CountBelow P (suc n) (suc k)
  no_more : {n k : ℕ} → ¬ P n → CountBelow P n k → CountBelow P (suc n) k

-- a chunk depends on so many chunks
abbrev pub DependsOnCount : List ChunkInfo → ℕ → ℕ → Type 0
DependsOnCount chunks a n = CountBelow (Depends chunks a) (length chunks) n

-- c depends on more chunks than d, or on as many and has no greater number
pub record GoesBefore (chunks : List ChunkInfo) (c d : ℕ) : Type 0 where
  pub count_of_c : ℕ
  pub count_of_d : ℕ
  pub c_counted : DependsOnCount chunks c count_of_c
  pub d_counted : DependsOnCount chunks d count_of_d
  pub order : (count_of_d < count_of_c) ⊎ ((count_of_d ≡ count_of_c) × (c ≤ d))

-- c is common to the list, and goes before every other that is
pub record IsDeepestCommon (chunks : List ChunkInfo) (list : List ℕ) (c : ℕ) : Type 0 where
  pub common : IsCommon chunks list c
  pub deepest : (d : ℕ) → IsCommon chunks list d → GoesBefore chunks c d
