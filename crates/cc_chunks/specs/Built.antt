-- How far the chunks of specs are built.
use Rattle.std.specs.Prelude.{◌≡◌, ℕ, ◌*◌, ◌≤◌, List, map, take, sum, length, slice_get, Some}
use Rattle.cc_ast.specs.declared.tables.ChunkInfo.{ChunkInfo}
use Rattle.cc_chunks.specs.declared.spec.ChunkSpec.{ChunkSpec}
use Rattle.cc_chunks.specs.declared.spec.ChunkFault.{ChunkFault}
use Rattle.cc_chunks.specs.Graph.{DependsDown}
use Rattle.cc_chunks.specs.Faults.{names_of, dep_names, counts_of, HasFault, rank}

-- each fault that stands has at least this rank
pub record NoneBelow (specs : List ChunkSpec) (files r : ℕ) : Type 0 where
  pub each : (f : ChunkFault) → HasFault specs files f → r ≤ rank f

-- the chunks of the first i specs
pub record Built (specs : List ChunkSpec) (files i : ℕ) (chunks : List ChunkInfo) (counts : List ℕ) (taken : ℕ) : Type 0 where
  pub size : length chunks ≡ i
  pub names : map (λ c. c.name) chunks ≡ take i (names_of specs)
  pub deps : map (λ c. map (slice_get (names_of specs)) c.deps) chunks ≡ take i (map (λ s. map Some (dep_names s)) specs)
  pub counted : counts ≡ take i (counts_of specs)
  pub summed : taken ≡ sum (take i (counts_of specs))
  pub enough : taken ≤ files
  pub down : DependsDown chunks
  pub none : NoneBelow specs files (4 * i)
