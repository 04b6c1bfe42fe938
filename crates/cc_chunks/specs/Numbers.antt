-- The table of the specs' numbers by their names.
use Rattle.std.specs.Prelude.{◌≡◌, ℕ, List, Option, Some, cond, is_some}
use Rattle.std.specs.Borrow.{Bor}
use Rattle.std.specs.Str.{bytes_eq}
use Rattle.cc_chunks.specs.declared.spec.ChunkFault.{ChunkFault}
use Rattle.cc_chunks.specs.declared.spec.ChunkFault.TheVariants.{DoubleName, UnknownDep, LaterDep, FileCount, Memory}
use Rattle.indexmap.specs.IndexMap.{IndexMap, get_by}

abbrev pub number_in : {S : Type 0} → IndexMap (Bor (List ℕ)) ℕ S → List ℕ → Option ℕ
number_in numbers name = get_by (λ key. bytes_eq name key.now) numbers

-- the numbers once a name is entered that may be there already
abbrev pub number_after : (List ℕ → Option ℕ) → List ℕ → ℕ → List ℕ → Option ℕ
number_after f name number other = cond (is_some (f name)) (f other) (cond (bytes_eq name other) (Some number) (f other))

-- the fault of this spec that a dependency is unknown, where that is so; or want of memory
abbrev pub IsUnknownFault : ℕ → Type 0 → ChunkFault → Type 0
IsUnknownFault number so (UnknownDep j) = (j ≡ number) × so
IsUnknownFault number so Memory = Unit {0}
IsUnknownFault number so (DoubleName j) = ⊥
IsUnknownFault number so (LaterDep j) = ⊥
IsUnknownFault number so (FileCount j) = ⊥
