-- What the specs of a job's chunks mean, and what is wrong with them.
use Rattle.std.specs.Prelude.{◌≡◌, ℕ, ◌+◌, ◌*◌, ◌<◌, ◌≤◌, ◌⊎◌, List, [], ◌∷◌, if◌then◌else◌, map, take, drop, sum, length, slice_get, Option, None, Some}
use Rattle.std.specs.Option.{option_map}
use Rattle.std.specs.List.{Contains}
use Rattle.std.specs.Str.{bytes_eq}
use Rattle.std.specs.String.{string_bytes}
use Rattle.cc_ast.specs.declared.tables.ChunkInfo.{ChunkInfo}
use Rattle.cc_chunks.specs.declared.spec.ChunkSpec.{ChunkSpec}
use Rattle.cc_chunks.specs.declared.spec.ChunkFault.{ChunkFault}
use Rattle.cc_chunks.specs.declared.spec.ChunkFault.TheVariants.{DoubleName, UnknownDep, LaterDep, FileCount, Memory}
use Rattle.cc_chunks.specs.Graph.{Graph}

abbrev pub names_of : List ChunkSpec → List (List ℕ)
names_of specs = map (λ s. string_bytes s.name) specs

abbrev pub dep_names : ChunkSpec → List (List ℕ)
dep_names s = map (λ name. string_bytes name) s.deps.items

abbrev pub counts_of : List ChunkSpec → List ℕ
counts_of specs = map (λ s. s.count) specs

-- ---- faults

-- spec i has the name of an earlier one
pub record IsDouble (specs : List ChunkSpec) (i : ℕ) : Type 0 where
  pub spec : ChunkSpec
  pub at : slice_get specs i ≡ Some spec
  pub earlier : Contains (take i (names_of specs)) (string_bytes spec.name)

-- spec i depends on a name that no spec has
pub record HasUnknown (specs : List ChunkSpec) (i : ℕ) : Type 0 where
  pub spec : ChunkSpec
  pub at : slice_get specs i ≡ Some spec
  pub dep : List ℕ
  pub depends : Contains (dep_names spec) dep
  pub nowhere : ¬ Contains (names_of specs) dep

-- spec i depends on a name that it has itself or a later spec has, and no earlier one
pub record HasLater (specs : List ChunkSpec) (i : ℕ) : Type 0 where
  pub spec : ChunkSpec
  pub at : slice_get specs i ≡ Some spec
  pub dep : List ℕ
  pub depends : Contains (dep_names spec) dep
  pub later : Contains (drop i (names_of specs)) dep
  pub not_earlier : ¬ Contains (take i (names_of specs)) dep

-- the specs as far as i take more files than there are
pub record TakesTooMany (specs : List ChunkSpec) (files i : ℕ) : Type 0 where
  pub within : i < length specs
  pub more : files < sum (take (i + 1) (counts_of specs))

-- spec i is the last, and files are left over
pub record LeavesFiles (specs : List ChunkSpec) (files i : ℕ) : Type 0 where
  pub last : i + 1 ≡ length specs
  pub fewer : sum (counts_of specs) < files

-- a fault that stands in the specs
pub data HasFault (specs : List ChunkSpec) (files : ℕ) : ChunkFault → Type 0 where
  double_name : {i : ℕ} → IsDouble specs i → HasFault specs files (DoubleName i)
  unknown_dep : {i : ℕ} → HasUnknown specs i → HasFault specs files (UnknownDep i)
  later_dep : {i : ℕ} → HasLater specs i → HasFault specs files (LaterDep i)
  too_many : {i : ℕ} → TakesTooMany specs files i → HasFault specs files (FileCount i)
  left_over : {i : ℕ} → LeavesFiles specs files i → HasFault specs files (FileCount i)

-- faults go by spec, and within a spec in this order
unfoldable pub rank : ChunkFault → ℕ
rank (DoubleName i) = 4 * i
rank (UnknownDep i) = 4 * i + 1
rank (LaterDep i) = 4 * i + 2
rank (FileCount i) = 4 * i + 3
rank Memory = 0

-- a fault that stands, and the first of all that do
pub record IsFirstFault (specs : List ChunkSpec) (files : ℕ) (fault : ChunkFault) : Type 0 where
  pub stands : HasFault specs files fault
  pub first : (other : ChunkFault) → HasFault specs files other → rank fault ≤ rank other

-- ---- the graph of specs

-- a chunk for each spec, with its name and its count, and with the numbers of its dependencies
pub record IsGraphOf (specs : List ChunkSpec) (graph : Graph) : Type 0 where
  pub names : map (λ c. c.name) graph.chunks ≡ names_of specs
  pub counts : graph.counts ≡ counts_of specs
  pub deps : map (λ c. map (slice_get (names_of specs)) c.deps) graph.chunks ≡ map (λ s. map Some (dep_names s)) specs

-- ---- one spec at a time

-- the number of the first of these names that is this one
unfoldable pub first_of : List (List ℕ) → List ℕ → Option ℕ
first_of [] name = None
first_of (n ∷ ns) name = if bytes_eq n name then Some 0 else option_map (λ i. i + 1) (first_of ns name)

-- the chunk of spec i, which has no fault beside its count
pub record IsChunkAt (specs : List ChunkSpec) (i : ℕ) (spec : ChunkSpec) (chunk : ChunkInfo) : Type 0 where
  pub single : ¬ IsDouble specs i
  pub known : ¬ HasUnknown specs i
  pub not_later : ¬ HasLater specs i
  pub name : chunk.name ≡ string_bytes spec.name
  pub deps : map (slice_get (names_of specs)) chunk.deps ≡ map Some (dep_names spec)
  pub down : (d : ℕ) → Contains chunk.deps d → d < i

-- the first fault of spec i, if it is none of its count
abbrev pub IsFaultAt : List ChunkSpec → ℕ → ChunkFault → Type 0
IsFaultAt specs i (DoubleName j) = (j ≡ i) × IsDouble specs i
IsFaultAt specs i (UnknownDep j) = (j ≡ i) × (¬ IsDouble specs i) × HasUnknown specs i
IsFaultAt specs i (LaterDep j) = (j ≡ i) × (¬ IsDouble specs i) × (¬ HasUnknown specs i) × HasLater specs i
IsFaultAt specs i (FileCount j) = ⊥
IsFaultAt specs i Memory = Unit {0}

-- a fault of its count
abbrev pub IsCountFaultAt : List ChunkSpec → ℕ → ℕ → ChunkFault → Type 0
IsCountFaultAt specs files i (FileCount j) = (j ≡ i) × (TakesTooMany specs files i ⊎ LeavesFiles specs files i)
IsCountFaultAt specs files i (DoubleName j) = ⊥
IsCountFaultAt specs files i (UnknownDep j) = ⊥
IsCountFaultAt specs files i (LaterDep j) = ⊥
IsCountFaultAt specs files i Memory = ⊥
