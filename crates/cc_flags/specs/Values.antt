-- The forms of values.
use Rattle.std.specs.Prelude.{◌≡◌, ◌⊎◌, ℕ, ◌-◌, ◌^◌, ◌≤◌, ℤ, List, [], ◌∷◌, ◌++◌, Bool, true, false, not, ◌&&◌, ◌||◌, ◌==◌, if◌then◌else◌, Option, Some, None, option_map, option_and_then, codes, length, string_bytes}
use Rattle.std.specs.List.{list_all, Contains}
use Rattle.std.specs.Char.{is_ascii_alphanumeric}
use Rattle.std.specs.Char.Escape.{encode_utf16}
use Rattle.std.specs.Str.{chars}
use Rattle.cc_text.specs.Characters.{is_line_end}
use Rattle.cc_text.specs.Escape.{escaped, gives}
use Rattle.cc_chunks.specs.declared.spec.ChunkSpec.{ChunkSpec}
use Rattle.cc_flags.specs.declared.flag.Form.{Form}
use Rattle.cc_flags.specs.declared.flag.Form.TheVariants as form
use Rattle.cc_flags.specs.declared.job.Define.{Define}
use Rattle.cc_flags.specs.declared.job.DefineValue.{DefineValue}
use Rattle.cc_flags.specs.declared.job.DefineValue.TheVariants as value
use Rattle.cc_flags.specs.declared.job.Synthesis.{Synthesis}
use Rattle.cc_flags.specs.declared.job.Wrapper.{Wrapper}
use Rattle.cc_flags.specs.Texts.{texts, before, behind, pieces, places}
use Rattle.cc_flags.specs.Numbers.{decimal, within, whole}

-- ---- chunks

-- letters, digits, `-`, `.` and `_`
abbrev pub is_name_part : ℕ → Bool
is_name_part c = is_ascii_alphanumeric c || c == 45 || c == 46 || c == 95

unfoldable pub is_chunk_name : List ℕ → Bool
is_chunk_name name = not (length name == 0) && list_all is_name_part name

pub record Chunk : Type 0 where
  pub name : List ℕ
  pub count : ℕ
  pub deps : List (List ℕ)

abbrev pub chunk : List ℕ → ℕ → List (List ℕ) → Chunk
chunk name count deps = record { name = name; count = count; deps = deps }

-- names with commas between them
unfoldable pub deps_of : Option (List ℕ) → Option (List (List ℕ))
deps_of None = Some []
deps_of (Some text) = if list_all is_chunk_name (pieces 44 text) then Some (pieces 44 text) else None

-- how many files a chunk takes, and behind a colon what it depends on
unfoldable pub chunk_with : List ℕ → List ℕ → Option Chunk
chunk_with name text = option_and_then (λ count. option_map (chunk name count) (deps_of (behind 58 text)))
    (within 0 (2 ^ 32 - 1) (decimal (before 58 text)))

-- `name:count` or `name:count:dep,dep`
unfoldable pub chunk_of : List ℕ → Option Chunk
chunk_of v = if is_chunk_name (before 58 v) then option_and_then (chunk_with (before 58 v)) (behind 58 v) else None

-- ---- definitions

-- stands for itself between single quotes
abbrev pub is_itself : ℕ → Bool
is_itself c = not (c == 39 || c == 92 || is_line_end c)

-- The characters behind a single quote are a string up to the quote that ends both, and these are its
-- units (ECMA-262 5.1, 7.8.4).
pub data InQuotes : List ℕ → List ℕ → Type 0 where
  closing : {c : ℕ} → c ≡ 39 → InQuotes (c ∷ []) []
  itself : {c : ℕ} {cs us : List ℕ} → is_itself c ≡ true → InQuotes cs us → InQuotes (c ∷ cs) (encode_utf16 c ++ us)
  escaping : {c : ℕ} {cs us vs rest : List ℕ} → c ≡ 92 → escaped cs ≡ gives us rest → InQuotes rest vs → InQuotes (c ∷ cs) (us ++ vs)

-- what stands behind the `=` of a definition: `true`, `false`, a whole number or a text in quotes
pub data IsDefineText : List ℕ → DefineValue → Type 0 where
  truth : {v : List ℕ} → v ≡ codes "true" → IsDefineText v (value.Truth true)
  falsehood : {v : List ℕ} → v ≡ codes "false" → IsDefineText v (value.Truth false)
  whole_number : {v : List ℕ} {n : ℤ} → whole v ≡ Some n → IsDefineText v (value.Whole n)
  quoted : {v cs us : List ℕ} → chars v ≡ 39 ∷ cs → InQuotes cs us → IsDefineText v (value.Text us)

-- a name alone stands for true
abbrev pub IsDefineValue : Option (List ℕ) → DefineValue → Type 0
IsDefineValue None d = d ≡ value.Truth true
IsDefineValue (Some v) d = IsDefineText v d

pub record IsDefine (v : List ℕ) (d : Define) : Type 0 where
  pub name : string_bytes d.name ≡ before 61 v
  pub value : IsDefineValue (behind 61 v) d.value

-- ---- wrappers

-- The text has one place of the marker, and these are the texts on both sides.
pub record IsAround (marker text : List ℕ) (wrapper : Wrapper) : Type 0 where
  pub one : places marker text ≡ 1
  pub sides : text ≡ string_bytes wrapper.before ++ (marker ++ string_bytes wrapper.behind)

-- ---- generated input

abbrev pub seed_and_size : ℕ → ℕ → Synthesis
seed_and_size seed size = record { seed = seed; size = size }

-- `seed,size`
unfoldable pub synthesis_of : List ℕ → Option Synthesis
synthesis_of v = option_and_then (λ seed. option_map (seed_and_size seed) (option_and_then (λ text. within 1 20000 (decimal text)) (behind 44 v)))
    (within 0 (2 ^ 64 - 1) (decimal (before 44 v)))

abbrev pub bound_of : List ℕ → Option ℕ
bound_of v = within 0 10000000 (decimal v)

-- ---- the forms

-- A value is of a form, where these are the names of the chunks that the words ask for.
pub data HasForm (names : List (List ℕ)) : Form → Option (List ℕ) → Type 0 where
  any_text : {v : List ℕ} → HasForm names form.AnyText (Some v)
  chunk_text : {v : List ℕ} {c : Chunk} → chunk_of v ≡ Some c → HasForm names form.Chunk (Some v)
  chunk_wrapper : {v text : List ℕ} → is_chunk_name (before 58 v) ≡ true → behind 58 v ≡ Some text → places (codes "%s") text ≡ 1
      → (names ≡ []) ⊎ Contains names (before 58 v) → HasForm names form.ChunkWrapper (Some v)
  output_wrapper : {v : List ℕ} → places (codes "%output%") v ≡ 1 → HasForm names form.OutputWrapper (Some v)
  define : {v : List ℕ} (d : DefineValue) → IsDefineValue (behind 61 v) d → HasForm names form.Define (Some v)
  switch : HasForm names form.Switch None
  switch_on : {v : List ℕ} → v ≡ codes "true" → HasForm names form.Switch (Some v)
  switch_off : {v : List ℕ} → v ≡ codes "false" → HasForm names form.Switch (Some v)
  level : {v : List ℕ} → v ≡ codes "ADVANCED" → HasForm names form.Level (Some v)
  level_optimizations : {v : List ℕ} → v ≡ codes "ADVANCED_OPTIMIZATIONS" → HasForm names form.Level (Some v)
  workers : {v : List ℕ} {n : ℕ} → decimal v ≡ Some n → 1 ≤ n → HasForm names form.Workers (Some v)
  synthesis : {v : List ℕ} {s : Synthesis} → synthesis_of v ≡ Some s → HasForm names form.Synthesis (Some v)
  bound : {v : List ℕ} {n : ℕ} → bound_of v ≡ Some n → HasForm names form.Bound (Some v)

-- ---- the code's chunks

abbrev pub chunk_in : ChunkSpec → Chunk
chunk_in spec = chunk (string_bytes spec.name) spec.count (texts spec.deps.items)
