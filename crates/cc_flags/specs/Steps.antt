-- Faults of one stage.
use Rattle.std.specs.Prelude.{◌≡◌, ◌≢◌, ℕ, Bool, true, false, not, ◌&&◌, ◌||◌, ◌<◌, ◌≤◌, List, Option, Some, slice_get}
use Rattle.cc_flags.specs.declared.cut.Stop.{Stop}
use Rattle.cc_flags.specs.declared.usage.Usage.{Usage}
use Rattle.std.specs.List.{list_any}
use Rattle.std.specs.Option.{option_map_or}
use Rattle.cc_ast.specs.declared.reading.LimitKind.{LimitKind}
use Rattle.cc_ast.specs.declared.reading.LimitKind.TheVariants as counted
use Rattle.cc_flags.specs.declared.flag.Call.{Call}
use Rattle.cc_flags.specs.declared.flag.Flag.{Flag}
use Rattle.cc_flags.specs.declared.flag.Flag.TheVariants as flag
use Rattle.cc_flags.specs.declared.together.Met.{Met}
use Rattle.cc_flags.specs.declared.usage.Usage.TheVariants.{Word, Memory}
use Rattle.cc_flags.specs.declared.usage.UsageKind.TheVariants as kind
use Rattle.cc_flags.specs.Flags.{same}
use Rattle.cc_flags.specs.Words.{Setting, has_flag, is_given}
use Rattle.cc_flags.specs.Faults.{IsOutOfForm, IsRepeated, IsTogether, FormFault, is_output, is_other, needs_chunks, is_file, AsksTooMany, HasNoSource, has_output, place, stage_of, GoesBefore}
use Rattle.cc_flags.specs.Readings.{IsFirstFault}

-- settings stand in the order of their words
abbrev pub StandInOrder : List Setting → Type 0
StandInOrder ss = (i j : ℕ) (s t : Setting) → slice_get ss i ≡ Some s → slice_get ss j ≡ Some t → i < j → s.at < t.at

-- they do, before the stop, which is a fault of a word's form
pub record AreOrdered (ss : List Setting) (stop : Option Stop) : Type 0 where
  pub settings : StandInOrder ss
  pub before_stop : (i : ℕ) (s : Setting) (p : Stop) → slice_get ss i ≡ Some s → stop ≡ Some p → s.at < p.at
  pub stage : (p : Stop) → stop ≡ Some p → stage_of p.kind ≡ 0

-- a fault of a kind, and the first of all of the kind
pub record IsFirstIn (F : Usage → Type 0) (u : Usage) : Type 0 where
  pub stands : F u
  pub first : (v : Usage) → F v → place u ≤ place v

abbrev pub FirstOrMemory : (Usage → Type 0) → Usage → Type 0
FirstOrMemory F u = u ≢ Memory → IsFirstIn F u

-- ---- faults of a word's form

-- no setting has one
pub record HaveForms (ss : List Setting) : Type 0 where
  pub formed : (at : ℕ) → ¬ IsOutOfForm ss at
  pub single : (at : ℕ) → ¬ IsRepeated ss at

-- the first of them, whatever stop stands behind the settings
abbrev pub FirstForm : List Setting → Usage → Type 0
FirstForm ss u = (stop : Option Stop) → AreOrdered ss stop → FirstOrMemory (FormFault ss stop) u

-- ---- flags that don't stand together

pub data TogetherFault (ss : List Setting) : Usage → Type 0 where
  together : {at : ℕ} → IsTogether ss at → TogetherFault ss (Word at kind.Together)

abbrev pub passes : (Flag → Bool) → Setting → Bool
passes test s = option_map_or test s.flag false

-- which kinds of flags have come with these settings
pub record HaveMet (ss : List Setting) (met : Met) : Type 0 where
  pub output : met.output ≡ list_any (passes is_output) ss
  pub chunk : met.chunk ≡ is_given flag.Chunk ss
  pub synthesize : met.synthesize ≡ is_given flag.Synthesize ss
  pub other : met.other ≡ list_any (passes is_other) ss

-- the flag doesn't stand with one of those
abbrev pub clashes : Flag → Met → Bool
clashes f met = (is_output f && met.chunk) || (same f flag.Synthesize && met.other) || (met.output && same f flag.Chunk) || (met.synthesize && is_other f)

-- it doesn't, or it needs chunks where none are asked for
abbrev pub refuses : Flag → Met → Bool → Bool
refuses f met has_chunks = clashes f met || (needs_chunks f && not has_chunks)

abbrev pub met_with : Flag → Met → Met
met_with f met = record { output = met.output || is_output f; chunk = met.chunk || same f flag.Chunk; synthesize = met.synthesize || same f flag.Synthesize; other = met.other || is_other f }

-- ---- what is missing

-- a source comes first
pub data MissingFault (which : Call) (ss : List Setting) (count : ℕ) : Usage → Type 0 where
  source : HasNoSource ss → MissingFault which ss count (Word count kind.MissingJs)
  output : ¬ HasNoSource ss → has_output which ss ≡ false → MissingFault which ss count (Word count kind.MissingOutput)

pub record HaveAll (which : Call) (ss : List Setting) : Type 0 where
  pub source : ¬ HasNoSource ss
  pub output : has_output which ss ≡ true

-- ---- limits

-- a setting passes a limit behind so many files and chunks
pub data IsExcess (files chunks : ℕ) (s : Setting) : LimitKind → Type 0 where
  file : is_file s ≡ true → files ≡ 1024 → IsExcess files chunks s counted.Files
  chunk : has_flag flag.Chunk s ≡ true → chunks ≡ 256 → IsExcess files chunks s counted.Chunks
  workers : AsksTooMany s → IsExcess files chunks s counted.Workers

pub record IsWithin (files chunks : ℕ) (s : Setting) : Type 0 where
  pub file : is_file s ≡ true → files ≢ 1024
  pub chunk : has_flag flag.Chunk s ≡ true → chunks ≢ 256
  pub workers : ¬ AsksTooMany s

-- ---- all of it

-- a fault, and the first of all, whatever kinds they are of
pub record IsFirstOf (F : Usage → Type 0) (u : Usage) : Type 0 where
  pub stands : F u
  pub first : (v : Usage) → F v → GoesBefore u v

-- the first fault of words, which is told of unless memory was wanting
abbrev pub FaultOrMemory : Call → List (List ℕ) → Usage → Type 0
FaultOrMemory which words u = u ≢ Memory → IsFirstFault which words u
