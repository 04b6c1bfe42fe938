-- What is wrong with words, and what of it is answered.
use Rattle.std.specs.Prelude.{◌≡◌, ◌⊎◌, ℕ, ◌+◌, ◌*◌, ◌<◌, ◌≤◌, List, [], Bool, true, false, not, ◌&&◌, ◌||◌, Option, Some, slice_get, take, count_by, option_and_then, is_some, codes}
use Rattle.std.specs.Str.{bytes_eq}
use Rattle.std.specs.Option.{option_map_or}
use Rattle.std.specs.List.{list_any}
use Rattle.cc_ast.specs.declared.reading.LimitKind.TheVariants as counted
use Rattle.cc_flags.specs.declared.cut.Stop.{Stop}
use Rattle.cc_flags.specs.declared.flag.Call.{Call}
use Rattle.cc_flags.specs.declared.flag.Call.TheVariants as call
use Rattle.cc_flags.specs.declared.flag.Flag.{Flag}
use Rattle.cc_flags.specs.declared.flag.Flag.TheVariants as flag
use Rattle.cc_flags.specs.declared.usage.Usage.{Usage}
use Rattle.cc_flags.specs.declared.usage.Usage.TheVariants.{Word, Limit, Memory}
use Rattle.cc_flags.specs.declared.usage.UsageKind.{UsageKind}
use Rattle.cc_flags.specs.declared.usage.UsageKind.TheVariants as kind
use Rattle.cc_flags.specs.Numbers.{decimal}
use Rattle.cc_flags.specs.Flags.{row_of, is_once, same}
use Rattle.cc_flags.specs.Words.{Setting, has_flag, is_given, sources_of, value_for, value_of, chunk_names}
use Rattle.cc_flags.specs.Values.{HasForm}

-- setting i, which begins at this word, is a flag
pub record IsFlagAt (ss : List Setting) (i at : ℕ) (f : Flag) : Type 0 where
  pub setting : Setting
  pub found : slice_get ss i ≡ Some setting
  pub word : setting.at ≡ at
  pub flag : setting.flag ≡ Some f

-- ---- faults of a word's form

-- a flag has a value that isn't of its form, or none where it needs one
pub record IsOutOfForm (ss : List Setting) (at : ℕ) : Type 0 where
  pub i : ℕ
  pub setting : Setting
  pub found : slice_get ss i ≡ Some setting
  pub word : setting.at ≡ at
  pub f : Flag
  pub flag : setting.flag ≡ Some f
  pub no_form : ¬ HasForm (chunk_names ss) (row_of f).form setting.value

-- a flag that may be given once is given by an earlier setting
pub record IsRepeated (ss : List Setting) (at : ℕ) : Type 0 where
  pub i : ℕ
  pub f : Flag
  pub this : IsFlagAt ss i at f
  pub once : is_once f ≡ true
  pub earlier : is_given f (take i ss) ≡ true

-- ---- flags that don't stand together

abbrev pub is_output : Flag → Bool
is_output f = same f flag.JsOutputFile || same f flag.OutputWrapper

abbrev pub is_other : Flag → Bool
is_other f = not (same f flag.Workers) && not (same f flag.Synthesize)

-- one file doesn't stand with chunks, and generated input with no flag but `workers`
abbrev pub is_against : Flag → Flag → Bool
is_against f g = (is_output f && same g flag.Chunk) || (same f flag.Synthesize && is_other g)

abbrev pub keeps_apart : Flag → Setting → Bool
keeps_apart f s = option_map_or (λ g. is_against f g || is_against g f) s.flag false

-- these say something of chunks
abbrev pub needs_chunks : Flag → Bool
needs_chunks f = same f flag.ChunkWrapper || same f flag.ChunkOutputPathPrefix

-- a flag that doesn't stand with an earlier one, or not without chunks
pub record IsTogether (ss : List Setting) (at : ℕ) : Type 0 where
  pub i : ℕ
  pub f : Flag
  pub this : IsFlagAt ss i at f
  pub why : (list_any (keeps_apart f) (take i ss) ≡ true) ⊎ ((needs_chunks f ≡ true) × (is_given flag.Chunk ss ≡ false))

-- ---- what is missing

abbrev pub is_off : Setting → Bool
is_off s = option_map_or (λ v. bytes_eq v (codes "false")) s.value false

-- a switch is on where it is given without `=false`
abbrev pub turns_on : Flag → Setting → Bool
turns_on f s = has_flag f s && not (is_off s)

abbrev pub is_on : Flag → List Setting → Bool
is_on f ss = list_any (turns_on f) ss

abbrev pub has_output : Call → List Setting → Bool
has_output call.Compile ss = is_given flag.JsOutputFile ss || is_given flag.Chunk ss || is_given flag.Synthesize ss || is_on flag.ChecksOnly ss
has_output call.Replay ss = is_some (value_of flag.Script ss)

-- there is no source file, and no input is generated
pub record HasNoSource (ss : List Setting) : Type 0 where
  pub none : sources_of ss ≡ []
  pub not_made : is_given flag.Synthesize ss ≡ false

-- ---- limits

-- a file: a source, externs or a script
abbrev pub is_file : Setting → Bool
is_file s = option_map_or (λ f. same f flag.Js || same f flag.Externs || same f flag.Script) s.flag true

-- a setting that counts, behind as many as there may be
pub record IsBeyond (counts : Setting → Bool) (most : ℕ) (ss : List Setting) (at : ℕ) : Type 0 where
  pub i : ℕ
  pub setting : Setting
  pub found : slice_get ss i ≡ Some setting
  pub word : setting.at ≡ at
  pub counts_it : counts setting ≡ true
  pub behind : count_by counts (take i ss) ≡ most

-- more workers than there may be
pub record AsksTooMany (s : Setting) : Type 0 where
  pub n : ℕ
  pub asked : option_and_then decimal (value_for flag.Workers s) ≡ Some n
  pub beyond : 64 < n

pub record IsBeyondWorkers (ss : List Setting) (at : ℕ) : Type 0 where
  pub i : ℕ
  pub setting : Setting
  pub found : slice_get ss i ≡ Some setting
  pub word : setting.at ≡ at
  pub asks : AsksTooMany setting

-- ---- all of it

-- a fault of a word's form, where the words are cut into these settings and this stop
pub data FormFault (ss : List Setting) : Option Stop → Usage → Type 0 where
  stopped : {s : Stop} → FormFault ss (Some s) (Word s.at s.kind)
  out_of_form : {stop : Option Stop} {at : ℕ} → IsOutOfForm ss at → FormFault ss stop (Word at kind.Value)
  repeated : {stop : Option Stop} {at : ℕ} → IsRepeated ss at → FormFault ss stop (Word at kind.Repeated)

-- a limit that is passed
pub data LimitFault (ss : List Setting) : Usage → Type 0 where
  files : {at : ℕ} → IsBeyond is_file 1024 ss at → LimitFault ss (Limit at counted.Files)
  chunks : {at : ℕ} → IsBeyond (has_flag flag.Chunk) 256 ss at → LimitFault ss (Limit at counted.Chunks)
  workers : {at : ℕ} → IsBeyondWorkers ss at → LimitFault ss (Limit at counted.Workers)

-- a fault of the words of a call, which are `count` words
pub data HasFault (which : Call) (ss : List Setting) (stop : Option Stop) (count : ℕ) : Usage → Type 0 where
  form : {u : Usage} → FormFault ss stop u → HasFault which ss stop count u
  together : {at : ℕ} → IsTogether ss at → HasFault which ss stop count (Word at kind.Together)
  no_source : HasNoSource ss → HasFault which ss stop count (Word count kind.MissingJs)
  no_output : has_output which ss ≡ false → HasFault which ss stop count (Word count kind.MissingOutput)
  limit : {u : Usage} → LimitFault ss u → HasFault which ss stop count u

-- Faults are answered in this order: those of a word's form, flags that don't stand together, what
-- is missing, limits; among each the least word, and at one word in the order of the kinds.
abbrev pub stage_of : UsageKind → ℕ
stage_of kind.Unknown = 0
stage_of kind.NoValue = 0
stage_of kind.Value = 0
stage_of kind.Repeated = 0
stage_of kind.Together = 1
stage_of kind.MissingJs = 2
stage_of kind.MissingOutput = 3

abbrev pub stage : Usage → ℕ
stage (Word at k) = stage_of k
stage (Limit at k) = 4
stage Memory = 5

abbrev pub order_of : UsageKind → ℕ
order_of kind.Unknown = 0
order_of kind.NoValue = 1
order_of kind.Value = 2
order_of kind.Repeated = 3
order_of kind.Together = 0
order_of kind.MissingJs = 0
order_of kind.MissingOutput = 0

abbrev pub place : Usage → ℕ
place (Word at k) = 4 * at + order_of k
place (Limit at k) = 4 * at
place Memory = 0

abbrev pub GoesBefore : Usage → Usage → Type 0
GoesBefore u v = (stage u < stage v) ⊎ ((stage u ≡ stage v) × (place u ≤ place v))
