-- What settings give beside their texts, one setting at a time.
use Rattle.std.specs.Prelude.{◌≡◌, ℕ, List, [], ◌∷◌, ◌++◌, Bool, true, false, if◌then◌else◌, Some, map, filter_map, ⊤}
use Rattle.std.specs.List.{list_any, AllZip}
use Rattle.cc_flags.specs.declared.flag.Flag.{Flag}
use Rattle.cc_flags.specs.declared.flag.Flag.TheVariants as flag
use Rattle.cc_flags.specs.declared.form.Value.{Value}
use Rattle.cc_flags.specs.declared.form.Value.TheVariants as given
use Rattle.cc_flags.specs.declared.given.Given.{Given}
use Rattle.cc_flags.specs.declared.job.Define.{Define}
use Rattle.cc_flags.specs.declared.usage.Usage.{Usage}
use Rattle.cc_flags.specs.declared.usage.Usage.TheVariants.{Word, Limit, Memory}
use Rattle.cc_flags.specs.declared.usage.UsageKind.{UsageKind}
use Rattle.cc_flags.specs.declared.usage.UsageKind.TheVariants as kind
use Rattle.cc_flags.specs.Flags.{row_of, is_once, same}
use Rattle.cc_flags.specs.Words.{Setting, is_given, values_of}
use Rattle.cc_flags.specs.Values.{Chunk, chunk_in, chunk_of, IsDefine, HasForm}

-- the flags of a list have this one
abbrev pub has : List Flag → Flag → Bool
has flags f = list_any (λ g. same g f) flags

-- what these settings give: their chunks, their definitions, and the flags that may be given once
pub record IsGiven (ss : List Setting) (given : Given) : Type 0 where
  pub chunks : map chunk_in given.chunks.items ≡ filter_map chunk_of (values_of flag.Chunk ss)
  pub defines : AllZip IsDefine (values_of flag.Define ss) given.defines.items
  pub once : (f : Flag) → is_once f ≡ true → has given.once.items f ≡ is_given f ss

-- a setting has no fault of its form behind others that give this
pub record Follows (names : List (List ℕ)) (given : Given) (s : Setting) : Type 0 where
  pub formed : (f : Flag) → s.flag ≡ Some f → HasForm names (row_of f).form s.value
  pub single : (f : Flag) → s.flag ≡ Some f → is_once f ≡ true → has given.once.items f ≡ false

-- its value isn't of its form
pub record FailsForm (names : List (List ℕ)) (s : Setting) (at : ℕ) : Type 0 where
  pub word : s.at ≡ at
  pub f : Flag
  pub flag : s.flag ≡ Some f
  pub no_form : ¬ HasForm names (row_of f).form s.value

-- its value is, and it repeats an earlier flag
pub record Repeats (names : List (List ℕ)) (given : Given) (s : Setting) (at : ℕ) : Type 0 where
  pub word : s.at ≡ at
  pub f : Flag
  pub flag : s.flag ≡ Some f
  pub formed : HasForm names (row_of f).form s.value
  pub once : is_once f ≡ true
  pub earlier : has given.once.items f ≡ true

pub data FaultOf (names : List (List ℕ)) (given : Given) (s : Setting) : UsageKind → ℕ → Type 0 where
  value : {at : ℕ} → FailsForm names s at → FaultOf names given s kind.Value at
  repeated : {at : ℕ} → Repeats names given s at → FaultOf names given s kind.Repeated at

-- want of memory, or a fault at a word that is told of
abbrev pub MayBe : (UsageKind → ℕ → Type 0) → Usage → Type 0
MayBe P (Word at k) = P k at
MayBe P (Limit at k) = ⊥
MayBe P Memory = ⊤

-- one more setting is given
abbrev pub AddsSetting : Given → Given → Setting → Type 0
AddsSetting old new s = (ss : List Setting) → IsGiven ss old → IsGiven (ss ++ s ∷ []) new

-- ---- a value, and a flag

-- these chunks, definitions and flags are added
pub record AddsOnly (old new : Given) (more : List Chunk) (added : List Define) (flags : List Flag) : Type 0 where
  pub chunks : map chunk_in new.chunks.items ≡ map chunk_in old.chunks.items ++ more
  pub defines : new.defines.items ≡ old.defines.items ++ added
  pub once : new.once.items ≡ old.once.items ++ flags

abbrev pub AddsValue : Value → Given → Given → Type 0
AddsValue given.Wrong old new = ⊥
AddsValue (given.Chunk spec) old new = AddsOnly old new (chunk_in spec ∷ []) [] []
AddsValue (given.Define d) old new = AddsOnly old new [] (d ∷ []) []
AddsValue given.Plain old new = AddsOnly old new [] [] []

pub record IsWrong (v : Value) (word : ℕ) (k : UsageKind) (at : ℕ) : Type 0 where
  pub which : k ≡ kind.Value
  pub wrong : v ≡ given.Wrong
  pub here : word ≡ at

pub record AddsFlag (f : Flag) (old new : Given) : Type 0 where
  pub adds : AddsOnly old new [] [] (if is_once f then f ∷ [] else [])
  pub single : is_once f ≡ true → has old.once.items f ≡ false

pub record IsSecond (f : Flag) (word : ℕ) (old : Given) (k : UsageKind) (at : ℕ) : Type 0 where
  pub which : k ≡ kind.Repeated
  pub here : word ≡ at
  pub once : is_once f ≡ true
  pub earlier : has old.once.items f ≡ true
