-- The cutting of words, one setting at a time.
use Rattle.std.specs.Prelude.{◌≡◌, ℕ, ◌+◌, ◌<◌, ◌≤◌, List, [], ◌∷◌, true, false, length, drop, Option, Some, None, option_copied, slice_get}
use Rattle.cc_flags.specs.declared.cut.Front.{Front}
use Rattle.cc_flags.specs.declared.cut.Front.TheVariants as front
use Rattle.cc_flags.specs.declared.cut.Stop.{Stop}
use Rattle.cc_flags.specs.declared.cut.Word as coded
use Rattle.cc_flags.specs.declared.flag.Call.{Call}
use Rattle.cc_flags.specs.declared.flag.Flag.{Flag}
use Rattle.cc_flags.specs.declared.usage.UsageKind.{UsageKind}
use Rattle.cc_flags.specs.declared.usage.UsageKind.TheVariants as kind
use Rattle.cc_flags.specs.Flags.{needs_value}
use Rattle.cc_flags.specs.Words.{Setting, setting, setting_of, Word, source, known, unknown, Cut}

abbrev pub word_in : coded.Word → Word
word_in coded.TheVariants.Source = source
word_in (coded.TheVariants.Known f v) = known f (option_copied v)
word_in coded.TheVariants.Unknown = unknown

-- The words from `at` on begin with this setting, which takes so many of them: what the others are
-- cut into stands behind it.
pub record Begins (call : Call) (at : ℕ) (words : List (List ℕ)) (s : Setting) (taken : ℕ) : Type 0 where
  pub some : 0 < taken
  pub within : at + taken ≤ length words
  pub cut : (ss : List Setting) (stop : Option Stop) → Cut call (at + taken) (drop (at + taken) words) ss stop → Cut call at (drop at words) (s ∷ ss) stop

abbrev pub IsFront : Call → ℕ → List (List ℕ) → Front → Type 0
IsFront call at words (front.Setting item taken) = Begins call at words (setting_of item) taken
IsFront call at words (front.Stop k) = Cut call at (drop at words) [] (Some (record { at = at; kind = k }))

-- a flag without `=` is a switch, or its value is the next word
pub data IsFlagFront (at : ℕ) (f : Flag) (words : List (List ℕ)) : Setting → ℕ → Type 0 where
  switch : needs_value f ≡ false → IsFlagFront at f words (setting at (Some f) None) 1
  next : {v : List ℕ} → needs_value f ≡ true → slice_get words (at + 1) ≡ Some v → IsFlagFront at f words (setting at (Some f) (Some v)) 2

-- or it is the last word
pub record IsLastFlag (at : ℕ) (f : Flag) (words : List (List ℕ)) (k : UsageKind) : Type 0 where
  pub needs : needs_value f ≡ true
  pub last : slice_get words (at + 1) ≡ None
  pub which : k ≡ kind.NoValue

abbrev pub IsFrontOfFlag : ℕ → Flag → List (List ℕ) → Front → Type 0
IsFrontOfFlag at f words (front.Setting item taken) = IsFlagFront at f words (setting_of item) taken
IsFrontOfFlag at f words (front.Stop k) = IsLastFlag at f words k
