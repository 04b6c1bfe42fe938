-- Words cut into settings.
use Rattle.std.specs.Prelude.{◌≡◌, ℕ, ◌+◌, List, [], ◌∷◌, Bool, true, false, if◌then◌else◌, Option, Some, None, option_copied, nat_eq, map, filter_map, drop, codes}
use Rattle.std.specs.Option.{option_map_or}
use Rattle.std.specs.List.{starts_with, last_or, list_any}
use Rattle.cc_flags.specs.declared.item.Item.{Item}
use Rattle.cc_flags.specs.declared.cut.Stop.{Stop}
use Rattle.cc_flags.specs.declared.flag.Call.{Call}
use Rattle.cc_flags.specs.declared.flag.Flag.{Flag}
use Rattle.cc_flags.specs.declared.flag.Flag.TheVariants as flag
use Rattle.cc_flags.specs.declared.usage.UsageKind.TheVariants as kind
use Rattle.cc_flags.specs.Texts.{before, behind}
use Rattle.cc_flags.specs.Flags.{known_flag, needs_value, same}

-- A source file, which has no flag, or a flag with its value, if it has one; and the number of its
-- first word.
pub record Setting : Type 0 where
  pub at : ℕ
  pub flag : Option Flag
  pub value : Option (List ℕ)

abbrev pub setting : ℕ → Option Flag → Option (List ℕ) → Setting
setting at flag value = record { at = at; flag = flag; value = value }

-- What a word is by itself: a source file, as it doesn't begin with `--`; a flag that the call
-- knows, with what stands behind its first `=`; or nothing that the call knows.
pub data Word : Type 0 where
  source : Word
  known : Flag → Option (List ℕ) → Word
  unknown : Word

unfoldable pub word_of : Call → List ℕ → Word
word_of call w = if starts_with nat_eq w (codes "--")
    then option_map_or (λ f. known f (behind 61 (drop 2 w))) (known_flag call (before 61 (drop 2 w))) unknown
    else source

-- The words from number `at` on are cut into these settings. A flag that needs a value and has no
-- `=` takes the next word, whatever it is. The cutting stops at a word that the call doesn't know, or
-- that lacks its value.
pub data Cut (call : Call) : ℕ → List (List ℕ) → List Setting → Option Stop → Type 0 where
  ended : {at : ℕ} → Cut call at [] [] None
  file : {at : ℕ} {w : List ℕ} {ws : List (List ℕ)} {ss : List Setting} {stop : Option Stop}
      → word_of call w ≡ source → Cut call (at + 1) ws ss stop → Cut call at (w ∷ ws) (setting at None (Some w) ∷ ss) stop
  joined : {at : ℕ} {f : Flag} {w v : List ℕ} {ws : List (List ℕ)} {ss : List Setting} {stop : Option Stop}
      → word_of call w ≡ known f (Some v) → Cut call (at + 1) ws ss stop → Cut call at (w ∷ ws) (setting at (Some f) (Some v) ∷ ss) stop
  alone : {at : ℕ} {f : Flag} {w : List ℕ} {ws : List (List ℕ)} {ss : List Setting} {stop : Option Stop}
      → word_of call w ≡ known f None → needs_value f ≡ false → Cut call (at + 1) ws ss stop → Cut call at (w ∷ ws) (setting at (Some f) None ∷ ss) stop
  apart : {at : ℕ} {f : Flag} {w v : List ℕ} {ws : List (List ℕ)} {ss : List Setting} {stop : Option Stop}
      → word_of call w ≡ known f None → needs_value f ≡ true → Cut call (at + 2) ws ss stop → Cut call at (w ∷ v ∷ ws) (setting at (Some f) (Some v) ∷ ss) stop
  lacking : {at : ℕ} {f : Flag} {w : List ℕ}
      → word_of call w ≡ known f None → needs_value f ≡ true → Cut call at (w ∷ []) [] (Some (record { at = at; kind = kind.NoValue }))
  stopped : {at : ℕ} {w : List ℕ} {ws : List (List ℕ)}
      → word_of call w ≡ unknown → Cut call at (w ∷ ws) [] (Some (record { at = at; kind = kind.Unknown }))

-- ---- what settings give

abbrev pub has_flag : Flag → Setting → Bool
has_flag f s = option_map_or (λ g. same g f) s.flag false

abbrev pub is_given : Flag → List Setting → Bool
is_given f ss = list_any (has_flag f) ss

-- the values that a flag is given
abbrev pub value_for : Flag → Setting → Option (List ℕ)
value_for f s = if has_flag f s then s.value else None

abbrev pub values_of : Flag → List Setting → List (List ℕ)
values_of f ss = filter_map (value_for f) ss

-- the last of them
abbrev pub value_of : Flag → List Setting → Option (List ℕ)
value_of f ss = last_or None (values_of f ss)

-- the name of a source file, which stands alone or behind `js`
abbrev pub source_for : Setting → Option (List ℕ)
source_for s = if option_map_or (λ f. same f flag.Js) s.flag true then s.value else None

abbrev pub sources_of : List Setting → List (List ℕ)
sources_of ss = filter_map source_for ss

-- a chunk's name is its value up to the first colon
abbrev pub chunk_names : List Setting → List (List ℕ)
chunk_names ss = map (before 58) (values_of flag.Chunk ss)

-- ---- the code's items

abbrev pub setting_of : Item → Setting
setting_of item = setting item.at item.flag (option_copied item.value)

abbrev pub settings_of : List Item → List Setting
settings_of items = map setting_of items
