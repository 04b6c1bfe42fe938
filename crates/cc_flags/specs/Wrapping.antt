-- Wrappers of chunks, one setting at a time.
use Rattle.std.specs.Prelude.{◌≡◌, ℕ, List, Option, Some, None, if◌then◌else◌, option_and_then, option_copied}
use Rattle.std.specs.Borrow.{Bor}
use Rattle.std.specs.Str.{bytes_eq}
use Rattle.indexmap.specs.IndexMap.{IndexMap, get_by}
use Rattle.cc_flags.specs.declared.flag.Flag.TheVariants as flag
use Rattle.cc_flags.specs.Words.{Setting, value_for}
use Rattle.cc_flags.specs.Jobs.{text_for, wrapper_text}

-- the text that a setting gives to the wrapper of the chunk of this name
abbrev pub wraps : List ℕ → Setting → Option (List ℕ)
wraps name s = option_and_then (text_for name) (value_for flag.ChunkWrapper s)

-- the text, where it is for the chunk of this name
abbrev pub text_if : List ℕ → Option (Bor (List ℕ) × Bor (List ℕ)) → Option (List ℕ)
text_if name None = None
text_if name (Some wrapper) = if bytes_eq wrapper.0.now name then Some wrapper.1.now else None

-- the text of a name in a table
abbrev pub text_in : {S : Type 0} → IndexMap (Bor (List ℕ)) (Bor (List ℕ)) S → List ℕ → Option (List ℕ)
text_in table name = option_copied (get_by (λ key. bytes_eq name key.now) table)

-- the table has the texts that these settings give
abbrev pub HasTexts : {S : Type 0} → List Setting → IndexMap (Bor (List ℕ)) (Bor (List ℕ)) S → Type 0
HasTexts ss table = (name : List ℕ) → text_in table name ≡ wrapper_text ss name
