-- Values, one at a time.
use Rattle.std.specs.Prelude.{◌≡◌, ◌≢◌, ℕ, ◌≤◌, List, Option, Some, map}
use Rattle.std.specs.Borrow.{Bor}
use Rattle.std.specs.List.{list_any}
use Rattle.std.specs.Str.{bytes_eq}
use Rattle.indexmap.specs.IndexSet.{IndexSet}
use Rattle.cc_flags.specs.declared.flag.Form.{Form}
use Rattle.cc_flags.specs.declared.flag.Form.TheVariants as form
use Rattle.cc_flags.specs.declared.form.Value.{Value}
use Rattle.cc_flags.specs.declared.form.Value.TheVariants as value
use Rattle.cc_flags.specs.declared.job.Define.{Define}
use Rattle.cc_flags.specs.Numbers.{decimal}
use Rattle.cc_flags.specs.Values.{HasForm, Chunk, chunk_of, chunk_in, IsDefine}

-- the names in a set
abbrev pub names_in : {S : Type 0} → IndexSet (Bor (List ℕ)) S → List (List ℕ)
names_in set = map (λ name. name.now) set.keys

-- two lists have the same names
abbrev pub HaveSame : List (List ℕ) → List (List ℕ) → Type 0
HaveSame xs ys = (name : List ℕ) → list_any (bytes_eq name) xs ≡ list_any (bytes_eq name) ys

-- a number above 0
pub record IsPositive (v : List ℕ) : Type 0 where
  pub n : ℕ
  pub read : decimal v ≡ Some n
  pub least : 1 ≤ n

-- a value of a form that gives nothing beside its text
pub record IsPlain (names : List (List ℕ)) (f : Form) (v : Option (List ℕ)) : Type 0 where
  pub formed : HasForm names f v
  pub no_chunk : f ≢ form.Chunk
  pub no_define : f ≢ form.Define

-- the chunk that a value asks for, and the definition that it gives
pub record GivesChunk (f : Form) (v : Option (List ℕ)) (c : Option Chunk) : Type 0 where
  pub which : f ≡ form.Chunk
  pub text : List ℕ
  pub given : v ≡ Some text
  pub read : chunk_of text ≡ c

pub record GivesDefine (f : Form) (v : Option (List ℕ)) (d : Define) : Type 0 where
  pub which : f ≡ form.Define
  pub text : List ℕ
  pub given : v ≡ Some text
  pub read : IsDefine text d

abbrev pub IsValue : List (List ℕ) → Form → Option (List ℕ) → Value → Type 0
IsValue names f v value.Wrong = ¬ HasForm names f v
IsValue names f v (value.Chunk spec) = GivesChunk f v (Some (chunk_in spec))
IsValue names f v (value.Define d) = GivesDefine f v d
IsValue names f v value.Plain = IsPlain names f v
