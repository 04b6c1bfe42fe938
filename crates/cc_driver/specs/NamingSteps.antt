-- What the steps of a naming compute.
use Rattle.std.specs.Prelude.{◌≡◌, ◌≢◌, ℕ, ◌+◌, ◌-◌, ◌^◌, ◌++◌, length, Bool, List, [], ◌∷◌, Option, None, Some, slice_set, Vec}
use Rattle.std.specs.List.{list_any}
use Rattle.std.specs.Str.{bytes_eq}
use Rattle.cc_ast.specs.declared.tables.GlobalInfo.{GlobalInfo}
use Rattle.cc_driver.specs.declared.naming.given.Given.{Given}
use Rattle.cc_driver.specs.declared.naming.rank.Rank.{Rank}
use Rattle.cc_driver.specs.declared.spelling.Piece.{Piece}
use Rattle.cc_driver.specs.Naming.{occurrences}

-- whether a set with these keys has the name
abbrev pub has_name : {A : Type 0} → List (Vec ℕ A) → List ℕ → Bool
has_name keys name = list_any (λ key. bytes_eq name key.items) keys

-- a global's rank by its occurrences
abbrev pub rank_of : List Piece → ℕ → Rank
rank_of pieces g = record { falling = 2 ^ 64 - 1 - occurrences pieces g; global = g }

abbrev pub global_of : Rank → ℕ
global_of rank = rank.global

abbrev pub kept_of : Option ℕ → List ℕ → List ℕ
kept_of None name = name
kept_of (Some chunk) name = []

-- a name that a naming keeps, and no name in its place where the global gets another
abbrev pub kept_name : GlobalInfo → List ℕ
kept_name info = kept_of info.chunk info.name

abbrev pub given_to : Given → ℕ
given_to given = given.global

abbrev pub given_name : Given → List ℕ
given_name given = given.name

-- the names with each given one in its place, the first one last
abbrev pub assigned : List Given → List (List ℕ) → List (List ℕ)
assigned [] names = names
assigned (g ∷ gs) names = slice_set (assigned gs names) g.global g.name

-- a name was given: it goes last, and the set stays
pub record Takes {A : Type 0} (old new : List (Vec ℕ A)) (before after : List Given) (global : ℕ) (name : List ℕ) : Type 0 where
  pub keys : new ≡ old
  pub given : after ≡ before ++ record { global = global; name = name } ∷ []

-- a name was passed over: nothing is given, and the name alone leaves the set
pub record PassesOver {A : Type 0} (old new : List (Vec ℕ A)) (before after : List Given) (name : List ℕ) : Type 0 where
  pub given : after ≡ before
  pub fewer : length new + 1 ≡ length old
  pub others : (other : List ℕ) → name ≢ other → has_name new other ≡ has_name old other
