-- Classes and types: ancestry, and the objects of a type by their class.
use Rattle.std.specs.Prelude.{◌≡◌, ℕ, zero, suc, ◌⊎◌, Bool, true, false, ◌||◌, nat_eq, List, [], ◌++◌, length, slice_get, Option, Some, None}
use Rattle.std.specs.Option.{option_to_list}
use Rattle.std.specs.List.{Contains, list_any}
use Rattle.cc_ast.specs.declared.tables.Class.{Class}
use Rattle.cc_ast.specs.declared.tables.TypeSet.{TypeSet}

-- ---- ancestry

unfoldable pub parents_of : Option Class → List ℕ
parents_of None = []
parents_of (Some c) = option_to_list c.extends ++ c.implements

-- the classes that a class extends or implements itself; none of a number past the table
unfoldable pub parents : List Class → ℕ → List ℕ
unfolding parents_of
parents classes a = parents_of (slice_get classes a)

-- b is a itself, or is reached from a by a chain of extends and implements
pub data Ancestor (classes : List Class) : ℕ → ℕ → Type 0 where
  itself : (a : ℕ) → Ancestor classes a a
  above : (a p b : ℕ) → Contains (parents classes a) p → Ancestor classes p b → Ancestor classes a b

-- the same by a chain of at most n steps, as a test
unfoldable pub reaches : ℕ → List Class → ℕ → ℕ → Bool
unfolding parents
reaches zero classes a b = nat_eq a b
reaches (suc n) classes a b = nat_eq a b || list_any (λ p. reaches n classes p b) (parents classes a)

-- b is an ancestor of a. Where no class is its own proper ancestor, a chain has fewer steps than
-- there are classes.
unfoldable pub subtype : List Class → ℕ → ℕ → Bool
unfolding reaches
subtype classes a b = reaches (length classes) classes a b

-- ---- by `extends` alone

unfoldable pub extended_by : Option Class → Option ℕ
extended_by None = None
extended_by (Some c) = c.extends

unfoldable pub extends_within : ℕ → List Class → Option ℕ → ℕ → Bool
unfolding extended_by
extends_within n classes None b = false
extends_within zero classes (Some a) b = nat_eq a b
extends_within (suc n) classes (Some a) b = nat_eq a b || extends_within n classes (extended_by (slice_get classes a)) b

-- b is a, or is reached from a by a chain of extends
unfoldable pub extends : List Class → ℕ → ℕ → Bool
unfolding extends_within
extends classes a b = extends_within (length classes) classes (Some a) b

-- ---- types

-- an object of this class is of this type: of every unknown one, and of one with a class that is
-- an ancestor of its own. What kind of object it is doesn't count here.
unfoldable pub instance_of : List Class → ℕ → TypeSet → Bool
unfolding subtype
instance_of classes c t = t.unknown || list_any (λ d. subtype classes c d) t.classes

-- the same by the relation
abbrev pub IsInstance : List Class → ℕ → TypeSet → Type 0
IsInstance classes c t = (t.unknown ≡ true) ⊎ ((d : ℕ) × Contains t.classes d × Ancestor classes c d)
