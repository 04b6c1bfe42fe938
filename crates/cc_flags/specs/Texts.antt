-- Texts of words, as bytes.
use Rattle.std.specs.Prelude.{ℕ, ◌+◌, List, [], ◌∷◌, ◌==◌, if◌then◌else◌, Option, Some, None, nat_eq, map, string_bytes}
use Rattle.std.specs.declared.string.String.{String}
use Rattle.std.specs.List.{starts_with}

abbrev pub texts : {A : Type 0} → List (String A) → List (List ℕ)
texts words = map (λ word. string_bytes word) words

-- what stands before the first c, or the whole text where there is none
unfoldable pub before : ℕ → List ℕ → List ℕ
before c [] = []
before c (x ∷ xs) = if x == c then [] else x ∷ before c xs

-- what stands behind the first c
unfoldable pub behind : ℕ → List ℕ → Option (List ℕ)
behind c [] = None
behind c (x ∷ xs) = if x == c then Some xs else behind c xs

-- the first of these pieces begins with x
abbrev pub begun_with : ℕ → List (List ℕ) → List (List ℕ)
begun_with x [] = (x ∷ []) ∷ []
begun_with x (piece ∷ pieces) = (x ∷ piece) ∷ pieces

-- the pieces of a text between which c stands
unfoldable pub pieces : ℕ → List ℕ → List (List ℕ)
pieces c [] = [] ∷ []
pieces c (x ∷ xs) = if x == c then [] ∷ pieces c xs else begun_with x (pieces c xs)

-- at how many places of a text the marker stands
unfoldable pub places : List ℕ → List ℕ → ℕ
places marker [] = 0
places marker (x ∷ xs) = (if starts_with nat_eq (x ∷ xs) marker then 1 else 0) + places marker xs
