-- Tables of two runs, tied by a partial one-to-one relation of their places.
use Rattle.std.specs.Prelude.{◌≡◌, ℕ, List, Option, Some, slice_get}
use Rattle.cc_meaning.specs.Alike.{In}

-- a left place, a right place, and what never changes there
pub record Pair (X : Type 0) : Type 0 where
  pub label : X
  pub left : ℕ
  pub right : ℕ

-- a place of the left run alone, and what is known of its entry
pub record Lone (Y : Type 0) : Type 0 where
  pub place : ℕ
  pub entry : Y

-- there is an entry, and this holds of it
pub data Holds {A : Type 0} (Z : A → Type 0) : Option A → Type 0 where
  holds : {a : A} → Z a → Holds Z (Some a)

-- there are two entries, and they are tied
pub data Both {A : Type 0} (R : A → A → Type 0) : Option A → Option A → Type 0 where
  both : {a b : A} → R a b → Both R (Some a) (Some b)

-- The entries of each pair are tied by R at its label, and what is known of an entry of the left
-- alone holds by Z: where Z is equality the entry is frozen, where it asks nothing the entry is free.
-- Of entries that stand in no pair and are not listed nothing is known.
pub record Table {X Y A : Type 0} (R : X → A → A → Type 0) (Z : Y → A → Type 0) (w : List (Pair X)) (z : List (Lone Y)) (xs ys : List A) : Type 0 where
  pub tied : (p : Pair X) → In p w → Both (R p.label) (slice_get xs p.left) (slice_get ys p.right)
  pub left_one : (p q : Pair X) → In p w → In q w → p.left ≡ q.left → p ≡ q
  pub right_one : (p q : Pair X) → In p w → In q w → p.right ≡ q.right → p ≡ q
  pub lone : (a : Lone Y) → In a z → Holds (Z a.entry) (slice_get xs a.place)
  pub apart : (a : Lone Y) (p : Pair X) → In a z → In p w → a.place ≡ p.left → ⊥
