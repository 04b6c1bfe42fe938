-- Lists of which some elements are dropped.
use Rattle.std.proofs.Common.{◌≡◌, ℕ, zero, suc, List, [], ◌∷◌, ◌++◌, Some, ap}
use Rattle.std.specs.Prelude.{slice_get}
use Rattle.cc_meaning.specs.Alike.{In, here, there}
use Rattle.cc_meaning.specs.WellMade.{IsDistinct}

-- the first is the second with some elements dropped
pub data Sublist {A : Type 0} : List A → List A → Type 0 where
  sub_none : Sublist [] []
  sub_kept : {x : A} {xs ys : List A} → Sublist xs ys → Sublist (x ∷ xs) (x ∷ ys)
  sub_dropped : {y : A} {xs ys : List A} → Sublist xs ys → Sublist xs (y ∷ ys)

module _ {A : Type 0} where
  pub sub_same : (xs : List A) → Sublist xs xs
  sub_same [] = sub_none
  sub_same (x ∷ xs) = sub_kept (sub_same xs)

  pub sub_nothing : (ys : List A) → Sublist [] ys
  sub_nothing [] = sub_none
  sub_nothing (y ∷ ys) = sub_dropped (sub_nothing ys)

  pub sub_after : (xs : List A) {us vs : List A} → Sublist us vs → Sublist us (xs ++ vs)
  sub_after [] s = s
  sub_after (x ∷ xs) s = sub_dropped (sub_after xs s)

  pub sub_before : (ys : List A) {xs us : List A} → Sublist xs us → Sublist xs (us ++ ys)
  sub_before ys sub_none = sub_nothing ys
  sub_before ys (sub_kept s) = sub_kept (sub_before ys s)
  sub_before ys (sub_dropped s) = sub_dropped (sub_before ys s)

  pub sub_both : {xs ys us vs : List A} → Sublist xs us → Sublist ys vs → Sublist (xs ++ ys) (us ++ vs)
  sub_both sub_none t = t
  sub_both (sub_kept s) t = sub_kept (sub_both s t)
  sub_both (sub_dropped s) t = sub_dropped (sub_both s t)

  pub sub_through : {ys zs : List A} → Sublist ys zs → {xs : List A} → Sublist xs ys → Sublist xs zs
  sub_through sub_none s = s
  sub_through (sub_kept t) (sub_kept s) = sub_kept (sub_through t s)
  sub_through (sub_kept t) (sub_dropped s) = sub_dropped (sub_through t s)
  sub_through (sub_dropped t) s = sub_dropped (sub_through t s)

  pub sub_in : {x : A} {xs ys : List A} → Sublist xs ys → In x xs → In x ys
  sub_in (sub_kept s) here = here
  sub_in (sub_kept s) (there i) = there (sub_in s i)
  sub_in (sub_dropped s) i = there (sub_in s i)
  sub_in sub_none i = i

  -- where a place of the lesser list is in the greater one
  place_in : {xs ys : List A} → Sublist xs ys → ℕ → ℕ
  place_in sub_none i = i
  place_in (sub_kept s) zero = zero
  place_in (sub_kept s) (suc i) = suc (place_in s i)
  place_in (sub_dropped s) i = suc (place_in s i)

  placed : {xs ys : List A} (s : Sublist xs ys) (i : ℕ) (x : A) → slice_get xs i ≡ Some x → slice_get ys (place_in s i) ≡ Some x
  unfolding place_in
  placed sub_none i x e = e
  placed (sub_kept s) zero x e = e
  placed (sub_kept s) (suc i) x e = placed s i x e
  placed (sub_dropped s) i x e = placed s i x e

  place_once : {xs ys : List A} (s : Sublist xs ys) (i j : ℕ) → place_in s i ≡ place_in s j → i ≡ j
  unfolding place_in
  place_once sub_none i j e = e
  place_once (sub_kept s) zero zero e = e
  place_once (sub_kept s) zero (suc j) e = absurd (cc)
  place_once (sub_kept s) (suc i) zero e = absurd (cc)
  place_once (sub_kept s) (suc i) (suc j) e = ap suc (place_once s i j (cc))
  place_once (sub_dropped s) i j e = place_once s i j (cc)

  pub sub_distinct : {xs ys : List A} → Sublist xs ys → IsDistinct ys → IsDistinct xs
  sub_distinct s d = λ i j x e h. place_once s i j (d (place_in s i) (place_in s j) x (placed s i x e) (placed s j x h))
