-- Lists by places.
use Rattle.std.proofs.Common.{◌≡◌, ◌≢◌, ◌⊎◌, inl, inr, ℕ, zero, suc, List, [], ◌∷◌, ◌++◌, length, Option, Some, refl, ap}
use Rattle.std.specs.Prelude.{slice_get, slice_set}
use Rattle.cc_tied.specs.Tied.{OptT, none_t, some_t, ListT, nil_t, cons_t}

-- one number, or two
pub place_cases : (m n : ℕ) → (m ≡ n) ⊎ (m ≢ n)
place_cases zero zero = inl refl
place_cases zero (suc n) = inr (λ e. absurd (cc))
place_cases (suc m) zero = inr (λ e. absurd (cc))
place_cases (suc m) (suc n) = up (place_cases m n)
  where
    up : (m ≡ n) ⊎ (m ≢ n) → (suc m ≡ suc n) ⊎ (suc m ≢ suc n)
    up (inl e) = inl (ap suc e)
    up (inr f) = inr (λ e. f (cc))

pub get_old : {A : Type 0} (xs ys : List A) (i : ℕ) (x : A) → slice_get xs i ≡ Some x → slice_get (xs ++ ys) i ≡ Some x
get_old [] ys i x e = absurd (cc)
get_old (z ∷ xs) ys zero x e = e
get_old (z ∷ xs) ys (suc i) x e = get_old xs ys i x e

pub get_new : {A : Type 0} (xs : List A) (y : A) → slice_get (xs ++ y ∷ []) (length xs) ≡ Some y
get_new [] y = refl
get_new (x ∷ xs) y = get_new xs y

pub get_set_same : {A : Type 0} (xs : List A) (i : ℕ) (x y : A) → slice_get xs i ≡ Some x → slice_get (slice_set xs i y) i ≡ Some y
get_set_same [] i x y e = absurd (cc)
get_set_same (z ∷ xs) zero x y e = refl
get_set_same (z ∷ xs) (suc i) x y e = get_set_same xs i x y e

pub get_set_other : {A : Type 0} (xs : List A) (i j : ℕ) (y : A) → i ≢ j → slice_get (slice_set xs i y) j ≡ slice_get xs j
get_set_other [] i j y n = refl
get_set_other (z ∷ xs) zero zero y n = absurd (n refl)
get_set_other (z ∷ xs) zero (suc j) y n = refl
get_set_other (z ∷ xs) (suc i) zero y n = refl
get_set_other (z ∷ xs) (suc i) (suc j) y n = get_set_other xs i j y (λ e. n (ap suc e))

module _ {A B : Type 0} {R : A → B → Type 0} where
  pub tied_get : {xs : List A} {ys : List B} → ListT R xs ys → (i : ℕ) → OptT R (slice_get xs i) (slice_get ys i)
  tied_get nil_t i = none_t
  tied_get (cons_t h t) zero = some_t h
  tied_get (cons_t h t) (suc i) = tied_get t i

  pub tied_set : {xs : List A} {ys : List B} {a : A} {b : B} → ListT R xs ys → R a b → (i : ℕ) → ListT R (slice_set xs i a) (slice_set ys i b)
  tied_set nil_t r i = nil_t
  tied_set (cons_t h t) r zero = cons_t r t
  tied_set (cons_t h t) r (suc i) = cons_t h (tied_set t r i)

  pub tied_push : {xs : List A} {ys : List B} {a : A} {b : B} → ListT R xs ys → R a b → ListT R (xs ++ a ∷ []) (ys ++ b ∷ [])
  tied_push nil_t r = cons_t r nil_t
  tied_push (cons_t h t) r = cons_t h (tied_push t r)

  pub tied_length : {xs : List A} {ys : List B} → ListT R xs ys → length xs ≡ length ys
  tied_length nil_t = refl
  tied_length (cons_t h t) = ap suc (tied_length t)

  pub tied_more : {S : A → B → Type 0} → ((a : A) (b : B) → R a b → S a b) → {xs : List A} {ys : List B} → ListT R xs ys → ListT S xs ys
  tied_more f nil_t = nil_t
  tied_more f (cons_t {a = a} {b = b} h t) = cons_t (f a b h) (tied_more f t)

  pub opt_more : {S : A → B → Type 0} → ((a : A) (b : B) → R a b → S a b) → {x : Option A} {y : Option B} → OptT R x y → OptT S x y
  opt_more f none_t = none_t
  opt_more f (some_t {a = a} {b = b} h) = some_t (f a b h)
