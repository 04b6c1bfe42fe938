-- Places of frames and of globals, tied one by one.
use Rattle.std.proofs.Common.{◌≡◌, ◌≢◌, ◌⊎◌, inl, inr, ℕ, zero, suc, List, [], ◌∷◌, Option, Some, None, refl, sym, subst, ◌∙◌}
use Rattle.std.specs.Prelude.{slice_get, slice_set, replicate, is_some}
use Rattle.cc_meaning.specs.Values.{Val}
use Rattle.cc_meaning.specs.Store.{flat_option, arguments, fitted}
use Rattle.cc_tied.specs.Tied.{ListT, nil_t, cons_t, OptT, none_t, some_t}
use Rattle.cc_tied.proofs.Parts.{list_on, opt_as}
use Rattle.cc_tied.proofs.Lists.{place_cases, get_set_other}

-- places on both sides, and tied values, or none, in all but those that are apart
pub record Places (V : Val → Val → Type 0) (Apart : ℕ → Type 0) (xs ys : List (Option Val)) : Type 0 where
  pub count : (n : ℕ) → (Apart n → ⊥) → is_some (slice_get xs n) ≡ is_some (slice_get ys n)
  pub each : (n : ℕ) → (Apart n → ⊥) → OptT V (flat_option (slice_get xs n)) (flat_option (slice_get ys n))

set_count : (xs : List (Option Val)) (n : ℕ) (v : Option Val) (m : ℕ) → is_some (slice_get (slice_set xs n v) m) ≡ is_some (slice_get xs m)
set_count [] n v m = refl
set_count (x ∷ xs) zero v zero = refl
set_count (x ∷ xs) zero v (suc m) = refl
set_count (x ∷ xs) (suc n) v zero = refl
set_count (x ∷ xs) (suc n) v (suc m) = set_count xs n v m

pub places_more : {V V' : Val → Val → Type 0} {D : ℕ → Type 0} → ((a b : Val) → V a b → V' a b) → {xs ys : List (Option Val)} → Places V D xs ys → Places V' D xs ys
places_more f h = record { count = h.count; each = λ n d. opt_as f (h.each n d) }

module _ {V : Val → Val → Type 0} where
  set_here : (xs ys : List (Option Val)) (n : ℕ) → is_some (slice_get xs n) ≡ is_some (slice_get ys n) → (x y : Val) → V x y → OptT V (flat_option (slice_get (slice_set xs n (Some x)) n)) (flat_option (slice_get (slice_set ys n (Some y)) n))
  unfolding flat_option
  set_here [] [] n e x y h = none_t
  set_here [] (z ∷ ys) zero e x y h = absurd (cc)
  set_here [] (z ∷ ys) (suc n) e x y h = set_here [] ys n e x y h
  set_here (z ∷ xs) [] zero e x y h = absurd (cc)
  set_here (z ∷ xs) [] (suc n) e x y h = set_here xs [] n e x y h
  set_here (p ∷ xs) (q ∷ ys) zero e x y h = some_t h
  set_here (p ∷ xs) (q ∷ ys) (suc n) e x y h = set_here xs ys n e x y h

  -- ---- places that are new

  list_count : {xs ys : List (Option Val)} → ListT (OptT V) xs ys → (n : ℕ) → is_some (slice_get xs n) ≡ is_some (slice_get ys n)
  list_count nil_t n = refl
  list_count (cons_t h t) zero = refl
  list_count (cons_t h t) (suc n) = list_count t n

  list_each : {xs ys : List (Option Val)} → ListT (OptT V) xs ys → (n : ℕ) → OptT V (flat_option (slice_get xs n)) (flat_option (slice_get ys n))
  unfolding flat_option
  list_each nil_t n = none_t
  list_each (cons_t h t) zero = h
  list_each (cons_t h t) (suc n) = list_each t n

  arguments_tied : (p : ℕ) {vs ws : List Val} → ListT V vs ws → ListT (OptT V) (arguments p vs) (arguments p ws)
  unfolding arguments
  arguments_tied zero h = nil_t
  arguments_tied (suc p) nil_t = cons_t none_t (arguments_tied p nil_t)
  arguments_tied (suc p) (cons_t h t) = cons_t (some_t h) (arguments_tied p t)

  unset_tied : (n : ℕ) → ListT (OptT V) (replicate n None) (replicate n None)
  unset_tied zero = nil_t
  unset_tied (suc n) = cons_t none_t (unset_tied n)

module _ {V : Val → Val → Type 0} {D : ℕ → Type 0} where
  set_one : (xs ys : List (Option Val)) → Places V D xs ys → (n m : ℕ) {x y : Val} → V x y → (D m → ⊥) → (n ≡ m) ⊎ (n ≢ m) → OptT V (flat_option (slice_get (slice_set xs n (Some x)) m)) (flat_option (slice_get (slice_set ys n (Some y)) m))
  set_one xs ys h n m v d (inl e) = rw (← e) (set_here xs ys n (h.count n (λ k. d (subst (λ z. D z) e k))) _ _ v)
  set_one xs ys h n m {x = x} {y = y} v d (inr e) = rw (get_set_other xs n m (Some x) e, get_set_other ys n m (Some y) e) (h.each m d)

  -- both set a place
  pub places_set : {xs ys : List (Option Val)} → Places V D xs ys → (n : ℕ) {x y : Val} → V x y → Places V D (slice_set xs n (Some x)) (slice_set ys n (Some y))
  places_set {xs = xs} {ys = ys} h n {x = x} {y = y} v = record { count = λ m d. set_count xs n (Some x) m ∙ h.count m d ∙ sym (set_count ys n (Some y) m); each = λ m d. set_one xs ys h n m v d (place_cases n m) }

  left_one : (xs ys : List (Option Val)) → Places V D xs ys → (n m : ℕ) (x : Val) → D n → (D m → ⊥) → (n ≡ m) ⊎ (n ≢ m) → OptT V (flat_option (slice_get (slice_set xs n (Some x)) m)) (flat_option (slice_get ys m))
  left_one xs ys h n m x dn d (inl e) = absurd (d (rw (← e) dn))
  left_one xs ys h n m x dn d (inr e) = rw (get_set_other xs n m (Some x) e) (h.each m d)

  -- the left run alone sets a place that is apart
  pub places_left : {xs ys : List (Option Val)} → Places V D xs ys → (n : ℕ) (x : Val) → D n → Places V D (slice_set xs n (Some x)) ys
  places_left {xs = xs} {ys = ys} h n x dn = record { count = λ m d. set_count xs n (Some x) m ∙ h.count m d; each = λ m d. left_one xs ys h n m x dn d (place_cases n m) }

  pub places_of_list : {xs ys : List (Option Val)} → ListT (OptT V) xs ys → Places V D xs ys
  places_of_list h = record { count = λ n d. list_count h n; each = λ n d. list_each h n }

  -- the places of a call
  pub fitted_tied : (p n : ℕ) {vs ws : List Val} → ListT V vs ws → Places V D (fitted p n vs) (fitted p n ws)
  unfolding fitted
  fitted_tied p n h = places_of_list (list_on (arguments_tied p h) (unset_tied n))
