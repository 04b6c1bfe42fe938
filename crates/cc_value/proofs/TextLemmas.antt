-- Texts compared unit by unit.
use Rattle.std.proofs.Common.{◌≡◌, ◌≢◌, ℕ, zero, suc, ◌<◌, ◌≤◌, true, false, ◌&&◌, eqb, ltb, List, [], ◌∷◌, length, get_or, refl, arith}
use Rattle.std.proofs.lemmas.Bool.{and_from, and_left, and_right, or_left, or_right, or_from, eq-eqb, ne_eqb, lt-ltb, le-ltb}
use Rattle.cc_meaning.specs.Operators.{list_eq, text_less}

pub equal_all : (s t : List ℕ) → length s ≡ length t → ((k : ℕ) → k < length s → get_or s k 0 ≡ get_or t k 0) → list_eq s t ≡ true
unfolding list_eq
equal_all [] [] e same = refl
equal_all [] (y ∷ ys) e same = absurd (omega arith)
equal_all (x ∷ xs) [] e same = absurd (omega arith)
equal_all (x ∷ xs) (y ∷ ys) e same = and_from (eqb x y) (list_eq xs ys) (eq-eqb x y (same 0 (omega arith))) (equal_all xs ys (omega arith) (λ k h. same (suc k) (omega arith)))

pub equal_lengths : (s t : List ℕ) → length s ≢ length t → list_eq s t ≡ false
unfolding list_eq
equal_lengths [] [] k = absurd (k refl)
equal_lengths [] (y ∷ ys) k = refl
equal_lengths (x ∷ xs) [] k = refl
equal_lengths (x ∷ xs) (y ∷ ys) k = and_right (eqb x y) (list_eq xs ys) (equal_lengths xs ys (omega arith))

pub equal_differs : (s t : List ℕ) (k : ℕ) → k < length s → k < length t → get_or s k 0 ≢ get_or t k 0 → list_eq s t ≡ false
unfolding list_eq
equal_differs [] t k h j d = absurd (omega arith)
equal_differs (x ∷ xs) [] k h j d = absurd (omega arith)
equal_differs (x ∷ xs) (y ∷ ys) zero h j d = and_left (eqb x y) (list_eq xs ys) (ne_eqb x y d)
equal_differs (x ∷ xs) (y ∷ ys) (suc k) h j d = and_right (eqb x y) (list_eq xs ys) (equal_differs xs ys k (omega arith) (omega arith) d)

-- the units below a place are the same
pub record SameBelow (s t : List ℕ) (n : ℕ) : Type 0 where
  pub within : n ≤ length s
  pub same : (k : ℕ) → k < n → get_or s k 0 ≡ get_or t k 0

rest_same : (x y : ℕ) (xs ys : List ℕ) (n : ℕ) → SameBelow (x ∷ xs) (y ∷ ys) (suc n) → SameBelow xs ys n
rest_same x y xs ys n b = record { within = let h = b.within in omega arith; same = λ k h. b.same (suc k) (omega arith) }

pub less_shorter : (s t : List ℕ) → length s < length t → SameBelow s t (length s) → text_less s t ≡ true
unfolding text_less
less_shorter s [] h b = absurd (omega arith)
less_shorter [] (y ∷ ys) h b = refl
less_shorter (x ∷ xs) (y ∷ ys) h b = or_right (ltb x y) (eqb x y && text_less xs ys) (and_from (eqb x y) (text_less xs ys) (eq-eqb x y (b.same 0 (omega arith))) (less_shorter xs ys (omega arith) (rest_same x y xs ys (length xs) b)))

pub less_smaller : (s t : List ℕ) (n : ℕ) → n < length s → n < length t → SameBelow s t n → get_or s n 0 < get_or t n 0 → text_less s t ≡ true
unfolding text_less
less_smaller s [] n h j b d = absurd (omega arith)
less_smaller [] (y ∷ ys) n h j b d = absurd (omega arith)
less_smaller (x ∷ xs) (y ∷ ys) zero h j b d = or_left (ltb x y) (eqb x y && text_less xs ys) (lt-ltb x y d)
less_smaller (x ∷ xs) (y ∷ ys) (suc n) h j b d = or_right (ltb x y) (eqb x y && text_less xs ys) (and_from (eqb x y) (text_less xs ys) (eq-eqb x y (b.same 0 (omega arith))) (less_smaller xs ys n (omega arith) (omega arith) (rest_same x y xs ys n b) d))

pub less_greater : (s t : List ℕ) (n : ℕ) → n < length s → n < length t → SameBelow s t n → get_or t n 0 < get_or s n 0 → text_less s t ≡ false
unfolding text_less
less_greater s [] n h j b d = absurd (omega arith)
less_greater [] (y ∷ ys) n h j b d = absurd (omega arith)
less_greater (x ∷ xs) (y ∷ ys) zero h j b d = or_from (ltb x y) (eqb x y && text_less xs ys) (le-ltb x y (omega arith)) (and_left (eqb x y) (text_less xs ys) (ne_eqb x y (λ e. omega arith)))
less_greater (x ∷ xs) (y ∷ ys) (suc n) h j b d = let e = b.same 0 (omega arith) in or_from (ltb x y) (eqb x y && text_less xs ys) (le-ltb x y (omega arith)) (and_right (eqb x y) (text_less xs ys) (less_greater xs ys n (omega arith) (omega arith) (rest_same x y xs ys n b) d))

pub less_prefix : (s t : List ℕ) → length t ≤ length s → SameBelow s t (length t) → text_less s t ≡ false
unfolding text_less
less_prefix s [] h b = refl
less_prefix [] (y ∷ ys) h b = absurd (omega arith)
less_prefix (x ∷ xs) (y ∷ ys) h b = let e = b.same 0 (omega arith) in or_from (ltb x y) (eqb x y && text_less xs ys) (le-ltb x y (omega arith)) (and_right (eqb x y) (text_less xs ys) (less_prefix xs ys (omega arith) (rest_same x y xs ys (length ys) b)))
