-- Laws of names by number: one name for each number, one number for each name, and all are ASCII.
use Rattle.std.proofs.Common.{◌≡◌, ◌≢◌, ◌⊎◌, inl, inr, ℕ, zero, suc, ◌+◌, ◌*◌, ◌<◌, ◌≤◌, Bool, true, false, ◌&&◌, nat_eq, nat_lt, List, [], ◌∷◌, ◌++◌, length, slice_index, IsAscii, refl, sym, ap, ap₂, ◌∙◌, subst, arith, eqb, eq-eqb, eqb-true, ltb-true, length-append}
use Rattle.std.proofs.lemmas.List.{same_from_push}
use Rattle.std.proofs.lemmas.Str.{IsAscii-append}
use Rattle.std.specs.List.{position_or_len}
use Rattle.cc_driver.specs.Naming.{NameNumber, characters}
use Rattle.cc_driver.specs.Naming as naming

-- equal, or not
abbrev pub SameOrNot : ℕ → ℕ → Type 0
SameOrNot x y = (x ≡ y) ⊎ (x ≢ y)

pub same_or_not : (x y : ℕ) → SameOrNot x y
same_or_not x y = by (eqb x y) refl
  where
    by : (b : Bool) → eqb x y ≡ b → SameOrNot x y
    by true e = inl (eqb-true x y e)
    by false e = inr (λ s. let t : eqb x y ≡ true = eq-eqb x y s in absurd (cc))

-- a test of each number below n
all_below : (ℕ → Bool) → ℕ → Bool
all_below p zero = true
all_below p (suc n) = p n && all_below p n

both_left : (a b : Bool) → (a && b) ≡ true → a ≡ true
both_left true b h = refl
both_left false b h = h

both_right : (a b : Bool) → (a && b) ≡ true → b ≡ true
both_right true b h = h
both_right false b h = absurd (cc)

below_from_all : (p : ℕ → Bool) (n k : ℕ) → all_below p n ≡ true → k < n → p k ≡ true
unfolding all_below
below_from_all p zero k h l = absurd (omega arith)
below_from_all p (suc n) k h l = by (same_or_not k n) (below_from_all p n k (both_right (p n) (all_below p n) h))
  where
    by : SameOrNot k n → (k < n → p k ≡ true) → p k ≡ true
    by (inl e) less = ap p e ∙ both_left (p n) (all_below p n) h
    by (inr n) less = less (omega arith)

-- the place of a character
place : ℕ → ℕ
place c = position_or_len (nat_eq c) characters

place-character : (k : ℕ) → k < 64 → place (slice_index characters k) ≡ k
unfolding place all_below
place-character k l = eqb-true _ _ (below_from_all (λ j. nat_eq (place (slice_index characters j)) j) 64 k refl l)

pub same_character : (j k : ℕ) → j < 64 → k < 64 → slice_index characters j ≡ slice_index characters k → j ≡ k
same_character j k l m e = sym (place-character j l) ∙ ap place e ∙ place-character k m

character-ASCII : (k : ℕ) → k < 64 → slice_index characters k < 128
unfolding all_below
character-ASCII k l = ltb-true _ _ (below_from_all (λ j. nat_lt (slice_index characters j) 128) 64 k refl l)

one-ASCII : (c : ℕ) → c < 128 → IsAscii (c ∷ [])
one-ASCII c l zero = l
one-ASCII c l (suc i) = omega arith

pub number-ASCII : {k : ℕ} {n : List ℕ} → NameNumber k n → IsAscii n
number-ASCII (naming.first_names {k = k} l) = one-ASCII (slice_index characters k) (character-ASCII k (omega arith))
number-ASCII (naming.longer_names {n = n} c x l) = IsAscii-append n (slice_index characters c ∷ []) (number-ASCII x) (one-ASCII (slice_index characters c) (character-ASCII c l))

pub number-long : {k : ℕ} {n : List ℕ} → NameNumber k n → 1 ≤ length n
number-long (naming.first_names l) = omega arith
number-long (naming.longer_names {n = n} c x l) = omega (arith, length-append n (slice_index characters c ∷ []))

pub name_once : {j k : ℕ} {n m : List ℕ} → NameNumber j n → NameNumber k m → j ≡ k → n ≡ m
name_once (naming.first_names l) (naming.first_names m) e = ap (λ x. slice_index characters x ∷ []) e
name_once (naming.first_names l) (naming.longer_names c x m) e = absurd (omega arith)
name_once (naming.longer_names c x l) (naming.first_names m) e = absurd (omega arith)
name_once (naming.longer_names {j = i} {n = n} c x l) (naming.longer_names {j = j} {n = m} d y k) e =
    let same : i ≡ j = omega arith in
    let last : c ≡ d = omega arith in
    ap₂ (λ p q. p ++ slice_index characters q ∷ []) (name_once x y same) last

pub number_once : {j k : ℕ} {n m : List ℕ} → NameNumber j n → NameNumber k m → n ≡ m → j ≡ k
number_once (naming.first_names {k = i} l) (naming.first_names {k = j} m) e =
    let same : slice_index characters i ≡ slice_index characters j = cc in
    same_character i j (omega arith) (omega arith) same
number_once (naming.first_names l) (naming.longer_names {n = m} c x k) e =
    absurd (omega (arith, ap length e, length-append m (slice_index characters c ∷ []), number-long x))
number_once (naming.longer_names {n = n} c x l) (naming.first_names m) e =
    absurd (omega (arith, ap length e, length-append n (slice_index characters c ∷ []), number-long x))
number_once (naming.longer_names {j = i} {n = n} c x l) (naming.longer_names {j = j} {n = m} d y k) e =
    let parts = same_from_push n m (slice_index characters c) (slice_index characters d) e in
    let before : i ≡ j = number_once x y parts.0 in
    let last : c ≡ d = same_character c d l k parts.1 in
    omega arith

-- as the code comes to them
pub first_number : (k : ℕ) (n : List ℕ) → k < 54 → n ≡ slice_index characters k ∷ [] → NameNumber k n
first_number k n l e = subst (NameNumber k) (sym e) (naming.first_names l)

pub longer_number : (k j c : ℕ) (n m : List ℕ) → k ≡ 54 + 64 * j + c → c < 64 → NameNumber j n → m ≡ n ++ slice_index characters c ∷ [] → NameNumber k m
longer_number k j c n m e l x f = subst (λ i. NameNumber i m) (sym e) (subst (NameNumber (54 + 64 * j + c)) (sym f) (naming.longer_names c x l))
