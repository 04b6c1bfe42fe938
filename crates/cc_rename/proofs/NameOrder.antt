-- Names by number: each number has a name of its own.
use Rattle.std.proofs.Common.{◌≡◌, ◌≢◌, ◌⊎◌, inl, inr, ℕ, zero, suc, ◌-◌, ◌/◌, ◌%◌, ◌<◌, ◌≤◌, Bool, true, false, ◌&&◌, nat_eq, nat_lt, List, [], ◌∷◌, ◌++◌, length, cond, slice_index, refl, sym, ap, ◌∙◌, arith, eqb, eq-eqb, eqb-true, length-append}
use Rattle.std.proofs.lemmas.Bool.Decides.{nat_tests}
use Rattle.std.proofs.lemmas.List.{same_from_push}
use Rattle.std.specs.List.{position_or_len}
use Rattle.cc_rename.specs.Order.{characters, name_within, nth_name}

-- equal, or not
abbrev pub SameOrNot : ℕ → ℕ → Type 0
SameOrNot x y = (x ≡ y) ⊎ (x ≢ y)

pub same_or_not : (x y : ℕ) → SameOrNot x y
same_or_not x y = by (eqb x y) refl where
  by : (b : Bool) → eqb x y ≡ b → SameOrNot x y
  by true e = inl (eqb-true x y e)
  by false e = inr (λ s. let t : eqb x y ≡ true = eq-eqb x y s in absurd (cc))

-- a test of each number below n
unfoldable pub all_below : (ℕ → Bool) → ℕ → Bool
all_below p zero = true
all_below p (suc n) = p n && all_below p n

both_left : (a b : Bool) → (a && b) ≡ true → a ≡ true
both_left true b h = refl
both_left false b h = h

both_right : (a b : Bool) → (a && b) ≡ true → b ≡ true
both_right true b h = h
both_right false b h = absurd (cc)

pub below_from_all : (p : ℕ → Bool) (n k : ℕ) → all_below p n ≡ true → k < n → p k ≡ true
unfolding all_below
below_from_all p zero k h l = absurd (omega arith)
below_from_all p (suc n) k h l = by (same_or_not k n) (below_from_all p n k (both_right (p n) (all_below p n) h)) where
  by : SameOrNot k n → (k < n → p k ≡ true) → p k ≡ true
  by (inl e) less = ap p e ∙ both_left (p n) (all_below p n) h
  by (inr n) less = less (omega arith)

-- the place of a character
place : ℕ → ℕ
place c = position_or_len (nat_eq c) characters

place-character : (k : ℕ) → k < 64 → place (slice_index characters k) ≡ k
unfolding place all_below
place-character k l = eqb-true _ _ (below_from_all (λ j. nat_eq (place (slice_index characters j)) j) 64 k refl l)

same_character : (j k : ℕ) → j < 64 → k < 64 → slice_index characters j ≡ slice_index characters k → j ≡ k
same_character j k l m e = sym (place-character j l) ∙ ap place e ∙ place-character k m

-- ---- how the name with a number is made

first_is : (n k : ℕ) → k < 54 → name_within (suc n) k ≡ slice_index characters k ∷ []
unfolding name_within
first_is n k l = by (nat_lt k 54) refl where
  by : (b : Bool) → nat_lt k 54 ≡ b → cond b (slice_index characters k ∷ []) (name_within n ((k - 54) / 64) ++ slice_index characters ((k - 54) % 64) ∷ []) ≡ slice_index characters k ∷ []
  by true e = refl
  by false e = absurd (grind (arith, nat_tests))

later_is : (n k : ℕ) → 54 ≤ k → name_within (suc n) k ≡ name_within n ((k - 54) / 64) ++ slice_index characters ((k - 54) % 64) ∷ []
unfolding name_within
later_is n k l = by (nat_lt k 54) refl where
  by : (b : Bool) → nat_lt k 54 ≡ b → cond b (slice_index characters k ∷ []) (name_within n ((k - 54) / 64) ++ slice_index characters ((k - 54) % 64) ∷ []) ≡ name_within n ((k - 54) / 64) ++ slice_index characters ((k - 54) % 64) ∷ []
  by true e = absurd (grind (arith, nat_tests))
  by false e = refl

-- first, or later
abbrev pub Cases : ℕ → Type 0
Cases k = (k < 54) ⊎ (54 ≤ k)

pub cases : (k : ℕ) → Cases k
cases k = by (nat_lt k 54) refl where
  by : (b : Bool) → nat_lt k 54 ≡ b → Cases k
  by true e = inl (grind (arith, nat_tests))
  by false e = inr (grind (arith, nat_tests))

less : (n k : ℕ) → k < suc n → 54 ≤ k → (k - 54) / 64 < n
less n k h l = omega arith

-- with room for more characters it is the same
pub any_room : (n m k : ℕ) → k < n → k < m → name_within n k ≡ name_within m k
any_room zero m k h g = absurd (omega arith)
any_room (suc n) zero k h g = absurd (omega arith)
any_room (suc n) (suc m) k h g = by (cases k) (λ l. any_room n m ((k - 54) / 64) (less n k h l) (less m k g l)) where
  by : Cases k → (54 ≤ k → name_within n ((k - 54) / 64) ≡ name_within m ((k - 54) / 64)) → name_within (suc n) k ≡ name_within (suc m) k
  by (inl l) go = first_is n k l ∙ sym (first_is m k l)
  by (inr l) go = later_is n k l ∙ ap (λ x. x ++ slice_index characters ((k - 54) % 64) ∷ []) (go l) ∙ sym (later_is m k l)

pub first_name : (k : ℕ) → k < 54 → nth_name k ≡ slice_index characters k ∷ []
first_name k l = first_is k k l

pub later_name : (k : ℕ) → 54 ≤ k → nth_name k ≡ nth_name ((k - 54) / 64) ++ slice_index characters ((k - 54) % 64) ∷ []
later_name k l = later_is k k l ∙ ap (λ x. x ++ slice_index characters ((k - 54) % 64) ∷ []) (any_room k (suc ((k - 54) / 64)) ((k - 54) / 64) (less k k (omega arith) l) (omega arith))

long : (n k : ℕ) → k < n → 1 ≤ length (name_within n k)
long zero k h = absurd (omega arith)
long (suc n) k h = by (cases k) where
  by : Cases k → 1 ≤ length (name_within (suc n) k)
  by (inl l) = omega (arith, ap length (first_is n k l))
  by (inr l) = omega (arith, ap length (later_is n k l), length-append (name_within n ((k - 54) / 64)) (slice_index characters ((k - 54) % 64) ∷ []))

one_apart : (j : ℕ) (xs : List ℕ) (c : ℕ) → 1 ≤ length xs → slice_index characters j ∷ [] ≡ xs ++ c ∷ [] → ⊥
one_apart j xs c h e = omega (arith, ap length e, length-append xs (c ∷ []))

once : (n m j k : ℕ) → j < n → k < m → name_within n j ≡ name_within m k → j ≡ k
once zero m j k h g e = absurd (omega arith)
once (suc n) zero j k h g e = absurd (omega arith)
once (suc n) (suc m) j k h g e = by (cases j) (cases k) (λ l r q. once n m ((j - 54) / 64) ((k - 54) / 64) (less n j h l) (less m k g r) q) where
  by : Cases j → Cases k → (54 ≤ j → 54 ≤ k → name_within n ((j - 54) / 64) ≡ name_within m ((k - 54) / 64) → (j - 54) / 64 ≡ (k - 54) / 64) → j ≡ k
  by (inl l) (inl r) go = let q = sym (first_is n j l) ∙ e ∙ first_is m k r in let s : slice_index characters j ≡ slice_index characters k = cc in same_character j k (omega (arith, l)) (omega (arith, r)) s
  by (inl l) (inr r) go = absurd (one_apart j (name_within m ((k - 54) / 64)) (slice_index characters ((k - 54) % 64)) (long m ((k - 54) / 64) (less m k g r)) (sym (first_is n j l) ∙ e ∙ later_is m k r))
  by (inr l) (inl r) go = absurd (one_apart k (name_within n ((j - 54) / 64)) (slice_index characters ((j - 54) % 64)) (long n ((j - 54) / 64) (less n j h l)) (sym (first_is m k r) ∙ sym e ∙ later_is n j l))
  by (inr l) (inr r) go =
      let q = sym (later_is n j l) ∙ e ∙ later_is m k r in
      let parts = same_from_push (name_within n ((j - 54) / 64)) (name_within m ((k - 54) / 64)) (slice_index characters ((j - 54) % 64)) (slice_index characters ((k - 54) % 64)) q in
      let before = go l r parts.0 in
      let last = same_character ((j - 54) % 64) ((k - 54) % 64) (omega arith) (omega arith) parts.1 in
      omega (arith, before, last, l, r)

pub name_once : (j k : ℕ) → nth_name j ≡ nth_name k → j ≡ k
name_once j k e = once (suc j) (suc k) j k (omega arith) (omega arith) e
