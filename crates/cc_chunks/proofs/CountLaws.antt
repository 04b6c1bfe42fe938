-- How many numbers below another are of a kind.
use Rattle.std.proofs.Common.{◌≡◌, ℕ, zero, suc, ◌+◌, ◌-◌, ◌<◌, ◌≤◌, ◌↔◌, refl, sym, ap, subst, arith, add-one}
use Rattle.cc_chunks.specs.Graph.{CountBelow, nothing, one_more, no_more}

module _ (P : ℕ → Type 0) where
  pub count-yes : (n k : ℕ) → P n → CountBelow P n k → CountBelow P (n + 1) (k + 1)
  count-yes n k h c = rw add-one (rw add-one (one_more h c))

  pub count-no : (n k : ℕ) → ¬ P n → CountBelow P n k → CountBelow P (n + 1) k
  count-no n k h c = rw add-one (no_more h c)

  pub count-to : (n m k : ℕ) → m ≡ n → CountBelow P n k → CountBelow P m k
  count-to n m k e c = subst (λ i. CountBelow P i k) (sym e) c

  -- none of the kind is from i on
  pub count-beyond : (i d k : ℕ) → ((j : ℕ) → P j → j < i) → CountBelow P i k → CountBelow P (i + d) k
  count-beyond i zero k small c = count-to i (i + zero) k (omega arith) c
  count-beyond i (suc d) k small c =
      let step : CountBelow P (suc (i + d)) k = no_more (λ h. let below = small (i + d) h in absurd (omega (arith, below))) (count-beyond i d k small c) in
      count-to (suc (i + d)) (i + suc d) k (omega arith) step

  -- there is one count alone
  pub count-one : (n k l : ℕ) → CountBelow P n k → CountBelow P n l → k ≡ l
  count-one zero zero zero nothing nothing = refl
  count-one zero zero (suc l) c d = elim d [ ]
  count-one zero (suc k) l c d = elim c [ ]
  count-one (suc n) (suc k) (suc l) (one_more h c) (one_more i d) = ap suc (count-one n k l c d)
  count-one (suc n) (suc k) l (one_more h c) (no_more i d) = absurd (i h)
  count-one (suc n) k (suc l) (no_more h c) (one_more i d) = absurd (h i)
  count-one (suc n) k l (no_more h c) (no_more i d) = count-one n k l c d

-- two kinds that are one below n have one count
pub count-same : (P Q : ℕ → Type 0) (n k : ℕ) → ((j : ℕ) → j < n → P j ↔ Q j) → CountBelow P n k → CountBelow Q n k
count-same P Q zero zero same nothing = nothing
count-same P Q zero (suc k) same c = elim c [ ]
count-same P Q (suc n) (suc k) same (one_more h c) = one_more ((same n (omega arith)).0 h) (count-same P Q n k (λ j low. same j (omega (arith, low))) c)
count-same P Q (suc n) k same (no_more h c) = no_more (λ q. h ((same n (omega arith)).1 q)) (count-same P Q n k (λ j low. same j (omega (arith, low))) c)

-- ---- other ends

count-before : (P : ℕ → Type 0) (n k : ℕ) → ¬ P n → CountBelow P (suc n) k → CountBelow P n k
count-before P n (suc k) not (one_more h c) = absurd (not h)
count-before P n k not (no_more h c) = c

count-below : (P : ℕ → Type 0) (i d k : ℕ) → ((j : ℕ) → P j → j < i) → CountBelow P (i + d) k → CountBelow P i k
count-below P i zero k small c = count-to P (i + zero) i k (omega arith) c
count-below P i (suc d) k small c =
    let not : ¬ P (i + d) = λ h. let below = small (i + d) h in omega (arith, below) in
    count-below P i d k small (count-before P (i + d) k not (count-to P (i + suc d) (suc (i + d)) k (omega arith) c))

-- the end doesn't count where none of the kind is from i on
pub count-moved : (P : ℕ → Type 0) (i a b k : ℕ) → ((j : ℕ) → P j → j < i) → i ≤ a → i ≤ b → CountBelow P a k → CountBelow P b k
count-moved P i a b k small low high c =
    count-to P (i + (b - i)) b k (omega (arith, high))
    (count-beyond P i (b - i) k small (count-below P i (a - i) k small (count-to P a (i + (a - i)) k (omega (arith, low)) c)))

-- ---- one range after the other

count-value : (P : ℕ → Type 0) (n k l : ℕ) → l ≡ k → CountBelow P n k → CountBelow P n l
count-value P n k l e c = subst (CountBelow P n) (sym e) c

pub count-append : (P : ℕ → Type 0) (a n b k : ℕ) → CountBelow P a n → CountBelow (λ i. P (a + i)) b k → CountBelow P (a + b) (n + k)
count-append P a n zero zero c nothing = count-to P a (a + zero) (n + zero) (omega arith) (count-value P a n (n + zero) (omega arith) c)
count-append P a n zero (suc k) c d = elim d [ ]
count-append P a n (suc b) (suc k) c (one_more h d) =
    count-to P (suc (a + b)) (a + suc b) (n + suc k) (omega arith) (count-value P (suc (a + b)) (suc (n + k)) (n + suc k) (omega arith) (one_more h (count-append P a n b k c d)))
count-append P a n (suc b) k c (no_more h d) =
    count-to P (suc (a + b)) (a + suc b) (n + k) (omega arith) (no_more h (count-append P a n b k c d))
