-- The numbers of a set counted by the ones of its words.
use Rattle.std.proofs.Common.{◌≡◌, ℕ, zero, suc, ◌+◌, ◌*◌, ◌/◌, ◌%◌, ◌^◌, ◌<◌, ◌≤◌, List, get_or, IsTrue, refl, sym, ap, subst, ◌∙◌, inl, inr, arith, true≢false}
use Rattle.std.proofs.lemmas.Nat.{mod-pow-add, mod_below, pow_pos, ones_cat}
use Rattle.std.proofs.lemmas.Nat.Bits.{bit_at-lt}
use Rattle.std.proofs.lemmas.Bool.{cases_eq}
use Rattle.std.specs.Int.{bit_at}
use Rattle.std.specs.Prelude.{nat_eq}
use Rattle.std.specs.Int.Count.{ones}
use Rattle.cc_chunks.specs.Graph.{CountBelow, nothing, one_more, no_more}
use Rattle.cc_chunks.specs.Sets.{has, has_bit}
use Rattle.cc_chunks.proofs.CountLaws.{count-append, count-same, count-to}

ones-step : (w k : ℕ) → ones (w % 2 ^ (1 + k)) ≡ ones (bit_at w k) + ones (w % 2 ^ k)
ones-step w k = ap ones (mod-pow-add w 1 k) ∙ ones_cat k (bit_at w k) (w % 2 ^ k) (mod_below w (2 ^ k) (pow_pos k))

ones-bit : (b : ℕ) → b < 2 → ones b ≡ b
unfolding ones
ones-bit zero h = refl
ones-bit (suc zero) h = refl
ones-bit (suc (suc b)) h = absurd (omega (arith, h))

ones-more : (w k : ℕ) → ones (w % 2 ^ (1 + k)) ≡ bit_at w k + ones (w % 2 ^ k)
ones-more w k = ones-step w k ∙ ap (λ b. b + ones (w % 2 ^ k)) (ones-bit (bit_at w k) (bit_at-lt w k))

place-low : (k : ℕ) → k < 64 → k % 64 ≡ k
place-low k h = omega (arith, h)

has_bit-low : (w k : ℕ) → k < 64 → has_bit w k ≡ nat_eq (bit_at w k) 1
unfolding has_bit
has_bit-low w k h = ap (λ n. nat_eq (bit_at w n) 1) (place-low k h)

bits-none : (w : ℕ) → ones (w % 2 ^ 0) ≡ 0
unfolding ones
bits-none w = ap ones (let none : w % 1 ≡ 0 = omega arith in none)

bits-count : (w k : ℕ) → k ≤ 64 → CountBelow (λ i. IsTrue (has_bit w i)) k (ones (w % 2 ^ k))
bits-count w zero h = subst (CountBelow (λ i. IsTrue (has_bit w i)) zero) (sym (bits-none w)) nothing
bits-count w (suc k) h =
    let bit : has_bit w k ≡ nat_eq (bit_at w k) 1 = has_bit-low w k (omega (arith, h)) in
    let sum : ones (w % 2 ^ suc k) ≡ bit_at w k + ones (w % 2 ^ k) = ap (λ n. ones (w % 2 ^ n)) (let one : suc k ≡ 1 + k = omega arith in one) ∙ ones-more w k in
    let rest = bits-count w k (omega (arith, h)) in
    elim (cases_eq (bit_at w k) 0) [
      | inl off ↦
          subst (CountBelow (λ i. IsTrue (has_bit w i)) (suc k)) (let same : ones (w % 2 ^ k) ≡ ones (w % 2 ^ suc k) = omega (arith, sum, off) in same)
          (no_more (λ is. true≢false (sym is ∙ bit ∙ ap (λ b. nat_eq b 1) off)) rest)
      | inr on ↦
          let is : bit_at w k ≡ 1 = omega (arith, on, bit_at-lt w k) in
          subst (CountBelow (λ i. IsTrue (has_bit w i)) (suc k)) (let same : suc (ones (w % 2 ^ k)) ≡ ones (w % 2 ^ suc k) = omega (arith, sum, is) in same)
          (one_more (bit ∙ ap (λ b. nat_eq b 1) is) rest)
    ]

-- a set has the bits of its word m from 64 * m on
has-place : (ws : List ℕ) (m w i : ℕ) → i < 64 → w ≡ get_or ws m 0 → has ws (64 * m + i) ≡ has_bit w i
unfolding has has_bit
has-place ws m w i h is =
    let word : (64 * m + i) / 64 ≡ m = omega (arith, h) in
    let place : (64 * m + i) % 64 ≡ i % 64 = omega (arith, h) in
    (λ t. nat_eq (bit_at (get_or ws (word t) 0) (place t)) 1) ∙ ap (λ v. nat_eq (bit_at v (i % 64)) 1) (sym is)

-- one word more is counted
pub count-word : (ws : List ℕ) (m n w : ℕ) → w < 2 ^ 64 → w ≡ get_or ws m 0 → CountBelow (λ k. IsTrue (has ws k)) (64 * m) n → CountBelow (λ k. IsTrue (has ws k)) (64 * (m + 1)) (n + ones w)
count-word ws m n w fits is before =
    let whole : w % 2 ^ 64 ≡ w = omega (arith, fits) in
    let bits : CountBelow (λ i. IsTrue (has_bit w i)) 64 (ones w) = subst (λ v. CountBelow (λ i. IsTrue (has_bit w i)) 64 (ones v)) whole (bits-count w 64 (omega arith)) in
    count-to (λ k. IsTrue (has ws k)) (64 * m + 64) (64 * (m + 1)) (n + ones w) (omega arith)
    (count-append (λ k. IsTrue (has ws k)) (64 * m) n 64 (ones w) before
    (count-same (λ i. IsTrue (has_bit w i)) (λ i. IsTrue (has ws (64 * m + i))) 64 (ones w) (λ i low. (λ h. has-place ws m w i low is ∙ h, λ h. sym (has-place ws m w i low is) ∙ h)) bits))
