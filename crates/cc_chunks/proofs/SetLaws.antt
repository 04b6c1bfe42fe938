-- Sets of numbers as words.
use Rattle.std.proofs.Common.{◌≡◌, ◌≢◌, ℕ, zero, suc, ◌-◌, ◌*◌, ◌/◌, ◌%◌, ◌^◌, ◌<◌, ◌≤◌, min, max, true, false, ◌||◌, ◌&&◌, List, ◌++◌, take, drop, length, get_or, set, replicate, refl, sym, ap, ◌∙◌, inl, inr, arith, get_or-set_same, get_or-set_other}
use Rattle.std.proofs.Math.ListN.{get_or-eq_default}
use Rattle.std.proofs.Math.Seq.{take-append_seam}
use Rattle.std.proofs.lemmas.Bool.{cases_eq, eq-eqb, ne_eqb}
use Rattle.std.proofs.lemmas.Nat.Bits.{bit_at-zero, bit_at_ones, bit_at_and, bit_at_or, bit_at_set_same, bit_at_set_other, bit_at-lt, shr_and_one}
use Rattle.std.proofs.Math.Dec.{eqb}
use Rattle.std.specs.Int.{w64, bit_at}
use Rattle.std.specs.Prelude.{bit_or, bit_and}
use Rattle.cc_chunks.specs.Sets.{has, has_bit}

-- ---- the empty set

get_or-zeros : (n i : ℕ) → ◌≡◌ {A = ℕ} (get_or (replicate n 0) i 0) 0
get_or-zeros zero i = refl
get_or-zeros (suc n) zero = refl
get_or-zeros (suc n) (suc i) = get_or-zeros n i

pub has-none : (n k : ℕ) → has (replicate n 0) k ≡ false
unfolding has has_bit
has-none n k = rw (get_or-zeros n (k / 64), bit_at-zero (k % 64)) refl

-- ---- one bit

pub has_bit-read : (w k : ℕ) → eqb (bit_and (w / 2 ^ (k % 64)) 1) 1 ≡ has_bit w k
unfolding has_bit
has_bit-read w k = ap (λ b. eqb b 1) (shr_and_one w (k % 64))

pub has_bit-same : (w k : ℕ) → has_bit (bit_or w (1 * 2 ^ (k % 64) % 2 ^ 64)) k ≡ true
unfolding has_bit
has_bit-same w k = rw (bit_at_set_same w64 w (k % 64) (omega arith)) refl

pub has_bit-other : (w k j : ℕ) → j % 64 ≢ k % 64 → has_bit (bit_or w (1 * 2 ^ (k % 64) % 2 ^ 64)) j ≡ has_bit w j
unfolding has_bit
has_bit-other w k j apart = rw (bit_at_set_other w64 w (k % 64) (omega arith) (j % 64) apart) refl

pub ruleset bit_laws = (has_bit-read, has_bit-same, has_bit-other)

pub has_bit-all : (k : ℕ) → has_bit (2 ^ 64 - 1) k ≡ true
unfolding has_bit
has_bit-all k = rw (bit_at_ones 64 (k % 64) (omega arith)) refl

both_bits : (a b : ℕ) → a < 2 → b < 2 → eqb (min a b) 1 ≡ (eqb a 1 && eqb b 1)
both_bits zero zero h l = refl
both_bits zero (suc zero) h l = refl
both_bits (suc zero) zero h l = refl
both_bits (suc zero) (suc zero) h l = refl
both_bits zero (suc (suc b)) h l = absurd (omega (arith, l))
both_bits (suc zero) (suc (suc b)) h l = absurd (omega (arith, l))
both_bits (suc (suc a)) b h l = absurd (omega (arith, h))

pub has_bit-both : (v w k : ℕ) → has_bit (bit_and v w) k ≡ (has_bit v k && has_bit w k)
unfolding has_bit
has_bit-both v w k = ap (λ b. eqb b 1) (bit_at_and v w (k % 64)) ∙ both_bits (bit_at v (k % 64)) (bit_at w (k % 64)) (bit_at-lt v (k % 64)) (bit_at-lt w (k % 64))

-- the word of a number has its bit where the set has the number
pub has-word : (ws : List ℕ) (at k w : ℕ) → k / 64 ≡ at → w ≡ get_or ws at 0 → has_bit w k ≡ has ws k
unfolding has
has-word ws at k w place is = ap (λ v. has_bit v k) (is ∙ ap (λ n. get_or ws n 0) (sym place))

-- two numbers with one place are one
pub same_place : (j k : ℕ) → j / 64 ≡ k / 64 → j % 64 ≡ k % 64 → j ≡ k
same_place j k h l = omega (arith, h, l)

-- ---- one number more

module _ (ws : List ℕ) (k w v : ℕ) (read : w ≡ get_or ws (k / 64) 0) (room : k < 64 * length ws) (same : has_bit v k ≡ true) (others : (j : ℕ) → j % 64 ≢ k % 64 → has_bit v j ≡ has_bit w j) where
  at_word : get_or (set ws (k / 64) v) (k / 64) 0 ≡ v
  at_word = get_or-set_same ws (k / 64) v 0 (omega (arith, room))

  has-beside : (j : ℕ) → j / 64 ≡ k / 64 → j % 64 ≢ k % 64 → has (set ws (k / 64) v) j ≡ has ws j
  unfolding has
  has-beside j h l =
      ap (λ n. has_bit (get_or (set ws (k / 64) v) n 0) j) h ∙ ap (λ x. has_bit x j) at_word ∙ others j l ∙ ap (λ x. has_bit x j) read ∙ ap (λ n. has_bit (get_or ws n 0) j) (sym h)

  has-apart : (j : ℕ) → j / 64 ≢ k / 64 → has (set ws (k / 64) v) j ≡ has ws j
  unfolding has
  has-apart j h = ap (λ x. has_bit x j) (get_or-set_other ws (k / 64) (j / 64) v 0 h)

  has-itself : has (set ws (k / 64) v) k ≡ true
  unfolding has
  has-itself = ap (λ x. has_bit x k) at_word ∙ same

  pub has-insert : (j : ℕ) → has (set ws (k / 64) v) j ≡ (eqb j k || has ws j)
  has-insert j =
      elim (cases_eq j k) [
        | inl e ↦ ap (has (set ws (k / 64) v)) e ∙ has-itself ∙ ap (λ b. b || has ws j) (sym (eq-eqb j k e))
        | inr other ↦
            let new : (eqb j k || has ws j) ≡ has ws j = ap (λ b. b || has ws j) (ne_eqb j k other) in
            elim (cases_eq (j / 64) (k / 64)) [
              | inl h ↦ has-beside j h (λ l. other (same_place j k h l)) ∙ sym new
              | inr h ↦ has-apart j h ∙ sym new
            ]
      ]

-- ---- the numbers of two sets

either_bit : (a b : ℕ) → a < 2 → b < 2 → eqb (max a b) 1 ≡ (eqb a 1 || eqb b 1)
either_bit zero zero h l = refl
either_bit zero (suc zero) h l = refl
either_bit (suc zero) zero h l = refl
either_bit (suc zero) (suc zero) h l = refl
either_bit zero (suc (suc b)) h l = absurd (omega (arith, l))
either_bit (suc zero) (suc (suc b)) h l = absurd (omega (arith, l))
either_bit (suc (suc a)) b h l = absurd (omega (arith, h))

pub has-unite : (new old more : List ℕ) (j : ℕ) → get_or new (j / 64) 0 ≡ bit_or (get_or old (j / 64) 0) (get_or more (j / 64) 0) → has new j ≡ (has old j || has more j)
unfolding has has_bit
has-unite new old more j at =
    let a = get_or old (j / 64) 0 in
    let b = get_or more (j / 64) 0 in
    ap (λ w. eqb (bit_at w (j % 64)) 1) at
    ∙ ap (λ v. eqb v 1) (bit_at_or a b (j % 64))
    ∙ either_bit (bit_at a (j % 64)) (bit_at b (j % 64)) (bit_at-lt a (j % 64)) (bit_at-lt b (j % 64))

-- the first words of a vector, where all of it is written
pub written : (n : ℕ) (xs old : List ℕ) → length xs ≡ n → take n (xs ++ drop (length xs) old) ≡ xs
written n xs old e = ap (λ m. take m (xs ++ drop (length xs) old)) (sym e) ∙ take-append_seam xs (drop (length xs) old)

-- ---- past the room

pub has-beyond : (ws : List ℕ) (j : ℕ) → 64 * length ws ≤ j → has ws j ≡ false
unfolding has has_bit
has-beyond ws j h =
    let past : length ws ≤ j / 64 = omega (arith, h) in
    rw (get_or-eq_default ws 0 past, bit_at-zero (j % 64)) refl
