-- The functions and the calls of the texts, one more at a time.
use Rattle.std.proofs.Common.{◌≡◌, ℕ, zero, suc, ◌+◌, ◌*◌, ◌<◌, List, [], ◌++◌, refl, sym, ap, ◌∙◌, arith, add-one, add-zero, append_assoc}
use Rattle.std.proofs.lemmas.List.{append-nil}
use Rattle.std.specs.List.{flat_map, range_with_len}
use Rattle.cc_gen.specs.Draws.{draw}
use Rattle.cc_gen.specs.Texts.{draws_before, kind, kind_by, first_kind_by, function_line, base_text, call_line, calls_text}

-- ---- kinds

pub kind-first : (seed i t : ℕ) → i ≡ 0 → t ≡ draw seed (draws_before i) 4 → first_kind_by t ≡ kind seed i
unfolding kind draws_before
kind-first seed zero t h by = ap first_kind_by by
kind-first seed (suc i) t h by = absurd (omega (arith, h))

pub kind-more : (seed i t j : ℕ) → 0 < i → t ≡ draw seed (draws_before i) 4 → j ≡ draw seed (draws_before i + 1) i → kind_by t j ≡ kind seed i
unfolding kind
kind-more seed zero t j h by also = absurd (omega (arith, h))
kind-more seed (suc i) t j h by also = cc

pub draws_before-first : (i : ℕ) → i ≡ 0 → draws_before i + 1 ≡ draws_before (i + 1)
unfolding draws_before
draws_before-first zero h = refl
draws_before-first (suc i) h = absurd (omega (arith, h))

pub draws_before-more : (i : ℕ) → 0 < i → draws_before i + 1 + 1 ≡ draws_before (i + 1)
unfolding draws_before
draws_before-more zero h = absurd (omega (arith, h))
draws_before-more (suc i) h =
    let next : suc i + 1 ≡ suc (suc i) = omega arith in
    let after : draws_before (suc i + 1) ≡ 1 + 2 * suc i = ap draws_before next in
    omega (arith, after)

-- ---- one more line

one_more : (f : ℕ → List ℕ) (n a j : ℕ) → a + n ≡ j → flat_map f (range_with_len a (suc n)) ≡ flat_map f (range_with_len a n) ++ f j
one_more f zero a j at = append-nil (f a) ∙ ap f (sym (add-zero a) ∙ at)
one_more f (suc n) a j at = ap (λ t. f a ++ t) (one_more f n (a + 1) j (omega (arith, at))) ∙ sym (append_assoc (f a) (flat_map f (range_with_len (a + 1) n)) (f j))

more : (f : ℕ → List ℕ) (a n j : ℕ) → a + n ≡ j → flat_map f (range_with_len a (n + 1)) ≡ flat_map f (range_with_len a n) ++ f j
more f a n j at = rw add-one (one_more f n a j at)

pub base_text-more : (seed i : ℕ) → base_text seed (i + 1) ≡ base_text seed i ++ function_line i (kind seed i)
unfolding base_text
base_text-more seed i = more (λ k. function_line k (kind seed k)) 0 i i (omega arith)

pub calls_text-more : (seed size argument first n : ℕ) → calls_text seed size argument first (n + 1) ≡ calls_text seed size argument first n ++ call_line argument (draw seed (first + n) size)
unfolding calls_text
calls_text-more seed size argument first n = more (λ k. call_line argument (draw seed k size)) first n (first + n) refl

pub base_text-none : (seed : ℕ) → base_text seed 0 ≡ []
unfolding base_text
base_text-none seed = refl

pub calls_text-none : (seed size argument first : ℕ) → calls_text seed size argument first 0 ≡ []
unfolding calls_text
calls_text-none seed size argument first = refl
