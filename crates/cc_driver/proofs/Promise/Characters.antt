-- Names by number are names of the language: they begin with a letter, `$` or `_`, and go on with these and digits.
use Rattle.std.proofs.Common.{◌≡◌, ℕ, zero, suc, ◌<◌, Bool, true, ◌&&◌, List, [], ◌∷◌, ◌++◌, refl, ap, ◌∙◌, inl, inr, arith, slice_index}
use Rattle.std.specs.List.{list_all}
use Rattle.std.proofs.lemmas.Bool.{and_parts, and_from}
use Rattle.cc_driver.specs.Names.{is_name_start, is_name_part, starts_name}
use Rattle.cc_driver.specs.Naming.{NameNumber, characters}
use Rattle.cc_driver.specs.Naming as naming
use Rattle.cc_driver.proofs.NumberLaws.{SameOrNot, same_or_not}

-- a test of each number below n
all_below : (ℕ → Bool) → ℕ → Bool
all_below p zero = true
all_below p (suc n) = p n && all_below p n

below_from_all : (p : ℕ → Bool) (n k : ℕ) → all_below p n ≡ true → k < n → p k ≡ true
unfolding all_below
below_from_all p zero k h l = absurd (omega arith)
below_from_all p (suc n) k h l = by (same_or_not k n) (below_from_all p n k (and_parts (p n) (all_below p n) h).1)
  where
    by : SameOrNot k n → (k < n → p k ≡ true) → p k ≡ true
    by (inl e) less = ap p e ∙ (and_parts (p n) (all_below p n) h).0
    by (inr n) less = less (omega arith)

start_character : (k : ℕ) → k < 54 → is_name_start (slice_index characters k) ≡ true
unfolding all_below
start_character k l = below_from_all (λ j. is_name_start (slice_index characters j)) 54 k refl l

part_character : (k : ℕ) → k < 64 → is_name_part (slice_index characters k) ≡ true
unfolding all_below
part_character k l = below_from_all (λ j. is_name_part (slice_index characters j)) 64 k refl l

starts_longer : (n : List ℕ) (c : ℕ) → starts_name n ≡ true → starts_name (n ++ c ∷ []) ≡ true
starts_longer [] c h = absurd (cc)
starts_longer (x ∷ n) c h = h

all_longer : (p : ℕ → Bool) (n : List ℕ) (c : ℕ) → list_all p n ≡ true → p c ≡ true → list_all p (n ++ c ∷ []) ≡ true
all_longer p [] c h e = and_from (p c) true e refl
all_longer p (x ∷ n) c h e = let w = and_parts (p x) (list_all p n) h in and_from (p x) (list_all p (n ++ c ∷ [])) w.0 (all_longer p n c w.1 e)

pub number_starts : {k : ℕ} {n : List ℕ} → NameNumber k n → starts_name n ≡ true
number_starts (naming.first_names {k = k} l) = start_character k l
number_starts (naming.longer_names {n = n} c x l) = starts_longer n (slice_index characters c) (number_starts x)

pub number_parts : {k : ℕ} {n : List ℕ} → NameNumber k n → list_all is_name_part n ≡ true
number_parts (naming.first_names {k = k} l) = and_from (is_name_part (slice_index characters k)) true (part_character k (omega arith)) refl
number_parts (naming.longer_names {n = n} c x l) = all_longer is_name_part n (slice_index characters c) (number_parts x) (part_character c l)
