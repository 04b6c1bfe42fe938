-- The first place at which a test is met, where it is known to fail before some place.
use Rattle.std.proofs.Common.{◌≡◌, ℕ, zero, suc, ◌+◌, ◌<◌, ◌≤◌, List, [], ◌∷◌, length, Bool, true, false, not, Some, None, cond, slice_set, slice_index_or, refl, sym, ap, ◌∙◌, subst, arith, position, ltb, lt-ltb, one-add, add-one}
use Rattle.std.proofs.lemmas.Bool.{le-ltb, ltb-false}
use Rattle.std.proofs.lemmas.List.Sums.{prefix_len-le-length}
use Rattle.std.specs.List.{prefix_len, position_or_len}
use Rattle.cc_core.specs.SlotState.{NoneBefore}

none_at : {A : Type 0} (p : A → Bool) (i : ℕ) (ss : List A) (s : A) → i < length ss → s ≡ slice_index_or ss i s → p s ≡ false → NoneBefore p i ss → NoneBefore p (suc i) ss
none_at p i [] s lt is fails none = absurd (omega (arith, lt))
none_at p zero (x ∷ xs) s lt is fails none = (ap p (sym is) ∙ fails, tt)
none_at p (suc i) (x ∷ xs) s lt is fails none = (none.0, none_at p i xs s (omega (arith, lt)) is fails none.1)

-- one place more, at which it fails
pub none_more : {A : Type 0} (p : A → Bool) (i : ℕ) (ss : List A) (s : A) → i < length ss → s ≡ slice_index_or ss i s → p s ≡ false → NoneBefore p i ss → NoneBefore p (i + 1) ss
none_more p i ss s lt is fails none = subst (λ (n : ℕ). NoneBefore p n ss) (sym (add-one i)) (none_at p i ss s lt is fails none)

first_len : {A : Type 0} (p : A → Bool) (i : ℕ) (ss : List A) (s : A) → i < length ss → s ≡ slice_index_or ss i s → p s ≡ true → NoneBefore p i ss → prefix_len (λ x. not (p x)) ss ≡ i
first_len p i [] s lt is holds none = absurd (omega (arith, lt))
first_len p zero (x ∷ xs) s lt is holds none = ap (λ b. cond (not b) (1 + prefix_len (λ x. not (p x)) xs) 0) (ap p (sym is) ∙ holds)
first_len p (suc i) (x ∷ xs) s lt is holds none =
    let h : prefix_len (λ x. not (p x)) xs ≡ i = first_len p i xs s (omega (arith, lt)) is holds none.1 in
    ap (λ b. cond (not b) (1 + prefix_len (λ x. not (p x)) xs) 0) none.0 ∙ (one-add (prefix_len (λ x. not (p x)) xs) ∙ ap suc h)

-- it is first met at the next place
pub first_found : {A : Type 0} (p : A → Bool) (i : ℕ) (ss : List A) (s : A) → i < length ss → s ≡ slice_index_or ss i s → p s ≡ true → NoneBefore p i ss → position p ss ≡ Some i
first_found p i ss s lt is holds none =
    ap (λ n. cond (ltb n (length ss)) (Some n) None) (first_len p i ss s lt is holds none) ∙ ap (λ b. cond b (Some i) None) (lt-ltb i (length ss) lt)

all_none : {A : Type 0} (p : A → Bool) (i : ℕ) (ss : List A) → length ss ≤ i → NoneBefore p i ss → prefix_len (λ x. not (p x)) ss ≡ length ss
all_none p i [] le none = refl
all_none p zero (x ∷ xs) le none = absurd (omega (arith, le))
all_none p (suc i) (x ∷ xs) le none =
    let h : prefix_len (λ x. not (p x)) xs ≡ length xs = all_none p i xs (omega (arith, le)) none.1 in
    ap (λ b. cond (not b) (1 + prefix_len (λ x. not (p x)) xs) 0) none.0 ∙ (one-add (prefix_len (λ x. not (p x)) xs) ∙ ap suc h)

-- it is met nowhere
pub none_found : {A : Type 0} (p : A → Bool) (i : ℕ) (ss : List A) → length ss ≤ i → NoneBefore p i ss → position p ss ≡ None
none_found p i ss le none =
    ap (λ n. cond (ltb n (length ss)) (Some n) None) (all_none p i ss le none) ∙ ap (λ b. cond b (Some (length ss)) None) (le-ltb (length ss) (length ss) (omega arith))

none_prefix : {A : Type 0} (p : A → Bool) (ss : List A) → NoneBefore p (prefix_len (λ x. not (p x)) ss) ss
none_prefix p [] = tt
none_prefix p (x ∷ xs) =
    let n = prefix_len (λ x. not (p x)) xs in
    elim (p x) as (λ b. p x ≡ b → NoneBefore p (cond (not b) (1 + n) 0) (x ∷ xs)) [
      | true ↦ λ e. tt
      | false ↦ λ e. subst (λ (m : ℕ). NoneBefore p m (x ∷ xs)) (sym (one-add n)) (e, none_prefix p xs)
    ] refl

is_first : {A : Type 0} (p : A → Bool) (k : ℕ) (ss : List A) → position p ss ≡ Some k → position_or_len p ss ≡ k
is_first p k ss e =
    elim (ltb (position_or_len p ss) (length ss)) as (λ b. cond b (Some (position_or_len p ss)) None ≡ Some k → position_or_len p ss ≡ k) [ true ↦ λ e. cc | false ↦ λ e. absurd (cc) ] e

-- it fails before the place at which it is first met
pub before_first : {A : Type 0} (p : A → Bool) (k : ℕ) (ss : List A) → position p ss ≡ Some k → NoneBefore p k ss
before_first p k ss e = subst (λ (n : ℕ). NoneBefore p n ss) (is_first p k ss e) (none_prefix p ss)

-- a place is written at which it fails then
pub none_set : {A : Type 0} (p : A → Bool) (i : ℕ) (ss : List A) (k : ℕ) (t : A) → p t ≡ false → NoneBefore p i ss → NoneBefore p i (slice_set ss k t)
none_set p zero ss k t fails none = tt
none_set p (suc i) [] k t fails none = tt
none_set p (suc i) (x ∷ xs) zero t fails none = (fails, none.1)
none_set p (suc i) (x ∷ xs) (suc k) t fails none = (none.0, none_set p i xs k t fails none.1)

-- the place that comes next is written, at which it fails then
none_set_next : {A : Type 0} (p : A → Bool) (k : ℕ) (ss : List A) (t : A) → p t ≡ false → NoneBefore p k ss → NoneBefore p (suc k) (slice_set ss k t)
none_set_next p k [] t fails none = tt
none_set_next p zero (x ∷ xs) t fails none = (fails, tt)
none_set_next p (suc k) (x ∷ xs) t fails none = (none.0, none_set_next p k xs t fails none.1)

pub none_taken : {A : Type 0} (p : A → Bool) (k : ℕ) (ss : List A) (t : A) → position p ss ≡ Some k → p t ≡ false → NoneBefore p (k + 1) (slice_set ss k t)
none_taken p k ss t e fails = subst (λ (n : ℕ). NoneBefore p n (slice_set ss k t)) (sym (add-one k)) (none_set_next p k ss t fails (before_first p k ss e))

-- a later place is written
pub none_set_later : {A : Type 0} (p : A → Bool) (i : ℕ) (ss : List A) (k : ℕ) (t : A) → i ≤ k → NoneBefore p i ss → NoneBefore p i (slice_set ss k t)
none_set_later p zero ss k t le none = tt
none_set_later p (suc i) [] k t le none = tt
none_set_later p (suc i) (x ∷ xs) zero t le none = absurd (omega (arith, le))
none_set_later p (suc i) (x ∷ xs) (suc k) t le none = (none.0, none_set_later p i xs k t (omega (arith, le)) none.1)

-- fewer places
pub none_less : {A : Type 0} (p : A → Bool) (i j : ℕ) (ss : List A) → j ≤ i → NoneBefore p i ss → NoneBefore p j ss
none_less p i zero ss le none = tt
none_less p zero (suc j) ss le none = absurd (omega (arith, le))
none_less p (suc i) (suc j) [] le none = tt
none_less p (suc i) (suc j) (x ∷ xs) le none = (none.0, none_less p i j xs (omega (arith, le)) none.1)

not_found : {A : Type 0} (p : A → Bool) (ss : List A) → position p ss ≡ None → prefix_len (λ x. not (p x)) ss ≡ length ss
not_found p ss e =
    elim (ltb (position_or_len p ss) (length ss)) as (λ b. ltb (position_or_len p ss) (length ss) ≡ b → cond b (Some (position_or_len p ss)) None ≡ None → prefix_len (λ x. not (p x)) ss ≡ length ss) [
      | true ↦ λ lt e. absurd (cc)
      | false ↦ λ lt e. omega (arith, prefix_len-le-length (λ x. not (p x)) ss, ltb-false _ _ lt)
    ] refl e

-- it fails everywhere
pub none_anywhere : {A : Type 0} (p : A → Bool) (ss : List A) → position p ss ≡ None → NoneBefore p (length ss) ss
none_anywhere p ss e = subst (λ (n : ℕ). NoneBefore p n ss) (not_found p ss e) (none_prefix p ss)
