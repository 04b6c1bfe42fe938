-- The names that are given in order: they rise by number, and none between two of them is left out but for those that are passed over.
use Rattle.std.proofs.Common.{◌≡◌, ℕ, zero, suc, ◌+◌, ◌<◌, ◌≤◌, Bool, true, List, ◌∷◌, refl, sym, ap, ◌∙◌, ◌⊎◌, inl, inr, arith, Some, slice_get}
use Rattle.cc_driver.specs.Naming.{NameNumber, Fresh}
use Rattle.cc_driver.specs.Naming as naming
use Rattle.cc_driver.proofs.NumberLaws.{name_once, number_once, SameOrNot, same_or_not}
use Rattle.cc_driver.proofs.FreshLaws.{IsFreshName, fresh_at}

-- a later place has a greater number
pub fresh_rises : (p : List ℕ → Bool) (k : ℕ) (ns : List (List ℕ)) → Fresh p k ns → (i j : ℕ) (x y : List ℕ) (m n : ℕ) → i < j → slice_get ns i ≡ Some x → slice_get ns j ≡ Some y → NameNumber m x → NameNumber n y → m < n
fresh_rises p k ns naming.no_more i j x y m n l e d a b = absurd (cc)
fresh_rises p k ns (naming.passed_over z c f) i j x y m n l e d a b = fresh_rises p (k + 1) ns f i j x y m n l e d a b
fresh_rises p k (z ∷ ns) (naming.taken w c f) zero zero x y m n l e d a b = absurd (omega arith)
fresh_rises p k (z ∷ ns) (naming.taken w c f) zero (suc j) x y m n l e d a b =
    let there : IsFreshName p (k + 1) y = fresh_at p (k + 1) ns f j y d in
    let same : z ≡ x = cc in
    let first : k ≡ m = number_once w a same in
    let second : there.number ≡ n = number_once there.named b refl in
    let behind : k + 1 ≤ there.number = there.behind in
    omega arith
fresh_rises p k (z ∷ ns) (naming.taken w c f) (suc i) zero x y m n l e d a b = absurd (omega arith)
fresh_rises p k (z ∷ ns) (naming.taken w c f) (suc i) (suc j) x y m n l e d a b = fresh_rises p (k + 1) ns f i j x y m n (omega arith) e d a b

-- a name was given, or is passed over
abbrev pub GivenOrPassed : (List ℕ → Bool) → List (List ℕ) → List ℕ → Type 0
GivenOrPassed p ns y = (p y ≡ true) ⊎ ((i : ℕ) × (slice_get ns i ≡ Some y))

given_later : (p : List ℕ → Bool) (z : List ℕ) (ns : List (List ℕ)) (y : List ℕ) → GivenOrPassed p ns y → GivenOrPassed p (z ∷ ns) y
given_later p z ns y (inl e) = inl e
given_later p z ns y (inr h) = inr (suc h.0, h.1)

-- each name with a number below that of a given one is given, or is passed over
pub fresh_leaves_none : (p : List ℕ → Bool) (k : ℕ) (ns : List (List ℕ)) → Fresh p k ns → (i : ℕ) (x y : List ℕ) (m n : ℕ) → slice_get ns i ≡ Some x → NameNumber m x → NameNumber n y → k ≤ n → n < m → GivenOrPassed p ns y
fresh_leaves_none p k ns naming.no_more i x y m n e a b l h = absurd (cc)
fresh_leaves_none p k ns (naming.passed_over z c f) i x y m n e a b l h = by (same_or_not k n) (λ o. fresh_leaves_none p (k + 1) ns f i x y m n e a b o h)
  where
    by : SameOrNot k n → (k + 1 ≤ n → GivenOrPassed p ns y) → GivenOrPassed p ns y
    by (inl s) later = inl (ap p (sym (name_once z b s)) ∙ c)
    by (inr s) later = later (omega arith)
fresh_leaves_none p k (z ∷ ns) (naming.taken w c f) zero x y m n e a b l h =
    let same : z ≡ x = cc in
    let first : k ≡ m = number_once w a same in
    absurd (omega arith)
fresh_leaves_none p k (z ∷ ns) (naming.taken w c f) (suc i) x y m n e a b l h = by (same_or_not k n) (λ o. given_later p z ns y (fresh_leaves_none p (k + 1) ns f i x y m n e a b o h))
  where
    by : SameOrNot k n → (k + 1 ≤ n → GivenOrPassed p (z ∷ ns) y) → GivenOrPassed p (z ∷ ns) y
    by (inl s) later = inr (0, ap Some (name_once w b s))
    by (inr s) later = later (omega arith)
