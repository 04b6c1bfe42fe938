-- Laws of the names that are given in order.
use Rattle.std.proofs.Common.{◌≡◌, ℕ, zero, suc, ◌+◌, ◌≤◌, Bool, false, List, [], ◌∷◌, length, refl, sym, ap, ap₂, ◌∙◌, subst, arith, Some, slice_get, IsAscii}
use Rattle.cc_driver.specs.Naming.{NameNumber, Fresh}
use Rattle.cc_driver.specs.Naming as naming
use Rattle.cc_driver.proofs.NumberLaws.{name_once, number_once, number-ASCII}

pub fresh_alike : (p q : List ℕ → Bool) → ((name : List ℕ) → p name ≡ q name) → (k : ℕ) (ns : List (List ℕ)) → Fresh p k ns → Fresh q k ns
fresh_alike p q same k ns naming.no_more = naming.no_more
fresh_alike p q same k ns (naming.passed_over {n = n} x e f) = naming.passed_over x (sym (same n) ∙ e) (fresh_alike p q same (k + 1) ns f)
fresh_alike p q same k (n ∷ ns) (naming.taken x e f) = naming.taken x (sym (same n) ∙ e) (fresh_alike p q same (k + 1) ns f)

-- a passed name gives no fresh one, so lists that are as long are equal
pub fresh_once : (p : List ℕ → Bool) (j k : ℕ) (ns ms : List (List ℕ)) → Fresh p j ns → Fresh p k ms → j ≡ k → length ns ≡ length ms → ns ≡ ms
fresh_once p j k [] [] f g e l = refl
fresh_once p j k [] (m ∷ ms) f g e l = absurd (omega arith)
fresh_once p j k (n ∷ ns) [] f g e l = absurd (omega arith)
fresh_once p j k (n ∷ ns) (m ∷ ms) (naming.passed_over x b f) (naming.passed_over y c g) e l = fresh_once p (j + 1) (k + 1) (n ∷ ns) (m ∷ ms) f g (omega arith) l
fresh_once p j k (n ∷ ns) (m ∷ ms) (naming.passed_over x b f) (naming.taken y c g) e l =
    absurd (let same = ap p (name_once x y e) in cc)
fresh_once p j k (n ∷ ns) (m ∷ ms) (naming.taken x b f) (naming.passed_over y c g) e l =
    absurd (let same = ap p (name_once x y e) in cc)
fresh_once p j k (n ∷ ns) (m ∷ ms) (naming.taken x b f) (naming.taken y c g) e l =
    ap₂ (λ a b. a ∷ b) (name_once x y e) (fresh_once p (j + 1) (k + 1) ns ms f g (omega arith) (omega arith))

-- what is known of the i-th fresh name
pub record IsFreshName (p : List ℕ → Bool) (k : ℕ) (name : List ℕ) : Type 0 where
  pub number : ℕ
  pub behind : k ≤ number
  pub named : NameNumber number name
  pub kept : p name ≡ false

later : (p : List ℕ → Bool) (k : ℕ) (name : List ℕ) → IsFreshName p (k + 1) name → IsFreshName p k name
later p k name f = record { number = f.number; behind = omega (arith, f.behind); named = f.named; kept = f.kept }

pub fresh_at : (p : List ℕ → Bool) (k : ℕ) (ns : List (List ℕ)) → Fresh p k ns → (i : ℕ) (name : List ℕ) → slice_get ns i ≡ Some name → IsFreshName p k name
fresh_at p k ns naming.no_more i name e = absurd (cc)
fresh_at p k ns (naming.passed_over x b f) i name e = later p k name (fresh_at p (k + 1) ns f i name e)
fresh_at p k (n ∷ ns) (naming.taken x b f) zero name e =
    let same : n ≡ name = cc in
    subst (IsFreshName p k) same (record { number = k; behind = omega arith; named = x; kept = b })
fresh_at p k (n ∷ ns) (naming.taken x b f) (suc i) name e = later p k name (fresh_at p (k + 1) ns f i name e)

pub fresh-ASCII : (p : List ℕ → Bool) (k : ℕ) (ns : List (List ℕ)) → Fresh p k ns → (i : ℕ) (name : List ℕ) → slice_get ns i ≡ Some name → IsAscii name
fresh-ASCII p k ns f i name e = number-ASCII (fresh_at p k ns f i name e).named

-- a fresh name stands once
pub fresh_apart : (p : List ℕ → Bool) (k : ℕ) (ns : List (List ℕ)) → Fresh p k ns → (i j : ℕ) (name : List ℕ) → slice_get ns i ≡ Some name → slice_get ns j ≡ Some name → i ≡ j
fresh_apart p k ns naming.no_more i j name e d = absurd (cc)
fresh_apart p k ns (naming.passed_over x b f) i j name e d = fresh_apart p (k + 1) ns f i j name e d
fresh_apart p k (n ∷ ns) (naming.taken x b f) zero zero name e d = refl
fresh_apart p k (n ∷ ns) (naming.taken x b f) zero (suc j) name e d =
    let there = fresh_at p (k + 1) ns f j name d in
    let same : n ≡ name = cc in
    absurd (omega (arith, there.behind, number_once x there.named same))
fresh_apart p k (n ∷ ns) (naming.taken x b f) (suc i) zero name e d =
    let there = fresh_at p (k + 1) ns f i name e in
    let same : n ≡ name = cc in
    absurd (omega (arith, there.behind, number_once x there.named same))
fresh_apart p k (n ∷ ns) (naming.taken x b f) (suc i) (suc j) name e d = ap suc (fresh_apart p (k + 1) ns f i j name e d)
