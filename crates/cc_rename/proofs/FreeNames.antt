-- The names that aren't passed over: as many as are asked for, each at one place.
use Rattle.std.specs.Prelude.{◌≡◌, ℕ, zero, suc, ◌+◌, ◌<◌, ◌≤◌, ◌⊎◌, List, [], ◌∷◌, Bool, true, false, not, ◌||◌, cond, map, length, Some, slice_get, unwrap_or}
use Rattle.std.specs.List.{filter}
use Rattle.std.proofs.Common.{refl, sym, ap, ◌∙◌, subst, arith, inl, inr}
use Rattle.cc_meaning.specs.Operators.{list_eq, is_in}
use Rattle.cc_printer.proofs.Lists.{there_is, some_one}
use Rattle.cc_rename.specs.Order.{nth_name, numbers}
use Rattle.cc_rename.specs.Naming.{is_free, free_name}
use Rattle.cc_rename.proofs.NameOrder.{SameOrNot, same_or_not, name_once}
use Rattle.cc_rename.proofs.NameForm.{texts_one}

-- the names with so many numbers from one on, without those that are passed over
abbrev pub frees : List (List ℕ) → ℕ → ℕ → List (List ℕ)
frees ps k n = filter (is_free ps) (map nth_name (numbers k n))

pub frees_more : (ps : List (List ℕ)) (k n : ℕ) → frees ps k (suc n) ≡ cond (is_free ps (nth_name k)) (nth_name k ∷ frees ps (suc k) n) (frees ps (suc k) n)
unfolding numbers
frees_more ps k n = refl

-- what is known of one of them
pub record IsFreeName (ps : List (List ℕ)) (k n : ℕ) (x : List ℕ) : Type 0 where
  pub number : ℕ
  pub behind : k ≤ number
  pub below : number < k + n
  pub named : nth_name number ≡ x
  pub free : is_free ps x ≡ true

later : (ps : List (List ℕ)) (k n : ℕ) (x : List ℕ) → IsFreeName ps (suc k) n x → IsFreeName ps k (suc n) x
later ps k n x f = record { number = f.number; behind = omega (arith, f.behind); below = omega (arith, f.below); named = f.named; free = f.free }

none_at : {A : Type 0} (i : ℕ) (x : A) → slice_get [] i ≡ Some x → ⊥
none_at i x e = cc

pub free_at : (ps : List (List ℕ)) (k n i : ℕ) (x : List ℕ) → slice_get (frees ps k n) i ≡ Some x → IsFreeName ps k n x
unfolding numbers
free_at ps k zero i x e = absurd (none_at i x e)
free_at ps k (suc n) i x e = by (is_free ps (nth_name k)) refl i (subst (λ xs. slice_get xs i ≡ Some x) (frees_more ps k n) e) (λ j. free_at ps (suc k) n j x) where
  by : (b : Bool) → is_free ps (nth_name k) ≡ b → (i : ℕ) → slice_get (cond b (nth_name k ∷ frees ps (suc k) n) (frees ps (suc k) n)) i ≡ Some x → ((j : ℕ) → slice_get (frees ps (suc k) n) j ≡ Some x → IsFreeName ps (suc k) n x) → IsFreeName ps k (suc n) x
  by true f zero e go = let q : nth_name k ≡ x = some_one refl e in record { number = k; behind = omega arith; below = omega arith; named = q; free = ap (is_free ps) (sym q) ∙ f }
  by true f (suc i) e go = later ps k n x (go i e)
  by false f i e go = later ps k n x (go i e)

-- each stands once
pub free_once : (ps : List (List ℕ)) (k n i j : ℕ) (x : List ℕ) → slice_get (frees ps k n) i ≡ Some x → slice_get (frees ps k n) j ≡ Some x → i ≡ j
unfolding numbers
free_once ps k zero i j x e d = absurd (none_at i x e)
free_once ps k (suc n) i j x e d = by (is_free ps (nth_name k)) i j (subst (λ xs. slice_get xs i ≡ Some x) (frees_more ps k n) e) (subst (λ xs. slice_get xs j ≡ Some x) (frees_more ps k n) d) (λ a b. free_once ps (suc k) n a b x) where
  apart : (a : ℕ) → nth_name k ≡ x → slice_get (frees ps (suc k) n) a ≡ Some x → ⊥
  apart a q e = let f = free_at ps (suc k) n a x e in let s = name_once k f.number (q ∙ sym f.named) in omega (arith, s, f.behind)

  by : (b : Bool) → (i j : ℕ) → slice_get (cond b (nth_name k ∷ frees ps (suc k) n) (frees ps (suc k) n)) i ≡ Some x → slice_get (cond b (nth_name k ∷ frees ps (suc k) n) (frees ps (suc k) n)) j ≡ Some x
      → ((a b : ℕ) → slice_get (frees ps (suc k) n) a ≡ Some x → slice_get (frees ps (suc k) n) b ≡ Some x → a ≡ b) → i ≡ j
  by true zero zero e d go = refl
  by true zero (suc j) e d go = absurd (apart j (some_one refl e) d)
  by true (suc i) zero e d go = absurd (apart i (some_one refl d) e)
  by true (suc i) (suc j) e d go = ap suc (go i j e d)
  by false i j e d go = go i j e d

-- with more numbers those so far stand where they stood
pub free_longer : (ps : List (List ℕ)) (k n m i : ℕ) (x : List ℕ) → n ≤ m → slice_get (frees ps k n) i ≡ Some x → slice_get (frees ps k m) i ≡ Some x
unfolding numbers
free_longer ps k zero m i x l e = absurd (none_at i x e)
free_longer ps k (suc n) zero i x l e = absurd (omega (arith, l))
free_longer ps k (suc n) (suc m) i x l e = subst (λ xs. slice_get xs i ≡ Some x) (sym (frees_more ps k m)) (by (is_free ps (nth_name k)) i (subst (λ xs. slice_get xs i ≡ Some x) (frees_more ps k n) e) (λ j. free_longer ps (suc k) n m j x (omega (arith, l)))) where
  by : (b : Bool) → (i : ℕ) → slice_get (cond b (nth_name k ∷ frees ps (suc k) n) (frees ps (suc k) n)) i ≡ Some x → ((j : ℕ) → slice_get (frees ps (suc k) n) j ≡ Some x → slice_get (frees ps (suc k) m) j ≡ Some x)
      → slice_get (cond b (nth_name k ∷ frees ps (suc k) m) (frees ps (suc k) m)) i ≡ Some x
  by true zero e go = e
  by true (suc i) e go = go i e
  by false i e go = go i e

-- ---- no more are passed over than there are names to pass over

-- how many of so many numbers pass a test
pub hits : (ℕ → Bool) → ℕ → ℕ → ℕ
hits q k zero = 0
hits q k (suc n) = cond (q k) 1 0 + hits q (suc k) n

free_or_hit : (ps : List (List ℕ)) (k n : ℕ) → length (frees ps k n) + hits (λ j. is_in (nth_name j) ps) k n ≡ n
unfolding numbers hits is_free
free_or_hit ps k zero = refl
free_or_hit ps k (suc n) = ap (λ xs. length xs + hits (λ j. is_in (nth_name j) ps) k (suc n)) (frees_more ps k n) ∙ by (is_in (nth_name k) ps) (free_or_hit ps (suc k) n) where
  by : (b : Bool) → length (frees ps (suc k) n) + hits (λ j. is_in (nth_name j) ps) (suc k) n ≡ n
      → length (cond (not b) (nth_name k ∷ frees ps (suc k) n) (frees ps (suc k) n)) + (cond b 1 0 + hits (λ j. is_in (nth_name j) ps) (suc k) n) ≡ suc n
  by true h = omega (arith, h)
  by false h = omega (arith, h)

hits_or : (p q : ℕ → Bool) (k n : ℕ) → hits (λ j. p j || q j) k n ≤ hits p k n + hits q k n
unfolding hits
hits_or p q k zero = omega arith
hits_or p q k (suc n) = by (p k) (q k) (hits_or p q (suc k) n) where
  by : (a b : Bool) → hits (λ j. p j || q j) (suc k) n ≤ hits p (suc k) n + hits q (suc k) n → cond (a || b) 1 0 + hits (λ j. p j || q j) (suc k) n ≤ (cond a 1 0 + hits p (suc k) n) + (cond b 1 0 + hits q (suc k) n)
  by true true h = omega (arith, h)
  by true false h = omega (arith, h)
  by false true h = omega (arith, h)
  by false false h = omega (arith, h)

hits_none : (q : ℕ → Bool) (k n : ℕ) → ((j : ℕ) → k ≤ j → q j ≡ false) → hits q k n ≡ 0
unfolding hits
hits_none q k zero h = refl
hits_none q k (suc n) h = let a = ap (λ b. cond b 1 0 + hits q (suc k) n) (h k (omega arith)) in let r = hits_none q (suc k) n (λ j l. h j (omega (arith, l))) in omega (arith, a, r)

hits_one : (x : List ℕ) (k n : ℕ) → hits (λ j. list_eq (nth_name j) x) k n ≤ 1
unfolding hits
hits_one x k zero = omega arith
hits_one x k (suc n) = by (list_eq (nth_name k) x) refl (hits_one x (suc k) n) where
  other : list_eq (nth_name k) x ≡ true → (j : ℕ) → suc k ≤ j → (b : Bool) → list_eq (nth_name j) x ≡ b → b ≡ false
  other e j l true f = absurd (let s = name_once k j (texts_one (nth_name k) x e ∙ sym (texts_one (nth_name j) x f)) in omega (arith, s, l))
  other e j l false f = refl

  by : (b : Bool) → list_eq (nth_name k) x ≡ b → hits (λ j. list_eq (nth_name j) x) (suc k) n ≤ 1 → cond b 1 0 + hits (λ j. list_eq (nth_name j) x) (suc k) n ≤ 1
  by true e h = let z = hits_none (λ j. list_eq (nth_name j) x) (suc k) n (λ j l. other e j l (list_eq (nth_name j) x) refl) in omega (arith, z)
  by false e h = omega (arith, h)

hits_few : (ps : List (List ℕ)) (k n : ℕ) → hits (λ j. is_in (nth_name j) ps) k n ≤ length ps
unfolding is_in
hits_few [] k n = let z = hits_none (λ j. false) k n (λ j l. refl) in omega (arith, z)
hits_few (p ∷ ps) k n =
    let a = hits_or (λ j. list_eq (nth_name j) p) (λ j. is_in (nth_name j) ps) k n in
    let b = hits_one p k n in
    let c = hits_few ps k n in
    omega (arith, a, b, c)

pub enough_free : (ps : List (List ℕ)) (k n : ℕ) → n ≤ length (frees ps k n) + length ps
enough_free ps k n = let a = free_or_hit ps k n in let b = hits_few ps k n in omega (arith, a, b)

-- ---- one name for each number of names before it

-- where a free name stands among names that are enough
pub stands_among : (ps : List (List ℕ)) (i : ℕ) → slice_get (frees ps 0 (suc i + length ps)) i ≡ Some (free_name ps i)
unfolding free_name
stands_among ps i =
    let e = enough_free ps 0 (suc i + length ps) in
    let x = there_is (frees ps 0 (suc i + length ps)) i (omega (arith, e)) in
    x.1 ∙ ap (λ o. Some (unwrap_or o [])) (sym x.1)

-- it stands there among all that are so many at least
pub free_name_at : (ps : List (List ℕ)) (n i : ℕ) (x : List ℕ) → slice_get (frees ps 0 n) i ≡ Some x → free_name ps i ≡ x
free_name_at ps n i x e =
    let m : ℕ = n + (suc i + length ps) in
    some_one (free_longer ps 0 (suc i + length ps) m i (free_name ps i) (omega arith) (stands_among ps i)) (free_longer ps 0 n m i x (omega arith) e)

pub is_free_name : (ps : List (List ℕ)) (i : ℕ) → IsFreeName ps 0 (suc i + length ps) (free_name ps i)
is_free_name ps i = free_at ps 0 (suc i + length ps) i (free_name ps i) (stands_among ps i)

pub free_names_differ : (ps : List (List ℕ)) (i j : ℕ) → free_name ps i ≡ free_name ps j → i ≡ j
free_names_differ ps i j e =
    let m : ℕ = (suc i + length ps) + (suc j + length ps) in
    free_once ps 0 m i j (free_name ps i) (free_longer ps 0 (suc i + length ps) m i (free_name ps i) (omega arith) (stands_among ps i))
    (free_longer ps 0 (suc j + length ps) m j (free_name ps i) (omega arith) (subst (λ x. slice_get (frees ps 0 (suc j + length ps)) j ≡ Some x) (sym e) (stands_among ps j)))

-- ---- in order, with none left out

pub free_rises : (ps : List (List ℕ)) (k n i j : ℕ) (x y : List ℕ) (a b : ℕ) → i < j → slice_get (frees ps k n) i ≡ Some x → slice_get (frees ps k n) j ≡ Some y → nth_name a ≡ x → nth_name b ≡ y → a < b
unfolding numbers
free_rises ps k zero i j x y a b l e d p q = absurd (none_at i x e)
free_rises ps k (suc n) i j x y a b l e d p q = by (is_free ps (nth_name k)) i j l (subst (λ xs. slice_get xs i ≡ Some x) (frees_more ps k n) e) (subst (λ xs. slice_get xs j ≡ Some y) (frees_more ps k n) d) (λ i j l e d. free_rises ps (suc k) n i j x y a b l e d p q) where
  by : (t : Bool) → (i j : ℕ) → i < j → slice_get (cond t (nth_name k ∷ frees ps (suc k) n) (frees ps (suc k) n)) i ≡ Some x → slice_get (cond t (nth_name k ∷ frees ps (suc k) n) (frees ps (suc k) n)) j ≡ Some y
      → ((i j : ℕ) → i < j → slice_get (frees ps (suc k) n) i ≡ Some x → slice_get (frees ps (suc k) n) j ≡ Some y → a < b) → a < b
  by true i zero l e d go = absurd (omega (arith, l))
  by true zero (suc j) l e d go =
      let f = free_at ps (suc k) n j y d in
      let s = name_once k a (some_one refl e ∙ sym p) in
      let t = name_once f.number b (f.named ∙ sym q) in
      omega (arith, s, t, f.behind)
  by true (suc i) (suc j) l e d go = go i j (omega (arith, l)) e d
  by false i j l e d go = go i j l e d

-- passed over, or at an earlier place
abbrev pub PassedOrEarlier : List (List ℕ) → ℕ → ℕ → ℕ → ℕ → Type 0
PassedOrEarlier ps k n i b = (is_in (nth_name b) ps ≡ true) ⊎ ((m : ℕ) × (m < i) × (slice_get (frees ps k n) m ≡ Some (nth_name b)))

pub free_leaves_none : (ps : List (List ℕ)) (k n i a b : ℕ) → slice_get (frees ps k n) i ≡ Some (nth_name a) → k ≤ b → b < a → PassedOrEarlier ps k n i b
unfolding numbers is_free
free_leaves_none ps k zero i a b e h l = absurd (none_at i (nth_name a) e)
free_leaves_none ps k (suc n) i a b e h l = subst (λ xs. (is_in (nth_name b) ps ≡ true) ⊎ ((m : ℕ) × (m < i) × (slice_get xs m ≡ Some (nth_name b)))) (sym (frees_more ps k n))
    (by (is_in (nth_name k) ps) refl i (subst (λ xs. slice_get xs i ≡ Some (nth_name a)) (frees_more ps k n) e) (λ i e g. free_leaves_none ps (suc k) n i a b e g l) (same_or_not k b)) where
      deeper : (i : ℕ) → PassedOrEarlier ps (suc k) n i b → (is_in (nth_name b) ps ≡ true) ⊎ ((m : ℕ) × (m < suc i) × (slice_get (nth_name k ∷ frees ps (suc k) n) m ≡ Some (nth_name b)))
      deeper i (inl p) = inl p
      deeper i (inr m) = inr (suc m.0, omega (arith, m.1), m.2)

      by : (t : Bool) → is_in (nth_name k) ps ≡ t → (i : ℕ) → slice_get (cond (not t) (nth_name k ∷ frees ps (suc k) n) (frees ps (suc k) n)) i ≡ Some (nth_name a)
          → ((i : ℕ) → slice_get (frees ps (suc k) n) i ≡ Some (nth_name a) → suc k ≤ b → PassedOrEarlier ps (suc k) n i b) → SameOrNot k b
          → (is_in (nth_name b) ps ≡ true) ⊎ ((m : ℕ) × (m < i) × (slice_get (cond (not t) (nth_name k ∷ frees ps (suc k) n) (frees ps (suc k) n)) m ≡ Some (nth_name b)))
      by true f i e go (inl s) = inl (ap (λ x. is_in (nth_name x) ps) (sym s) ∙ f)
      by true f i e go (inr s) = go i e (omega (arith, h, s))
      by false f zero e go s = absurd (let q = name_once k a (some_one refl e) in omega (arith, q, h, l))
      by false f (suc i) e go (inl s) = inr (0, omega arith, ap (λ x. Some (nth_name x)) s)
      by false f (suc i) e go (inr s) = deeper i (go i e (omega (arith, h, s)))
