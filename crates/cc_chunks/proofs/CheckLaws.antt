-- What the look-ups of one spec say of it.
use Rattle.std.proofs.Common.{◌≡◌, ◌≢◌, ℕ, zero, suc, ◌+◌, ◌<◌, ◌≤◌, ◌⊎◌, true, false, cond, List, [], ◌∷◌, length, map, get_or, take, drop, slice_get, Option, None, Some, Contains, Any, refl, sym, ap, subst, ◌∙◌, inl, inr, arith, true≢false}
use Rattle.std.specs.Option.{option_map, option_eq}
use Rattle.std.specs.List.{AllZip}
use Rattle.std.specs.Prelude.{nat_eq, not, Result, Ok, Err, IsErrAnd, IfErr}
use Rattle.std.proofs.lemmas.Option.{slice_get-map, slice_get_read}
use Rattle.std.specs.String.{string_bytes}
use Rattle.std.specs.Str.{bytes_eq}
use Rattle.std.proofs.lemmas.Bool.{cases_Bool, cases_lt, cases_order, eqb-true, eqb-false, not-true, not-false}
use Rattle.std.proofs.lemmas.Slice.Eq.{bytes_eq-Decides}
use Rattle.cc_chunks.specs.declared.spec.ChunkSpec.{ChunkSpec}
use Rattle.cc_chunks.specs.Faults.{first_of, names_of, dep_names, IsDouble, HasUnknown, HasLater, IsChunkAt, IsFaultAt}
use Rattle.cc_chunks.specs.Numbers.{IsUnknownFault}
use Rattle.cc_chunks.specs.declared.spec.ChunkFault.{ChunkFault}
use Rattle.cc_chunks.specs.declared.spec.ChunkFault.TheVariants.{DoubleName, UnknownDep, LaterDep, FileCount, Memory}

pub map-through : {X Y Z : Type 0} (f : Y → Z) (g : X → Y) (xs : List X) → map f (map g xs) ≡ map (λ x. f (g x)) xs
map-through f g [] = refl
map-through f g (x ∷ xs) = ap (λ l. f (g x) ∷ l) (map-through f g xs)

-- ---- elements

contains-head : {X : Type 0} (x : X) (xs : List X) → Contains (x ∷ xs) x
contains-head x xs = (0, omega arith, refl)

contains-later : {X : Type 0} (x y : X) (xs : List X) → Contains xs y → Contains (x ∷ xs) y
contains-later x y xs c = (suc c.0, omega (arith, c.1), c.2)

contains-cons : {X : Type 0} (x y : X) (xs : List X) → Contains (x ∷ xs) y → (x ≡ y) ⊎ Contains xs y
contains-cons {X} x y xs c = by c.0 c.1 c.2
  where
    by : (k : ℕ) → k < length (x ∷ xs) → get_or (x ∷ xs) k y ≡ y → (x ≡ y) ⊎ Contains xs y
    by zero h e = inl e
    by (suc k) h e = inr (k, omega (arith, h), e)

contains-none : {X : Type 0} (y : X) → Contains [] y → ⊥
contains-none y c = omega (arith, c.1)

at-contains : {X : Type 0} (xs : List X) (i : ℕ) (x : X) → slice_get xs i ≡ Some x → Contains xs x
at-contains [] i x e = cc
at-contains (y ∷ xs) zero x e = let same : y ≡ x = cc in (0, omega arith, same)
at-contains (y ∷ xs) (suc i) x e = contains-later y x xs (at-contains xs i x e)

at-contains_take : {X : Type 0} (xs : List X) (i j : ℕ) (x : X) → slice_get xs i ≡ Some x → i < j → Contains (take j xs) x
at-contains_take [] i j x e h = cc
at-contains_take (y ∷ xs) i zero x e h = absurd (omega (arith, h))
at-contains_take (y ∷ xs) zero (suc j) x e h = let same : y ≡ x = cc in (0, omega arith, same)
at-contains_take (y ∷ xs) (suc i) (suc j) x e h = contains-later y x (take j xs) (at-contains_take xs i j x e (omega (arith, h)))

-- ---- the first with a name

-- the name stands at k, and not before
data Found : List (List ℕ) → List ℕ → ℕ → Type 0 where
  here : {q : List ℕ} {ns : List (List ℕ)} → Found (q ∷ ns) q 0
  later : {n q : List ℕ} {ns : List (List ℕ)} {k : ℕ} → n ≢ q → Found ns q k → Found (n ∷ ns) q (suc k)

one_on : (o : Option ℕ) (j : ℕ) → option_map (λ i. i + 1) o ≡ Some j → (k : ℕ) × (o ≡ Some k) × (suc k ≡ j)
one_on None j e = cc
one_on (Some k) j e = let same : k + 1 ≡ j = cc in (k, refl, omega (arith, same))

found : (ns : List (List ℕ)) (q : List ℕ) (j : ℕ) → first_of ns q ≡ Some j → Found ns q j
unfolding first_of
found [] q j e = cc
found (n ∷ ns) q j e = elim (cases_Bool (bytes_eq n q)) [ inl t ↦ at_head t | inr f ↦ behind f (found ns q) ]
  where
    at_head : bytes_eq n q ≡ true → Found (n ∷ ns) q j
    at_head t =
        let first : Some 0 ≡ Some j = sym (ap (λ b. cond b (Some 0) (option_map (λ i. i + 1) (first_of ns q))) t) ∙ e in
        let zeroth : 0 ≡ j = cc in
        subst (λ k. Found (n ∷ ns) q k) zeroth (subst (λ m. Found (m ∷ ns) q 0) (sym ((bytes_eq-Decides n q).0 t)) here)

    behind : bytes_eq n q ≡ false → ((k : ℕ) → first_of ns q ≡ Some k → Found ns q k) → Found (n ∷ ns) q j
    behind f go =
        let rest = one_on (first_of ns q) j (sym (ap (λ b. cond b (Some 0) (option_map (λ i. i + 1) (first_of ns q))) f) ∙ e) in
        subst (λ k. Found (n ∷ ns) q k) rest.2 (later (λ same. true≢false (sym ((bytes_eq-Decides n q).1 same) ∙ f)) (go rest.0 rest.1))

none_on : (o : Option ℕ) → option_map (λ i. i + 1) o ≡ None → o ≡ None
none_on None h = refl
none_on (Some k) h = cc

found-none : (ns : List (List ℕ)) (q : List ℕ) → first_of ns q ≡ None → Contains ns q → ⊥
unfolding first_of
found-none [] q e c = contains-none q c
found-none (n ∷ ns) q e c = elim (cases_Bool (bytes_eq n q)) [ inl t ↦ at_head t | inr f ↦ behind f (found-none ns q) ]
  where
    at_head : bytes_eq n q ≡ true → ⊥
    at_head t =
        let first : ◌≡◌ {A = Option ℕ} (Some 0) None = sym (ap (λ b. cond b (Some 0) (option_map (λ i. i + 1) (first_of ns q))) t) ∙ e in
        cc

    behind : bytes_eq n q ≡ false → (first_of ns q ≡ None → Contains ns q → ⊥) → ⊥
    behind f go =
        let rest = none_on (first_of ns q) (sym (ap (λ b. cond b (Some 0) (option_map (λ i. i + 1) (first_of ns q))) f) ∙ e) in
        elim (contains-cons n q ns c) [
          | inl same ↦ true≢false (sym ((bytes_eq-Decides n q).1 same) ∙ f)
          | inr there ↦ go rest there
        ]

found-at : {ns : List (List ℕ)} {q : List ℕ} {j : ℕ} → Found ns q j → slice_get ns j ≡ Some q
found-at here = refl
found-at (later n f) = found-at f

found-before : {ns : List (List ℕ)} {q : List ℕ} {j : ℕ} → Found ns q j → (i : ℕ) → j < i → Contains (take i ns) q
found-before f i h = at-contains_take _ _ i _ (found-at f) h

found-not_before : {ns : List (List ℕ)} {q : List ℕ} {j : ℕ} → Found ns q j → (i : ℕ) → i ≤ j → Contains (take i ns) q → ⊥
found-not_before {q = q} f zero h c = contains-none q c
found-not_before here (suc i) h c = absurd (omega (arith, h))
found-not_before (later {n = n} {q = q} {ns = ns} apart f) (suc i) h c =
    elim (contains-cons n q (take i ns) c) [ inl same ↦ apart same | inr there ↦ found-not_before f i (omega (arith, h)) there ]

found-after : {ns : List (List ℕ)} {q : List ℕ} {j : ℕ} → Found ns q j → (i : ℕ) → i ≤ j → Contains (drop i ns) q
found-after {ns = ns} {q = q} {j = j} f zero h = at-contains ns j q (found-at f)
found-after here (suc i) h = absurd (omega (arith, h))
found-after (later apart f) (suc i) h = found-after f i (omega (arith, h))

-- ---- numbers beside names

abbrev Paired : (List ℕ → Option ℕ) → List ℕ → List (List ℕ) → Type 0
Paired f = AllZip (λ d q. f q ≡ Some d)

pub paired : (f : List ℕ → Option ℕ) (ds : List ℕ) (qs : List (List ℕ)) → map (λ d. Some d) ds ≡ map f qs → Paired f ds qs
paired f [] [] e = tt
paired f [] (q ∷ qs) e = cc
paired f (d ∷ ds) [] e = cc
paired f (d ∷ ds) (q ∷ qs) e =
    let first : f q ≡ Some d = cc in
    let rest : map (λ d. Some d) ds ≡ map f qs = cc in
    (first, paired f ds qs rest)

number-of : (f : List ℕ → Option ℕ) (ds : List ℕ) (qs : List (List ℕ)) → Paired f ds qs → (q : List ℕ) → Contains qs q → (d : ℕ) × Contains ds d × (f q ≡ Some d)
number-of f [] [] p q c = absurd (contains-none q c)
number-of f (d ∷ ds) (x ∷ qs) p q c =
    elim (contains-cons x q qs c) [
      | inl e ↦ (d, contains-head d ds, subst (λ y. f y ≡ Some d) e p.0)
      | inr there ↦ let r = number-of f ds qs p.1 q there in (r.0, contains-later d r.0 ds r.1, r.2)
    ]
number-of f [] (x ∷ qs) p q c = absurd p
number-of f (d ∷ ds) [] p q c = absurd p

name-of : (f : List ℕ → Option ℕ) (ds : List ℕ) (qs : List (List ℕ)) → Paired f ds qs → (d : ℕ) → Contains ds d → (q : List ℕ) × Contains qs q × (f q ≡ Some d)
name-of f [] [] p d c = absurd (contains-none d c)
name-of f (x ∷ ds) (q ∷ qs) p d c =
    elim (contains-cons x d ds c) [
      | inl e ↦ (q, contains-head q qs, subst (λ y. f q ≡ Some y) e p.0)
      | inr there ↦ let r = name-of f ds qs p.1 d there in (r.0, contains-later q r.0 qs r.1, r.2)
    ]
name-of f [] (x ∷ qs) p d c = absurd p
name-of f (x ∷ ds) [] p d c = absurd p

numbers-read : (ns : List (List ℕ)) (ds : List ℕ) (qs : List (List ℕ)) → Paired (first_of ns) ds qs → map (slice_get ns) ds ≡ map (λ q. Some q) qs
numbers-read ns [] [] p = refl
numbers-read ns (d ∷ ds) (q ∷ qs) p = λ t. found-at (found ns q d p.0) t ∷ numbers-read ns ds qs p.1 t
numbers-read ns [] (x ∷ qs) p = absurd p
numbers-read ns (x ∷ ds) [] p = absurd p

-- ---- what they say of the spec

pub same_number : (o : Option ℕ) (i : ℕ) → option_eq nat_eq o (Some i) ≡ true → o ≡ Some i
same_number None i e = absurd (true≢false (sym e))
same_number (Some j) i e = ap Some (eqb-true j i e)

module _ (specs : List ChunkSpec) (i : ℕ) (spec : ChunkSpec) (at : slice_get specs i ≡ Some spec) where
  spec-is : (other : ChunkSpec) → slice_get specs i ≡ Some other → other ≡ spec
  spec-is other e = cc

  own_name : slice_get (names_of specs) i ≡ Some (string_bytes spec.name)
  own_name = slice_get-map (λ s. string_bytes s.name) specs i ∙ ap (option_map (λ s. string_bytes s.name)) at

  pub double-from : (o : Option ℕ) → first_of (names_of specs) (string_bytes spec.name) ≡ o → option_eq nat_eq o (Some i) ≡ false → IsDouble specs i
  double-from None e h = absurd (found-none (names_of specs) (string_bytes spec.name) e (at-contains (names_of specs) i (string_bytes spec.name) own_name))
  double-from (Some j) e h =
      let f = found (names_of specs) (string_bytes spec.name) j e in
      elim (cases_order j i) [
        | inl same ↦ absurd (eqb-false j i h same)
        | inr either ↦ elim either [
          | inl less ↦ record { spec = spec; at = at; earlier = found-before f i less }
          | inr more ↦ absurd (found-not_before f j (omega arith) (at-contains_take (names_of specs) i j (string_bytes spec.name) own_name more))
        ]
      ]

  pub single-from : first_of (names_of specs) (string_bytes spec.name) ≡ Some i → IsDouble specs i → ⊥
  single-from e r =
      found-not_before (found (names_of specs) (string_bytes spec.name) i e) i (omega arith)
      (subst (λ s. Contains (take i (names_of specs)) (string_bytes s.name)) (spec-is r.spec r.at) r.earlier)

  pub unknown-from : Any (λ q. first_of (names_of specs) q ≡ None) (dep_names spec) → HasUnknown specs i
  unknown-from a = record { spec = spec; at = at; dep = a.1; depends = (a.0, a.2, a.3); nowhere = found-none (names_of specs) a.1 a.4 }

  module _ (ds : List ℕ) (pairs : Paired (first_of (names_of specs)) ds (dep_names spec)) where
    pub known-from : HasUnknown specs i → ⊥
    known-from r =
        let n = number-of (first_of (names_of specs)) ds (dep_names spec) pairs r.dep (subst (λ s. Contains (dep_names s) r.dep) (spec-is r.spec r.at) r.depends) in
        r.nowhere (at-contains (names_of specs) n.0 r.dep (found-at (found (names_of specs) r.dep n.0 n.2)))

    pub later-from : Any (λ d. i ≤ d) ds → HasLater specs i
    later-from a =
        let n = name-of (first_of (names_of specs)) ds (dep_names spec) pairs a.1 (a.0, a.2, a.3) in
        let f = found (names_of specs) n.0 a.1 n.2 in
        record { spec = spec; at = at; dep = n.0; depends = n.1; later = found-after f i a.4; not_earlier = found-not_before f i a.4 }

    module _ (none : Any (λ d. i ≤ d) ds → ⊥) where
      pub down-from : (d : ℕ) → Contains ds d → d < i
      down-from d c = elim (cases_lt d i) [ inl less ↦ less | inr more ↦ absurd (none (c.0, d, c.1, c.2, more)) ]

      pub not_later-from : HasLater specs i → ⊥
      not_later-from r =
          let n = number-of (first_of (names_of specs)) ds (dep_names spec) pairs r.dep (subst (λ s. Contains (dep_names s) r.dep) (spec-is r.spec r.at) r.depends) in
          r.not_earlier (found-before (found (names_of specs) r.dep n.0 n.2) i (down-from n.0 n.1))

      pub chunk-from : (name : List ℕ) → name ≡ string_bytes spec.name → first_of (names_of specs) (string_bytes spec.name) ≡ Some i → IsChunkAt specs i spec (record { name = name; deps = ds })
      chunk-from name is single = record {
        single = single-from single;
        known = known-from;
        not_later = not_later-from;
        name = is;
        deps = numbers-read (names_of specs) ds (dep_names spec) pairs;
        down = down-from;
      }

-- ---- the answers

pub err-on : {T : Type 0} (r : Result T ChunkFault) (f : ChunkFault) (P : ChunkFault → Type 0) → IsErrAnd r (λ e. e ≡ f) → P f → IfErr r P
err-on (Ok x) f P is p = tt
err-on (Err e) f P is p = subst P (sym is) p

pub unknown-fault : (specs : List ChunkSpec) (i : ℕ) (so : Type 0) (f : ChunkFault) → ¬ IsDouble specs i → (so → HasUnknown specs i) → IsUnknownFault i so f → IsFaultAt specs i f
unknown-fault specs i so (DoubleName j) single unknown h = absurd h
unknown-fault specs i so (UnknownDep j) single unknown h = (h.0, single, unknown h.1)
unknown-fault specs i so (LaterDep j) single unknown h = absurd h
unknown-fault specs i so (FileCount j) single unknown h = absurd h
unknown-fault specs i so Memory single unknown h = tt

pub map-same : {X Y : Type 0} (f g : X → Y) → ((x : X) → f x ≡ g x) → (xs : List X) → map f xs ≡ map g xs
map-same f g same [] = refl
map-same f g same (x ∷ xs) = λ t. same x t ∷ map-same f g same xs t

pub any-same : {X : Type 0} (f g : X → Option ℕ) → ((x : X) → f x ≡ g x) → (xs : List X) → Any (λ x. f x ≡ None) xs → Any (λ x. g x ≡ None) xs
any-same f g same xs a = (a.0, a.1, a.2, a.3, sym (same a.1) ∙ a.4)

-- what the code knows of a spec once it has looked its name up: the answer is o
pub record LookedUp (specs : List ChunkSpec) (i : ℕ) (spec : ChunkSpec) (number : List ℕ → Option ℕ) (o : Option ℕ) : Type 0 where
  pub within : i < length specs
  pub read : spec ≡ get_or specs i spec
  pub numbers : (q : List ℕ) → number q ≡ first_of (names_of specs) q
  pub own : o ≡ number (string_bytes spec.name)

module _ {specs : List ChunkSpec} {i : ℕ} {spec : ChunkSpec} {number : List ℕ → Option ℕ} {o : Option ℕ} (known : LookedUp specs i spec number o) where
  spec-at : slice_get specs i ≡ Some spec
  spec-at = slice_get_read specs (length specs) i spec refl known.within known.read

  own-first : first_of (names_of specs) (string_bytes spec.name) ≡ o
  own-first = sym (known.own ∙ known.numbers (string_bytes spec.name))

  pub double-by : not (option_eq nat_eq o (Some i)) ≡ true → IsDouble specs i
  double-by h = double-from specs i spec spec-at o own-first (not-true (option_eq nat_eq o (Some i)) h)

  module _ (h : not (option_eq nat_eq o (Some i)) ≡ false) where
    pub first-by : first_of (names_of specs) (string_bytes spec.name) ≡ Some i
    first-by = own-first ∙ same_number o i (not-false (option_eq nat_eq o (Some i)) h)

    pub single-by : IsDouble specs i → ⊥
    single-by = single-from specs i spec spec-at first-by

    pub unknown-by : Any (λ q. number q ≡ None) (dep_names spec) → HasUnknown specs i
    unknown-by a = unknown-from specs i spec spec-at (any-same number (first_of (names_of specs)) known.numbers (dep_names spec) a)

    module _ (ds : List ℕ) (deps : map (λ d. Some d) ds ≡ map number (dep_names spec)) where
      pairs : Paired (first_of (names_of specs)) ds (dep_names spec)
      pairs = paired (first_of (names_of specs)) ds (dep_names spec) (deps ∙ map-same number (first_of (names_of specs)) known.numbers (dep_names spec))

      pub known-by : HasUnknown specs i → ⊥
      known-by = known-from specs i spec spec-at ds pairs

      pub later-by : Any (λ d. i ≤ d) ds → HasLater specs i
      later-by = later-from specs i spec spec-at ds pairs

      pub chunk-by : (text : List ℕ) → text ≡ string_bytes spec.name → (Any (λ d. i ≤ d) ds → ⊥) → (other : ChunkSpec) → slice_get specs i ≡ Some other → IsChunkAt specs i other (record { name = text; deps = ds })
      chunk-by text same none other e =
          subst (λ s. IsChunkAt specs i s (record { name = text; deps = ds })) (sym (spec-is specs i spec spec-at other e))
          (chunk-from specs i spec spec-at ds pairs none text same first-by)
