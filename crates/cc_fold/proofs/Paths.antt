-- Paths that go on from others, and what a list of mentions has of one path.
use Rattle.std.proofs.Common.{◌≡◌, ◌⊎◌, inl, inr, ℕ, suc, ◌+◌, Bool, true, false, List, [], ◌∷◌, ◌++◌, length, refl, sym, ap, subst, ◌∙◌, arith}
use Rattle.std.specs.Prelude.{nat_eq}
use Rattle.std.proofs.lemmas.Bool.{eqb-true, eq-eqb, and_parts, and_from}
use Rattle.cc_meaning.specs.Operators.{list_eq}
use Rattle.cc_meaning.specs.State.{Path}
use Rattle.cc_meaning.specs.Monad.{pick}
use Rattle.cc_meaning.specs.Store.{same_numbers}
use Rattle.cc_meaning.specs.Alike.{In, here, there}
use Rattle.cc_meaning.specs.FlatPaths.{Use, Setting, Mention, used, set, same_path, settings, uses, extended}

-- ---- paths

-- the second path goes on from the first, or is the same
pub data Begins (v : Path) : Path → Type 0 where
  begins_itself : Begins v v
  begins_further : (w : Path) (p : ℕ) → Begins v w → Begins v (extended w p)

-- the second path goes on from the first
pub record Before (v w : Path) : Type 0 where
  pub path : Path
  pub name : ℕ
  pub is : w ≡ extended path name
  pub begins : Begins v path

pub before_next : (v : Path) (p : ℕ) → Before v (extended v p)
before_next v p = record { path = v; name = p; is = refl; begins = begins_itself }

pub begins_after : {v w : Path} → Before v w → Begins v w
begins_after {v = v} b = subst (Begins v) (sym b.is) (begins_further b.path b.name b.begins)

pub begins_through : {u v w : Path} → Begins u v → Begins v w → Begins u w
begins_through b begins_itself = b
begins_through b (begins_further w p c) = begins_further w p (begins_through b c)

pub before_through : {u v w : Path} → Before u v → Begins v w → Before u w
before_through b begins_itself = b
before_through b (begins_further w p c) = record { path = w; name = p; is = refl; begins = begins_through (begins_after b) c }

pub through_before : {u v w : Path} → Begins u v → Before v w → Before u w
through_before b c = record { path = c.path; name = c.name; is = c.is; begins = begins_through b c.begins }

no_snoc : (xs : List ℕ) (p : ℕ) → [] ≡ xs ++ p ∷ [] → ⊥
no_snoc [] p h = cc
no_snoc (x ∷ xs) p h = cc

snoc_same : (xs ys : List ℕ) (p q : ℕ) → xs ++ p ∷ [] ≡ ys ++ q ∷ [] → xs ≡ ys
snoc_same [] [] p q h = refl
snoc_same [] (y ∷ ys) p q h = absurd (no_snoc ys q (cc))
snoc_same (x ∷ xs) [] p q h = absurd (no_snoc xs p (cc))
snoc_same (x ∷ xs) (y ∷ ys) p q h =
    let r = snoc_same xs ys p q (cc) in
    let d : x ≡ y = cc in
    ap (λ z. z ∷ xs) d ∙ ap (λ z. y ∷ z) r

pub no_extended : (n : ℕ) (w : Path) (p : ℕ) → (n, []) ≡ extended w p → ⊥
no_extended n w p h = no_snoc w.1 p (ap (λ z. z.1) h)

pub extended_same : (v w : Path) (p q : ℕ) → extended v p ≡ extended w q → v ≡ w
extended_same v w p q h =
    let a : v.0 ≡ w.0 = ap (λ z. z.0) h in
    let b : v.1 ≡ w.1 = snoc_same v.1 w.1 p q (ap (λ z. z.1) h) in
    ap (λ z. (z, v.1)) a ∙ ap (λ z. (w.0, z)) b

equal_lists : (xs ys : List ℕ) → list_eq xs ys ≡ true → xs ≡ ys
unfolding list_eq
equal_lists [] [] h = refl
equal_lists [] (y ∷ ys) h = absurd (cc)
equal_lists (x ∷ xs) [] h = absurd (cc)
equal_lists (x ∷ xs) (y ∷ ys) h =
    let p = and_parts (nat_eq x y) (list_eq xs ys) h in
    ap (λ z. z ∷ xs) (eqb-true x y p.0) ∙ ap (λ z. y ∷ z) (equal_lists xs ys p.1)

same_lists : (xs : List ℕ) → list_eq xs xs ≡ true
unfolding list_eq
same_lists [] = refl
same_lists (x ∷ xs) = and_from (nat_eq x x) (list_eq xs xs) (eq-eqb x x refl) (same_lists xs)

pub path_is : (v w : Path) → same_path v w ≡ true → v ≡ w
unfolding same_path same_numbers
path_is v w h =
    let p = and_parts (nat_eq v.0 w.0) (list_eq v.1 w.1) h in
    ap (λ z. (z, v.1)) (eqb-true v.0 w.0 p.0) ∙ ap (λ z. (w.0, z)) (equal_lists v.1 w.1 p.1)

pub path_same : (w : Path) → same_path w w ≡ true
unfolding same_path same_numbers
path_same w = and_from (nat_eq w.0 w.0) (list_eq w.1 w.1) (eq-eqb w.0 w.0 refl) (same_lists w.1)

-- ---- what is in a list

pub in_next : {A : Type 0} {x y : A} {xs : List A} → In x (y ∷ xs) → (x ≡ y) ⊎ In x xs
in_next here = inl refl
in_next (there i) = inr i

picked_first : {A : Type 0} (b : Bool) (x : A) (xs : List A) → b ≡ true → In x (pick b (x ∷ xs) xs)
picked_first true x xs h = here
picked_first false x xs h = absurd (cc)

picked_more : {A : Type 0} (b : Bool) (x : A) {y : A} (xs : List A) → In y xs → In y (pick b (x ∷ xs) xs)
picked_more true x xs i = there i
picked_more false x xs i = i

-- ---- the settings and the uses of a path

module _ (w : Path) where
  pub in_settings : (ms : List Mention) {s : Setting} → In (set w s) ms → In s (settings w ms)
  unfolding settings
  in_settings [] i = elim i [ ]
  in_settings (used v u ∷ ms) (there i) = in_settings ms i
  in_settings (set v s ∷ ms) (there i) = picked_more (same_path v w) s (settings w ms) (in_settings ms i)
  in_settings (set v s ∷ ms) here = picked_first (same_path w w) s (settings w ms) (path_same w)

  pub settings_in : (ms : List Mention) {s : Setting} → In s (settings w ms) → In (set w s) ms
  unfolding settings
  settings_in [] i = elim i [ ]
  settings_in (used v u ∷ ms) i = there (settings_in ms i)
  settings_in (set v t ∷ ms) {s = s} i = by_test (settings_in ms) (same_path v w) refl i
    where
      first : v ≡ w → s ≡ t → In (set w s) (set v t ∷ ms)
      first e d = subst (λ z. In (set w s) (set z t ∷ ms)) (sym e) (subst (λ z. In (set w s) (set w z ∷ ms)) d here)

      by_test : (In s (settings w ms) → In (set w s) ms) → (b : Bool) → same_path v w ≡ b → In s (pick b (t ∷ settings w ms) (settings w ms)) → In (set w s) (set v t ∷ ms)
      by_test more true e j = elim (in_next j) [ inl d ↦ first (path_is v w e) d | inr k ↦ there (more k) ]
      by_test more false e j = there (more j)

  pub in_uses : (ms : List Mention) {u : Use} → In (used w u) ms → In u (uses w ms)
  unfolding uses
  in_uses [] i = elim i [ ]
  in_uses (set v s ∷ ms) (there i) = in_uses ms i
  in_uses (used v u ∷ ms) (there i) = picked_more (same_path v w) u (uses w ms) (in_uses ms i)
  in_uses (used v u ∷ ms) here = picked_first (same_path w w) u (uses w ms) (path_same w)

  pub uses_in : (ms : List Mention) {u : Use} → In u (uses w ms) → In (used w u) ms
  unfolding uses
  uses_in [] i = elim i [ ]
  uses_in (set v s ∷ ms) i = there (uses_in ms i)
  uses_in (used v t ∷ ms) {u = u} i = by_test (uses_in ms) (same_path v w) refl i
    where
      first : v ≡ w → u ≡ t → In (used w u) (used v t ∷ ms)
      first e d = subst (λ z. In (used w u) (used z t ∷ ms)) (sym e) (subst (λ z. In (used w u) (used w z ∷ ms)) d here)

      by_test : (In u (uses w ms) → In (used w u) ms) → (b : Bool) → same_path v w ≡ b → In u (pick b (t ∷ uses w ms) (uses w ms)) → In (used w u) (used v t ∷ ms)
      by_test more true e j = elim (in_next j) [ inl d ↦ first (path_is v w e) d | inr k ↦ there (more k) ]
      by_test more false e j = there (more j)

  -- ---- how often it is set

  unfoldable pub count : List Mention → ℕ
  count ms = length (settings w ms)

  pub count_both : (xs ys : List Mention) → count (xs ++ ys) ≡ count xs + count ys
  unfolding count settings
  count_both [] ys = omega arith
  count_both (used v u ∷ xs) ys = count_both xs ys
  count_both (set v s ∷ xs) ys = by_test (count_both xs ys) (same_path v w)
    where
      by_test : count (xs ++ ys) ≡ count xs + count ys → (b : Bool) → length (pick b (s ∷ settings w (xs ++ ys)) (settings w (xs ++ ys))) ≡ length (pick b (s ∷ settings w xs) (settings w xs)) + count ys
      by_test h true = ap suc h ∙ omega arith
      by_test h false = h
