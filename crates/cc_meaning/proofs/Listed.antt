-- What holds of each element of a list that is written out, told one by one.
use Rattle.std.proofs.Common.{◌≡◌, ℕ, zero, suc, ◌+◌, ◌<◌, Bool, true, false, List, [], ◌∷◌, ◌++◌, map, Some, refl, sym, ap, subst, ◌∙◌, arith}
use Rattle.std.specs.Prelude.{slice_get, nat_eq, not, ◌&&◌, ◌||◌}
use Rattle.std.specs.List.{list_any}
use Rattle.std.specs.Option.{option_to_list}
use Rattle.std.proofs.lemmas.Bool.{eqb-true, eq-eqb, and_parts}
use Rattle.cc_ast.specs.Syntax.{Scope, Program}
use Rattle.cc_ast.specs.declared.tables.Class.{Class}
use Rattle.cc_ast.specs.declared.tree.Ref.{Ref}
use Rattle.cc_meaning.specs.Operators.{list_eq}
use Rattle.cc_meaning.specs.Alike.{In, here, there}
use Rattle.cc_meaning.specs.Parts.{Part, declares}
use Rattle.cc_meaning.specs.WellMade.{IsDistinct, Encloses, directly, further, IsCode, its_function, its_method}

infixr 5 ◌▹◌
pub data Each {A : Type 0} (P : A → Type 0) : List A → Type 0 where
  none : Each P []
  ◌▹◌ : {x : A} {xs : List A} → P x → Each P xs → Each P (x ∷ xs)

pub each_in : {A : Type 0} {P : A → Type 0} {xs : List A} → Each P xs → (x : A) → In x xs → P x
each_in (p ▹ ps) x here = p
each_in (p ▹ ps) x (there i) = each_in ps x i
each_in none x i = elim i [ ]

-- the same with the places of the list, from the k-th on
pub data Placed {A : Type 0} (P : ℕ → A → Type 0) : ℕ → List A → Type 0 where
  nowhere : {k : ℕ} → Placed P k []
  placed : {k : ℕ} {x : A} {xs : List A} → P k x → Placed P (suc k) xs → Placed P k (x ∷ xs)

pub same_some : {A : Type 0} {x y : A} → Some x ≡ Some y → x ≡ y
same_some e = cc

placed_from : {A : Type 0} {P : ℕ → A → Type 0} {k : ℕ} {xs : List A} → Placed P k xs → (n : ℕ) (x : A) → slice_get xs n ≡ Some x → P (k + n) x
placed_from {P = P} {k = k} (placed {x = y} p ps) zero x e =
    let d : k ≡ k + 0 = omega arith in
    subst (λ z. P z x) d (subst (P k) (same_some e) p)
placed_from {P = P} {k = k} (placed p ps) (suc n) x e =
    let d : suc k + n ≡ k + suc n = omega arith in
    subst (λ z. P z x) d (placed_from ps n x e)
placed_from nowhere n x e = absurd (cc)

pub placed_at : {A : Type 0} {P : ℕ → A → Type 0} {xs : List A} → Placed P 0 xs → (n : ℕ) (x : A) → slice_get xs n ≡ Some x → P n x
placed_at {P = P} ps n x e =
    let d : 0 + n ≡ n = omega arith in
    subst (λ z. P z x) d (placed_from ps n x e)

-- ---- by tests

or_false : (a b : Bool) → a || b ≡ false → (a ≡ false) × (b ≡ false)
or_false false b h = (refl, h)
or_false true b h = absurd (cc)

pub not_listed : (n : ℕ) (xs : List ℕ) → list_any (nat_eq n) xs ≡ false → In n xs → ⊥
not_listed n [] h i = elim i [ ]
not_listed n (_ ∷ xs) h here = let a = (or_false (nat_eq n n) (list_any (nat_eq n) xs) h).0 in let b = eq-eqb n n refl in cc
not_listed n (x ∷ xs) h (there i) = not_listed n xs (or_false (nat_eq n x) (list_any (nat_eq n) xs) h).1 i

module _ {A : Type 0} (eq : A → A → Bool) (same : (x : A) → eq x x ≡ true) where
  -- no element stands twice
  unfoldable pub once : List A → Bool
  once [] = true
  once (x ∷ xs) = not (list_any (eq x) xs) && once xs

  at_some : (x : A) (xs : List A) (j : ℕ) → slice_get xs j ≡ Some x → list_any (eq x) xs ≡ true
  at_some x [] j e = absurd (cc)
  at_some x (y ∷ xs) zero e = ap (λ z. z || list_any (eq x) xs) (subst (λ z. eq x z ≡ true) (sym (same_some e)) (same x))
  at_some x (y ∷ xs) (suc j) e = either (eq x y) (at_some x xs j e)
    where
      either : (b : Bool) {c : Bool} → c ≡ true → b || c ≡ true
      either true h = refl
      either false h = h

  unlike : {B : Type 0} (b : Bool) → b ≡ true → not b ≡ true → B
  unlike true h k = absurd (cc)
  unlike false h k = absurd (cc)

  pub distinct : (xs : List A) → once xs ≡ true → IsDistinct xs
  unfolding once
  distinct [] h i j x e d = absurd (cc)
  distinct (y ∷ xs) h zero zero x e d = refl
  distinct (y ∷ xs) h zero (suc j) x e d = unlike (list_any (eq y) xs) (at_some y xs j (d ∙ sym e)) (and_parts (not (list_any (eq y) xs)) (once xs) h).0
  distinct (y ∷ xs) h (suc i) zero x e d = unlike (list_any (eq y) xs) (at_some y xs i (e ∙ sym d)) (and_parts (not (list_any (eq y) xs)) (once xs) h).0
  distinct (y ∷ xs) h (suc i) (suc j) x e d = ap suc (distinct xs (and_parts (not (list_any (eq y) xs)) (once xs) h).1 i j x e d)

pub same_number : (n : ℕ) → nat_eq n n ≡ true
same_number n = eq-eqb n n refl

pub same_text : (t : List ℕ) → list_eq t t ≡ true
unfolding list_eq
same_text [] = refl
same_text (c ∷ cs) = ap (λ z. z && list_eq cs cs) (same_number c) ∙ same_text cs

-- ---- of programs

-- the globals that are declared
unfoldable pub declared_in : List Part → List ℕ
declared_in [] = []
declared_in (declares c (Ref.Global n) ∷ xs) = n ∷ declared_in xs
declared_in (_ ∷ xs) = declared_in xs

pub declared : {c n : ℕ} (xs : List Part) → In (declares c (Ref.Global n)) xs → In n (declared_in xs)
unfolding declared_in
declared _ here = here
declared (declares d (Ref.Global m) ∷ xs) (there i) = there (declared xs i)
declared (_ ∷ xs) (there i) = declared xs i

pub declared_at : (n : ℕ) (xs : List Part) → list_any (nat_eq n) (declared_in xs) ≡ true → (c : ℕ) × In (declares c (Ref.Global n)) xs
unfolding declared_in
declared_at n [] h = absurd (cc)
declared_at n (declares c (Ref.Global m) ∷ xs) h = by_test (declared_at n xs) (nat_eq n m) refl h
  where
    by_test : (list_any (nat_eq n) (declared_in xs) ≡ true → (d : ℕ) × In (declares d (Ref.Global n)) xs) → (b : Bool) → nat_eq n m ≡ b → b || list_any (nat_eq n) (declared_in xs) ≡ true → (d : ℕ) × In (declares d (Ref.Global n)) (declares c (Ref.Global m) ∷ xs)
    by_test more true e k = (c, subst (λ z. In (declares c (Ref.Global n)) (declares c (Ref.Global z) ∷ xs)) (eqb-true n m e) here)
    by_test more false e k = let r = more k in (r.0, there r.1)
declared_at n (x ∷ xs) h = let r = declared_at n xs h in (r.0, there r.1)

-- where each parent has a lesser number, no scope encloses itself
pub no_loop : (P : Program) → ((f : ℕ) (s : Scope) → slice_get P.scopes f ≡ Some s → (g : ℕ) → s.parent ≡ Some g → g < f) → (f : ℕ) → Encloses P f f → ⊥
no_loop P less f h = let p = below h in omega arith
  where
    below : {f g : ℕ} → Encloses P f g → g < f
    below (directly a b s e p) = less a s e b p
    below (further a b c h k) = let p = below h in let q = below k in omega arith

-- the functions that are code of a class
unfoldable pub codes_of : Class → List ℕ
codes_of c = option_to_list c.function ++ map (λ m. m.1) c.methods

pub is_code : (c : Class) (f : ℕ) → IsCode c f → In f (codes_of c)
unfolding codes_of
is_code c f (its_function h) = subst (λ z. In f (option_to_list z ++ map (λ m. m.1) c.methods)) (sym h) here
is_code c f (its_method p i) = after (option_to_list c.function) (in_methods c.methods i)
  where
    after : (xs : List ℕ) {ys : List ℕ} → In f ys → In f (xs ++ ys)
    after [] j = j
    after (x ∷ xs) j = there (after xs j)

    in_methods : (ms : List (ℕ × ℕ)) → In (p, f) ms → In f (map (λ m. m.1) ms)
    in_methods _ here = here
    in_methods (m ∷ ms) (there j) = there (in_methods ms j)
