-- Runs of bytes that pass a test, and steps of a reading.
use Rattle.std.proofs.Common.{◌≡◌, ℕ, suc, ◌+◌, Bool, true, false, ◌&&◌, cond, nat_eq, List, [], ◌∷◌, ◌++◌, length, take, drop, Option, None, Some, refl, sym, ap, ◌∙◌, arith, eqb-true, eq-eqb, inl, inr, ◌⊎◌, true≢false}
use Rattle.std.specs.List.{list_all, prefix_len}
use Rattle.std.proofs.Math.Seq.{take-append_seam, drop-append_seam}
use Rattle.std.proofs.lemmas.List.{take-append-drop}
use Rattle.std.proofs.lemmas.Slice.Eq.{bytes_eq-Decides}
use Rattle.cc_driver.specs.FormReading.{Reading, and_then, look, begins, expect, expect_word}

pub run_of : (p : ℕ → Bool) (n rest : List ℕ) → list_all p n ≡ true → p (look rest) ≡ false → prefix_len p (n ++ rest) ≡ length n
run_of p [] [] all ends = refl
run_of p [] (c ∷ cs) all ends = ap (λ b. cond b (1 + prefix_len p cs) 0) ends
run_of p (c ∷ n) rest all ends =
    let h : p c ≡ true = both.0 in
    let ih : prefix_len p (n ++ rest) ≡ length n = run_of p n rest both.1 ends in
    ap (λ b. cond b (1 + prefix_len p (n ++ rest)) 0) h ∙ omega arith
  where
    both : (p c ≡ true) × (list_all p n ≡ true)
    both = parts (p c) (list_all p n) all
      where
        parts : (a b : Bool) → (a && b) ≡ true → (a ≡ true) × (b ≡ true)
        parts true b e = (refl, e)
        parts false b e = absurd (true≢false (sym e))

pub run_passes : (p : ℕ → Bool) (xs : List ℕ) → list_all p (take (prefix_len p xs) xs) ≡ true
run_passes p [] = refl
run_passes p (x ∷ xs) = by (p x) refl (run_passes p xs)
  where
    by : (b : Bool) → p x ≡ b → list_all p (take (prefix_len p xs) xs) ≡ true → list_all p (take (cond b (1 + prefix_len p xs) 0) (x ∷ xs)) ≡ true
    by false e h = refl
    by true e h =
        let one : 1 + prefix_len p xs ≡ suc (prefix_len p xs) = omega arith in
        ap (λ k. list_all p (take k (x ∷ xs))) one ∙ ap (λ b. b && list_all p (take (prefix_len p xs) xs)) e ∙ h

pub looked : (xs : List ℕ) (c : ℕ) → look xs ≡ suc c → xs ≡ suc c ∷ drop 1 xs
looked [] c e = absurd (omega arith)
looked (x ∷ xs) c e = ap (λ y. y ∷ xs) e

-- the parts of a reading in two steps
pub record Parts {A B : Type 0} (m : Reading A) (f : A → ℕ → List ℕ → Option B) (b : B) : Type 0 where
  pub first : A
  pub end : ℕ
  pub rest : List ℕ
  pub read : m ≡ Some (first, end, rest)
  pub then : f first end rest ≡ Some b

pub parts : {A B : Type 0} (m : Reading A) (f : A → ℕ → List ℕ → Option B) (b : B) → and_then m f ≡ Some b → Parts m f b
parts None f b e = absurd (none_some e)
  where
    none_some : None ≡ Some b → ⊥
    none_some e = cc
parts (Some x) f b e = record { first = x.0; end = x.1; rest = x.2; read = refl; then = e }

pub same_some : {X : Type 0} {x y : X} → Some x ≡ Some y → x ≡ y
same_some e = cc

pub tested : {X : Type 0} (b : Bool) (x y : X) → cond b (Some x) None ≡ Some y → (b ≡ true) × (x ≡ y)
tested true x y e = (refl, same_some e)
tested false x y e = absurd (none_some e)
  where
    none_some : None ≡ Some y → ⊥
    none_some e = cc

pub either : {X : Type 0} (b : Bool) (x y z : X) → cond b x y ≡ z → ((b ≡ true) × (x ≡ z)) ⊎ ((b ≡ false) × (y ≡ z))
either true x y z e = inl (refl, e)
either false x y z e = inr (refl, e)

pub step : {A B : Type 0} {m : Reading A} {a : A} {end : ℕ} {rest : List ℕ} (f : A → ℕ → List ℕ → Option B) {r : Option B} → m ≡ Some (a, end, rest) → f a end rest ≡ r → and_then m f ≡ r
step f e h = ap (λ m. and_then m f) e ∙ h

pub chosen : {X : Type 0} {b : Bool} (x y : X) {z : X} → b ≡ true → x ≡ z → cond b x y ≡ z
chosen x y e h = ap (λ c. cond c x y) e ∙ h

pub skipped : {X : Type 0} {b : Bool} (x y : X) {z : X} → b ≡ false → y ≡ z → cond b x y ≡ z
skipped x y e h = ap (λ c. cond c x y) e ∙ h

-- a byte that was there
pub record Byte (c at : ℕ) (xs : List ℕ) (end : ℕ) (rest : List ℕ) : Type 0 where
  pub here : xs ≡ c ∷ rest
  pub ends : end ≡ at + 1

pub expected : (c at : ℕ) (xs : List ℕ) (u : Unit {0}) (end : ℕ) (rest : List ℕ) → expect (suc c) at xs ≡ Some (u, end, rest) → Byte (suc c) at xs end rest
unfolding expect
expected c at xs u end rest e =
    let w = tested (nat_eq (look xs) (suc c)) (tt, at + 1, drop 1 xs) (u, end, rest) e in
    let is : look xs ≡ suc c = eqb-true (look xs) (suc c) w.0 in
    record { here = looked xs c is ∙ ap (λ p. suc c ∷ p.2) w.1; ends = ap (λ p. p.1) (sym w.1) }

pub takes : (c at : ℕ) (rest : List ℕ) → expect c at (c ∷ rest) ≡ Some (tt, at + 1, rest)
unfolding expect
takes c at rest = chosen _ _ (eq-eqb c c refl) refl

-- a word that was there
pub record Word (w : List ℕ) (at : ℕ) (xs : List ℕ) (end : ℕ) (rest : List ℕ) : Type 0 where
  pub here : xs ≡ w ++ rest
  pub ends : end ≡ at + length w

pub begun : (w xs : List ℕ) → begins w xs ≡ true → xs ≡ w ++ drop (length w) xs
begun w xs e = sym (take-append-drop (length w) xs) ∙ ap (λ v. v ++ drop (length w) xs) (sym ((bytes_eq-Decides w (take (length w) xs)).0 e))

pub begins_so : (w rest : List ℕ) → begins w (w ++ rest) ≡ true
begins_so w rest = (bytes_eq-Decides w (take (length w) (w ++ rest))).1 (sym (take-append_seam w rest))

pub expected_word : (w : List ℕ) (at : ℕ) (xs : List ℕ) (u : Unit {0}) (end : ℕ) (rest : List ℕ) → expect_word w at xs ≡ Some (u, end, rest) → Word w at xs end rest
unfolding expect_word
expected_word w at xs u end rest e =
    let t = tested (begins w xs) (tt, at + length w, drop (length w) xs) (u, end, rest) e in
    record { here = begun w xs t.0 ∙ ap (λ p. w ++ p.2) t.1; ends = ap (λ p. p.1) (sym t.1) }

pub takes_word : (w : List ℕ) (at : ℕ) (rest : List ℕ) → expect_word w at (w ++ rest) ≡ Some (tt, at + length w, rest)
unfolding expect_word
takes_word w at rest = chosen _ _ (begins_so w rest) (ap (λ r. Some (tt, at + length w, r)) (drop-append_seam w rest))
