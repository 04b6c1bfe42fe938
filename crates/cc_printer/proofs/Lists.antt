-- Laws of lists and tests: what holds of all parts of a list, and which texts stand in one.
use Rattle.std.specs.Prelude.{◌≡◌, ℕ, zero, suc, ◌<◌, List, [], ◌∷◌, ◌++◌, Bool, true, false, ◌&&◌, ◌||◌, nat_eq, length, Option, Some, slice_get}
use Rattle.std.specs.Str.{bytes_eq}
use Rattle.std.proofs.Common.{refl, sym, ap, ap₂, ◌∙◌, subst, arith}
use Rattle.std.proofs.lemmas.Bool.{eqb-true, eq-eqb}
use Rattle.std.proofs.lemmas.Slice.Eq.{bytes_eq-Decides}
use Rattle.cc_meaning.specs.Operators.{list_eq, is_in}
use Rattle.cc_meaning.specs.Alike.{In, here, there}
use Rattle.cc_grammar.specs.Grammar.{is_among}

-- ---- all parts of a list

abbrev pub Every : {A : Type 0} → (A → Type 0) → List A → Type 0
Every Q [] = Unit {0}
Every Q (x ∷ xs) = Q x × Every Q xs

pub parted : {A : Type 0} (Q : A → Type 0) (xs ys : List A) → Every Q (xs ++ ys) → Every Q xs × Every Q ys
parted Q [] ys h = (tt, h)
parted Q (x ∷ xs) ys h = let r = parted Q xs ys h.1 in ((h.0, r.0), r.1)

pub every : {A : Type 0} (Q : A → Type 0) (xs : List A) → ((x : A) → In x xs → Q x) → Every Q xs
every Q [] h = tt
every Q (x ∷ xs) h = (h x here, every Q xs (λ y i. h y (there i)))

-- ---- tests

pub and_parts : (a b : Bool) → (a && b) ≡ true → (a ≡ true) × (b ≡ true)
and_parts true b h = (refl, h)
and_parts false b h = cc

both_ways : (a b : Bool) → (a ≡ true → b ≡ true) → (b ≡ true → a ≡ true) → a ≡ b
both_ways true b f g = sym (f refl)
both_ways false true f g = g refl
both_ways false false f g = refl

texts_one : (m n : List ℕ) → list_eq m n ≡ true → m ≡ n
unfolding list_eq
texts_one [] [] e = refl
texts_one [] (y ∷ ys) e = cc
texts_one (x ∷ xs) [] e = cc
texts_one (x ∷ xs) (y ∷ ys) e = let h = and_parts (nat_eq x y) (list_eq xs ys) e in ap₂ (λ z zs. z ∷ zs) (eqb-true x y h.0) (texts_one xs ys h.1)

text_itself : (n : List ℕ) → list_eq n n ≡ true
unfolding list_eq
text_itself [] = refl
text_itself (x ∷ xs) = ap (λ b. b && list_eq xs xs) (eq-eqb x x refl) ∙ text_itself xs

same_text : (n m : List ℕ) → list_eq n m ≡ bytes_eq m n
same_text n m = both_ways (list_eq n m) (bytes_eq m n) (λ e. (bytes_eq-Decides m n).1 (sym (texts_one n m e))) (λ e. subst (λ x. list_eq n x ≡ true) (sym ((bytes_eq-Decides m n).0 e)) (text_itself n))

-- the two tests whether a label stands in a list
pub same_member : (n : List ℕ) (ls : List (List ℕ)) → is_in n ls ≡ is_among n ls
unfolding is_in
same_member n [] = refl
same_member n (l ∷ ls) = ap₂ (λ a b. a || b) (same_text n l) (same_member n ls)

-- ---- what stands at a place

pub there_is : {A : Type 0} (xs : List A) (n : ℕ) → n < length xs → (x : A) × (slice_get xs n ≡ Some x)
there_is [] n h = absurd (omega arith)
there_is (x ∷ xs) zero h = (x, refl)
there_is (x ∷ xs) (suc n) h = let r = there_is xs n (omega arith) in (r.0, r.1)

pub some_one : {A : Type 0} {x y : A} {o : Option A} → o ≡ Some x → o ≡ Some y → x ≡ y
some_one e f = let g = sym e ∙ f in cc
