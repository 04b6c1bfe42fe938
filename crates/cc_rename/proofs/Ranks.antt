-- The order in which variables get their names: different variables have different ranks.
use Rattle.std.specs.Prelude.{◌≡◌, ℕ, suc, ◌+◌, ◌<◌, ◌≤◌, List, [], ◌∷◌, Bool, true, false, ◌||◌, ◌&&◌, nat_lt, nat_eq, cond, count_by}
use Rattle.std.proofs.Common.{refl, sym, ap, ◌∙◌, arith}
use Rattle.std.proofs.lemmas.Bool.Decides.{nat_tests}
use Rattle.std.proofs.lemmas.List.Sums.{sum_by-cons}
use Rattle.cc_ast.specs.Syntax as S
use Rattle.cc_meaning.specs.Alike.{In, here, there}
use Rattle.cc_rename.specs.Uses.{Variable, global, slot, uses, occurrences}
use Rattle.cc_rename.specs.Naming.{variables, is_lesser, comes_before, rank}

-- the order of two variables by how often they are printed
abbrev ordered : (a b : ℕ) → Variable → Variable → Bool
ordered a b v w = nat_lt b a || (nat_eq a b && is_lesser v w)

lesser_itself : (v : Variable) → is_lesser v v ≡ false
unfolding is_lesser
lesser_itself (global n) = grind (arith, nat_tests)
lesser_itself (slot n) = grind (arith, nat_tests)

lesser_on : (u v w : Variable) → is_lesser u v ≡ true → is_lesser v w ≡ true → is_lesser u w ≡ true
unfolding is_lesser
lesser_on (global l) (global m) (global n) h g = grind (arith, nat_tests)
lesser_on (global l) (global m) (slot n) h g = refl
lesser_on (global l) (slot m) (global n) h g = cc
lesser_on (global l) (slot m) (slot n) h g = refl
lesser_on (slot l) (global m) w h g = cc
lesser_on (slot l) (slot m) (global n) h g = cc
lesser_on (slot l) (slot m) (slot n) h g = grind (arith, nat_tests)

same_global : (m n : ℕ) → nat_lt m n ≡ false → nat_lt n m ≡ false → global m ≡ global n
same_global m n h g = let e : m ≡ n = grind (arith, nat_tests) in ap global e

same_slot : (m n : ℕ) → nat_lt m n ≡ false → nat_lt n m ≡ false → slot m ≡ slot n
same_slot m n h g = let e : m ≡ n = grind (arith, nat_tests) in ap slot e

lesser_or : (v w : Variable) → is_lesser v w ≡ false → is_lesser w v ≡ false → v ≡ w
unfolding is_lesser
lesser_or (global m) (global n) h g = same_global m n h g
lesser_or (global m) (slot n) h g = cc
lesser_or (slot m) (global n) h g = cc
lesser_or (slot m) (slot n) h g = same_slot m n h g

data Comes (a b : ℕ) (v w : Variable) : Type 0 where
  more : b < a → Comes a b v w
  as_often : a ≡ b → is_lesser v w ≡ true → Comes a b v w

comes : (a b : ℕ) (v w : Variable) → ordered a b v w ≡ true → Comes a b v w
comes a b v w h = by (nat_lt b a) refl (nat_eq a b) refl (is_lesser v w) refl h where
  by : (x : Bool) → nat_lt b a ≡ x → (y : Bool) → nat_eq a b ≡ y → (z : Bool) → is_lesser v w ≡ z → (x || (y && z)) ≡ true → Comes a b v w
  by true e y f z g h = more (grind (arith, nat_tests))
  by false e true f true g h = as_often (grind (arith, nat_tests)) g
  by false e true f false g h = cc
  by false e false f z g h = cc

is_ordered : (a b : ℕ) (v w : Variable) → Comes a b v w → ordered a b v w ≡ true
is_ordered a b v w (more l) = let e : nat_lt b a ≡ true = grind (arith, nat_tests) in ap (λ x. x || (nat_eq a b && is_lesser v w)) e
is_ordered a b v w (as_often q l) =
    let e : nat_lt b a ≡ false = grind (arith, nat_tests) in
    let f : nat_eq a b ≡ true = grind (arith, nat_tests) in
    ap (λ x. x || (nat_eq a b && is_lesser v w)) e ∙ ap (λ x. x && is_lesser v w) f ∙ l

ordered_on : (a b c : ℕ) (u v w : Variable) → ordered a b u v ≡ true → ordered b c v w ≡ true → ordered a c u w ≡ true
ordered_on a b c u v w h g = is_ordered a c u w (by (comes a b u v h) (comes b c v w g)) where
  by : Comes a b u v → Comes b c v w → Comes a c u w
  by (more l) (more k) = more (omega (arith, l, k))
  by (more l) (as_often q k) = more (omega (arith, l, q))
  by (as_often p l) (more k) = more (omega (arith, p, k))
  by (as_often p l) (as_often q k) = as_often (p ∙ q) (lesser_on u v w l k)

ordered_itself : (a : ℕ) (v : Variable) → ordered a a v v ≡ false
ordered_itself a v = by (ordered a a v v) refl where
  never : Comes a a v v → ⊥
  never (more l) = omega (arith, l)
  never (as_often q l) = let e = sym (lesser_itself v) ∙ l in cc

  by : (x : Bool) → ordered a a v v ≡ x → x ≡ false
  by true e = absurd (never (comes a a v v e))
  by false e = refl

ordered_or : (a b : ℕ) (v w : Variable) → ordered a b v w ≡ false → ordered b a w v ≡ false → v ≡ w
ordered_or a b v w h g = by (nat_lt b a) refl (nat_lt a b) refl (is_lesser v w) refl (is_lesser w v) refl where
  no : (x : Bool) → x ≡ false → x ≡ true → ⊥
  no x e f = let q = sym e ∙ f in cc

  by : (x : Bool) → nat_lt b a ≡ x → (y : Bool) → nat_lt a b ≡ y → (z : Bool) → is_lesser v w ≡ z → (t : Bool) → is_lesser w v ≡ t → v ≡ w
  by true e y f z p t q = absurd (no (ordered a b v w) h (is_ordered a b v w (more (grind (arith, nat_tests)))))
  by false e true f z p t q = absurd (no (ordered b a w v) g (is_ordered b a w v (more (grind (arith, nat_tests)))))
  by false e false f true p t q = absurd (no (ordered a b v w) h (is_ordered a b v w (as_often (grind (arith, nat_tests)) p)))
  by false e false f false p true q = absurd (no (ordered b a w v) g (is_ordered b a w v (as_often (grind (arith, nat_tests)) q)))
  by false e false f false p false q = lesser_or v w p q

-- ---- counts

pub count_more : {A : Type 0} (p : A → Bool) (x : A) (xs : List A) → count_by p (x ∷ xs) ≡ cond (p x) 1 0 + count_by p xs
count_more p x xs = sum_by-cons (λ y. cond (p y) 1 0) x xs

step : (a b : Bool) (m n : ℕ) → (a ≡ true → b ≡ true) → m ≤ n → cond a 1 0 + m ≤ cond b 1 0 + n
step true true m n h l = omega (arith, l)
step true false m n h l = let e = h refl in cc
step false true m n h l = omega (arith, l)
step false false m n h l = omega (arith, l)

fewer : {A : Type 0} (p q : A → Bool) (xs : List A) → ((x : A) → p x ≡ true → q x ≡ true) → count_by p xs ≤ count_by q xs
fewer p q [] h = omega arith
fewer p q (x ∷ xs) h = let s = step (p x) (q x) (count_by p xs) (count_by q xs) (h x) (fewer p q xs h) in let a = count_more p x xs in let b = count_more q x xs in omega (arith, s, a, b)

strictly_fewer : {A : Type 0} (p q : A → Bool) (xs : List A) (y : A) → ((x : A) → p x ≡ true → q x ≡ true) → In y xs → p y ≡ false → q y ≡ true → count_by p xs < count_by q xs
strictly_fewer p q [] y h i e f = elim i [ ]
strictly_fewer p q (_ ∷ xs) y h here e f = let l = fewer p q xs h in let a = ap (λ b. cond b 1 0 + count_by p xs) e in let c = ap (λ b. cond b 1 0 + count_by q xs) f in let m = count_more p y xs in let n = count_more q y xs in omega (arith, l, a, c, m, n)
strictly_fewer p q (x ∷ xs) y h (there i) e f = let l = strictly_fewer p q xs y h i e f in let s = step (p x) (q x) (suc (count_by p xs)) (count_by q xs) (h x) (omega (arith, l)) in let m = count_more p x xs in let n = count_more q x xs in omega (arith, s, m, n)

module _ (P : S.Program) where
  pub before_on : (u v w : Variable) → comes_before P u v ≡ true → comes_before P v w ≡ true → comes_before P u w ≡ true
  unfolding comes_before
  before_on u v w h g = ordered_on (occurrences (uses P) u) (occurrences (uses P) v) (occurrences (uses P) w) u v w h g

  pub before_itself : (v : Variable) → comes_before P v v ≡ false
  unfolding comes_before
  before_itself v = ordered_itself (occurrences (uses P) v) v

  pub before_or : (v w : Variable) → comes_before P v w ≡ false → comes_before P w v ≡ false → v ≡ w
  unfolding comes_before
  before_or v w h g = ordered_or (occurrences (uses P) v) (occurrences (uses P) w) v w h g

  pub rises : (v w : Variable) → In v (variables P) → comes_before P v w ≡ true → rank P v < rank P w
  unfolding rank
  rises v w i h = strictly_fewer (λ u. comes_before P u v) (λ u. comes_before P u w) (variables P) v (λ u e. before_on u v w e h) i (before_itself v) h

  pub ranks_differ : (v w : Variable) → In v (variables P) → In w (variables P) → rank P v ≡ rank P w → v ≡ w
  ranks_differ v w i j e = by (comes_before P v w) refl (comes_before P w v) refl where
    by : (x : Bool) → comes_before P v w ≡ x → (y : Bool) → comes_before P w v ≡ y → v ≡ w
    by true h y g = absurd (let l = rises v w i h in omega (arith, l, e))
    by false h true g = absurd (let l = rises w v j g in omega (arith, l, e))
    by false h false g = before_or v w h g
