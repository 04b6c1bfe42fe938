-- The numbering of a whole program, and where things stand in its tables.
use Rattle.std.proofs.Common.{◌≡◌, refl, sym, ap, ◌∙◌, subst, arith, ◌⊎◌, inl, inr, ℕ, zero, suc, ◌+◌, ◌<◌, ◌≤◌, Bool, true, false, ◌||◌, nat_eq, cond, List, [], ◌∷◌, ◌++◌, length, map, Option, Some, None, append_assoc, length-append}
use Rattle.std.specs.Prelude.{slice_get, replicate}
use Rattle.std.proofs.lemmas.Bool.Decides.{nat_tests}
use Rattle.std.proofs.lemmas.Option.{slice_get_within}
use Rattle.cc_ast.specs.Syntax.{Scope, no_stmts}
use Rattle.cc_meaning.specs.Values.{Val}
use Rattle.cc_meaning.specs.Operators.{list_eq, is_in}
use Rattle.cc_meaning.specs.Store.{fitted, arguments}
use Rattle.cc_meaning.specs.Alike.{In, here, there, Paired, OneToOne, Numbering}
use Rattle.cc_scope.specs.Lists.{Name, later, index_of, new_names, or_zero}
use Rattle.cc_scope.specs.Written.{rank, count_from, fresh, has, order_of}
use Rattle.cc_scope.proofs.Names.{eq_self, eq_equal}
use Rattle.cc_scope.proofs.Law.{Entry, Stands, Fits, Runs, ends, goes, length_count}

-- ---- lists

pub map_in : {A B : Type 0} (f : A → B) {x : A} {xs : List A} → In x xs → In (f x) (map f xs)
map_in f here = here
map_in f (there i) = there (map_in f i)

pub map_out : {A B : Type 0} (f : A → B) (y : B) (xs : List A) → In y (map f xs) → (x : A) × In x xs × (f x ≡ y)
map_out f y [] i = elim i [ ]
map_out f y (x ∷ xs) here = (x, here, refl)
map_out f y (x ∷ xs) (there i) = let d = map_out f y xs i in (d.0, there d.1, d.2)

-- ---- places by rank

ranked : (i : ℕ) (xs : List ℕ) → In i xs → (j : ℕ) × (rank i xs ≡ Some j)
unfolding rank later
ranked i [] h = elim h [ ]
ranked i (x ∷ xs) here = (0, by (nat_eq i i) refl) where
  by : (b : Bool) → nat_eq i i ≡ b → cond b (Some 0) (later (rank i xs)) ≡ Some 0
  by true h = refl
  by false h = absurd (grind (arith, nat_tests))
ranked i (x ∷ xs) (there h) = by (nat_eq i x) (ranked i xs h) where
  by : (b : Bool) → (j : ℕ) × (rank i xs ≡ Some j) → (j : ℕ) × (cond b (Some 0) (later (rank i xs)) ≡ Some j)
  by true d = (0, refl)
  by false d = (suc d.0, ap later d.1)

below : (o : Option ℕ) (j : ℕ) → later o ≡ Some j → (i : ℕ) × (o ≡ Some i) × (j ≡ suc i)
unfolding later or_zero
below None j e = absurd (cc)
below (Some i) j e = (i, refl, sym (ap or_zero e))

pub rank_in : (i : ℕ) (xs : List ℕ) (j : ℕ) → rank i xs ≡ Some j → In i xs
unfolding rank
rank_in i [] j e = absurd (cc)
rank_in i (x ∷ xs) j e = by (nat_eq i x) refl e (λ k h. rank_in i xs k h) where
  by : (b : Bool) → nat_eq i x ≡ b → cond b (Some 0) (later (rank i xs)) ≡ Some j → ((k : ℕ) → rank i xs ≡ Some k → In i xs) → In i (x ∷ xs)
  by true h d f = let z : x ≡ i = grind (arith, nat_tests) in subst (λ y. In i (y ∷ xs)) (sym z) here
  by false h d f = let s = below (rank i xs) j d in there (f s.0 s.1)

-- what stands at a rank
rank_at : (i : ℕ) (xs : List ℕ) (j : ℕ) → rank i xs ≡ Some j → slice_get xs j ≡ Some i
unfolding rank or_zero
rank_at i [] j e = absurd (cc)
rank_at i (x ∷ xs) j e = by (nat_eq i x) refl e (λ k h. rank_at i xs k h) where
  by : (b : Bool) → nat_eq i x ≡ b → cond b (Some 0) (later (rank i xs)) ≡ Some j → ((k : ℕ) → rank i xs ≡ Some k → slice_get xs k ≡ Some i) → slice_get (x ∷ xs) j ≡ Some i
  by true h d f = let z : x ≡ i = grind (arith, nat_tests) in subst (λ k. slice_get (x ∷ xs) k ≡ Some i) (ap or_zero d) (ap Some z)
  by false h d f = let s = below (rank i xs) j d in subst (λ k. slice_get (x ∷ xs) k ≡ Some i) (sym s.2) (f s.0 s.1)

abbrev pub pairs : List ℕ → List (ℕ × ℕ)
pairs xs = map (λ i. (i, or_zero (rank i xs))) xs

pub pair_in : (xs : List ℕ) (i j : ℕ) → rank i xs ≡ Some j → Paired (pairs xs) i j
unfolding or_zero
pair_in xs i j e = subst (λ k. In (i, k) (pairs xs)) (ap or_zero e) (map_in (λ k. (k, or_zero (rank k xs))) (rank_in i xs j e))

pub pair_out : (xs : List ℕ) (i j : ℕ) → Paired (pairs xs) i j → rank i xs ≡ Some j
unfolding or_zero
pair_out xs i j h =
    let d = map_out (λ k. (k, or_zero (rank k xs))) (i, j) xs h in
    let r = ranked d.0 xs d.1 in
    let a : d.0 ≡ i = ap (λ p. p.0) d.2 in
    let b : or_zero (rank d.0 xs) ≡ j = ap (λ p. p.1) d.2 in
    ap (λ k. rank k xs) (sym a) ∙ r.1 ∙ ap Some (sym (ap or_zero r.1) ∙ b)

same_some : {x y : ℕ} → Some x ≡ Some y → x ≡ y
unfolding or_zero
same_some e = ap or_zero e

pub pairs_once : (xs : List ℕ) → OneToOne (pairs xs)
pairs_once xs = record {
  left = λ m n k h i. same_some (sym (pair_out xs m n h) ∙ pair_out xs m k i);
  right = λ m k n h i. same_some (sym (rank_at m xs n (pair_out xs m n h)) ∙ rank_at k xs n (pair_out xs k n i));
}

-- ---- the numbering

nothing : Scope
nothing = record { params = 0; names = 0; own = false; body = no_stmts; parent = None; doc = 0 }

none_there : Entry
unfolding nothing
none_there = record { f = 0; g = 0; around = []; from = nothing; scope = nothing }

unfoldable pub entry : List Entry → ℕ → Entry
unfolding none_there
entry [] g = none_there
entry (w ∷ L) g = cond (nat_eq w.g g) w (entry L g)

beyond : {k : ℕ} {L : List Entry} {w : Entry} → Runs k L → In w L → k ≤ w.g
beyond ends i = elim i [ ]
beyond (goes e q) here = omega arith
beyond (goes e q) (there i) = omega (arith, beyond q i)

chosen : {A : Type 0} (b : Bool) (x y : A) → b ≡ true → cond b x y ≡ x
chosen true x y e = refl
chosen false x y e = cc

passed : {A : Type 0} (b : Bool) (x y : A) → b ≡ false → cond b x y ≡ y
passed true x y e = cc
passed false x y e = refl

pub entry_is : {k : ℕ} {L : List Entry} {w : Entry} → Runs k L → In w L → entry L w.g ≡ w
unfolding entry
entry_is ends i = elim i [ ]
entry_is {w} (goes {L} e q) here = chosen (nat_eq w.g w.g) w (entry L w.g) (grind (arith, nat_tests))
entry_is {w} (goes {w = u} {L} e q) (there i) = passed (nat_eq u.g w.g) u (entry L w.g) (let h = beyond q i in grind (arith, nat_tests)) ∙ entry_is q i

abbrev pub numbering : List (ℕ × ℕ) → List Entry → Numbering
numbering G L = record { functions = map (λ w. (w.f, w.g)) L; around = λ q. (entry L q.1).around; places = λ q. pairs (order_of (entry L q.1).from); globals = G }

pub fits : (G : List (ℕ × ℕ)) {k : ℕ} (L : List Entry) → Runs k L → Fits G (numbering G L) L
fits G L r = record { globals = λ i j h. h; functions = λ w i. at w i } where
  at : (w : Entry) → In w L → Stands (numbering G L) w
  at w i = let e = entry_is r i in record {
    paired = map_in (λ u. (u.f, u.g)) i;
    around = ap (λ u. u.around) e;
    places = λ k j h. subst (λ u. Paired (pairs (order_of u.from)) k j) (sym e) (pair_in (order_of w.from) k j h);
  }

-- ---- tables

pub got_at : {A : Type 0} (xs ys : List A) (y : A) (k : ℕ) → length xs ≡ k → slice_get (xs ++ (y ∷ ys)) k ≡ Some y
got_at {A = A} xs ys y k e = subst (λ i. slice_get (xs ++ (y ∷ ys)) i ≡ Some y) e (at xs) where
  at : (zs : List A) → slice_get (zs ++ (y ∷ ys)) (length zs) ≡ Some y
  at [] = refl
  at (z ∷ zs) = at zs

pub got : {k : ℕ} {L : List Entry} {w : Entry} (X : List Scope) → length X ≡ k → Runs k L → In w L → slice_get (X ++ map (λ u. u.scope) L) w.g ≡ Some w.scope
got X e ends i = elim i [ ]
got {w} X e (goes {L} d q) here = got_at X (map (λ u. u.scope) L) w.scope w.g (e ∙ sym d)
got {w} X e (goes {w = u} {L} d q) (there i) =
    subst (λ l. slice_get l w.g ≡ Some w.scope) (append_assoc X (u.scope ∷ []) (map (λ z. z.scope) L)) (got (X ++ u.scope ∷ []) (let h = length-append X (u.scope ∷ []) in omega arith) q i)

pub first_part : {A : Type 0} (xs ys : List A) (k : ℕ) (x : A) → slice_get xs k ≡ Some x → slice_get (xs ++ ys) k ≡ Some x
first_part [] ys k x e = absurd (cc)
first_part (y ∷ xs) ys zero x e = e
first_part (y ∷ xs) ys (suc k) x e = first_part xs ys k x e

-- ---- lists of names

pub is_in_in : (n : Name) (ns : List Name) → is_in n ns ≡ true → In n ns
unfolding is_in
is_in_in n [] e = absurd (cc)
is_in_in n (m ∷ ms) e = by (list_eq n m) refl e (λ h. is_in_in n ms h) where
  by : (b : Bool) → list_eq n m ≡ b → (b || is_in n ms) ≡ true → (is_in n ms ≡ true → In n ms) → In n (m ∷ ms)
  by true h d f = subst (λ y. In n (y ∷ ms)) (eq_equal n m h) here
  by false h d f = there (f d)

at_end : (n x : Name) (zs : List Name) → In n (zs ++ x ∷ []) → In n zs ⊎ (n ≡ x)
at_end n x [] here = inr refl
at_end n x [] (there i) = elim i [ ]
at_end n x (z ∷ zs) here = inl here
at_end n x (z ∷ zs) (there i) = elim (at_end n x zs i) [ inl j ↦ inl (there j) | inr j ↦ inr j ]

pub news_have : (n : Name) (ms ns : List Name) → In n ns → In n ms ⊎ In n (new_names ms ns)
unfolding new_names
news_have n ms [] h = elim h [ ]
news_have n ms (x ∷ ns) here = by (is_in n ms) refl where
  by : (b : Bool) → is_in n ms ≡ b → In n ms ⊎ In n (cond b (new_names ms ns) (n ∷ new_names (ms ++ n ∷ []) ns))
  by true e = inl (is_in_in n ms e)
  by false e = inr here
news_have n ms (x ∷ ns) (there h) = by (is_in x ms) (news_have n ms ns h) (news_have n (ms ++ x ∷ []) ns h) where
  moved : {k : List Name} → In n ms ⊎ (n ≡ x) → In n ms ⊎ In n (x ∷ k)
  moved (inl j) = inl j
  moved {k} (inr j) = inr (subst (λ y. In n (y ∷ k)) j here)

  by : (b : Bool) → In n ms ⊎ In n (new_names ms ns) → In n (ms ++ x ∷ []) ⊎ In n (new_names (ms ++ x ∷ []) ns) → In n ms ⊎ In n (cond b (new_names ms ns) (x ∷ new_names (ms ++ x ∷ []) ns))
  by true d e = d
  by false d (inl e) = moved (at_end n x ms e)
  by false d (inr e) = inr (there e)

-- a name that stands in a list is found in it
pub indexed : (n : Name) (ns : List Name) → In n ns → (k : ℕ) × (index_of n ns ≡ Some k) × (slice_get ns k ≡ Some n)
unfolding index_of later
indexed n [] h = elim h [ ]
indexed n (m ∷ ms) here = (0, rw (eq_self n) refl, refl)
indexed n (m ∷ ms) (there h) = by (list_eq n m) refl (indexed n ms h) where
  by : (b : Bool) → list_eq n m ≡ b → (k : ℕ) × (index_of n ms ≡ Some k) × (slice_get ms k ≡ Some n) → (k : ℕ) × (cond b (Some 0) (later (index_of n ms)) ≡ Some k) × (slice_get (m ∷ ms) k ≡ Some n)
  by true e d = (0, refl, ap Some (sym (eq_equal n m e)))
  by false e d = (suc d.0, ap later d.1, d.2)

-- ---- the places of a call

count_rank : (k p i : ℕ) (r : List ℕ) → i < p → rank (k + i) (count_from k p ++ r) ≡ Some i
unfolding count_from rank later
count_rank k zero i r h = absurd (omega arith)
count_rank k (suc p) zero r h = chosen (nat_eq (k + 0) k) (Some 0) _ (grind (arith, nat_tests))
count_rank k (suc p) (suc i) r h = passed (nat_eq (k + suc i) k) (Some 0) _ (grind (arith, nat_tests)) ∙ ap later (subst (λ z. rank z (count_from (suc k) p ++ r) ≡ Some i) (let e : suc k + i ≡ k + suc i = omega arith in e) (count_rank (suc k) p i r (omega arith)))

count_at : (k p j : ℕ) (r : List ℕ) → j < p → slice_get (count_from k p ++ r) j ≡ Some (k + j)
unfolding count_from
count_at k zero j r h = absurd (omega arith)
count_at k (suc p) zero r h = ap Some (let e : k ≡ k + 0 = omega arith in e)
count_at k (suc p) (suc j) r h = count_at (suc k) p j r (omega arith) ∙ ap Some (let e : suc k + j ≡ k + suc j = omega arith in e)

length_arguments : (p : ℕ) (vs : List Val) → length (arguments p vs) ≡ p
unfolding arguments
length_arguments zero vs = refl
length_arguments (suc p) [] = ap suc (length_arguments p [])
length_arguments (suc p) (v ∷ vs) = ap suc (length_arguments p vs)

left_either : {A : Type 0} (xs ys zs : List A) (i : ℕ) → i < length xs → slice_get (xs ++ ys) i ≡ slice_get (xs ++ zs) i
left_either [] ys zs i h = absurd (omega arith)
left_either (x ∷ xs) ys zs zero h = refl
left_either (x ∷ xs) ys zs (suc i) h = left_either xs ys zs i (omega arith)

abbrev no_value : Option Val
no_value = None

none_at : (n i : ℕ) → i < n → slice_get (replicate n no_value) i ≡ Some no_value
none_at zero i h = absurd (omega arith)
none_at (suc n) zero h = refl
none_at (suc n) (suc i) h = none_at n i (omega arith)

past_end : (xs : List (Option Val)) (n i : ℕ) → length xs ≤ i → i < length xs + n → slice_get (xs ++ replicate n None) i ≡ Some None
past_end [] n i h k = none_at n i (omega arith)
past_end (x ∷ xs) n zero h k = absurd (omega arith)
past_end (x ∷ xs) n (suc i) h k = past_end xs n i (omega arith) (omega arith)

-- two frames with the same parameters hold the same at places of one rank
pub fitted_same : (p n m i j : ℕ) (r : List ℕ) (vs : List Val) → rank i (count_from 0 p ++ r) ≡ Some j → i < p + n → length r ≡ m → slice_get (fitted p n vs) i ≡ slice_get (fitted p m vs) j
unfolding fitted
fitted_same p n m i j r vs e h d = elim (split i p) [
  | inl k ↦ (let z : i ≡ j = same_some (sym (count_rank 0 p i r k) ∙ subst (λ y. rank y (count_from 0 p ++ r) ≡ Some j) (let w : i ≡ 0 + i = omega arith in w) e) in
      left_either (arguments p vs) (replicate n None) (replicate m None) i (let l = length_arguments p vs in omega arith) ∙ ap (slice_get (arguments p vs ++ replicate m None)) z)
  | inr k ↦ (let l = length_arguments p vs in let q = j_past k in let t = j_below in
      past_end (arguments p vs) n i (omega arith) (omega arith) ∙ sym (past_end (arguments p vs) m j (omega arith) (omega arith)))
]
  where
    split : (a b : ℕ) → (a < b) ⊎ (b ≤ a)
    split a b = grind arith

    j_below : j < p + m
    j_below = let a = slice_get_within (count_from 0 p ++ r) j i (rank_at i _ j e) in let b = length-append (count_from 0 p) r in let c = length_count 0 p in omega arith

    j_past : p ≤ i → p ≤ j
    j_past k = elim (split j p) [ inl q ↦ (let z : 0 + j ≡ i = same_some (sym (count_at 0 p j r q) ∙ rank_at i _ j e) in absurd (omega arith)) | inr q ↦ q ]

pub count_below : (k p i : ℕ) → In i (count_from k p) → i < k + p
unfolding count_from
count_below k zero i h = elim h [ ]
count_below k (suc p) i here = omega arith
count_below k (suc p) i (there h) = omega (arith, count_below (suc k) p i h)

pub head_or : {A : Type 0} (i n : A) (ns : List A) → In i (n ∷ ns) → (i ≡ n) ⊎ In i ns
head_or i n ns here = inl refl
head_or i n ns (there h) = inr h

pub fresh_in : (ms ns : List ℕ) (i : ℕ) → In i (fresh ms ns) → In i ns
unfolding fresh
fresh_in ms [] i h = elim h [ ]
fresh_in ms (n ∷ ns) i h = by (has n ms) h (λ g. fresh_in ms ns i g) (λ g. fresh_in (ms ++ n ∷ []) ns i g) where
  by : (b : Bool) → In i (cond b (fresh ms ns) (n ∷ fresh (ms ++ n ∷ []) ns)) → (In i (fresh ms ns) → In i ns) → (In i (fresh (ms ++ n ∷ []) ns) → In i ns) → In i (n ∷ ns)
  by true g x y = there (x g)
  by false g x y = elim (head_or i n _ g) [ inl e ↦ subst (λ z. In i (z ∷ ns)) e here | inr j ↦ there (y j) ]
