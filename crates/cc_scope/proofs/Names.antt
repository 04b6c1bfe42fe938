-- Why a name in the text is the variable that was meant.
use Rattle.std.proofs.Common.{◌≡◌, refl, sym, ap, ◌∙◌, subst, arith, ℕ, zero, suc, ◌+◌, ◌<◌, Bool, true, false, ◌&&◌, ◌||◌, nat_eq, cond, List, [], ◌∷◌, ◌++◌, Some, None}
use Rattle.std.proofs.lemmas.Bool.Decides.{nat_tests}
use Rattle.cc_ast.specs.declared.tree.Ref.{Ref}
use Rattle.cc_meaning.specs.Alike.{In, here, there, Nth, first}
use Rattle.cc_meaning.specs.Alike as al
use Rattle.cc_meaning.specs.Operators.{list_eq, is_in}
use Rattle.cc_scope.specs.Lists.{Name, later, index_of, new_names}
use Rattle.cc_scope.specs.Resolve.{Outer, Frames, lookup, in_frame, outwards, global_named}
use Rattle.cc_scope.specs.Written.{Naming, Apart, Frame, sizes, base, slot, shown, rank, has, fresh}

pub eq_self : (n : Name) → list_eq n n ≡ true
unfolding list_eq
eq_self [] = refl
eq_self (c ∷ cs) = rw (eq_self cs) (grind (arith, nat_tests))

second : (a b : Bool) → a && b ≡ true → b ≡ true
second true b e = e
second false b e = cc

pub eq_equal : (n m : Name) → list_eq n m ≡ true → n ≡ m
unfolding list_eq
eq_equal [] [] e = refl
eq_equal [] (d ∷ ds) e = cc
eq_equal (c ∷ cs) [] e = cc
eq_equal (c ∷ cs) (d ∷ ds) e = let h : c ≡ d = grind (arith, nat_tests) in let k = eq_equal cs ds (second (nat_eq c d) (list_eq cs ds) e) in cc

abbrev pub env : Naming → List Frame → Frames
env v [] = []
env v (l ∷ c) = shown v (base (sizes c)) l.order ∷ env v c

by_test : {A : Type 0} (b d : Bool) (x y z : A) → (b ≡ true → d ≡ true) → (d ≡ true → b ≡ true) → y ≡ z → cond b x y ≡ cond d x z
by_test true true x y z f g e = refl
by_test true false x y z f g e = absurd (cc (f refl))
by_test false true x y z f g e = absurd (cc (g refl))
by_test false false x y z f g e = e

same_test : (v : Naming) → Apart v → (b m n : ℕ) → list_eq (v.local (b + m)) (v.local (b + n)) ≡ nat_eq m n
same_test v a b m n = by (list_eq (v.local (b + m)) (v.local (b + n))) (nat_eq m n) refl refl where
  by : (x y : Bool) → list_eq (v.local (b + m)) (v.local (b + n)) ≡ x → nat_eq m n ≡ y → x ≡ y
  by true true e d = refl
  by false false e d = refl
  by true false e d = let h = a.local (b + m) (b + n) (eq_equal _ _ e) in absurd (grind (arith, nat_tests))
  by false true e d = let h : m ≡ n = grind (arith, nat_tests) in absurd (let k = subst (λ j. list_eq (v.local (b + m)) (v.local (b + j)) ≡ true) h (eq_self (v.local (b + m))) in cc)

-- a name's place is its number's, as different numbers have different names
pub place_shown : (v : Naming) → Apart v → (b n : ℕ) (ns : List ℕ) → index_of (v.local (b + n)) (shown v b ns) ≡ rank n ns
unfolding index_of rank
place_shown v a b n [] = refl
place_shown v a b n (m ∷ ms) = rw (same_test v a b n m) (ap (λ o. cond (nat_eq n m) (Some 0) (later o)) (place_shown v a b n ms))

pub in_shown : (v : Naming) → Apart v → (b n : ℕ) (ns : List ℕ) → is_in (v.local (b + n)) (shown v b ns) ≡ has n ns
unfolding is_in has
in_shown v a b n [] = refl
in_shown v a b n (m ∷ ms) = rw (same_test v a b n m) (by (nat_eq n m) (in_shown v a b n ms)) where
  by : (x : Bool) → is_in (v.local (b + n)) (shown v b ms) ≡ has n ms → (x || is_in (v.local (b + n)) (shown v b ms)) ≡ cond x true (has n ms)
  by true e = refl
  by false e = e

-- the name of a lesser slot stands nowhere among those from b on
pub not_shown : (v : Naming) → Apart v → (b s : ℕ) (ns : List ℕ) → s < b → index_of (v.local s) (shown v b ns) ≡ None
unfolding index_of later
not_shown v a b s [] h = refl
not_shown v a b s (m ∷ ms) h = by_test (list_eq (v.local s) (v.local (b + m))) false (Some 0) _ None (λ e. let k = a.local s (b + m) (eq_equal _ _ e) in absurd (omega arith)) (λ e. absurd (cc)) (ap later (not_shown v a b s ms h))

pub global_not_shown : (v : Naming) → Apart v → (b n : ℕ) (ns : List ℕ) → index_of (v.global n) (shown v b ns) ≡ None
unfolding index_of later
global_not_shown v a b n [] = refl
global_not_shown v a b n (m ∷ ms) = by_test (list_eq (v.global n) (v.local (b + m))) false (Some 0) _ None (λ e. absurd (a.mixed _ _ (sym (eq_equal _ _ e)))) (λ e. absurd (cc)) (ap later (global_not_shown v a b n ms))

slot_below : (c : List Frame) (up place : ℕ) (l : Frame) → Nth l up c → place < l.size → slot (sizes c) up place < base (sizes c)
slot_below [] up place l' x h = elim x [ ]
slot_below (l ∷ c) zero place l' first h = omega arith
slot_below (k ∷ c) (suc up) place l (al.later n) h = omega (arith, slot_below c up place l n h)

-- No capture: a name of a local means its frame, and there its place among those that are declared.
pub resolves : (v : Naming) → Apart v → (W : Outer) (c : List Frame) (up place n : ℕ) (l : Frame) → Nth l up c → place < l.size → rank place l.order ≡ Some n
    → lookup W (env v c) (v.local (slot (sizes c) up place)) ≡ Some (Ref.Frame up n)
unfolding lookup in_frame outwards
resolves v a W [] up place n l' x h r = elim x [ ]
resolves v a W (l ∷ c) zero place n l' first h r = rw (place_shown v a (base (sizes c)) place l.order, r) refl
resolves v a W (k ∷ c) (suc up) place n l (al.later i) h r = rw (not_shown v a (base (sizes c)) (slot (sizes c) up place) k.order (slot_below c up place l i h)) (ap outwards (resolves v a W c up place n l i h r))

pub resolves_global : (v : Naming) → Apart v → (W : Outer) (c : List Frame) (n m : ℕ) → global_named W (v.global n) ≡ Some (Ref.Global m) → lookup W (env v c) (v.global n) ≡ Some (Ref.Global m)
unfolding lookup in_frame outwards
resolves_global v a W [] n m e = e
resolves_global v a W (l ∷ c) n m e = rw (global_not_shown v a (base (sizes c)) n l.order) (ap outwards (resolves_global v a W c n m e))

pub shown_append : (v : Naming) (b : ℕ) (ms ns : List ℕ) → shown v b (ms ++ ns) ≡ shown v b ms ++ shown v b ns
shown_append v b [] ns = refl
shown_append v b (m ∷ ms) ns = ap (λ xs. v.local (b + m) ∷ xs) (shown_append v b ms ns)

-- new names are those of new places
pub shown_news : (v : Naming) → Apart v → (b : ℕ) (ms ns : List ℕ) → new_names (shown v b ms) (shown v b ns) ≡ shown v b (fresh ms ns)
unfolding new_names fresh
shown_news v a b ms [] = refl
shown_news v a b ms (n ∷ ns) = rw (in_shown v a b n ms) (by (has n ms) (shown_news v a b ms ns) (ap (λ xs. new_names xs (shown v b ns)) (sym (shown_append v b ms (n ∷ []))) ∙ shown_news v a b (ms ++ n ∷ []) ns)) where
  by : (x : Bool) → new_names (shown v b ms) (shown v b ns) ≡ shown v b (fresh ms ns) → new_names (shown v b ms ++ v.local (b + n) ∷ []) (shown v b ns) ≡ shown v b (fresh (ms ++ n ∷ []) ns)
      → cond x (new_names (shown v b ms) (shown v b ns)) (v.local (b + n) ∷ new_names (shown v b ms ++ v.local (b + n) ∷ []) (shown v b ns)) ≡ shown v b (cond x (fresh ms ns) (n ∷ fresh (ms ++ n ∷ []) ns))
  by true e d = e
  by false e d = ap (λ xs. v.local (b + n) ∷ xs) d
