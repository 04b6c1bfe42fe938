-- A variable that a scope of a well made program mentions is seen where it is written.
use Rattle.std.specs.Prelude.{◌≡◌, ℕ, zero, suc, ◌+◌, ◌<◌, ◌≤◌, ◌⊎◌, Bool, true, false, IsTrue, IsFalse, nat_eq, cond, List, [], ◌∷◌, ◌++◌, Option, Some, None, slice_get}
use Rattle.std.proofs.Common.{refl, sym, ap, ◌∙◌, subst, arith, inl, inr}
use Rattle.std.proofs.lemmas.Bool.Decides.{nat_tests}
use Rattle.cc_ast.specs.declared.tree.Ref.{Ref}
use Rattle.cc_ast.specs.Syntax as S
use Rattle.cc_meaning.specs.Shapes.{tables_of}
use Rattle.cc_meaning.specs.Alike.{In, here, there, Nth, first, later}
use Rattle.cc_meaning.specs.Parts.{declares, makes}
use Rattle.cc_meaning.specs.WellMade.{WellMade, parts_of, is_chunk, IsOwn, is_param, is_declared, Holds, of_catch, of_frame, of_own, of_outer, of_outer_own}
use Rattle.cc_printer.specs.RawOf.{Frames, outside}
use Rattle.cc_printer.specs.Naming.{Around, around_chunk, around_function, inside_catches, inside_function}
use Rattle.cc_printer.proofs.Lists.{some_one}
use Rattle.cc_printer.proofs.Slots.{no_both, in_cons, one_place, scope_of}
use Rattle.cc_scope.specs.Lists as list
use Rattle.cc_scope.specs.Written.{Frame, sizes, single, owned, frame_of, order_of, rank, has, fresh, count_from, number_of, stmts_in}
use Rattle.cc_written.proofs.Trees.{catches, sizes_inside}
use Rattle.cc_written.proofs.Declares.{is_listed}

-- ---- lists

pub in_left : {A : Type 0} (x : A) (xs ys : List A) → In x xs → In x (xs ++ ys)
in_left x [] ys i = elim i [ ]
in_left x (_ ∷ xs) ys here = here
in_left x (y ∷ xs) ys (there i) = there (in_left x xs ys i)

pub in_right : {A : Type 0} (x : A) (xs ys : List A) → In x ys → In x (xs ++ ys)
in_right x [] ys i = i
in_right x (y ∷ xs) ys i = there (in_right x xs ys i)

pub in_either : {A : Type 0} (x : A) (xs ys : List A) → In x (xs ++ ys) → In x xs ⊎ In x ys
in_either x [] ys i = inr i
in_either x (y ∷ xs) ys i = front (in_cons x y (xs ++ ys) i) (in_either x xs ys) where
  back : In x xs ⊎ In x ys → In x (y ∷ xs) ⊎ In x ys
  back (inl k) = inl (there k)
  back (inr k) = inr k

  front : (x ≡ y) ⊎ In x (xs ++ ys) → (In x (xs ++ ys) → In x xs ⊎ In x ys) → In x (y ∷ xs) ⊎ In x ys
  front (inl q) go = inl (subst (λ z. In x (z ∷ xs)) q here)
  front (inr k) go = back (go k)

later_some : (o : Option ℕ) (k : ℕ) → o ≡ Some k → list.later o ≡ Some (suc k)
unfolding list.later
later_some None k e = cc
later_some (Some n) k e = let q : n ≡ k = cc in ap (λ m. Some (suc m)) q

-- what stands in a list has a place there
pub ranked : (m : ℕ) (ms : List ℕ) → In m ms → (k : ℕ) × (rank m ms ≡ Some k)
unfolding rank
ranked m [] i = elim i [ ]
ranked m (x ∷ ms) i = by (nat_eq m x) refl (in_cons m x ms i) (ranked m ms) where
  deeper : (k : ℕ) × (rank m ms ≡ Some k) → (k : ℕ) × (list.later (rank m ms) ≡ Some k)
  deeper r = (suc r.0, later_some (rank m ms) r.0 r.1)

  by : (b : Bool) → nat_eq m x ≡ b → (m ≡ x) ⊎ In m ms → (In m ms → (k : ℕ) × (rank m ms ≡ Some k)) → (k : ℕ) × (cond b (Some 0) (list.later (rank m ms)) ≡ Some k)
  by true e j go = (0, refl)
  by false e (inl q) go = absurd (grind (arith, nat_tests))
  by false e (inr j) go = deeper (go j)

pub counted : (k n m : ℕ) → k ≤ m → m < k + n → In m (count_from k n)
unfolding count_from
counted k zero m h l = absurd (omega (arith, h, l))
counted k (suc n) m h l = by (nat_eq m k) refl (λ g. counted (suc k) n m (omega (arith, g)) (omega (arith, l))) where
  by : (b : Bool) → nat_eq m k ≡ b → (k < m → In m (count_from (suc k) n)) → In m (k ∷ count_from (suc k) n)
  by true e go = let q : k ≡ m = grind (arith, nat_tests) in subst (λ x. In x (k ∷ count_from (suc k) n)) q here
  by false e go = there (go (grind (arith, nat_tests)))

had : (m : ℕ) (ms : List ℕ) → has m ms ≡ true → In m ms
unfolding has
had m [] e = cc
had m (x ∷ ms) e = by (nat_eq m x) refl e (had m ms) where
  by : (b : Bool) → nat_eq m x ≡ b → cond b true (has m ms) ≡ true → (has m ms ≡ true → In m ms) → In m (x ∷ ms)
  by true q e go = let z : x ≡ m = grind (arith, nat_tests) in subst (λ y. In y (x ∷ ms)) z here
  by false q e go = there (go e)

-- a number of the second list is in the first, or fresh
fresh_or : (m : ℕ) (ms ns : List ℕ) → In m ns → In m ms ⊎ In m (fresh ms ns)
unfolding fresh
fresh_or m ms [] i = elim i [ ]
fresh_or m ms (x ∷ ns) i = by (has x ms) refl (in_cons m x ns i) (fresh_or m ms ns) (fresh_or m (ms ++ x ∷ []) ns) where
  last : In m ms ⊎ In m (x ∷ []) → In m ms ⊎ In m (x ∷ fresh (ms ++ x ∷ []) ns)
  last (inl k) = inl k
  last (inr k) = inr (in_left m (x ∷ []) (fresh (ms ++ x ∷ []) ns) k)

  pushed : In m (ms ++ x ∷ []) ⊎ In m (fresh (ms ++ x ∷ []) ns) → In m ms ⊎ In m (x ∷ fresh (ms ++ x ∷ []) ns)
  pushed (inl j) = last (in_either m ms (x ∷ []) j)
  pushed (inr j) = inr (there j)

  by : (b : Bool) → has x ms ≡ b → (m ≡ x) ⊎ In m ns → (In m ns → In m ms ⊎ In m (fresh ms ns)) → (In m ns → In m (ms ++ x ∷ []) ⊎ In m (fresh (ms ++ x ∷ []) ns))
      → In m ms ⊎ In m (cond b (fresh ms ns) (x ∷ fresh (ms ++ x ∷ []) ns))
  by true e (inl q) go more = inl (subst (λ y. In y ms) (sym q) (had x ms e))
  by true e (inr j) go more = go j
  by false e (inl q) go more = inr (subst (λ y. In m (y ∷ fresh (ms ++ x ∷ []) ns)) q here)
  by false e (inr j) go more = pushed (more j)

-- ---- the order of a frame

own_ranked : (P : S.Program) (f m : ℕ) (s : S.Scope) → slice_get P.scopes f ≡ Some s → IsOwn P s f m → (k : ℕ) × (rank m (order_of s) ≡ Some k)
unfolding order_of number_of
own_ranked P f m s e (is_param _ l) = ranked m _ (in_left m (count_from 0 s.params) (fresh (count_from 0 s.params) (stmts_in s.body)) (counted 0 s.params m (omega arith) (omega (arith, l))))
own_ranked P f m s e (is_declared _ c l i) = ranked m _ (by (fresh_or m (count_from 0 s.params) (stmts_in s.body) body)) where
  body : In m (stmts_in s.body)
  body =
      let o = scope_of P f (declares c (Ref.Frame c m)) i in
      let q : o.scope ≡ s = some_one o.stands e in
      subst (λ z. In m (stmts_in z.body)) q (is_listed (tables_of P) 0 c (Ref.Frame c m) o.scope.body (subst (λ xs. In (declares c (Ref.Frame c m)) xs) o.parts i))

  by : In m (count_from 0 s.params) ⊎ In m (fresh (count_from 0 s.params) (stmts_in s.body)) → In m (count_from 0 s.params ++ fresh (count_from 0 s.params) (stmts_in s.body))
  by (inl j) = in_left m (count_from 0 s.params) (fresh (count_from 0 s.params) (stmts_in s.body)) j
  by (inr j) = in_right m (count_from 0 s.params) (fresh (count_from 0 s.params) (stmts_in s.body)) j

-- ---- frames

-- the frames around the statements of a scope that is reached, with their orders
pub data Stands (P : S.Program) : ℕ → Frames → List Frame → Type 0 where
  a_chunk : (c : ℕ) → IsTrue (is_chunk P c) → Stands P c [] []
  a_function : (f g c : ℕ) (d : Bool) (s : S.Scope) (fs : Frames) (cs : List Frame) → Stands P f fs cs → In (makes c g d) (parts_of P f) → slice_get P.scopes g ≡ Some s
      → Stands P g (inside_function s (inside_catches c fs)) (frame_of s ∷ owned s.own (catches c cs))

-- a place that is seen
pub record Sees (cs : List Frame) (up place : ℕ) : Type 0 where
  pub frame : Frame
  pub stands : Nth frame up cs
  pub below : place < frame.size
  pub number : ℕ
  pub ranked : rank place frame.order ≡ Some number

owned_sizes : (own : Bool) (cs : List Frame) → sizes (owned own cs) ≡ outside own (sizes cs)
owned_sizes true cs = refl
owned_sizes false cs = refl

pub stands_sizes : (P : S.Program) (f : ℕ) (fs : Frames) (cs : List Frame) → Stands P f fs cs → sizes cs ≡ fs
stands_sizes P f _ _ (a_chunk _ t) = refl
stands_sizes P g _ _ (a_function f _ c d s fs cs a i e) = ap (λ xs. (s.params + s.names) ∷ xs) (owned_sizes s.own (catches c cs) ∙ ap (outside s.own) (sizes_inside c cs ∙ ap (inside_catches c) (stands_sizes P f fs cs a)))

pub stands_around : (P : S.Program) (f : ℕ) (fs : Frames) (cs : List Frame) → Stands P f fs cs → Around P f fs
stands_around P f _ _ (a_chunk _ t) = around_chunk f t
stands_around P g _ _ (a_function f _ c d s fs cs a i e) = around_function f g c d s fs (stands_around P f fs cs a) i e

-- ---- behind catch clauses, and out of functions

behind_catches : (c k m : ℕ) (l : Frame) (cs : List Frame) → m ≡ c + k → Nth l k cs → Nth l m (catches c cs)
behind_catches zero k m l cs e h = let q : k ≡ m = omega (arith, e) in subst (λ n. Nth l n cs) q h
behind_catches (suc c) k zero l cs e h = absurd (omega (arith, e))
behind_catches (suc c) k (suc m) l cs e h = later (behind_catches c k m l cs (omega (arith, e)) h)

moved : (cs ds : List Frame) (up to place : ℕ) → ((l : Frame) → Nth l up cs → Nth l to ds) → Sees cs up place → Sees ds to place
moved cs ds up to place h s = record { frame = s.frame; stands = h s.frame s.stands; below = s.below; number = s.number; ranked = s.ranked }

catch_nth : (c u : ℕ) (cs : List Frame) → u < c → Nth single u (catches c cs)
catch_nth zero u cs h = absurd (omega (arith, h))
catch_nth (suc c) zero cs h = first
catch_nth (suc c) (suc u) cs h = later (catch_nth c u cs (omega (arith, h)))

own_nth : (own : Bool) (cs : List Frame) → own ≡ true → Nth single 0 (owned own cs)
own_nth true cs e = first
own_nth false cs e = cc

past_own : (own : Bool) (l : Frame) (u : ℕ) (cs : List Frame) → own ≡ true → Nth l u cs → Nth l (suc u) (owned own cs)
past_own true l u cs e h = later h
past_own false l u cs e h = cc

no_own : (own : Bool) (l : Frame) (u : ℕ) (cs : List Frame) → own ≡ false → Nth l u cs → Nth l u (owned own cs)
no_own true l u cs e h = cc
no_own false l u cs e h = h

single_ranked : rank 0 (0 ∷ []) ≡ Some 0
unfolding rank
single_ranked = refl

module _ (P : S.Program) (W : WellMade P) where
  frame_seen : (f c m : ℕ) (s : S.Scope) → slice_get P.scopes f ≡ Some s → IsFalse (is_chunk P f) → IsOwn P s f m → (fs : Frames) (cs : List Frame) → Stands P f fs cs → Sees (catches c cs) c m
  frame_seen f c m s e k o _ _ (a_chunk _ t) = absurd (no_both (is_chunk P f) t k)
  frame_seen f c m s e k o _ _ (a_function g _ d b x fs cs a i y) =
      let q : s ≡ x = some_one e y in
      let r = own_ranked P f m s e o in
      let size : m < s.params + s.names = small o in
      record {
        frame = frame_of x;
        stands = behind_catches c 0 c (frame_of x) (frame_of x ∷ owned x.own (catches d cs)) (omega arith) first;
        below = subst (λ (z : S.Scope). m < z.params + z.names) q size;
        number = r.0;
        ranked = subst (λ z. rank m (order_of z) ≡ Some r.0) q r.1;
      }
    where
      small : IsOwn P s f m → m < s.params + s.names
      small (is_param _ l) = omega (arith, l)
      small (is_declared _ c l i) = l

  own_seen : (f c : ℕ) (s : S.Scope) → slice_get P.scopes f ≡ Some s → IsTrue s.own → (fs : Frames) (cs : List Frame) → Stands P f fs cs → Sees (catches c cs) (suc c) 0
  own_seen f c s e k _ _ (a_chunk _ t) = absurd (no_both s.own k ((W.scopes f s e).chunk_own t))
  own_seen f c s e k _ _ (a_function g _ d b x fs cs a i y) =
      let q : s ≡ x = some_one e y in
      record {
        frame = single;
        stands = behind_catches c 1 (suc c) single (frame_of x ∷ owned x.own (catches d cs)) (omega arith) (later (own_nth x.own (catches d cs) (ap (λ z. z.own) (sym q) ∙ k)));
        below = omega arith;
        number = 0;
        ranked = single_ranked;
      }

  outer_seen : (f g c d u m : ℕ) (s : S.Scope) (b : Bool) → slice_get P.scopes f ≡ Some s → IsFalse (is_chunk P f) → IsFalse s.own → In (makes d f b) (parts_of P g) → ((fs : Frames) (cs : List Frame) → Stands P g fs cs → Sees (catches d cs) u m)
      → (fs : Frames) (cs : List Frame) → Stands P f fs cs → Sees (catches c cs) (suc (c + u)) m
  outer_seen f g c d u m s b e k o i go _ _ (a_chunk _ t) = absurd (no_both (is_chunk P f) t k)
  outer_seen f g c d u m s b e k o i go _ _ (a_function h _ v w x fs cs a j y) =
      let q : s ≡ x = some_one e y in
      let p = one_place P W h g v d f w b j i in
      let r : Sees (catches v cs) u m = subst (λ z. Sees (catches z cs) u m) (sym p.catches) (go fs cs (subst (λ z. Stands P z fs cs) p.scope a)) in
      let all = frame_of x ∷ owned x.own (catches v cs) in
      moved (catches v cs) (catches c all) u (suc (c + u)) m (λ l h. behind_catches c (suc u) (suc (c + u)) l all (omega arith) (later (no_own x.own l u (catches v cs) (ap (λ z. z.own) (sym q) ∙ o) h))) r

  outer_own_seen : (f g c d u m : ℕ) (s : S.Scope) (b : Bool) → slice_get P.scopes f ≡ Some s → IsTrue s.own → In (makes d f b) (parts_of P g) → ((fs : Frames) (cs : List Frame) → Stands P g fs cs → Sees (catches d cs) u m)
      → (fs : Frames) (cs : List Frame) → Stands P f fs cs → Sees (catches c cs) (suc (suc (c + u))) m
  outer_own_seen f g c d u m s b e o i go _ _ (a_chunk _ t) = absurd (no_both s.own o ((W.scopes f s e).chunk_own t))
  outer_own_seen f g c d u m s b e o i go _ _ (a_function h _ v w x fs cs a j y) =
      let q : s ≡ x = some_one e y in
      let p = one_place P W h g v d f w b j i in
      let r : Sees (catches v cs) u m = subst (λ z. Sees (catches z cs) u m) (sym p.catches) (go fs cs (subst (λ z. Stands P z fs cs) p.scope a)) in
      let all = frame_of x ∷ owned x.own (catches v cs) in
      moved (catches v cs) (catches c all) u (suc (suc (c + u))) m (λ l h. behind_catches c (suc (suc u)) (suc (suc (c + u))) l all (omega arith) (later (past_own x.own l u (catches v cs) (ap (λ z. z.own) (sym q) ∙ o) h))) r

  -- a place that a scope holds is seen
  pub seen : (f c u m : ℕ) → Holds P f c u m → (fs : Frames) (cs : List Frame) → Stands P f fs cs → Sees (catches c cs) u m
  seen f c u _ (of_catch _ _ _ h) fs cs a = record { frame = single; stands = catch_nth c u cs h; below = omega arith; number = 0; ranked = single_ranked }
  seen f c _ m (of_frame _ _ _ s e k o) fs cs a = frame_seen f c m s e k o fs cs a
  seen f c _ _ (of_own _ _ s e k) fs cs a = own_seen f c s e k fs cs a
  seen f c _ m (of_outer _ g _ d u _ s b e k o i h) fs cs a = outer_seen f g c d u m s b e k o i (seen g d u m h) fs cs a
  seen f c _ m (of_outer_own _ g _ d u _ s b e o i h) fs cs a = outer_own_seen f g c d u m s b e o i (seen g d u m h) fs cs a
