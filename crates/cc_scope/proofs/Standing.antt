-- Each scope of what is resolved has its frames and its text, and a variable that is found in them is there.
use Rattle.std.proofs.Common.{◌≡◌, refl, sym, ap, ◌∙◌, subst, arith, ◌⊎◌, inl, inr, ℕ, zero, suc, ◌+◌, ◌<◌, ◌≤◌, Bool, true, false, not, nat_lt, List, [], ◌∷◌, ◌++◌, length, Option, Some, None, is_some, length-append}
use Rattle.std.specs.Prelude.{slice_get}
use Rattle.std.proofs.lemmas.Option.{slice_get_within}
use Rattle.std.proofs.lemmas.Bool.Decides.{nat_tests}
use Rattle.cc_ast.specs.declared.tree.Ref.{Ref}
use Rattle.cc_ast.specs.Syntax.{Scope}
use Rattle.cc_meaning.specs.Shapes.{tables_of}
use Rattle.cc_meaning.specs.Alike.{In, here, there}
use Rattle.cc_meaning.specs.Parts.{Part, declares, stmts_parts}
use Rattle.cc_meaning.specs.WellMade.{parts_of, is_chunk, Holds, of_catch, of_frame, of_own, of_outer, of_outer_own, IsOwn, is_param, is_declared}
use Rattle.cc_grammar.specs.RawTree.{Named, RawStmts}
use Rattle.cc_scope.specs.Lists.{Name, index_of, or_else}
use Rattle.cc_scope.specs.Marks.{sites, names, Counters, past, stmts_marks, stmts_declare}
use Rattle.cc_scope.specs.Resolve.{Frames, lookup, in_frame, global_from, global_named, ref_of, ref_by, named, locals, with_own, inner, behind, scope_of, stmts_of, stmts_scopes, chunk_scope, chunk_scopes, inner_scopes, begin, Source, all_marks, outer_of, program_of}
use Rattle.cc_scope.specs.Refusals.{all_refused, refusals_of, stmts_refused}
use Rattle.cc_scope.specs.Grammatical.{at_head, stmts_fit}
use Rattle.cc_scope.specs.Promises.{Readable, Grammatical}
use Rattle.cc_scope.proofs.Declared.{in_left, in_right, length_map}
use Rattle.cc_scope.proofs.Law.{names_append}
use Rattle.cc_scope.proofs.Numbers.{first_part}
use Rattle.cc_scope.proofs.Globals.{after, index_in}
use Rattle.cc_scope.proofs.Tables.{split_at, news_in}
use Rattle.cc_scope.proofs.Whole.{body_is, length_chunks}
use Rattle.cc_scope.proofs.Counts.{stmts_counts}
use Rattle.cc_scope.proofs.Pieces.{both_empty, sites_append, over, depth, spot, Plain, Body, Stands, chunk_stands, function_stands, StandsAt, Shown}
use Rattle.cc_scope.proofs.Parts.{stmts}
use Rattle.cc_scope.proofs.Lookups.{same_place, outwards_place, single_index, free_place}

module _ (S : Source) (R : Readable S) (fitting : Grammatical S) (unrefused : refusals_of S ≡ []) where
  -- ---- the chunks from one on

  record Rest (c : ℕ) (n : Counters) (ts : List RawStmts) : Type 0 where
    trees : (k : ℕ) (t : RawStmts) → slice_get ts k ≡ Some t → slice_get S.trees (c + k) ≡ Some t
    heads : (k : ℕ) (s : Scope) → slice_get (chunk_scopes (outer_of S) n ts) k ≡ Some s → slice_get (program_of S).scopes (c + k) ≡ Some s
    bodies : (i : ℕ) (s : Scope) → slice_get (inner_scopes (outer_of S) c n ts) i ≡ Some s → slice_get (program_of S).scopes (n.function + i) ≡ Some s
    sited : n.site + sites (all_marks ts) ≤ sites (all_marks S.trees)
    spelled : (x : Name) → In x (names (all_marks ts)) → In x (names (all_marks S.trees))
    clean : all_refused (outer_of S) ts ≡ []
    fits : (t : RawStmts) → In t ts → stmts_fit (at_head false) [] t ≡ true
    above : length S.trees ≤ n.function

  head_is : {c : ℕ} {n : Counters} {t : RawStmts} {ts : List RawStmts} → Rest c n (t ∷ ts) → slice_get (program_of S).scopes c ≡ Some (chunk_scope (outer_of S) n t)
  unfolding chunk_scopes
  head_is {c} {n} {t} r = subst (λ k. slice_get (program_of S).scopes k ≡ Some (chunk_scope (outer_of S) n t)) (let e : c + 0 ≡ c = omega arith in e) (r.heads 0 (chunk_scope (outer_of S) n t) refl)

  tree_is : {c : ℕ} {n : Counters} {t : RawStmts} {ts : List RawStmts} → Rest c n (t ∷ ts) → slice_get S.trees c ≡ Some t
  tree_is {c} {t} r = subst (λ k. slice_get S.trees k ≡ Some t) (let e : c + 0 ≡ c = omega arith in e) (r.trees 0 t refl)

  head_body : {c : ℕ} {n : Counters} {t : RawStmts} {ts : List RawStmts} → Rest c n (t ∷ ts) → Body S c true [] t n false
  unfolding all_marks all_refused inner_scopes chunk_scope parts_of
  head_body {c} {n} {t} {ts} r = record {
    sited = let h = r.sited in let e = sites_append (stmts_marks t) (all_marks ts) in omega arith;
    spelled = λ x i. r.spelled x (subst (λ l. In x l) (sym (names_append (stmts_marks t) (all_marks ts))) (in_left (names (stmts_marks t)) (names (all_marks ts)) i));
    declared = λ x i. i;
    clean = (both_empty (stmts_refused (outer_of S) (spot true [] []) t) (all_refused (outer_of S) ts) r.clean).0;
    scopes = λ i s e. r.bodies i s (first_part (stmts_scopes (outer_of S) [] c n t) (inner_scopes (outer_of S) (suc c) (past n (stmts_marks t)) ts) i s e);
    parts = λ x i. subst (λ b. In x (stmts_parts (tables_of (program_of S)) 0 b)) (sym (body_is (program_of S) c (chunk_scope (outer_of S) n t) (head_is r))) i;
    fits = r.fits t here;
    above = r.above;
  }

  head_stands : {c : ℕ} {n : Counters} {t : RawStmts} {ts : List RawStmts} → Rest c n (t ∷ ts) → Stands S c true [] t n
  head_stands {c} {n} {t} r = chunk_stands c t n (slice_get_within S.trees c t (tree_is r)) (tree_is r) (head_is r) (head_body r)

  behind_head : {c : ℕ} {n : Counters} {t : RawStmts} {ts : List RawStmts} → Rest c n (t ∷ ts) → Rest (suc c) (past n (stmts_marks t)) ts
  unfolding all_marks all_refused inner_scopes chunk_scopes
  behind_head {c} {n} {t} {ts} r = record {
    trees = λ k u e. subst (λ i. slice_get S.trees i ≡ Some u) (let z : c + suc k ≡ suc c + k = omega arith in z) (r.trees (suc k) u e);
    heads = λ k s e. subst (λ i. slice_get (program_of S).scopes i ≡ Some s) (let z : c + suc k ≡ suc c + k = omega arith in z) (r.heads (suc k) s e);
    bodies = λ i s e. subst (λ k. slice_get (program_of S).scopes k ≡ Some s) (let z = stmts_counts (outer_of S) [] c n t in omega arith)
        (r.bodies (length (stmts_scopes (outer_of S) [] c n t) + i) s (after (stmts_scopes (outer_of S) [] c n t) (inner_scopes (outer_of S) (suc c) (past n (stmts_marks t)) ts) i s e));
    sited = let h = r.sited in let e = sites_append (stmts_marks t) (all_marks ts) in omega arith;
    spelled = λ x i. r.spelled x (subst (λ l. In x l) (sym (names_append (stmts_marks t) (all_marks ts))) (in_right (names (stmts_marks t)) (names (all_marks ts)) i));
    clean = (both_empty (stmts_refused (outer_of S) (spot true [] []) t) (all_refused (outer_of S) ts) r.clean).1;
    fits = λ u i. r.fits u (there i);
    above = let h = r.above in omega arith;
  }

  chunk_from : (c : ℕ) (n : Counters) (ts : List RawStmts) → Rest c n ts → (k : ℕ) (s : Scope) → slice_get (chunk_scopes (outer_of S) n ts) k ≡ Some s → StandsAt S (c + k)
  unfolding chunk_scopes
  chunk_from c n [] r k s e = absurd (cc)
  chunk_from c n (t ∷ ts) r zero s e = subst (λ k. StandsAt S k) (let z : c ≡ c + 0 = omega arith in z) (record { top = true; frames = []; body = t; from = n; stands = head_stands r })
  chunk_from c n (t ∷ ts) r (suc k) s e = subst (λ i. StandsAt S i) (let z : suc c + k ≡ c + suc k = omega arith in z) (chunk_from (suc c) (past n (stmts_marks t)) ts (behind_head r) k s e)

  pub record ChunkAt (c : ℕ) (t : RawStmts) : Type 0 where
    pub from : Counters
    pub stands : Stands S c true [] t from

  tree_from : (c : ℕ) (n : Counters) (ts : List RawStmts) → Rest c n ts → (k : ℕ) (t : RawStmts) → slice_get ts k ≡ Some t → ChunkAt (c + k) t
  tree_from c n [] r k t e = absurd (cc)
  tree_from c n (u ∷ ts) r zero t e = subst (λ k. ChunkAt k t) (let z : c ≡ c + 0 = omega arith in z) (subst (λ b. ChunkAt c b) (let z : u ≡ t = cc in z) (record { from = n; stands = head_stands r }))
  tree_from c n (u ∷ ts) r (suc k) t e = subst (λ i. ChunkAt i t) (let z : suc c + k ≡ c + suc k = omega arith in z) (tree_from (suc c) (past n (stmts_marks u)) ts (behind_head r) k t e)

  bodies_from : (c : ℕ) (n : Counters) (ts : List RawStmts) → Rest c n ts → (i : ℕ) (s : Scope) → slice_get (inner_scopes (outer_of S) c n ts) i ≡ Some s → StandsAt S (n.function + i)
  unfolding inner_scopes
  bodies_from c n [] r i s e = absurd (cc)
  bodies_from c n (t ∷ ts) r i s e = elim (split_at (stmts_scopes (outer_of S) [] c n t) (inner_scopes (outer_of S) (suc c) (past n (stmts_marks t)) ts) i s e) [
    | inl h ↦ (stmts S c true [] n [] (at_head false) [] t).bodies (stmts_declare t) (head_body r) (head_stands r) i s h
    | inr h ↦ subst (λ k. StandsAt S k) (let z = stmts_counts (outer_of S) [] c n t in let d = h.2 in omega arith) (bodies_from (suc c) (past n (stmts_marks t)) ts (behind_head r) h.0 s h.1)
  ]

  start : Rest 0 (begin S) S.trees
  unfolding program_of begin refusals_of
  start = record {
    trees = λ k t e. subst (λ i. slice_get S.trees i ≡ Some t) (let z : k ≡ 0 + k = omega arith in z) e;
    heads = λ k s e. subst (λ i. slice_get (program_of S).scopes i ≡ Some s) (let z : k ≡ 0 + k = omega arith in z) (first_part (chunk_scopes (outer_of S) (begin S) S.trees) (inner_scopes (outer_of S) 0 (begin S) S.trees) k s e);
    bodies = λ i s e. subst (λ k. slice_get (program_of S).scopes k ≡ Some s) (ap (λ m. m + i) (length_chunks (outer_of S) (begin S) S.trees)) (after (chunk_scopes (outer_of S) (begin S) S.trees) (inner_scopes (outer_of S) 0 (begin S) S.trees) i s e);
    sited = omega arith;
    spelled = λ x i. i;
    clean = unrefused;
    fits = fitting;
    above = omega arith;
  }

  pub each_stands : (f : ℕ) (s : Scope) → slice_get (program_of S).scopes f ≡ Some s → StandsAt S f
  unfolding program_of begin
  each_stands f s e = elim (split_at (chunk_scopes (outer_of S) (begin S) S.trees) (inner_scopes (outer_of S) 0 (begin S) S.trees) f s e) [
    | inl h ↦ subst (λ k. StandsAt S k) (let z : 0 + f ≡ f = omega arith in z) (chunk_from 0 (begin S) S.trees start f s h)
    | inr h ↦ subst (λ k. StandsAt S k) (let z = length_chunks (outer_of S) (begin S) S.trees in let d = h.2 in omega arith) (bodies_from 0 (begin S) S.trees start h.0 s h.1)
  ]

  pub each_chunk : (c : ℕ) (t : RawStmts) → slice_get S.trees c ≡ Some t → ChunkAt c t
  each_chunk c t e = subst (λ k. ChunkAt k t) (let z : 0 + c ≡ c = omega arith in z) (tree_from 0 (begin S) S.trees start c t e)

  -- ---- what is known of a scope

  pub given : {f : ℕ} {top : Bool} {E : Frames} {b : RawStmts} {n : Counters} → Stands S f top E b n → Body S f top E b n (not top)
  given (chunk_stands f b n l t e g) = g
  given (function_stands st xs own ps b n q d o eo m e a g) = g

  pub the_parts : {f : ℕ} {top : Bool} {E : Frames} {b : RawStmts} {n : Counters} → Stands S f top E b n → parts_of (program_of S) f ≡ stmts_parts (tables_of (program_of S)) 0 (stmts_of (outer_of S) E n b)
  unfolding parts_of chunk_scope scope_of
  the_parts (chunk_stands f b n l t e g) = ap (stmts_parts (tables_of (program_of S)) 0) (body_is (program_of S) f (chunk_scope (outer_of S) n b) e)
  the_parts (function_stands st xs own ps b n q d o eo m e a g) = ap (stmts_parts (tables_of (program_of S)) 0) (body_is (program_of S) n.function _ e)

  pub plain : {f : ℕ} {top : Bool} {E : Frames} {b : RawStmts} {n : Counters} → Stands S f top E b n → (x : Part) → In x (parts_of (program_of S) f) → Plain S f top E (stmts_declare b) x
  plain {f} {top} {E} {b} {n} st x i = (stmts S f top E n [] (at_head (not top)) [] b).plain (stmts_declare b) (given st) x (subst (λ l. In x l) (the_parts st) i)

  pub shown : {f : ℕ} {top : Bool} {E : Frames} {b : RawStmts} {n : Counters} → Stands S f top E b n → (x : Name) → In x (stmts_declare b) → Shown S top E (parts_of (program_of S) f) x
  shown {f} {top} {E} {b} {n} st x i = subst (λ l. Shown S top E l x) (sym (the_parts st)) ((stmts S f top E n [] (at_head (not top)) [] b).shows (given st).clean x i)

  pub top_is : {f : ℕ} {top : Bool} {E : Frames} {b : RawStmts} {n : Counters} → Stands S f top E b n → is_chunk (program_of S) f ≡ top
  unfolding is_chunk program_of
  top_is (chunk_stands f b n l t e g) = by (nat_lt f (length S.chunks)) refl where
    by : (x : Bool) → nat_lt f (length S.chunks) ≡ x → x ≡ true
    by true h = refl
    by false h = let k = R.one_each in absurd (grind (arith, nat_tests))
  top_is (function_stands st xs own ps b n q d o eo m e a g) = by (nat_lt n.function (length S.chunks)) refl where
    by : (x : Bool) → nat_lt n.function (length S.chunks) ≡ x → x ≡ false
    by true h = let k = R.one_each in absurd (grind (arith, nat_tests))
    by false h = refl

  -- ---- a function's own variables

  named_length : (ps : List Named) → length (named ps) ≡ length ps
  unfolding named
  named_length ps = length_map (λ v. v.name) ps

  -- a name of the frame is a parameter, or declared in the body
  pub own_variable : {f : ℕ} {F : Frames} {b : RawStmts} {n : Counters} (ps : List Named) (s : Scope) → Stands S f false ((named ps ++ locals ps b) ∷ F) b n → s.params ≡ length ps → s.names ≡ length (locals ps b)
      → (x : Name) (j : ℕ) → index_of x (named ps ++ locals ps b) ≡ Some j → (j < s.params + s.names) × IsOwn (program_of S) s f j
  unfolding lookup in_frame locals ref_of ref_by
  own_variable {f} {F} {b} {n} ps s st pe ne x j e = (within, by (split_at (named ps) (locals ps b) j x place)) where
    place : slice_get (named ps ++ locals ps b) j ≡ Some x
    place = index_in x (named ps ++ locals ps b) j e

    within : j < s.params + s.names
    within = let h = slice_get_within (named ps ++ locals ps b) j x place in let k = length-append (named ps) (locals ps b) in let m = named_length ps in omega arith

    found : lookup (outer_of S) ((named ps ++ locals ps b) ∷ F) x ≡ Some (Ref.Frame 0 j)
    found = ap (λ o. in_frame o (lookup (outer_of S) F x)) e

    by : (slice_get (named ps) j ≡ Some x) ⊎ ((i : ℕ) × (slice_get (locals ps b) i ≡ Some x) × (j ≡ length (named ps) + i)) → IsOwn (program_of S) s f j
    by (inl h) = is_param j (let k = slice_get_within (named ps) j x h in let m = named_length ps in omega arith)
    by (inr h) =
        let d = shown st x (news_in (named ps) (stmts_declare b) x (Rattle.cc_scope.proofs.Globals.at_in (locals ps b) h.0 x h.1)) in
        is_declared j (depth d.caught) within (subst (λ r. In (declares (depth d.caught) r) (parts_of (program_of S) f)) (ap ref_by (free_place (outer_of S) ((named ps ++ locals ps b) ∷ F) d.caught x j d.free.uncaught found)) d.among)

  -- ---- a variable that is found is there

  shift : {f c u k : ℕ} → Holds (program_of S) f c u k → Holds (program_of S) f (suc c) (suc u) k
  shift (of_catch f c u l) = of_catch f (suc c) (suc u) (omega arith)
  shift (of_frame f c n s e i o) = of_frame f (suc c) n s e i o
  shift (of_own f c s e o) = of_own f (suc c) s e o
  shift (of_outer f g c d u n s b e i o m h) = subst (λ w. Holds (program_of S) f (suc c) w n) (let z : suc (suc c + u) ≡ suc (suc (c + u)) = omega arith in z) (of_outer f g (suc c) d u n s b e i o m h)
  shift (of_outer_own f g c d u n s b e o m h) = subst (λ w. Holds (program_of S) f (suc c) w n) (let z : suc (suc (suc c + u)) ≡ suc (suc (suc (c + u))) = omega arith in z) (of_outer_own f g (suc c) d u n s b e o m h)

  abbrev Finds : ℕ → ℕ → Frames → Type 0
  Finds f c E = (x : Name) (u k : ℕ) → lookup (outer_of S) E x ≡ Some (Ref.Frame u k) → Holds (program_of S) f c u k

  through : (f : ℕ) (E : Frames) → Finds f 0 E → (xs : List Name) → Finds f (depth xs) (over xs E)
  unfolding lookup in_frame
  through f E h [] = h
  through f E h (y ∷ xs) = λ x u k e. by x u k (single_index x y) e (through f E h xs) where
    by : (x : Name) (u k : ℕ) → (index_of x (y ∷ []) ≡ Some 0) ⊎ (index_of x (y ∷ []) ≡ None) → in_frame (index_of x (y ∷ [])) (lookup (outer_of S) (over xs E) x) ≡ Some (Ref.Frame u k) → Finds f (depth xs) (over xs E) → Holds (program_of S) f (suc (depth xs)) u k
    by x u k (inl i) e g = let d = same_place (sym (ap (λ o. in_frame o (lookup (outer_of S) (over xs E) x)) i) ∙ e) in
        subst (λ w. Holds (program_of S) f (suc (depth xs)) w k) d.0 (subst (λ w. Holds (program_of S) f (suc (depth xs)) 0 w) d.1 (of_catch f (suc (depth xs)) 0 (omega arith)))
    by x u k (inr i) e g = let d = outwards_place (lookup (outer_of S) (over xs E) x) u k (sym (ap (λ o. in_frame o (lookup (outer_of S) (over xs E) x)) i) ∙ e) in
        subst (λ w. Holds (program_of S) f (suc (depth xs)) w k) (sym d.2) (shift (g x d.0 k d.1))

  no_place : (x : Name) (u k : ℕ) → global_named (outer_of S) x ≡ Some (Ref.Frame u k) → ⊥
  unfolding global_named global_from or_else
  no_place x u k e = by (index_of x Rattle.cc_meaning.specs.Names.builtin_globals) (index_of x (outer_of S).externs) (index_of x (outer_of S).globals) e where
    by : (a b c : Option ℕ) → or_else (global_from (length (outer_of S).externs) a) (or_else (global_from 0 b) (global_from (length (outer_of S).externs + 3) c)) ≡ Some (Ref.Frame u k) → ⊥
    by (Some i) b c e = cc
    by None (Some i) c e = cc
    by None None (Some i) e = cc
    by None None None e = cc

  pub found_here : {f : ℕ} {top : Bool} {E : Frames} {b : RawStmts} {n : Counters} → Stands S f top E b n → Finds f 0 E
  unfolding lookup in_frame inner with_own scope_of
  found_here (chunk_stands f b n l t e g) = λ x u k h. absurd (no_place x u k h)
  found_here (function_stands {f = g} {E} st xs own ps b n q d o eo m e a z) = λ x u k h. by x u k (index_of x (named ps ++ locals ps b)) refl h (through g E (found_here st) xs) where
    this : Stands S n.function false (inner own ps b (over xs E)) b (behind n)
    this = function_stands st xs own ps b n q d o eo m e a z

    outer_by : (w : Option Named) → o ≡ is_some w → (x : Name) (v k : ℕ) → lookup (outer_of S) (with_own w (over xs E)) x ≡ Some (Ref.Frame v k) → Finds g (depth xs) (over xs E) → Holds (program_of S) n.function 0 (suc v) k
    outer_by None same_own x v k h r = subst (λ i. Holds (program_of S) n.function 0 (suc i) k) (let y : 0 + v ≡ v = omega arith in y) (of_outer n.function g 0 (depth xs) v k _ d e (top_is this) same_own m (r x v k h))
    outer_by (Some w) same_own x v k h r = named_by (single_index x w.name) h where
      named_by : (index_of x (w.name ∷ []) ≡ Some 0) ⊎ (index_of x (w.name ∷ []) ≡ None) → in_frame (index_of x (w.name ∷ [])) (lookup (outer_of S) (over xs E) x) ≡ Some (Ref.Frame v k) → Holds (program_of S) n.function 0 (suc v) k
      named_by (inl i) j = let y = same_place (sym (ap (λ p. in_frame p (lookup (outer_of S) (over xs E) x)) i) ∙ j) in
          subst (λ c. Holds (program_of S) n.function 0 (suc c) k) y.0 (subst (λ c. Holds (program_of S) n.function 0 1 c) y.1 (of_own n.function 0 _ e same_own))
      named_by (inr i) j = let y = outwards_place (lookup (outer_of S) (over xs E) x) v k (sym (ap (λ p. in_frame p (lookup (outer_of S) (over xs E) x)) i) ∙ j) in
          subst (λ c. Holds (program_of S) n.function 0 (suc c) k) (let p = y.2 in let w : suc (0 + y.0) ≡ v = omega arith in w) (of_outer_own n.function g 0 (depth xs) y.0 k _ d e same_own m (r x y.0 k y.1))

    by : (x : Name) (u k : ℕ) (p : Option ℕ) → index_of x (named ps ++ locals ps b) ≡ p → in_frame p (lookup (outer_of S) (with_own own (over xs E)) x) ≡ Some (Ref.Frame u k) → Finds g (depth xs) (over xs E) → Holds (program_of S) n.function 0 u k
    by x u k (Some j) i h r = let y = same_place h in
        subst (λ c. Holds (program_of S) n.function 0 c k) y.0 (subst (λ c. Holds (program_of S) n.function 0 0 c) y.1 (of_frame n.function 0 j _ e (top_is this) (own_variable ps _ this refl refl x j i).1))
    by x u k None i h r = let y = outwards_place (lookup (outer_of S) (with_own own (over xs E)) x) u k h in
        subst (λ c. Holds (program_of S) n.function 0 c k) (sym y.2) (outer_by own eo x y.0 k y.1 r)

  pub found : {f : ℕ} {top : Bool} {E : Frames} {b : RawStmts} {n : Counters} → Stands S f top E b n → (xs : List Name) → Finds f (depth xs) (over xs E)
  found {f} {E} st xs = through f E (found_here st) xs
