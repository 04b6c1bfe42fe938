-- What a name that is found means: a place of a frame, or a global with its entry in the table.
use Rattle.std.proofs.Common.{◌≡◌, refl, sym, ap, ◌∙◌, subst, arith, ◌⊎◌, inl, inr, ℕ, suc, ◌+◌, ◌-◌, ◌<◌, ◌≤◌, Bool, true, false, ◌||◌, cond, List, [], ◌∷◌, ◌++◌, length, map, Option, Some, None, option_map, length-append}
use Rattle.std.specs.Prelude.{slice_get}
use Rattle.std.proofs.lemmas.Option.{slice_get-map, slice_get_within}
use Rattle.cc_ast.specs.declared.tree.Ref.{Ref}
use Rattle.cc_ast.specs.declared.tables.GlobalInfo.{GlobalInfo}
use Rattle.cc_meaning.specs.Operators.{list_eq, is_in}
use Rattle.cc_meaning.specs.Names.{builtin_globals}
use Rattle.cc_meaning.specs.Store.{of_chunk, outer_global, without_chunk, global_by, chunk_in, global_kind}
use Rattle.cc_meaning.specs.Shapes.{tables_of}
use Rattle.cc_scope.specs.Lists.{Name, index_of, later, new_names, distinct, or_else}
use Rattle.cc_scope.specs.Resolve.{Outer, Frames, lookup, in_frame, outwards, global_from, global_named, Source, outer_of, all_declared, chunk_by, chunk_info, outer_info, globals_of, program_of}
use Rattle.cc_scope.specs.Refusals.{global_of}
use Rattle.cc_scope.proofs.Declared.{length_map}
use Rattle.cc_scope.proofs.Numbers.{first_part, indexed}
use Rattle.cc_scope.proofs.Globals.{index_in, at_in, in_is_in, without_outer, after}
use Rattle.cc_scope.proofs.Accepted.{SameSort, same_chunk}
use Rattle.cc_scope.proofs.Answered.{sort_self, first, later_chunk}
use Rattle.cc_scope.proofs.Pieces.{over, depth}

number_in : Option Ref → ℕ
number_in None = 0
number_in (Some (Ref.Frame up n)) = n
number_in (Some (Ref.Global n)) = n

up_in : Option Ref → ℕ
up_in None = 0
up_in (Some (Ref.Frame up n)) = up
up_in (Some (Ref.Global n)) = 0

pub same_global : {m n : ℕ} → Some (Ref.Global m) ≡ Some (Ref.Global n) → m ≡ n
unfolding number_in
same_global e = ap number_in e

pub same_place : {u v m n : ℕ} → Some (Ref.Frame u m) ≡ Some (Ref.Frame v n) → (u ≡ v) × (m ≡ n)
unfolding number_in up_in
same_place e = (ap up_in e, ap number_in e)

-- ---- frames

outwards_global : (o : Option Ref) (k : ℕ) → outwards o ≡ Some (Ref.Global k) → o ≡ Some (Ref.Global k)
unfolding outwards
outwards_global None k e = absurd (cc)
outwards_global (Some (Ref.Frame up n)) k e = absurd (cc)
outwards_global (Some (Ref.Global n)) k e = e

pub outwards_place : (o : Option Ref) (u n : ℕ) → outwards o ≡ Some (Ref.Frame u n) → (v : ℕ) × (o ≡ Some (Ref.Frame v n)) × (u ≡ suc v)
unfolding outwards
outwards_place None u n e = absurd (cc)
outwards_place (Some (Ref.Frame up m)) u n e = let d = same_place e in (up, ap (λ k. Some (Ref.Frame up k)) d.1, sym d.0)
outwards_place (Some (Ref.Global m)) u n e = absurd (cc)

pub global_found : (W : Outer) (F : Frames) (x : Name) (k : ℕ) → lookup W F x ≡ Some (Ref.Global k) → global_named W x ≡ Some (Ref.Global k)
unfolding lookup in_frame
global_found W [] x k e = e
global_found W (ns ∷ F) x k e = by (index_of x ns) e (λ h. global_found W F x k h) where
  by : (o : Option ℕ) → in_frame o (lookup W F x) ≡ Some (Ref.Global k) → (lookup W F x ≡ Some (Ref.Global k) → global_named W x ≡ Some (Ref.Global k)) → global_named W x ≡ Some (Ref.Global k)
  by None e f = f (outwards_global (lookup W F x) k e)
  by (Some j) e f = absurd (cc)

-- a name that no open catch clause has means what it means outside of them
pub free_global : (W : Outer) (E : Frames) (xs : List Name) (x : Name) (k : ℕ) → is_in x xs ≡ false → lookup W E x ≡ Some (Ref.Global k) → lookup W (over xs E) x ≡ Some (Ref.Global k)
unfolding lookup in_frame outwards is_in index_of later
free_global W E [] x k f e = e
free_global W E (y ∷ xs) x k f e = by (list_eq x y) f (λ h. free_global W E xs x k h e) where
  by : (b : Bool) → (b || is_in x xs) ≡ false → (is_in x xs ≡ false → lookup W (over xs E) x ≡ Some (Ref.Global k)) → in_frame (cond b (Some 0) (later None)) (lookup W (over xs E) x) ≡ Some (Ref.Global k)
  by true f g = absurd (cc)
  by false f g = ap outwards (g f)

pub free_place : (W : Outer) (E : Frames) (xs : List Name) (x : Name) (k : ℕ) → is_in x xs ≡ false → lookup W E x ≡ Some (Ref.Frame 0 k) → lookup W (over xs E) x ≡ Some (Ref.Frame (depth xs) k)
unfolding lookup in_frame outwards is_in index_of later
free_place W E [] x k f e = e
free_place W E (y ∷ xs) x k f e = by (list_eq x y) f (λ h. free_place W E xs x k h e) where
  by : (b : Bool) → (b || is_in x xs) ≡ false → (is_in x xs ≡ false → lookup W (over xs E) x ≡ Some (Ref.Frame (depth xs) k)) → in_frame (cond b (Some 0) (later None)) (lookup W (over xs E) x) ≡ Some (Ref.Frame (suc (depth xs)) k)
  by true f g = absurd (cc)
  by false f g = ap outwards (g f)

-- a name of one name is its first
pub single_index : (x y : Name) → (index_of x (y ∷ []) ≡ Some 0) ⊎ (index_of x (y ∷ []) ≡ None)
unfolding index_of later
single_index x y = by (list_eq x y) where
  by : (b : Bool) → (cond b (Some 0) (later None) ≡ Some 0) ⊎ (cond b (Some 0) (later None) ≡ None)
  by true = inl refl
  by false = inr refl

-- ---- globals

module _ (S : Source) where
  abbrev K : ℕ
  K = length S.externs + 3

  abbrev gs : List Name
  gs = new_names [] (all_declared S.trees)

  outer_length : length (map outer_info (S.externs ++ builtin_globals)) ≡ length S.externs + 3
  unfolding builtin_globals
  outer_length = length_map outer_info (S.externs ++ builtin_globals) ∙ length-append S.externs builtin_globals

  -- what a name that means a global says of its number
  pub data GlobalFact (x : Name) (k : ℕ) : Type 0 where
    outer_fact : k < length S.externs + 3 → slice_get (globals_of S) k ≡ Some (outer_info x) → (is_in x builtin_globals ≡ true → length S.externs ≤ k) → (is_in x S.externs || is_in x builtin_globals ≡ false → ⊥) → GlobalFact x k
    inner_fact : (j : ℕ) → k ≡ length S.externs + 3 + j → slice_get (new_names [] (all_declared S.trees)) j ≡ Some x → GlobalFact x k

  outer_entry : (x : Name) (k : ℕ) → slice_get (S.externs ++ builtin_globals) k ≡ Some x → slice_get (globals_of S) k ≡ Some (outer_info x)
  unfolding globals_of distinct
  outer_entry x k e = first_part (map outer_info (S.externs ++ builtin_globals)) (map (chunk_info S.added S.trees) (new_names [] (all_declared S.trees))) k (outer_info x) (slice_get-map outer_info (S.externs ++ builtin_globals) k ∙ ap (option_map outer_info) e)

  pub inner_entry : (x : Name) (j : ℕ) → slice_get (new_names [] (all_declared S.trees)) j ≡ Some x → slice_get (globals_of S) (length S.externs + 3 + j) ≡ Some (chunk_info S.added S.trees x)
  unfolding globals_of distinct
  inner_entry x j e = subst (λ k. slice_get (globals_of S) k ≡ Some (chunk_info S.added S.trees x)) (ap (λ i. i + j) outer_length)
      (after (map outer_info (S.externs ++ builtin_globals)) (map (chunk_info S.added S.trees) (new_names [] (all_declared S.trees))) j (chunk_info S.added S.trees x) (slice_get-map (chunk_info S.added S.trees) (new_names [] (all_declared S.trees)) j ∙ ap (option_map (chunk_info S.added S.trees)) e))

  some_in : (x : Name) (xs : List Name) (k : ℕ) → index_of x xs ≡ Some k → is_in x xs ≡ true
  some_in x xs k e = in_is_in x xs (at_in xs k x (index_in x xs k e))

  none_in : (x : Name) (xs : List Name) → index_of x xs ≡ None → is_in x xs ≡ true → ⊥
  none_in x xs e h = let d = indexed x xs (Rattle.cc_scope.proofs.Numbers.is_in_in x xs h) in let z : None ≡ Some d.0 = sym e ∙ d.1 in cc

  either_true : (a b : Bool) → b ≡ true → a || b ≡ false → ⊥
  either_true true b h e = cc
  either_true false b h e = let z = sym h ∙ e in cc

  left_true : (a b : Bool) → a ≡ true → a || b ≡ false → ⊥
  left_true true b h e = cc
  left_true false b h e = cc

  built_within : (j : ℕ) (x : Name) → slice_get builtin_globals j ≡ Some x → j < 3
  unfolding builtin_globals
  built_within j x e = slice_get_within builtin_globals j x e

  pub global_fact : (x : Name) (k : ℕ) → global_named (outer_of S) x ≡ Some (Ref.Global k) → GlobalFact x k
  unfolding global_named global_from or_else outer_of distinct
  global_fact x k e = by (index_of x builtin_globals) (index_of x S.externs) (index_of x (new_names [] (all_declared S.trees))) refl refl refl e where
    by : (a b c : Option ℕ) → index_of x builtin_globals ≡ a → index_of x S.externs ≡ b → index_of x (new_names [] (all_declared S.trees)) ≡ c
        → or_else (global_from (length S.externs) a) (or_else (global_from 0 b) (global_from (length S.externs + 3) c)) ≡ Some (Ref.Global k) → GlobalFact x k
    by (Some j) b c h i l e =
        let z = index_in x builtin_globals j h in let n = same_global e in
        subst (λ m. GlobalFact x m) n (outer_fact (let w = built_within j x z in omega arith) (outer_entry x (length S.externs + j) (after S.externs builtin_globals j x z)) (λ w. omega arith) (either_true (is_in x S.externs) (is_in x builtin_globals) (some_in x builtin_globals j h)))
    by None (Some j) c h i l e =
        let z = index_in x S.externs j i in let n = same_global e in
        subst (λ m. GlobalFact x m) (let w : j ≡ k = omega arith in w) (outer_fact (let w = slice_get_within S.externs j x z in omega arith) (outer_entry x j (first_part S.externs builtin_globals j x z)) (λ w. absurd (none_in x builtin_globals h w)) (left_true (is_in x S.externs) (is_in x builtin_globals) (some_in x S.externs j i)))
    by None None (Some j) h i l e = inner_fact j (sym (same_global e)) (index_in x (new_names [] (all_declared S.trees)) j l)
    by None None None h i l e = absurd (cc)

  externs_count : without_chunk (globals_of S) - 3 ≡ length S.externs
  unfolding globals_of distinct
  externs_count = let a = without_outer S.added (S.externs ++ builtin_globals) S.trees (new_names [] (all_declared S.trees)) in let b = length_map outer_info (S.externs ++ builtin_globals) in let c = outer_length in omega arith

  pub kind_at : (k : ℕ) (g : GlobalInfo) → slice_get (globals_of S) k ≡ Some g → global_kind (tables_of (program_of S)) k ≡ global_by (length S.externs) k g.chunk
  unfolding global_kind tables_of program_of chunk_in
  kind_at k g e = ap (λ m. global_by m k (chunk_in (slice_get (globals_of S) k))) externs_count ∙ ap (λ o. global_by (length S.externs) k (chunk_in o)) e

  pub inner_kind : (x : Name) (j : ℕ) → slice_get (new_names [] (all_declared S.trees)) j ≡ Some x → global_kind (tables_of (program_of S)) (length S.externs + 3 + j) ≡ of_chunk (chunk_by 0 x S.trees)
  unfolding global_by chunk_info
  inner_kind x j e = kind_at (length S.externs + 3 + j) (chunk_info S.added S.trees x) (inner_entry x j e)

  -- the sort by which a name is refused is that of the table
  pub one_sort : (x : Name) (k : ℕ) → GlobalFact x k → SameSort (global_of (outer_of S) k) (global_kind (tables_of (program_of S)) k)
  unfolding outer_of global_by
  one_sort x k (outer_fact h e b o) = subst (λ g. SameSort g (global_kind (tables_of (program_of S)) k)) (sym (first (outer_of S) k h)) (subst (λ g. SameSort (outer_global (length S.externs) k) g) (sym (kind_at k (outer_info x) e)) (sort_self _))
  one_sort x k (inner_fact j e h) = subst (λ m. SameSort (global_of (outer_of S) m) (global_kind (tables_of (program_of S)) m)) (sym e)
      (subst (λ g. SameSort g (global_kind (tables_of (program_of S)) (length S.externs + 3 + j))) (sym (later_chunk (outer_of S) (length S.externs + 3 + j) (omega arith))) (subst (λ g. SameSort (of_chunk 0) g) (sym (inner_kind x j h)) (same_chunk 0 (chunk_by 0 x S.trees))))
