-- The tables of what is resolved are those of a well made program.
use Rattle.std.proofs.Common.{◌≡◌, refl, sym, ap, ◌∙◌, subst, arith, ◌⊎◌, inl, inr, ℕ, zero, suc, ◌+◌, ◌<◌, ◌≤◌, Bool, true, false, cond, List, [], ◌∷◌, ◌++◌, length, map, take, Option, Some, None, IsTrue, is_some, option_map, length-append}
use Rattle.std.specs.Prelude.{slice_get}
use Rattle.std.proofs.lemmas.Option.{slice_get-map, slice_get_within}
use Rattle.cc_ast.specs.Syntax.{Program}
use Rattle.cc_ast.specs.declared.tables.GlobalInfo.{GlobalInfo}
use Rattle.cc_ast.specs.declared.tables.PropInfo.{PropInfo}
use Rattle.cc_ast.specs.declared.tables.FlatPath.{FlatPath}
use Rattle.cc_meaning.specs.Operators.{is_in}
use Rattle.cc_meaning.specs.Names.{builtin_globals, always_kept}
use Rattle.cc_meaning.specs.Monad.{pick}
use Rattle.cc_meaning.specs.Store.{without_chunk}
use Rattle.cc_meaning.specs.Alike.{In, here, there}
use Rattle.cc_meaning.specs.WellMade.{IsDistinct, IsProp, IsOrdered, IsGlobal, outer_names}
use Rattle.cc_grammar.specs.RawTree.{RawStmts}
use Rattle.cc_scope.specs.Lists.{Name, new_names, distinct, or_zero}
use Rattle.cc_scope.specs.Marks.{names, stmts_declare}
use Rattle.cc_scope.specs.Resolve.{Source, outer_of, program_of, globals_of, kept_of, prop_info, outer_info, chunk_info, chunk_by, chunk_scopes, inner_scopes, begin, all_marks, all_declared}
use Rattle.cc_scope.specs.Promises.{Readable, HasTables}
use Rattle.cc_scope.proofs.Law.{in_left, in_right, in_either}
use Rattle.cc_scope.proofs.Numbers.{news_have, head_or}
use Rattle.cc_scope.proofs.Globals.{at_in, in_is_in, without_outer}
use Rattle.cc_scope.proofs.Whole.{length_chunks}
use Rattle.cc_scope.proofs.Additions.{IsAdded}

pub news_in : (ms ns : List Name) (x : Name) → In x (new_names ms ns) → In x ns
unfolding new_names
news_in ms [] x h = h
news_in ms (n ∷ ns) x h = by (is_in n ms) h (news_in ms ns x) (news_in (ms ++ n ∷ []) ns x) where
  one : {zs : List Name} → In x (n ∷ zs) → (In x zs → In x ns) → In x (n ∷ ns)
  one h f = elim (head_or x n _ h) [ inl e ↦ subst (λ y. In x (y ∷ ns)) e here | inr j ↦ there (f j) ]

  by : (b : Bool) → In x (cond b (new_names ms ns) (n ∷ new_names (ms ++ n ∷ []) ns)) → (In x (new_names ms ns) → In x ns) → (In x (new_names (ms ++ n ∷ []) ns) → In x ns) → In x (n ∷ ns)
  by true g y z = there (y g)
  by false g y z = one g z

news_apart : (ms ns : List Name) (x : Name) → In x (new_names ms ns) → In x ms → ⊥
unfolding new_names
news_apart ms [] x h i = elim h [ ]
news_apart ms (n ∷ ns) x h i = by (is_in n ms) refl h (λ j. news_apart ms ns x j i) (λ j. news_apart (ms ++ n ∷ []) ns x j (in_left ms (n ∷ []) i)) where
  by : (b : Bool) → is_in n ms ≡ b → In x (cond b (new_names ms ns) (n ∷ new_names (ms ++ n ∷ []) ns)) → (In x (new_names ms ns) → ⊥) → (In x (new_names (ms ++ n ∷ []) ns) → ⊥) → ⊥
  by true e g y z = y g
  by false e g y z = elim (head_or x n _ g) [ inl d ↦ (let w : is_in n ms ≡ true = in_is_in n ms (subst (λ k. In k ms) d i) in absurd (let q : true ≡ false = sym w ∙ e in cc)) | inr j ↦ z j ]

-- no name stands twice among the new ones
pub news_once : (ms ns : List Name) → IsDistinct (new_names ms ns)
unfolding new_names
news_once ms [] = λ i j x e d. absurd (cc)
news_once ms (n ∷ ns) = by (is_in n ms) (news_once ms ns) (news_once (ms ++ n ∷ []) ns) (λ h. news_apart (ms ++ n ∷ []) ns n h (in_right ms (n ∷ []) here)) where
  more : {zs : List Name} → IsDistinct zs → (In n zs → ⊥) → IsDistinct (n ∷ zs)
  more {zs} h no_more zero zero x e d = refl
  more {zs} h no_more zero (suc j) x e d = absurd (no_more (at_in zs j n (d ∙ sym e)))
  more {zs} h no_more (suc i) zero x e d = absurd (no_more (at_in zs i n (e ∙ sym d)))
  more {zs} h no_more (suc i) (suc j) x e d = ap suc (h i j x e d)

  by : (b : Bool) → IsDistinct (new_names ms ns) → IsDistinct (new_names (ms ++ n ∷ []) ns) → (In n (new_names (ms ++ n ∷ []) ns) → ⊥) → IsDistinct (cond b (new_names ms ns) (n ∷ new_names (ms ++ n ∷ []) ns))
  by true h g k = h
  by false h g k = more g k

some_is : {A B : Type 0} (f : A → B) (o : Option A) (y : B) → option_map f o ≡ Some y → (x : A) × (o ≡ Some x) × (f x ≡ y)
some_is f None y e = absurd (cc)
some_is f (Some x) y e = (x, refl, let h : Some (f x) ≡ Some y = e in cc)

pub mapped_at : {A B : Type 0} (f : A → B) (xs : List A) (k : ℕ) (y : B) → slice_get (map f xs) k ≡ Some y → (x : A) × (slice_get xs k ≡ Some x) × (f x ≡ y)
mapped_at f xs k y e = some_is f (slice_get xs k) y (sym (slice_get-map f xs k) ∙ e)

pub split_at : {A : Type 0} (xs ys : List A) (k : ℕ) (y : A) → slice_get (xs ++ ys) k ≡ Some y → (slice_get xs k ≡ Some y) ⊎ ((j : ℕ) × (slice_get ys j ≡ Some y) × (k ≡ length xs + j))
split_at [] ys k y e = inr (k, e, omega arith)
split_at (x ∷ xs) ys zero y e = inl e
split_at (x ∷ xs) ys (suc k) y e = elim (split_at xs ys k y e) [ inl h ↦ inl h | inr h ↦ inr (h.0, h.1, omega (arith, h.2)) ]

prop_names_are : (ks xs : List Name) → map (λ p. p.name) (map (prop_info ks) xs) ≡ xs
unfolding prop_info
prop_names_are ks [] = refl
prop_names_are ks (x ∷ xs) = ap (λ ys. x ∷ ys) (prop_names_are ks xs)

outer_are : (xs : List Name) (gs : List GlobalInfo) → map (λ g. g.name) (take (length xs) (map outer_info xs ++ gs)) ≡ xs
outer_are [] gs = refl
outer_are (x ∷ xs) gs = ap (λ ys. x ∷ ys) (outer_are xs gs)

-- a declared name has a chunk
chunk_below : (c : ℕ) (ts : List RawStmts) (x : Name) → In x (all_declared ts) → chunk_by c x ts < c + length ts
unfolding chunk_by all_declared
chunk_below c [] x h = elim h [ ]
chunk_below c (t ∷ ts) x h = by (is_in x (stmts_declare t)) refl (λ j. chunk_below (suc c) ts x j) where
  by : (b : Bool) → is_in x (stmts_declare t) ≡ b → (In x (all_declared ts) → chunk_by (suc c) x ts < suc c + length ts) → pick b c (chunk_by (suc c) x ts) < c + suc (length ts)
  by true e f = omega arith
  by false e f = elim (in_either (stmts_declare t) (all_declared ts) h) [ inl j ↦ absurd (let q : true ≡ false = sym (in_is_in x (stmts_declare t) j) ∙ e in cc) | inr j ↦ (let z = f j in omega arith) ]

module _ (S : Source) (R : Readable S) (A : IsAdded S) where
  abbrev Q : Program
  Q = program_of S

  abbrev gs : List Name
  gs = new_names [] (all_declared S.trees)

  chunks_fit : length Q.chunks ≤ length Q.scopes
  unfolding program_of
  chunks_fit = let a = length_chunks (outer_of S) (begin S) S.trees in let b = length-append (chunk_scopes (outer_of S) (begin S) S.trees) (inner_scopes (outer_of S) 0 (begin S) S.trees) in let c = R.one_each in omega arith

  prop_at : (n : ℕ) (p : PropInfo) → slice_get Q.props n ≡ Some p → IsProp Q p
  unfolding program_of distinct prop_info
  prop_at n p e =
      let d = mapped_at (prop_info (kept_of S)) (new_names [] (names (all_marks S.trees))) n p e in
      subst (λ z. IsProp (program_of S) z) d.2 (record { no_index = R.no_index d.0 (news_in [] (names (all_marks S.trees)) d.0 (at_in (new_names [] (names (all_marks S.trees))) n d.0 d.1)); kept = refl })

  props_once : IsDistinct (map (λ p. p.name) Q.props)
  unfolding program_of distinct
  props_once = subst (λ xs. IsDistinct xs) (sym (prop_names_are (kept_of S) (new_names [] (names (all_marks S.trees))))) (news_once [] (names (all_marks S.trees)))

  kept_all : (x : Name) → In x always_kept → In x Q.kept
  unfolding program_of kept_of distinct
  kept_all x h = elim (news_have x [] (S.kept ++ always_kept) (in_right S.kept always_kept h)) [ inl j ↦ elim j [ ] | inr j ↦ j ]

  -- a global of the outside, or one that a chunk declares
  data Sort (n : ℕ) (g : GlobalInfo) : Type 0 where
    outside : (x : Name) → n < length S.externs + 3 → outer_info x ≡ g → Sort n g
    of_chunks : (x : Name) → In x (all_declared S.trees) → chunk_info S.added S.trees x ≡ g → Sort n g

  sort_of : (n : ℕ) (g : GlobalInfo) → slice_get (globals_of S) n ≡ Some g → Sort n g
  unfolding globals_of distinct builtin_globals
  sort_of n g e = elim (split_at (map outer_info (S.externs ++ builtin_globals)) (map (chunk_info S.added S.trees) gs) n g e) [
    | inl h ↦ (let d = mapped_at outer_info (S.externs ++ builtin_globals) n g h in
        let l = slice_get_within (S.externs ++ builtin_globals) n d.0 d.1 in
        let m : length (S.externs ++ builtin_globals) ≡ length S.externs + 3 = length-append S.externs builtin_globals in
        outside d.0 (omega arith) d.2)
    | inr h ↦ (let d = mapped_at (chunk_info S.added S.trees) gs h.0 g h.1 in of_chunks d.0 (news_in [] (all_declared S.trees) d.0 (at_in gs h.0 d.0 d.1)) d.2)
  ]

  externs_count : without_chunk (globals_of S) ≡ length S.externs + 3
  unfolding globals_of distinct builtin_globals
  externs_count = without_outer S.added (S.externs ++ builtin_globals) S.trees gs ∙ length-append S.externs builtin_globals

  inner_at : (n : ℕ) (g : GlobalInfo) → slice_get (globals_of S) n ≡ Some g → without_chunk (globals_of S) ≤ n → IsTrue (is_some g.chunk)
  unfolding chunk_info
  inner_at n g e h = by (sort_of n g e) where
    by : Sort n g → IsTrue (is_some g.chunk)
    by (outside x l d) = absurd (let k = externs_count in omega arith)
    by (of_chunks x i d) = subst (λ z. IsTrue (is_some z.chunk)) d refl

  ordered : IsOrdered Q
  unfolding outer_names program_of globals_of distinct
  ordered = record {
    externs = S.externs;
    names = ap (λ k. map (λ g. g.name) (take k (globals_of S))) (without_outer S.added (S.externs ++ builtin_globals) S.trees gs) ∙ outer_are (S.externs ++ builtin_globals) (map (chunk_info S.added S.trees) gs);
    distinct = R.externs_once;
    inner = inner_at;
  }

  no_path : (w : FlatPath) → In w [] → ⊥
  no_path w h = elim h [ ]

  same_number : {x y : ℕ} → Some x ≡ Some y → x ≡ y
  unfolding or_zero
  same_number e = ap or_zero e

  global_at : (n : ℕ) (g : GlobalInfo) → slice_get (globals_of S) n ≡ Some g → IsGlobal Q g
  unfolding program_of chunk_info
  global_at n g e = by (sort_of n g e) where
    by : Sort n g → IsGlobal (program_of S) g
    by (outside x l d) = subst (λ z. IsGlobal (program_of S) z) d (record { chunk = λ c h. absurd (cc); doc = A.some_doc; flat = λ w h. absurd (no_path w h) })
    by (of_chunks x i d) = subst (λ z. IsGlobal (program_of S) z) d (record {
      chunk = λ c h. (let a = same_number h in let b = chunk_below 0 S.trees x i in let k = R.one_each in omega arith, R.no_refused x i);
      doc = A.variables x;
      flat = A.flat x;
    })

  pub made : HasTables Q
  unfolding program_of
  made = record {
    chunks = chunks_fit;
    dependencies = R.lesser;
    props = prop_at;
    prop_names = props_once;
    kept = kept_all;
    classes = A.classes;
    one_class = A.one_class;
    docs = A.docs;
    globals = ordered;
    each_global = global_at;
    paths = A.paths;
  }
