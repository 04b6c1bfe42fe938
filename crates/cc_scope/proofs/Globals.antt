-- Which numbers the globals have where a program is read again.
use Rattle.std.proofs.Common.{◌≡◌, refl, sym, ap, ◌∙◌, subst, arith, inl, inr, ℕ, zero, suc, ◌+◌, ◌-◌, ◌<◌, ◌≤◌, Bool, true, false, ◌||◌, nat_eq, cond, List, [], ◌∷◌, ◌++◌, length, map, Option, Some, None, option_map, length-append}
use Rattle.std.specs.Prelude.{slice_get}
use Rattle.std.proofs.lemmas.Option.{slice_get-map, slice_get-get_or}
use Rattle.cc_ast.specs.declared.tree.Ref.{Ref}
use Rattle.cc_ast.specs.Syntax.{Program}
use Rattle.cc_meaning.specs.Operators.{list_eq, is_in}
use Rattle.cc_meaning.specs.Names.{builtin_globals}
use Rattle.cc_meaning.specs.Monad.{pick}
use Rattle.cc_meaning.specs.Store.{extern, of_chunk, outer_global, without_chunk, global_by, chunk_in, global_kind}
use Rattle.cc_meaning.specs.Shapes.{tables_of, body_of}
use Rattle.cc_meaning.specs.Alike.{In, here, there, Paired, OneToOne, GlobalA, Alike}
use Rattle.cc_grammar.specs.RawTree.{RawStmts}
use Rattle.cc_scope.specs.Lists.{Name, index_of, later, new_names, distinct, or_zero, or_else}
use Rattle.cc_scope.specs.Marks.{stmts_declare}
use Rattle.cc_scope.specs.Resolve.{Added, Source, outer_of, global_from, global_named, all_declared, chunk_by, chunk_info, outer_info, globals_of, program_of}
use Rattle.cc_scope.specs.Written.{Naming, Apart, count_from, stmts_in, ChunksN}
use Rattle.cc_scope.specs.Written as n
use Rattle.cc_scope.specs.Promises.{declared_from, Outside, Meant, an_extern, a_builtin, a_global}
use Rattle.cc_scope.proofs.Names.{eq_self, eq_equal}
use Rattle.cc_scope.proofs.Law.{in_left, in_right, in_either, map_append, stmts_declared, length_map}
use Rattle.std.proofs.lemmas.Bool.Decides.{nat_tests}
use Rattle.cc_scope.proofs.Whole.{law}
use Rattle.cc_scope.proofs.Numbers.{map_in, map_out, count_below, first_part, is_in_in, news_have, indexed}

-- ---- lists of names

pub index_in : (x : Name) (xs : List Name) (k : ℕ) → index_of x xs ≡ Some k → slice_get xs k ≡ Some x
unfolding index_of later or_zero
index_in x [] k e = absurd (cc)
index_in x (y ∷ xs) k e = by (list_eq x y) refl e (index_in x xs) where
  under : (o : Option ℕ) → later o ≡ Some k → (j : ℕ) × (o ≡ Some j) × (k ≡ suc j)
  under None d = absurd (cc)
  under (Some j) d = (j, refl, sym (ap or_zero d))

  by : (b : Bool) → list_eq x y ≡ b → cond b (Some 0) (later (index_of x xs)) ≡ Some k → ((j : ℕ) → index_of x xs ≡ Some j → slice_get xs j ≡ Some x) → slice_get (y ∷ xs) k ≡ Some x
  by true h d f = subst (λ j. slice_get (y ∷ xs) j ≡ Some x) (ap or_zero d) (ap Some (sym (eq_equal x y h)))
  by false h d f = let s = under (index_of x xs) d in subst (λ j. slice_get (y ∷ xs) j ≡ Some x) (sym s.2) (f s.0 s.1)

pub at_in : {A : Type 0} (xs : List A) (k : ℕ) (x : A) → slice_get xs k ≡ Some x → In x xs
at_in [] k x e = absurd (cc)
at_in (y ∷ xs) zero x e = subst (λ z. In z (y ∷ xs)) (let h : y ≡ x = cc in h) here
at_in (y ∷ xs) (suc k) x e = there (at_in xs k x e)

pub not_index : (x : Name) (xs : List Name) → (In x xs → ⊥) → index_of x xs ≡ None
not_index x xs h = by (index_of x xs) refl where
  by : (o : Option ℕ) → index_of x xs ≡ o → o ≡ None
  by None e = refl
  by (Some k) e = absurd (h (at_in xs k x (index_in x xs k e)))

pub in_is_in : (x : Name) (xs : List Name) → In x xs → is_in x xs ≡ true
unfolding is_in
in_is_in x [] h = elim h [ ]
in_is_in x (y ∷ xs) here = rw (eq_self x) refl
in_is_in x (y ∷ xs) (there h) = by (list_eq x y) (in_is_in x xs h) where
  by : (b : Bool) → is_in x xs ≡ true → (b || is_in x xs) ≡ true
  by true e = refl
  by false e = e

pub not_in : (x : Name) (xs : List Name) → (In x xs → ⊥) → is_in x xs ≡ false
not_in x xs h = by (is_in x xs) refl where
  by : (b : Bool) → is_in x xs ≡ b → b ≡ false
  by true e = absurd (h (is_in_in x xs e))
  by false e = refl

in_count : (k n i : ℕ) → i < n → In (k + i) (count_from k n)
unfolding count_from
in_count k zero i h = absurd (omega arith)
in_count k (suc n) zero h = subst (λ j. In j (count_from k (suc n))) (let e : k ≡ k + 0 = omega arith in e) (unfold count_from in here)
in_count k (suc n) (suc i) h = subst (λ j. In j (count_from k (suc n))) (let e : suc k + i ≡ k + suc i = omega arith in e) (unfold count_from in there (in_count (suc k) n i (omega arith)))

some_or : Option Name → Name
some_or None = []
some_or (Some x) = x

builtin_index : (i : ℕ) (x : Name) → i < 3 → slice_get builtin_globals i ≡ Some x → index_of x builtin_globals ≡ Some i
unfolding index_of later list_eq builtin_globals some_or
builtin_index zero x h e = ap (λ o. index_of (some_or o) builtin_globals) (sym e)
builtin_index (suc zero) x h e = ap (λ o. index_of (some_or o) builtin_globals) (sym e)
builtin_index (suc (suc zero)) x h e = ap (λ o. index_of (some_or o) builtin_globals) (sym e)
builtin_index (suc (suc (suc i))) x h e = absurd (omega arith)

-- ---- the tables that are read

pub without_outer : (A : Added) (xs : List Name) (ts : List RawStmts) (ys : List Name) → without_chunk (map outer_info xs ++ map (chunk_info A ts) ys) ≡ length xs
unfolding without_chunk chunk_info
without_outer A [] ts [] = refl
without_outer A [] ts (y ∷ ys) = without_outer A [] ts ys
without_outer A (x ∷ xs) ts ys = ap suc (without_outer A xs ts ys)

pub after : {A : Type 0} (xs ys : List A) (k : ℕ) (y : A) → slice_get ys k ≡ Some y → slice_get (xs ++ ys) (length xs + k) ≡ Some y
after [] ys k y e = subst (λ i. slice_get ys i ≡ Some y) (let h : k ≡ 0 + k = omega arith in h) e
after (x ∷ xs) ys k y e = subst (λ i. slice_get (x ∷ (xs ++ ys)) i ≡ Some y) (let h : suc (length xs + k) ≡ suc (length xs) + k = omega arith in h) (after xs ys k y e)

module _ (v : Naming) (P : Program) (S : Source) (ds : List ℕ) (O : Outside v P S ds) (declares : all_declared S.trees ≡ map v.global ds) where
  abbrev K : ℕ
  K = length S.externs + 3

  abbrev gs : List Name
  gs = new_names [] (all_declared S.trees)

  -- a declared global stands among those of the chunks
  place_in : (i : ℕ) → In i ds → (k : ℕ) × (index_of (v.global i) gs ≡ Some k) × (slice_get gs k ≡ Some (v.global i))
  place_in i h = elim (news_have (v.global i) [] (all_declared S.trees) (subst (λ xs. In (v.global i) xs) (sym declares) (map_in v.global h))) [
    | inl j ↦ elim j [ ]
    | inr j ↦ indexed (v.global i) gs j
  ]

  unfoldable pub inner_number : ℕ → ℕ
  inner_number i = K + or_zero (index_of (v.global i) gs)

  abbrev pub globals_paired : List (ℕ × ℕ)
  globals_paired = map (λ i. (i, i)) (count_from 0 (length S.externs + 3)) ++ map (λ i. (i, inner_number i)) ds

  pub data Case (m n : ℕ) : Type 0 where
    outer_case : m < length S.externs + 3 → m ≡ n → Case m n
    inner_case : In m ds → n ≡ inner_number m → Case m n

  pub cases : (m n : ℕ) → Paired globals_paired m n → Case m n
  cases m n h = elim (in_either (map (λ i. (i, i)) (count_from 0 (length S.externs + 3))) (map (λ i. (i, inner_number i)) ds) h) [
    | inl j ↦ (let d = map_out (λ i. (i, i)) (m, n) (count_from 0 (length S.externs + 3)) j in
        let a : d.0 ≡ m = ap (λ p. p.0) d.2 in let b : d.0 ≡ n = ap (λ p. p.1) d.2 in
        let c = count_below 0 (length S.externs + 3) d.0 d.1 in outer_case (omega arith) (sym a ∙ b))
    | inr j ↦ (let d = map_out (λ i. (i, inner_number i)) (m, n) ds j in
        let a : d.0 ≡ m = ap (λ p. p.0) d.2 in let b : inner_number d.0 ≡ n = ap (λ p. p.1) d.2 in
        inner_case (subst (λ i. In i ds) a d.1) (sym b ∙ ap inner_number a))
  ]

  inner_once : (m k : ℕ) → In m ds → In k ds → inner_number m ≡ inner_number k → m ≡ k
  unfolding inner_number or_zero some_or
  inner_once m k h j e =
      let a = place_in m h in let b = place_in k j in
      let x : or_zero (index_of (v.global m) gs) ≡ a.0 = ap or_zero a.1 in
      let y : or_zero (index_of (v.global k) gs) ≡ b.0 = ap or_zero b.1 in
      let z : a.0 ≡ b.0 = omega arith in
      O.injective m k h j (got_name (sym a.2 ∙ ap (slice_get gs) z ∙ b.2)) where
        got_name : {x y : Name} → Some x ≡ Some y → x ≡ y
        got_name e = ap some_or e

  pub above_number : (m : ℕ) → length S.externs + 3 ≤ inner_number m
  unfolding inner_number
  above_number m = omega arith

  once : OneToOne globals_paired
  once = record { left = λ m n k h j. left m n k (cases m n h) (cases m k j); right = λ m k n h j. right m k n (cases m n h) (cases k n j) } where
    left : (m n k : ℕ) → Case m n → Case m k → n ≡ k
    left m n k (outer_case a b) (outer_case c d) = sym b ∙ d
    left m n k (outer_case a b) (inner_case c d) = let z = O.above m c in absurd (omega arith)
    left m n k (inner_case a b) (outer_case c d) = let z = O.above m a in absurd (omega arith)
    left m n k (inner_case a b) (inner_case c d) = b ∙ sym d

    right : (m k n : ℕ) → Case m n → Case k n → m ≡ k
    right m k n (outer_case a b) (outer_case c d) = b ∙ sym d
    right m k n (outer_case a b) (inner_case c d) = let z = above_number k in absurd (omega arith)
    right m k n (inner_case a b) (outer_case c d) = let z = above_number m in absurd (omega arith)
    right m k n (inner_case a b) (inner_case c d) = inner_once m k a c (sym b ∙ d)

  -- ---- what the names mean

  outer_part : (i : ℕ) → i < length S.externs + 3 → Paired globals_paired i i
  outer_part i h = in_left (map (λ j. (j, j)) (count_from 0 (length S.externs + 3))) (map (λ j. (j, inner_number j)) ds) (map_in (λ j. (j, j)) (subst (λ j. In j (count_from 0 (length S.externs + 3))) (let e : 0 + i ≡ i = omega arith in e) (in_count 0 (length S.externs + 3) i h)))

  extern_name : (i : ℕ) → i < length S.externs → slice_get S.externs i ≡ Some (v.global i)
  extern_name i h = by (slice_get S.externs i) refl where
    by : (o : Option Name) → slice_get S.externs i ≡ o → slice_get S.externs i ≡ Some (v.global i)
    by None e = absurd (let d = slice_get-get_or S.externs i [] h in cc)
    by (Some x) e = e ∙ (sym (first_part S.externs builtin_globals i x e) ∙ O.outer_name i (omega arith))

  builtin_name : (i : ℕ) → i < 3 → slice_get builtin_globals i ≡ Some (v.global (length S.externs + i))
  builtin_name i h = by (slice_get builtin_globals i) refl where
    by : (o : Option Name) → slice_get builtin_globals i ≡ o → slice_get builtin_globals i ≡ Some (v.global (length S.externs + i))
    by None e = absurd (let d = slice_get-get_or builtin_globals i [] (unfold builtin_globals in h) in cc)
    by (Some x) e = e ∙ (sym (after S.externs builtin_globals i x e) ∙ O.outer_name (length S.externs + i) (omega arith))

  pub meaning : (i : ℕ) → Meant v S ds i → (j : ℕ) × (global_named (outer_of S) (v.global i) ≡ Some (Ref.Global j)) × Paired globals_paired i j
  unfolding global_named global_from or_else outer_of distinct inner_number or_zero
  meaning _ (an_extern i h free) =
      let e = indexed (v.global i) S.externs (at_in S.externs i (v.global i) (extern_name i h)) in
      let same : e.0 ≡ i = O.externs_once e.0 i (v.global i) e.2 (extern_name i h) in
      (i, rw (not_index (v.global i) builtin_globals free) (rw (e.1) (ap (λ k. Some (Ref.Global k)) (let z : 0 + e.0 ≡ i = omega arith in z))), outer_part i (omega arith))
  meaning _ (a_builtin i h) = (length S.externs + i, rw (builtin_index i (v.global (length S.externs + i)) h (builtin_name i h)) refl, outer_part (length S.externs + i) (omega arith))
  meaning _ (a_global i h) =
      let e = place_in i h in (
        inner_number i,
        rw (not_index (v.global i) builtin_globals (λ z. O.apart i h (in_right S.externs builtin_globals z)))
            (rw (not_index (v.global i) S.externs (λ z. O.apart i h (in_left S.externs builtin_globals z)))
            (rw e.1 refl)),
        in_right (map (λ k. (k, k)) (count_from 0 (length S.externs + 3))) (map (λ k. (k, inner_number k)) ds) (map_in (λ k. (k, inner_number k)) h),
      )

  -- ---- of which chunk they are

  abbrev pub Q : Program
  Q = program_of S

  pub outer_length : length (map outer_info (S.externs ++ builtin_globals)) ≡ length S.externs + 3
  unfolding builtin_globals
  outer_length = length_map outer_info (S.externs ++ builtin_globals) ∙ length-append S.externs builtin_globals

  externs_count : without_chunk (globals_of S) - 3 ≡ length S.externs
  unfolding globals_of distinct
  externs_count = let a = without_outer S.added (S.externs ++ builtin_globals) S.trees gs in let b = length_map outer_info (S.externs ++ builtin_globals) in let c = outer_length in omega arith

  read_kind : (n : ℕ) → global_kind (tables_of Q) n ≡ global_by (length S.externs) n (chunk_in (slice_get (globals_of S) n))
  unfolding global_kind tables_of program_of
  read_kind n = ap (λ k. global_by k n (chunk_in (slice_get (globals_of S) n))) externs_count

  pub outer_read : (m : ℕ) → m < length S.externs + 3 → global_kind (tables_of Q) m ≡ outer_global (length S.externs) m
  unfolding globals_of distinct global_by chunk_in
  outer_read m h = read_kind m ∙ ap (λ o. global_by (length S.externs) m (chunk_in o)) (first_part (map outer_info (S.externs ++ builtin_globals)) (map (chunk_info S.added S.trees) gs) m (outer_info (v.global m)) (slice_get-map outer_info (S.externs ++ builtin_globals) m ∙ ap (option_map outer_info) (O.outer_name m h)))

  pub inner_read : (m : ℕ) → In m ds → global_kind (tables_of Q) (inner_number m) ≡ of_chunk (chunk_by 0 (v.global m) S.trees)
  unfolding globals_of distinct global_by chunk_in inner_number or_zero chunk_info
  inner_read m h =
      let d = place_in m h in
      let e : slice_get (map (chunk_info S.added S.trees) gs) d.0 ≡ Some (chunk_info S.added S.trees (v.global m)) = slice_get-map (chunk_info S.added S.trees) gs d.0 ∙ ap (option_map (chunk_info S.added S.trees)) d.2 in
      let i : length (map outer_info (S.externs ++ builtin_globals)) + d.0 ≡ length S.externs + 3 + or_zero (index_of (v.global m) gs) = ap (λ k. k + d.0) outer_length ∙ ap (λ o. length S.externs + 3 + or_zero o) (sym d.1) in
      read_kind (inner_number m) ∙ ap (λ o. global_by (length S.externs) (inner_number m) (chunk_in o)) (subst (λ k. slice_get (globals_of S) k ≡ Some (chunk_info S.added S.trees (v.global m))) i (after (map outer_info (S.externs ++ builtin_globals)) (map (chunk_info S.added S.trees) gs) d.0 (chunk_info S.added S.trees (v.global m)) e))

  chunk_is : (Known : ℕ → Type 0) → ((d j : ℕ) → d < length S.trees → In j (stmts_in (body_of P d)) → In j ds) → (c : ℕ) (ts : List RawStmts) → ChunksN v P Known c ts → c + length ts ≤ length S.trees
      → (m b : ℕ) → In m ds → c ≤ b → b < c + length ts → In m (stmts_in (body_of P b)) → ((d : ℕ) → d < b → In m (stmts_in (body_of P d)) → ⊥) → chunk_by c (v.global m) ts ≡ b
  unfolding chunk_by
  chunk_is Known covers c [] w l m b i g h j least = absurd (omega arith)
  chunk_is Known covers c (t ∷ ts) (n.more_chunks_n s w) l m b i g h j least = by (nat_eq c b) refl (λ k. chunk_is Known covers (suc c) ts w (omega arith) m b i k (omega arith) j least) where
    here_are : stmts_declare t ≡ map v.global (stmts_in (body_of P c))
    here_are = stmts_declared v P Known s

    by : (x : Bool) → nat_eq c b ≡ x → (suc c ≤ b → chunk_by (suc c) (v.global m) ts ≡ b) → pick (is_in (v.global m) (stmts_declare t)) c (chunk_by (suc c) (v.global m) ts) ≡ b
    by true e r = let z : b ≡ c = grind (arith, nat_tests) in
        rw (in_is_in (v.global m) (stmts_declare t) (subst (λ xs. In (v.global m) xs) (sym here_are) (map_in v.global (subst (λ k. In m (stmts_in (body_of P k))) z j)))) (sym z)
    by false e r = let z : suc c ≤ b = grind (arith, nat_tests) in
        rw (not_in (v.global m) (stmts_declare t) (λ y. let d = map_out v.global (v.global m) (stmts_in (body_of P c)) (subst (λ xs. In (v.global m) xs) here_are y) in
        least c z (subst (λ k. In k (stmts_in (body_of P c))) (O.injective d.0 m (covers c d.0 (omega arith) d.1) i d.2) d.1))) (r z)

  pub kinds : (Known : ℕ → Type 0) → ((d j : ℕ) → d < length S.trees → In j (stmts_in (body_of P d)) → In j ds) → ChunksN v P Known 0 S.trees → (m n : ℕ) → Paired globals_paired m n → GlobalA (tables_of P) (tables_of Q) m n
  kinds Known covers w m n h = by (cases m n h) where
    by : Case m n → GlobalA (tables_of P) (tables_of Q) m n
    by (outer_case a b) = record { kind = O.outer_kind m a ∙ sym (outer_read m a) ∙ ap (global_kind (tables_of Q)) b; outer = λ e. b }
    by (inner_case a b) = let l = O.least m a in record {
      kind = l.1 ∙ ap of_chunk (sym (chunk_is Known covers 0 S.trees w (omega arith) m l.0 a (omega arith) (omega (arith, l.2)) l.3 l.4)) ∙ sym (inner_read m a) ∙ ap (global_kind (tables_of Q)) (sym b);
      outer = λ e. absurd (let z : of_chunk l.0 ≡ extern = sym l.1 ∙ e in cc);
    }

pub all_are : (v : Naming) (P : Program) (Known : ℕ → Type 0) (c : ℕ) (ts : List RawStmts) → ChunksN v P Known c ts → all_declared ts ≡ map v.global (declared_from P c (length ts))
unfolding all_declared declared_from
all_are v P Known c [] w = refl
all_are v P Known c (t ∷ ts) (n.more_chunks_n s w) = ap (λ xs. xs ++ all_declared ts) (stmts_declared v P Known s) ∙ ap (λ xs. map v.global (stmts_in (body_of P c)) ++ xs) (all_are v P Known (suc c) ts w) ∙ sym (map_append v.global (stmts_in (body_of P c)) (declared_from P (suc c) (length ts)))

pub covered : (P : Program) (c k d j : ℕ) → c ≤ d → d < c + k → In j (stmts_in (body_of P d)) → In j (declared_from P c k)
unfolding declared_from
covered P c zero d j g h i = absurd (omega arith)
covered P c (suc k) d j g h i = by (nat_eq d c) refl (λ z. covered P (suc c) k d j z (omega arith) i) where
  by : (x : Bool) → nat_eq d c ≡ x → (suc c ≤ d → In j (declared_from P (suc c) k)) → In j (stmts_in (body_of P c) ++ declared_from P (suc c) k)
  by true e r = let z : d ≡ c = grind (arith, nat_tests) in in_left (stmts_in (body_of P c)) (declared_from P (suc c) k) (subst (λ y. In j (stmts_in (body_of P y))) z i)
  by false e r = in_right (stmts_in (body_of P c)) (declared_from P (suc c) k) (r (grind (arith, nat_tests)))

-- A program that is written with names and read again is alike to what was written.
pub reads_back : (v : Naming) → Apart v → (P : Program) (S : Source) → S.chunks ≡ P.chunks → length S.trees ≡ length P.chunks → Outside v P S (declared_from P 0 (length S.trees))
    → ChunksN v P (Meant v S (declared_from P 0 (length S.trees))) 0 S.trees → Alike P (program_of S)
reads_back v apart P S same count O w =
    let ds = declared_from P 0 (length S.trees) in
    let declares = all_are v P (Meant v S ds) 0 S.trees w in
    law v apart P S (Meant v S ds) (globals_paired v P S ds O declares) (meaning v P S ds O declares) same count w (once v P S ds O declares)
    (kinds v P S ds O declares (Meant v S ds) (λ d j h i. covered P 0 (length S.trees) d j (omega arith) (omega arith) i) w)
