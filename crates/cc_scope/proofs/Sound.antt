-- Each part of each scope of what is resolved is sound.
use Rattle.std.proofs.Common.{◌≡◌, refl, sym, ap, ◌∙◌, subst, arith, inl, inr, ℕ, zero, suc, ◌+◌, ◌<◌, ◌≤◌, Bool, true, false, ◌||◌, nat_lt, List, [], ◌∷◌, ◌++◌, length, map, Option, Some, None, length-append}
use Rattle.std.specs.Prelude.{slice_get}
use Rattle.std.proofs.lemmas.Option.{slice_get_within}
use Rattle.std.proofs.lemmas.Bool.Decides.{nat_tests}
use Rattle.cc_ast.specs.declared.place.Place.{Place}
use Rattle.cc_ast.specs.declared.tree.Ref.{Ref}
use Rattle.cc_ast.specs.declared.tables.GlobalInfo.{GlobalInfo}
use Rattle.cc_ast.specs.Syntax.{Scope, Program}
use Rattle.cc_meaning.specs.Operators.{is_in}
use Rattle.cc_meaning.specs.Names.{builtin_globals}
use Rattle.cc_meaning.specs.Store.{without_chunk}
use Rattle.cc_meaning.specs.Shapes.{tables_of, body_of, body_in}
use Rattle.cc_meaning.specs.Alike.{In}
use Rattle.cc_meaning.specs.Parts.{Part, uses_prop, uses_doc, mentions, declares, makes, stmts_parts}
use Rattle.cc_meaning.specs.WellMade.{parts_of, is_chunk, Reached, of_frame, IsDeclared, IsSound, sound_place, sound_global, sound_outer, IsNumbered, numbered_place, numbered_global, placed_global, placed_local, IsMade, IsPart, a_site, a_prop, a_doc, a_mention, a_declaration, a_function, a_method, IsMeant}
use Rattle.cc_grammar.specs.RawTree.{RawStmts}
use Rattle.cc_scope.specs.Lists.{Name, index_of, new_names, distinct, or_zero, or_else}
use Rattle.cc_scope.specs.Marks.{names, Counters, stmts_declare}
use Rattle.cc_scope.specs.Resolve.{Outer, Frames, lookup, in_frame, global_from, global_named, ref_of, ref_by, prop_of, named, locals, with_own, inner, behind, scope_of, chunk_scope, chunk_by, chunk_info, outer_info, globals_of, Source, all_marks, all_declared, outer_of, program_of}
use Rattle.cc_scope.specs.Refusals.{refusals_of}
use Rattle.cc_scope.specs.Promises.{Readable, Grammatical}
use Rattle.cc_scope.proofs.Declared.{in_left, in_right, in_either, length_map}
use Rattle.cc_scope.proofs.Numbers.{indexed, news_have, is_in_in}
use Rattle.cc_scope.proofs.Globals.{at_in, not_index, in_is_in, index_in}
use Rattle.cc_scope.proofs.Tables.{news_in, news_once}
use Rattle.cc_scope.proofs.Counts.{places_counted}
use Rattle.cc_scope.proofs.Additions.{IsAdded}
use Rattle.cc_scope.proofs.Pieces.{over, depth, IsFree, Plain, plain_site, plain_prop, plain_doc, plain_mention, plain_declaration, plain_function, plain_method, Stands, chunk_stands, function_stands}
use Rattle.cc_scope.proofs.Lookups.{global_found, free_global, free_place, GlobalFact, outer_fact, inner_fact, global_fact, inner_entry, inner_kind}
use Rattle.cc_scope.proofs.Standing.{each_stands, each_chunk, plain, shown, top_is, own_variable, found}

-- ---- the least chunk that declares a name

record Least (c : ℕ) (x : Name) (ts : List RawStmts) : Type 0 where
  place : ℕ
  tree : RawStmts
  is : chunk_by c x ts ≡ c + place
  stands : slice_get ts place ≡ Some tree
  stated : In x (stmts_declare tree)
  least : (d : ℕ) (u : RawStmts) → d < place → slice_get ts d ≡ Some u → In x (stmts_declare u) → ⊥

least_of : (c : ℕ) (x : Name) (ts : List RawStmts) → In x (all_declared ts) → Least c x ts
unfolding all_declared chunk_by
least_of c x [] i = elim i [ ]
least_of c x (t ∷ ts) i = by (is_in x (stmts_declare t)) refl (λ j. least_of (suc c) x ts j) where
  below : Least (suc c) x ts → is_in x (stmts_declare t) ≡ false → (d : ℕ) (u : RawStmts) → (p : ℕ) → ((e : ℕ) (y : RawStmts) → e < p → slice_get ts e ≡ Some y → In x (stmts_declare y) → ⊥) → d < suc p → slice_get (t ∷ ts) d ≡ Some u → In x (stmts_declare u) → ⊥
  below l e zero u p f h s j = let z : t ≡ u = cc in let y : is_in x (stmts_declare t) ≡ true = in_is_in x (stmts_declare t) (subst (λ b. In x (stmts_declare b)) (sym z) j) in let q : true ≡ false = sym y ∙ e in cc
  below l e (suc d) u p f h s j = f d u (omega arith) s j

  by : (b : Bool) → is_in x (stmts_declare t) ≡ b → (In x (all_declared ts) → Least (suc c) x ts) → Least c x (t ∷ ts)
  by true e f = record { place = 0; tree = t; is = rw e (let z : c ≡ c + 0 = omega arith in z); stands = refl; stated = is_in_in x (stmts_declare t) e; least = λ d u h s j. absurd (omega arith) }
  by false e f = elim (in_either (stmts_declare t) (all_declared ts) i) [
    | inl j ↦ absurd (let z = in_is_in x (stmts_declare t) j in let q : true ≡ false = sym z ∙ e in cc)
    | inr j ↦ (let l = f j in record { place = suc l.place; tree = l.tree; is = rw e (l.is ∙ (let z : suc c + l.place ≡ c + suc l.place = omega arith in z)); stands = l.stands; stated = l.stated; least = λ d u h s k. below l e d u l.place l.least h s k })
  ]

tree_declares : (ts : List RawStmts) (d : ℕ) (t : RawStmts) (x : Name) → slice_get ts d ≡ Some t → In x (stmts_declare t) → In x (all_declared ts)
unfolding all_declared
tree_declares [] d t x e i = absurd (cc)
tree_declares (u ∷ ts) zero t x e i = let z : u ≡ t = cc in in_left (stmts_declare u) (all_declared ts) (subst (λ b. In x (stmts_declare b)) (sym z) i)
tree_declares (u ∷ ts) (suc d) t x e i = in_right (stmts_declare u) (all_declared ts) (tree_declares ts d t x e i)

some_tree : (ts : List RawStmts) (d : ℕ) → d < length ts → (t : RawStmts) × (slice_get ts d ≡ Some t)
some_tree [] d h = absurd (omega arith)
some_tree (t ∷ ts) zero h = (t, refl)
some_tree (t ∷ ts) (suc d) h = some_tree ts d (omega arith)

-- ---- what is equal to a part

part_ref : Part → Ref
part_ref (mentions c r) = r
part_ref (declares c r) = r
part_ref _ = Ref.Global 0

part_function : Part → ℕ
part_function (makes c g d) = g
part_function _ = 0

part_declared : Part → Bool
part_declared (makes c g d) = d
part_declared _ = false

part_is : Part → ℕ
part_is (mentions c r) = 0
part_is (declares c r) = 1
part_is _ = 2

module _ (S : Source) (R : Readable S) (fitting : Grammatical S) (unrefused : refusals_of S ≡ []) where
  abbrev P : Program
  P = program_of S

  -- ---- a global that a chunk declares

  record Global (x : Name) : Type 0 where
    number : ℕ
    listed : slice_get (new_names [] (all_declared S.trees)) number ≡ Some x
    is : global_named (outer_of S) x ≡ Some (Ref.Global (length S.externs + 3 + number))

  split_or : (a b : Bool) → a || b ≡ false → (a ≡ false) × (b ≡ false)
  split_or true b e = absurd (cc)
  split_or false b e = (refl, e)

  not_indexed : (x : Name) (xs : List Name) → is_in x xs ≡ false → index_of x xs ≡ None
  not_indexed x xs e = not_index x xs (λ i. let z = in_is_in x xs i in let q : true ≡ false = sym z ∙ e in cc)

  declared_global : (x : Name) → In x (all_declared S.trees) → is_in x (outer_of S).externs || is_in x builtin_globals ≡ false → Global x
  unfolding global_named global_from or_else outer_of distinct
  declared_global x i e =
      let d = split_or (is_in x S.externs) (is_in x builtin_globals) e in
      elim (news_have x [] (all_declared S.trees) i) [
        | inl j ↦ elim j [ ]
        | inr j ↦ (let k = indexed x (new_names [] (all_declared S.trees)) j in
            record { number = k.0; listed = k.2; is = rw (not_indexed x builtin_globals d.1) (rw (not_indexed x S.externs d.0) (rw k.1 refl)) })
      ]

  same_number : (x : Name) (i j : ℕ) → slice_get (new_names [] (all_declared S.trees)) i ≡ Some x → slice_get (new_names [] (all_declared S.trees)) j ≡ Some x → i ≡ j
  same_number x i j e d = news_once [] (all_declared S.trees) i j x e d

  some_name : Option Name → Name
  some_name None = []
  some_name (Some x) = x

  same_name : (x y : Name) (i : ℕ) → slice_get (new_names [] (all_declared S.trees)) i ≡ Some x → slice_get (new_names [] (all_declared S.trees)) i ≡ Some y → x ≡ y
  unfolding some_name
  same_name x y i e d = ap some_name (sym e ∙ d)

  global_number : Ref → ℕ
  global_number (Ref.Frame up k) = 0
  global_number (Ref.Global k) = k

  -- a chunk's declaration of a global is of its name
  declares_it : (d : ℕ) (t : RawStmts) → slice_get S.trees d ≡ Some t → (z : Part) → Plain S d true [] (stmts_declare t) z → part_is z ≡ 1
      → (j : ℕ) → part_ref z ≡ Ref.Global (length S.externs + 3 + j) → (x : Name) → slice_get (new_names [] (all_declared S.trees)) j ≡ Some x → In x (stmts_declare t)
  unfolding part_is part_ref global_number ref_of ref_by lookup
  declares_it d t e _ (plain_declaration xs y i fr) h j r x k =
      let g = declared_global y (tree_declares S.trees d t y e i) (fr.inside refl) in
      let f = free_global (outer_of S) [] xs y (length S.externs + 3 + g.number) fr.uncaught g.is in
      let same : length S.externs + 3 + g.number ≡ length S.externs + 3 + j = ap global_number (sym (ap ref_by f) ∙ r) in
      let n : g.number ≡ j = omega arith in
      subst (λ u. In u (stmts_declare t)) (same_name y x j (subst (λ m. slice_get (new_names [] (all_declared S.trees)) m ≡ Some y) n g.listed) k) i
  declares_it d t e _ (plain_site i l) h j r x k = absurd (cc)
  declares_it d t e _ (plain_prop y i) h j r x k = absurd (cc)
  declares_it d t e _ (plain_doc q) h j r x k = absurd (cc)
  declares_it d t e _ (plain_mention xs y u f) h j r x k = absurd (cc)
  declares_it d t e _ (plain_function c g q s u p o l) h j r x k = absurd (cc)
  declares_it d t e _ (plain_method u q g) h j r x k = absurd (cc)

  -- each global of the chunks is declared by the least chunk that declares its name
  is_declared : (x : Name) (j : ℕ) → slice_get (new_names [] (all_declared S.trees)) j ≡ Some x → IsDeclared (program_of S) (length S.externs + 3 + j) (chunk_by 0 x S.trees)
  unfolding part_is part_ref ref_of ref_by lookup
  is_declared x j e = record { here = there_is; least = none_before } where
    among : In x (all_declared S.trees)
    among = news_in [] (all_declared S.trees) x (at_in (new_names [] (all_declared S.trees)) j x e)

    l : Least 0 x S.trees
    l = least_of 0 x S.trees among

    place : chunk_by 0 x S.trees ≡ l.place
    place = l.is ∙ (let z : 0 + l.place ≡ l.place = omega arith in z)

    there_is : (k : ℕ) × In (declares k (Ref.Global (length S.externs + 3 + j))) (parts_of (program_of S) (chunk_by 0 x S.trees))
    there_is =
        let d = shown S R fitting unrefused (each_chunk S R fitting unrefused l.place l.tree l.stands).stands x l.stated in
        let g = declared_global x among (d.free.inside refl) in
        let f = free_global (outer_of S) [] d.caught x (length S.externs + 3 + g.number) d.free.uncaught g.is in
        let n = same_number x g.number j g.listed e in (
          depth d.caught,
          subst (λ c. In (declares (depth d.caught) (Ref.Global (length S.externs + 3 + j))) (parts_of (program_of S) c)) (sym place)
              (subst (λ r. In (declares (depth d.caught) r) (parts_of (program_of S) l.place)) (ap ref_by f ∙ ap (λ m. Ref.Global (length S.externs + 3 + m)) n) d.among),
        )

    none_before : (d k : ℕ) → d < chunk_by 0 x S.trees → In (declares k (Ref.Global (length S.externs + 3 + j))) (parts_of (program_of S) d) → ⊥
    none_before d k h i =
        let p = place in
        let t = some_tree S.trees d (let m = slice_get_within S.trees l.place l.tree l.stands in omega arith) in
        l.least d t.0 (omega arith) t.1 (declares_it d t.0 t.1 _ (plain S R fitting unrefused (each_chunk S R fitting unrefused d t.0 t.1).stands _ i) refl j refl x e)

  -- ---- parts

  sound : (f c k : ℕ) (x : Name) → GlobalFact S x k → IsSound (program_of S) f c (Ref.Global k)
  unfolding program_of
  sound f c k x (outer_fact h e b o) = sound_outer k (outer_info x) e refl
  sound f c k x (inner_fact j e h) = subst (λ m. IsSound (program_of S) f c (Ref.Global m)) (sym e) (sound_global (length S.externs + 3 + j) (chunk_by 0 x S.trees) (inner_kind S x j h) (is_declared x j h))

  numbered : (k : ℕ) (x : Name) → GlobalFact S x k → IsNumbered (program_of S) (Ref.Global k)
  unfolding program_of
  numbered k x (outer_fact h e b o) = numbered_global k (slice_get_within (globals_of S) k (outer_info x) e)
  numbered k x (inner_fact j e h) = subst (λ m. IsNumbered (program_of S) (Ref.Global m)) (sym e) (numbered_global (length S.externs + 3 + j) (slice_get_within (globals_of S) (length S.externs + 3 + j) (chunk_info S.added S.trees x) (inner_entry S x j h)))

  mention : {f : ℕ} {top : Bool} {E : Frames} {b : RawStmts} {n : Counters} → Stands S f top E b n → (xs : List Name) (x : Name) (r : Ref) → lookup (outer_of S) (over xs E) x ≡ Some r → IsPart (program_of S) f (mentions (depth xs) r)
  mention st xs x (Ref.Frame u k) e = a_mention (depth xs) (Ref.Frame u k) (numbered_place u k) (λ z. sound_place u k (found S R fitting unrefused st xs x u k e))
  mention {f} {E} st xs x (Ref.Global k) e = let g = global_fact S x k (global_found (outer_of S) (over xs E) x k e) in a_mention (depth xs) (Ref.Global k) (numbered k x g) (λ z. sound f (depth xs) k x g)

  declaration : {f : ℕ} {top : Bool} {E : Frames} {b : RawStmts} {n : Counters} → Stands S f top E b n → (xs : List Name) (x : Name) → In x (stmts_declare b) → IsFree S top xs x → IsPart (program_of S) f (declares (depth xs) (ref_of (outer_of S) (over xs E) x))
  unfolding ref_of ref_by lookup in_frame inner locals scope_of
  declaration (chunk_stands f b n l t e g) xs x i fr =
      let d = declared_global x (tree_declares S.trees f b x t i) (fr.inside refl) in
      let q = free_global (outer_of S) [] xs x (length S.externs + 3 + d.number) fr.uncaught d.is in
      let k = inner_kind S x d.number d.listed in
      subst (λ r. IsPart (program_of S) f (declares (depth xs) r)) (sym (ap ref_by q))
      (a_declaration (depth xs) (Ref.Global (length S.externs + 3 + d.number)) (placed_global (length S.externs + 3 + d.number) (chunk_by 0 x S.trees) (top_is S R fitting unrefused (chunk_stands f b n l t e g)) k) (λ z. sound_global (length S.externs + 3 + d.number) (chunk_by 0 x S.trees) k (is_declared x d.number d.listed)))
  declaration (function_stands {f = parent} {E} st ys own ps b n q d o eo m e a g) xs x i fr =
      let this = function_stands st ys own ps b n q d o eo m e a g in
      let k = indexed x (named ps ++ locals ps b) (elim (news_have x (named ps) (stmts_declare b) i) [ inl j ↦ in_left (named ps) (locals ps b) j | inr j ↦ in_right (named ps) (locals ps b) j ]) in
      let h = free_place (outer_of S) (inner own ps b (over ys E)) xs x k.0 fr.uncaught (ap (λ p. in_frame p (lookup (outer_of S) (with_own own (over ys E)) x)) k.1) in
      let v = own_variable S R fitting unrefused ps (scope_of (outer_of S) (inner own ps b (over ys E)) parent n o ps b q) this refl refl x k.0 k.1 in
      subst (λ r. IsPart (program_of S) n.function (declares (depth xs) r)) (sym (ap ref_by h))
      (a_declaration (depth xs) (Ref.Frame (depth xs) k.0) (placed_local k.0 _ (top_is S R fitting unrefused this) e v.0) (λ z. sound_place (depth xs) k.0 (of_frame n.function (depth xs) k.0 _ e (top_is S R fitting unrefused this) v.1)))

  not_chunk : (g : ℕ) → length S.trees ≤ g → is_chunk (program_of S) g ≡ false
  unfolding is_chunk program_of
  not_chunk g h = by (nat_lt g (length S.chunks)) refl where
    by : (b : Bool) → nat_lt g (length S.chunks) ≡ b → b ≡ false
    by true e = let k = R.one_each in absurd (grind (arith, nat_tests))
    by false e = refl

  pub property : (f : ℕ) (x : Name) → In x (names (all_marks S.trees)) → IsPart (program_of S) f (uses_prop (prop_of (outer_of S) x))
  unfolding program_of prop_of outer_of distinct or_zero
  property f x i = elim (news_have x [] (names (all_marks S.trees)) i) [
    | inl j ↦ elim j [ ]
    | inr j ↦ (let d = indexed x (new_names [] (names (all_marks S.trees))) j in
        a_prop _ (subst (λ o. or_zero o < length (map (Rattle.cc_scope.specs.Resolve.prop_info (Rattle.cc_scope.specs.Resolve.kept_of S)) (new_names [] (names (all_marks S.trees))))) (sym d.1)
        (let l = slice_get_within (new_names [] (names (all_marks S.trees))) d.0 x d.2 in let m = length_map (Rattle.cc_scope.specs.Resolve.prop_info (Rattle.cc_scope.specs.Resolve.kept_of S)) (new_names [] (names (all_marks S.trees))) in omega arith)))
  ]

  doc : IsAdded S → (f : ℕ) (q : Place) → IsPart (program_of S) f (uses_doc ((outer_of S).doc_at q))
  unfolding program_of outer_of
  doc A f q = a_doc (S.added.cast_doc q) (A.casts q)

  pub made : {f : ℕ} {top : Bool} {E : Frames} {D : List Name} (c g : ℕ) (d : Bool) (z : Part) → Plain S f top E D z → z ≡ makes c g d → IsMade (program_of S) f g d
  unfolding part_function part_declared
  made {f} c g d _ (plain_function k h q u e p o l) same =
      subst (λ y. IsMade (program_of S) f y d) (ap part_function same)
      (subst (λ y. IsMade (program_of S) f h y) (ap part_declared same) (record { scope = u; stands = e; function = not_chunk h l; parent = p; own = o }))
  made c g d _ (plain_site i l) same = absurd (cc)
  made c g d _ (plain_prop x i) same = absurd (cc)
  made c g d _ (plain_doc q) same = absurd (cc)
  made c g d _ (plain_mention xs x r e) same = absurd (cc)
  made c g d _ (plain_declaration xs x i fr) same = absurd (cc)
  made c g d _ (plain_method v q h) same = absurd (cc)

  pub part : IsAdded S → {f : ℕ} {top : Bool} {E : Frames} {b : RawStmts} {n : Counters} → Stands S f top E b n → (z : Part) → In z (parts_of (program_of S) f) → IsPart (program_of S) f z
  part A {f} {top} {E} {b} st z i = by st z i (plain S R fitting unrefused st z i) where
    by : {m : Counters} → Stands S f top E b m → (y : Part) → In y (parts_of (program_of S) f) → Plain S f top E (stmts_declare b) y → IsPart (program_of S) f y
    by s _ h (plain_site k l) = a_site k (let c = places_counted S in omega arith)
    by s _ h (plain_prop x j) = property f x j
    by s _ h (plain_doc q) = doc A f q
    by s _ h (plain_mention xs x r e) = mention s xs x r e
    by s _ h (plain_declaration xs x j fr) = declaration s xs x j fr
    by s _ h (plain_function c g d u e p o l) = a_function c g d (record { scope = u; stands = e; function = not_chunk g l; parent = p; own = o })
    by s _ h (plain_method v q g) = a_method v q g (A.methods f v q g h)

  -- ---- an extern with the name of a built-in global is mentioned nowhere

  outer_count : without_chunk (globals_of S) ≡ length S.externs + 3
  unfolding globals_of distinct builtin_globals
  outer_count = Rattle.cc_scope.proofs.Globals.without_outer S.added (S.externs ++ builtin_globals) S.trees (new_names [] (all_declared S.trees)) ∙ length-append S.externs builtin_globals

  info_or : GlobalInfo → Option GlobalInfo → GlobalInfo
  info_or g None = g
  info_or g (Some h) = h

  meant_by : (k : ℕ) (x : Name) → GlobalFact S x k → IsMeant (program_of S) k
  unfolding program_of info_or chunk_info
  meant_by k x (outer_fact h e b o) = record {
    meant = λ g s c i. let z : outer_info x ≡ g = ap (info_or g) (sym e ∙ s) in
        let y : is_in x builtin_globals ≡ true = subst (λ v. is_in v.name builtin_globals ≡ true) (sym z) i in let l = b y in let m = outer_count in omega arith;
  }
  meant_by k x (inner_fact j e h) = record {
    meant = λ g s c i. let z : chunk_info S.added S.trees x ≡ g = ap (info_or g) (sym (subst (λ m. slice_get (globals_of S) m ≡ Some (chunk_info S.added S.trees x)) (sym e) (inner_entry S x j h)) ∙ s) in
        absurd (let y : Some (chunk_by 0 x S.trees) ≡ None = ap (λ v. v.chunk) z ∙ c in cc);
  }

  mentioned : {f : ℕ} {top : Bool} {E : Frames} {D : List Name} (z : Part) → Plain S f top E D z → part_is z ≡ 0 → (k : ℕ) → part_ref z ≡ Ref.Global k → IsMeant (program_of S) k
  unfolding part_is part_ref
  mentioned {E} _ (plain_mention xs y r f) h k e = meant_by k y (global_fact S y k (global_found (outer_of S) (over xs E) y k (f ∙ ap Some e)))
  mentioned _ (plain_declaration xs y i fr) h k e = absurd (cc)
  mentioned _ (plain_site i l) h k e = absurd (cc)
  mentioned _ (plain_prop y i) h k e = absurd (cc)
  mentioned _ (plain_doc q) h k e = absurd (cc)
  mentioned _ (plain_function c g q s u p o l) h k e = absurd (cc)
  mentioned _ (plain_method u q g) h k e = absurd (cc)

  no_part : {z : Part} (f : ℕ) → slice_get (program_of S).scopes f ≡ None → In z (parts_of (program_of S) f) → ⊥
  unfolding parts_of body_of body_in stmts_parts
  no_part {z} f e i = let j = subst (λ o. In z (stmts_parts (tables_of (program_of S)) 0 (body_in o))) e i in elim j [ ]

  pub meant : (f c k : ℕ) → Reached (program_of S) f → In (mentions c (Ref.Global k)) (parts_of (program_of S) f) → IsMeant (program_of S) k
  unfolding part_is part_ref
  meant f c k z i = by (slice_get (program_of S).scopes f) refl where
    by : (o : Option Scope) → slice_get (program_of S).scopes f ≡ o → IsMeant (program_of S) k
    by None e = absurd (no_part f e i)
    by (Some s) e = let a = each_stands S R fitting unrefused f s e in mentioned _ (plain S R fitting unrefused a.stands _ i) refl k refl
