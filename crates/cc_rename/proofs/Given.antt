-- The naming: which name stands where, and that names are names of variables, each of another variable.
use Rattle.std.specs.Prelude.{◌≡◌, ℕ, zero, suc, ◌+◌, ◌-◌, ◌<◌, ◌⊎◌, List, [], ◌∷◌, ◌++◌, Bool, true, false, not, nat_lt, cond, map, length, Option, Some, None, is_some, slice_get, unwrap_or}
use Rattle.std.specs.List.{filter}
use Rattle.std.proofs.Common.{refl, sym, ap, ◌∙◌, subst, arith, inl, inr}
use Rattle.std.proofs.lemmas.List.{length-map}
use Rattle.cc_ast.specs.declared.tables.GlobalInfo.{GlobalInfo}
use Rattle.cc_ast.specs.declared.tree.Ref.{Ref}
use Rattle.cc_ast.specs.Syntax as S
use Rattle.cc_lexer.specs.Words.{spelling, words}
use Rattle.cc_meaning.specs.Operators.{is_in}
use Rattle.cc_meaning.specs.Store.{of_chunk, extern, built_in, built_number, without_chunk, outer_global, chunk_in, global_by, global_kind}
use Rattle.cc_meaning.specs.Monad.{pick}
use Rattle.cc_meaning.specs.Shapes.{tables_of}
use Rattle.cc_meaning.specs.Alike.{In, here, there}
use Rattle.cc_meaning.specs.Parts.{mentions, declares}
use Rattle.cc_meaning.specs.WellMade.{WellMade, parts_of, numbered_global, placed_global, IsPart, a_mention, a_declaration}
use Rattle.cc_printer.specs.RawOf.{name_at}
use Rattle.cc_printer.specs.Naming.{IsVariableName, AreNames}
use Rattle.cc_printer.proofs.Lists.{there_is, some_one}
use Rattle.cc_printer.proofs.Slots.{scope_of}
use Rattle.cc_rename.specs.Order.{nth_name, numbers}
use Rattle.cc_rename.specs.Uses.{Variable, global, slot, uses, slots_of}
use Rattle.cc_rename.specs.Naming.{special_names, strict_words, names_of_outer, is_outer, passed_over, is_free, free_name, inner_globals, variables, comes_before, rank, new_name, global_name, global_names, slot_names, naming_of}
use Rattle.cc_rename.specs.Laws.{HasOuterNames, HasNames, AreInOrder, IsNamed, NamesServe}
use Rattle.cc_rename.proofs.NameForm.{not_in, left_in, right_in, is_variable}
use Rattle.cc_rename.proofs.FreeNames.{stands_among, free_longer, free_name_at, is_free_name, free_names_differ, free_rises, PassedOrEarlier, free_leaves_none}
use Rattle.cc_rename.proofs.Ranks.{rises, ranks_differ}
use Rattle.cc_rename.proofs.Standing.{numbers_in, map_in, enough_slots}

-- ---- numbers

pub length_numbers : (k n : ℕ) → length (numbers k n) ≡ n
unfolding numbers
length_numbers k zero = refl
length_numbers k (suc n) = ap suc (length_numbers (suc k) n)

pub number_at : {A : Type 0} (f : ℕ → A) (k n i : ℕ) → i < n → slice_get (map f (numbers k n)) i ≡ Some (f (k + i))
unfolding numbers
number_at f k zero i l = absurd (omega (arith, l))
number_at f k (suc n) zero l = ap (λ x. Some (f x)) (omega arith)
number_at f k (suc n) (suc i) l = number_at f (suc k) n i (omega (arith, l)) ∙ ap (λ x. Some (f x)) (omega arith)

-- ---- globals

pub outer_is : (g : GlobalInfo) → g.chunk ≡ None → is_outer g ≡ true
unfolding is_outer
outer_is g e = ap (λ o. not (is_some o)) e

pub inner_is : (g : GlobalInfo) (c : ℕ) → g.chunk ≡ Some c → is_outer g ≡ false
unfolding is_outer
inner_is g c e = ap (λ o. not (is_some o)) e

-- a global has a chunk, or none
abbrev pub HasChunk : GlobalInfo → Type 0
HasChunk g = (g.chunk ≡ None) ⊎ ((c : ℕ) × (g.chunk ≡ Some c))

pub has_chunk : (g : GlobalInfo) → HasChunk g
has_chunk g = by g.chunk refl where
  by : (o : Option ℕ) → g.chunk ≡ o → HasChunk g
  by None e = inl e
  by (Some c) e = inr (c, e)

pub inner_in : (k : ℕ) (gs : List GlobalInfo) (n : ℕ) (g : GlobalInfo) → slice_get gs n ≡ Some g → is_outer g ≡ false → In (k + n) (inner_globals k gs)
unfolding inner_globals
inner_in k [] n g e h = cc
inner_in k (x ∷ gs) zero g e h = let q : x ≡ g = some_one refl e in by (is_outer x) (ap is_outer q ∙ h) where
  by : (b : Bool) → b ≡ false → In (k + 0) (cond b (inner_globals (suc k) gs) (k ∷ inner_globals (suc k) gs))
  by true f = cc
  by false f = subst (λ m. In m (k ∷ inner_globals (suc k) gs)) (omega arith) here
inner_in k (x ∷ gs) (suc n) g e h = by (is_outer x) (subst (λ m. In m (inner_globals (suc k) gs)) (omega arith) (inner_in (suc k) gs n g e h)) where
  by : (b : Bool) → In (k + suc n) (inner_globals (suc k) gs) → In (k + suc n) (cond b (inner_globals (suc k) gs) (k ∷ inner_globals (suc k) gs))
  by true i = i
  by false i = there i

pub outer_in : (gs : List GlobalInfo) (n : ℕ) (g : GlobalInfo) → slice_get gs n ≡ Some g → is_outer g ≡ true → In g.name (names_of_outer gs)
unfolding names_of_outer
outer_in [] n g e h = cc
outer_in (x ∷ gs) zero g e h = let q : x ≡ g = some_one refl e in subst (λ y. In y.name (map (λ z. z.name) (filter is_outer (x ∷ gs)))) q (by (is_outer x) (ap is_outer q ∙ h)) where
  by : (b : Bool) → b ≡ true → In x.name (map (λ z. z.name) (cond b (x ∷ filter is_outer gs) (filter is_outer gs)))
  by true f = here
  by false f = cc
outer_in (x ∷ gs) (suc n) g e h = by (is_outer x) (outer_in gs n g e h) where
  by : (b : Bool) → In g.name (map (λ z. z.name) (filter is_outer gs)) → In g.name (map (λ z. z.name) (cond b (x ∷ filter is_outer gs) (filter is_outer gs)))
  by true i = there i
  by false i = i

-- a global of a chunk stands in the table
pub kind_stands : (P : S.Program) (n c : ℕ) → global_kind (tables_of P) n ≡ of_chunk c → (g : GlobalInfo) × (slice_get P.globals n ≡ Some g) × (g.chunk ≡ Some c)
unfolding global_kind global_by chunk_in outer_global tables_of
kind_stands P n c e = by (slice_get P.globals n) refl e where
  outer : (m : ℕ) → outer_global m n ≡ of_chunk c → ⊥
  outer m e = by (nat_lt n m) e where
    by : (b : Bool) → pick b extern (built_in (built_number (n - m))) ≡ of_chunk c → ⊥
    by true e = cc
    by false e = cc

  chunked : (g : GlobalInfo) (o : Option ℕ) → g.chunk ≡ o → (m : ℕ) → global_by m n o ≡ of_chunk c → g.chunk ≡ Some c
  chunked g None q m e = absurd (outer m e)
  chunked g (Some d) q m e = let r : d ≡ c = cc in q ∙ ap Some r

  by : (o : Option GlobalInfo) → slice_get P.globals n ≡ o → global_by (without_chunk P.globals - 3) n (chunk_in o) ≡ of_chunk c → (g : GlobalInfo) × (slice_get P.globals n ≡ Some g) × (g.chunk ≡ Some c)
  by None q e = absurd (outer (without_chunk P.globals - 3) e)
  by (Some g) q e = (g, q, chunked g g.chunk refl (without_chunk P.globals - 3) e)

module _ (P : S.Program) where
  pub slot_in : (n : ℕ) → n < slots_of (uses P) → In (slot n) (variables P)
  unfolding variables
  slot_in n l = right_in (slot n) (map global (inner_globals 0 P.globals)) (map slot (numbers 0 (slots_of (uses P)))) (map_in slot n (numbers 0 (slots_of (uses P))) (numbers_in 0 (slots_of (uses P)) n (omega arith) (omega (arith, l))))

  pub global_in : (n c : ℕ) (g : GlobalInfo) → slice_get P.globals n ≡ Some g → g.chunk ≡ Some c → In (global n) (variables P)
  unfolding variables
  global_in n c g e h = left_in (global n) (map global (inner_globals 0 P.globals)) (map slot (numbers 0 (slots_of (uses P)))) (map_in global n (inner_globals 0 P.globals) (subst (λ m. In m (inner_globals 0 P.globals)) (omega arith) (inner_in 0 P.globals n g e (inner_is g c h))))

  -- ---- names by place

  names_at : (k : ℕ) (gs : List GlobalInfo) (n : ℕ) (g : GlobalInfo) → slice_get gs n ≡ Some g → slice_get (global_names P k gs) n ≡ Some (global_name P (k + n) g)
  unfolding global_names
  names_at k [] n g e = cc
  names_at k (x ∷ gs) zero g e = let q : x ≡ g = some_one refl e in ap Some (ap (λ y. global_name P k y) q ∙ ap (λ m. global_name P m g) (omega arith))
  names_at k (x ∷ gs) (suc n) g e = names_at (suc k) gs n g e ∙ ap (λ m. Some (global_name P m g)) (omega arith)

  length_names : (k : ℕ) (gs : List GlobalInfo) → length (global_names P k gs) ≡ length gs
  unfolding global_names
  length_names k [] = refl
  length_names k (g ∷ gs) = ap suc (length_names (suc k) gs)

  whole_name : (n : ℕ) (g : GlobalInfo) → slice_get P.globals n ≡ Some g → slice_get (naming_of P).globals n ≡ Some (global_name P n g)
  unfolding naming_of
  whole_name n g e = names_at 0 P.globals n g e ∙ ap (λ m. Some (global_name P m g)) (omega arith)

  outer_name : (n : ℕ) (g : GlobalInfo) → is_outer g ≡ true → global_name P n g ≡ g.name
  unfolding global_name
  outer_name n g h = ap (λ b. cond b g.name (new_name P (global n))) h

  inner_name : (n : ℕ) (g : GlobalInfo) → is_outer g ≡ false → global_name P n g ≡ new_name P (global n)
  unfolding global_name
  inner_name n g h = ap (λ b. cond b g.name (new_name P (global n))) h

  slot_name : (n : ℕ) → n < slots_of (uses P) → slice_get (naming_of P).slots n ≡ Some (new_name P (slot n))
  unfolding naming_of slot_names
  slot_name n l = number_at (λ n. new_name P (slot n)) 0 (slots_of (uses P)) n l ∙ ap (λ m. Some (new_name P (slot m))) (omega arith)

  globals_end : length (naming_of P).globals ≡ length P.globals
  unfolding naming_of
  globals_end = length_names 0 P.globals

  slots_end : length (naming_of P).slots ≡ slots_of (uses P)
  unfolding naming_of slot_names
  slots_end = length-map (numbers 0 (slots_of (uses P))) (λ n. new_name P (slot n)) ∙ length_numbers 0 (slots_of (uses P))

  pub has_names : HasNames P (naming_of P)
  has_names = record {
    outer = λ n g e h. whole_name n g e ∙ ap Some (outer_name n g (outer_is g h));
    inner = λ n c g e h. whole_name n g e ∙ ap Some (inner_name n g (inner_is g c h));
    slots = slot_name;
    globals_end = globals_end;
    slots_end = slots_end;
  }

  -- ---- laws of new names

  pub apart : (v w : Variable) → In v (variables P) → In w (variables P) → new_name P v ≡ new_name P w → v ≡ w
  unfolding new_name
  apart v w i j e = ranks_differ P v w i j (free_names_differ (passed_over P) (rank P v) (rank P w) e)

  pub new_is_free : (v : Variable) → is_free (passed_over P) (new_name P v) ≡ true
  unfolding new_name
  new_is_free v = (is_free_name (passed_over P) (rank P v)).free

  not_passed : (v : Variable) → is_in (new_name P v) (passed_over P) ≡ false
  unfolding is_free
  not_passed v = by (is_in (new_name P v) (passed_over P)) (new_is_free v) where
    by : (b : Bool) → not b ≡ true → b ≡ false
    by true h = cc
    by false h = refl

  rises_at : (m n i j : ℕ) → m < n → free_name (passed_over P) m ≡ nth_name i → free_name (passed_over P) n ≡ nth_name j → i < j
  rises_at m n i j l e d =
      let ps = passed_over P in
      let k : ℕ = (suc m + length ps) + (suc n + length ps) in
      free_rises ps 0 k m n (free_name ps m) (free_name ps n) i j l
      (free_longer ps 0 (suc m + length ps) k m (free_name ps m) (omega arith) (stands_among ps m)) (free_longer ps 0 (suc n + length ps) k n (free_name ps n) (omega arith) (stands_among ps n)) (sym e) (sym d)

  in_order : (v w : Variable) (i j : ℕ) → In v (variables P) → comes_before P v w ≡ true → new_name P v ≡ nth_name i → new_name P w ≡ nth_name j → i < j
  unfolding new_name
  in_order v w i j h b e d = rises_at (rank P v) (rank P w) i j (rises P v w h b) e d

  none_left_out : (n i j : ℕ) → free_name (passed_over P) n ≡ nth_name i → j < i → (is_in (nth_name j) (passed_over P) ≡ true) ⊎ ((m : ℕ) × (m < n) × (free_name (passed_over P) m ≡ nth_name j))
  none_left_out n i j e l =
      let ps = passed_over P in
      by (free_leaves_none ps 0 (suc n + length ps) n i j (stands_among ps n ∙ ap Some e) (omega arith) l) where
        by : PassedOrEarlier (passed_over P) 0 (suc n + length (passed_over P)) n j → (is_in (nth_name j) (passed_over P) ≡ true) ⊎ ((m : ℕ) × (m < n) × (free_name (passed_over P) m ≡ nth_name j))
        by (inl h) = inl h
        by (inr m) = inr (m.0, m.1, free_name_at (passed_over P) (suc n + length (passed_over P)) m.0 (nth_name j) m.2)

  pub are_in_order : AreInOrder P
  are_in_order = record { apart = apart; not_passed = not_passed; in_order = in_order; none_left_out = none_left_out }

  -- ---- they are names of variables

  pub no_passed : (v : Variable) (x : List ℕ) → In x (passed_over P) → new_name P v ≡ x → ⊥
  no_passed v x i e = not_in (new_name P v) (passed_over P) (new_is_free v) (subst (λ y. In y (passed_over P)) (sym e) i)

  pub new_is_variable : (v : Variable) → IsVariableName (new_name P v)
  unfolding new_name passed_over
  new_is_variable v =
      let f = is_free_name (passed_over P) (rank P v) in
      let rest = names_of_outer P.globals in
      subst IsVariableName f.named
      (is_variable f.number
      (λ i. no_passed v (nth_name f.number) (left_in (nth_name f.number) (map spelling words) (strict_words ++ (special_names ++ rest)) i) (sym f.named))
      (λ i. no_passed v (nth_name f.number) (right_in (nth_name f.number) (map spelling words) (strict_words ++ (special_names ++ rest)) (right_in (nth_name f.number) strict_words (special_names ++ rest) (left_in (nth_name f.number) special_names rest i))) (sym f.named)))

  at_name : (ns : List (List ℕ)) (n : ℕ) (x : List ℕ) → slice_get ns n ≡ Some x → IsVariableName x → IsVariableName (name_at ns n)
  at_name ns n x e h = subst IsVariableName (sym (ap (λ o. unwrap_or o []) e)) h

  module _ (H : HasOuterNames P) where
    stands_named : (n : ℕ) (g : GlobalInfo) → slice_get P.globals n ≡ Some g → IsVariableName (name_at (naming_of P).globals n)
    stands_named n g e = by (has_chunk g) where
      by : HasChunk g → IsVariableName (name_at (naming_of P).globals n)
      by (inl h) = at_name (naming_of P).globals n g.name (has_names.outer n g e h) (H.names n g e h)
      by (inr c) = at_name (naming_of P).globals n (new_name P (global n)) (has_names.inner n c.0 g e c.1) (new_is_variable (global n))

    global_named : (n : ℕ) → n < length P.globals → IsVariableName (name_at (naming_of P).globals n)
    global_named n l = let x = there_is P.globals n l in stands_named n x.0 x.1

    module _ (W : WellMade P) where
      mentioned : (f c n : ℕ) → In (mentions c (Ref.Global n)) (parts_of P f) → IsVariableName (name_at (naming_of P).globals n)
      mentioned f c n i = let s = scope_of P f (mentions c (Ref.Global n)) i in by ((W.scopes f s.scope s.stands).parts (mentions c (Ref.Global n)) i) where
        by : IsPart P f (mentions c (Ref.Global n)) → IsVariableName (name_at (naming_of P).globals n)
        by (a_mention _ _ (numbered_global _ l) h) = global_named n l

      declared : (f c n : ℕ) → In (declares c (Ref.Global n)) (parts_of P f) → IsVariableName (name_at (naming_of P).globals n)
      declared f c n i = let s = scope_of P f (declares c (Ref.Global n)) i in by ((W.scopes f s.scope s.stands).parts (declares c (Ref.Global n)) i) where
        by : IsPart P f (declares c (Ref.Global n)) → IsVariableName (name_at (naming_of P).globals n)
        by (a_declaration _ _ (placed_global _ d t k) h) = let x = kind_stands P n d k in stands_named n x.0 x.1

      pub serve : AreNames P (naming_of P)
      serve = record {
        mentioned = λ f c n r i. mentioned f c n i;
        declared = λ f c n r i. declared f c n i;
        slots = λ n l. at_name (naming_of P).slots n (new_name P (slot n)) (slot_name n (omega (arith, l, slots_end))) (new_is_variable (slot n));
        enough = λ f fs a. let e = enough_slots P W f fs a in omega (arith, e, slots_end);
      }

pub is_named : IsNamed
is_named P = (has_names P, are_in_order P)

pub names_serve : NamesServe
names_serve P W H = serve P H W
