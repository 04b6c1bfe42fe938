-- The names of a well made program's globals: which are the outside's, and which the chunks declare.
use Rattle.std.specs.Prelude.{◌≡◌, ℕ, zero, suc, ◌+◌, ◌-◌, ◌<◌, ◌≤◌, ◌⊎◌, Bool, true, false, nat_lt, nat_eq, cond, List, [], ◌∷◌, ◌++◌, length, map, take, Option, Some, None, is_some, slice_get, unwrap_or}
use Rattle.std.proofs.Common.{refl, sym, ap, ◌∙◌, subst, arith, inl, inr, length-append}
use Rattle.std.proofs.lemmas.Bool.Decides.{nat_tests}
use Rattle.std.proofs.lemmas.List.{length-map}
use Rattle.std.proofs.lemmas.Option.{slice_get_within}
use Rattle.unicode_ident.proofs.Computing.{unicode_ident}
use Rattle.cc_ast.specs.declared.tree.Ref.{Ref}
use Rattle.cc_ast.specs.declared.tables.GlobalInfo.{GlobalInfo}
use Rattle.cc_ast.specs.Syntax as S
use Rattle.cc_meaning.specs.Monad.{pick}
use Rattle.cc_meaning.specs.Names.{builtin_globals}
use Rattle.cc_meaning.specs.Store.{of_chunk, outer_global, without_chunk, chunk_in, global_by, global_kind}
use Rattle.cc_meaning.specs.Shapes.{tables_of, body_of}
use Rattle.cc_meaning.specs.Alike.{In, here, there}
use Rattle.cc_meaning.specs.Parts.{mentions, declares}
use Rattle.cc_meaning.specs.WellMade.{WellMade, parts_of, is_chunk, Reached, chunk_reached, IsSound, sound_global, sound_outer, IsDeclared, IsPlaced, placed_global, placed_local, IsPart, a_mention, a_declaration, outer_names}
use Rattle.cc_lexer.specs.Words.{spelling, words}
use Rattle.cc_printer.specs.RawOf.{name_at}
use Rattle.cc_printer.specs.Naming.{IsVariableName}
use Rattle.cc_printer.proofs.Lists.{there_is, some_one}
use Rattle.cc_printer.proofs.Slots.{scope_of}
use Rattle.cc_rename.specs.Uses.{Variable, global, slot, uses, slots_of}
use Rattle.cc_rename.specs.Naming.{strict_words, special_names, names_of_outer, passed_over, variables, new_name, naming_of}
use Rattle.cc_rename.specs.Laws.{HasOuterNames}
use Rattle.cc_rename.proofs.NameForm.{found, left_in, right_in}
use Rattle.cc_rename.proofs.Given.{HasChunk, has_chunk, outer_is, outer_in, kind_stands, slot_in, global_in, has_names, apart, no_passed, new_is_variable}
use Rattle.cc_scope.specs.Resolve.{Source}
use Rattle.cc_scope.specs.Written.{Naming, Apart, number_of, stmts_in}
use Rattle.cc_scope.specs.Promises.{declared_from, Outside, Meant, an_extern, a_builtin, a_global}
use Rattle.cc_written.proofs.Declares.{is_declared, is_listed}

-- ---- globals without a chunk stand first

abbrev Inner : List GlobalInfo → ℕ → Type 0
Inner gs k = (n : ℕ) (g : GlobalInfo) → slice_get gs n ≡ Some g → k ≤ n → is_some g.chunk ≡ true

tail_inner : (g : GlobalInfo) (gs : List GlobalInfo) (k : ℕ) → Inner (g ∷ gs) (suc k) → Inner gs k
tail_inner g gs k h n x e l = h (suc n) x e (omega (arith, l))

all_inner : (gs : List GlobalInfo) (k : ℕ) → Inner gs k → without_chunk gs ≤ k
unfolding without_chunk
all_inner [] k h = omega arith
all_inner (g ∷ gs) zero h = by (is_some g.chunk) (h 0 g refl (omega arith)) (all_inner gs zero (λ n x e l. h (suc n) x e (omega arith))) where
  by : (b : Bool) → b ≡ true → without_chunk gs ≤ 0 → pick b (without_chunk gs) (suc (without_chunk gs)) ≤ 0
  by true e l = l
  by false e l = cc
all_inner (g ∷ gs) (suc k) h = by (is_some g.chunk) (all_inner gs k (tail_inner g gs k h)) where
  by : (b : Bool) → without_chunk gs ≤ k → pick b (without_chunk gs) (suc (without_chunk gs)) ≤ suc k
  by true l = omega (arith, l)
  by false l = omega (arith, l)

outer_first : (gs : List GlobalInfo) (k : ℕ) → Inner gs k → k ≤ without_chunk gs → (n : ℕ) (g : GlobalInfo) → n < k → slice_get gs n ≡ Some g → is_some g.chunk ≡ false
unfolding without_chunk
outer_first gs zero h l n g m e = absurd (omega (arith, m))
outer_first [] (suc k) h l n g m e = cc
outer_first (x ∷ gs) (suc k) h l n g m e = by (is_some x.chunk) refl n l m e (λ j a b c. outer_first gs k (tail_inner x gs k h) a j g b c) (all_inner gs k (tail_inner x gs k h)) where
  by : (b : Bool) → is_some x.chunk ≡ b → (n : ℕ) → suc k ≤ pick b (without_chunk gs) (suc (without_chunk gs)) → n < suc k → slice_get (x ∷ gs) n ≡ Some g
      → ((j : ℕ) → k ≤ without_chunk gs → j < k → slice_get gs j ≡ Some g → is_some g.chunk ≡ false) → without_chunk gs ≤ k → is_some g.chunk ≡ false
  by true q n l m e go few = absurd (omega (arith, l, few))
  by false q zero l m e go few = let s : x ≡ g = some_one refl e in ap (λ y. is_some y.chunk) (sym s) ∙ q
  by false q (suc n) l m e go few = go n (omega (arith, l)) (omega (arith, m)) e

no_chunk : (o : Option ℕ) → is_some o ≡ false → o ≡ None
no_chunk None e = refl
no_chunk (Some c) e = cc

few_outer : (gs : List GlobalInfo) → without_chunk gs ≤ length gs
unfolding without_chunk
few_outer [] = omega arith
few_outer (g ∷ gs) = by (is_some g.chunk) (few_outer gs) where
  by : (b : Bool) → without_chunk gs ≤ length gs → pick b (without_chunk gs) (suc (without_chunk gs)) ≤ suc (length gs)
  by true l = omega (arith, l)
  by false l = omega (arith, l)

-- ---- lists

taken_at : {A B : Type 0} (f : A → B) (k : ℕ) (xs : List A) (n : ℕ) (x : A) → n < k → slice_get xs n ≡ Some x → slice_get (map f (take k xs)) n ≡ Some (f x)
taken_at f zero xs n x l e = absurd (omega (arith, l))
taken_at f (suc k) [] n x l e = cc
taken_at f (suc k) (y ∷ xs) zero x l e = let q : y ≡ x = some_one refl e in ap (λ z. Some (f z)) q
taken_at f (suc k) (y ∷ xs) (suc n) x l e = taken_at f k xs n x (omega (arith, l)) e

record Taken {A B : Type 0} (f : A → B) (k : ℕ) (xs : List A) (y : B) : Type 0 where
  place : ℕ
  item : A
  below : place < k
  stands : slice_get xs place ≡ Some item
  is : y ≡ f item

taken_in : {A B : Type 0} (f : A → B) (k : ℕ) (xs : List A) (y : B) → In y (map f (take k xs)) → Taken f k xs y
taken_in f zero xs y i = elim i [ ]
taken_in f (suc k) [] y i = elim i [ ]
taken_in f (suc k) (x ∷ xs) _ here = record { place = 0; item = x; below = omega arith; stands = refl; is = refl }
taken_in f (suc k) (x ∷ xs) y (there i) = let t = taken_in f k xs y i in record { place = suc t.place; item = t.item; below = let l = t.below in omega (arith, l); stands = t.stands; is = t.is }

length_taken : {A : Type 0} (k : ℕ) (xs : List A) → k ≤ length xs → length (take k xs) ≡ k
length_taken zero xs l = refl
length_taken (suc k) [] l = absurd (omega (arith, l))
length_taken (suc k) (x ∷ xs) l = ap suc (length_taken k xs (omega (arith, l)))

cancel : (xs ys zs : List (List ℕ)) → xs ++ zs ≡ ys ++ zs → xs ≡ ys
cancel [] [] zs e = refl
cancel [] (y ∷ ys) zs e = absurd (let l = ap length e in let m = length-append (y ∷ ys) zs in omega (arith, l, m))
cancel (x ∷ xs) [] zs e = absurd (let l = ap length e in let m = length-append (x ∷ xs) zs in omega (arith, l, m))
cancel (x ∷ xs) (y ∷ ys) zs e = let h : x ≡ y = cc in let t : xs ++ zs ≡ ys ++ zs = cc in subst (λ z. (x ∷ xs) ≡ (z ∷ ys)) h (ap (λ w. x ∷ w) (cancel xs ys zs t))

-- ---- what chunks declare

abbrev Within : S.Program → ℕ → ℕ → ℕ → Type 0
Within P c k i = (d : ℕ) × (c ≤ d) × (d < c + k) × In i (stmts_in (body_of P d))

in_parts : (i : ℕ) (xs ys : List ℕ) → In i (xs ++ ys) → In i xs ⊎ In i ys
in_parts i [] ys h = inr h
in_parts i (_ ∷ xs) ys here = inl here
in_parts i (x ∷ xs) ys (there h) = by (in_parts i xs ys h) where
  by : In i xs ⊎ In i ys → In i (x ∷ xs) ⊎ In i ys
  by (inl j) = inl (there j)
  by (inr j) = inr j

declared_in : (P : S.Program) (c k i : ℕ) → In i (declared_from P c k) → Within P c k i
unfolding declared_from
declared_in P c zero i h = elim h [ ]
declared_in P c (suc k) i h = by (in_parts i (stmts_in (body_of P c)) (declared_from P (suc c) k) h) (declared_in P (suc c) k i) where
  deeper : Within P (suc c) k i → Within P c (suc k) i
  deeper w = (w.0, omega (arith, w.1), omega (arith, w.2), w.3)

  by : In i (stmts_in (body_of P c)) ⊎ In i (declared_from P (suc c) k) → (In i (declared_from P (suc c) k) → Within P (suc c) k i) → Within P c (suc k) i
  by (inl j) go = (c, omega arith, omega arith, j)
  by (inr j) go = deeper (go j)

in_declared : (P : S.Program) (c k d i : ℕ) → c ≤ d → d < c + k → In i (stmts_in (body_of P d)) → In i (declared_from P c k)
unfolding declared_from
in_declared P c zero d i h l j = absurd (omega (arith, h, l))
in_declared P c (suc k) d i h l j = by (nat_eq d c) refl (λ g. in_declared P (suc c) k d i (omega (arith, g)) (omega (arith, l)) j) where
  by : (b : Bool) → nat_eq d c ≡ b → (c < d → In i (declared_from P (suc c) k)) → In i (stmts_in (body_of P c) ++ declared_from P (suc c) k)
  by true e go = let q : d ≡ c = grind (arith, nat_tests) in left_in i (stmts_in (body_of P c)) (declared_from P (suc c) k) (subst (λ z. In i (stmts_in (body_of P z))) q j)
  by false e go = right_in i (stmts_in (body_of P c)) (declared_from P (suc c) k) (go (grind (arith, nat_tests)))

-- ---- no name of a variable

zero_no_name : (m : ℕ) → IsVariableName (0 ∷ m ∷ []) → ⊥
unfolding unicode_ident
zero_no_name m h = let e = h.identifier.begins in cc

empty_no_name : IsVariableName [] → ⊥
empty_no_name h = let e = h.identifier.begins in cc

module _ (P : S.Program) (W : WellMade P) (H : HasOuterNames P) where
  abbrev ns : S.Names
  ns = naming_of P

  -- the names of all slots and globals; what isn't there has another one
  pub naming : Naming
  naming = record { local = λ m. cond (nat_lt m (length ns.slots)) (name_at ns.slots m) (0 ∷ m ∷ []); global = λ m. name_at ns.globals m }

  at_place : (xs : List (List ℕ)) (n : ℕ) (x : List ℕ) → slice_get xs n ≡ Some x → name_at xs n ≡ x
  at_place xs n x e = ap (λ o. unwrap_or o []) e

  pub locals : (m : ℕ) → m < length ns.slots → name_at ns.slots m ≡ naming.local m
  unfolding naming
  locals m l = let e : nat_lt m (length ns.slots) ≡ true = grind (arith, nat_tests) in ap (λ b. cond b (name_at ns.slots m) (0 ∷ m ∷ [])) (sym e)

  pub globals : (m : ℕ) → name_at ns.globals m ≡ naming.global m
  unfolding naming
  globals m = refl

  -- a slot has its new name, or is past all of them
  abbrev LocalCases : ℕ → Type 0
  LocalCases m = ((m < slots_of (uses P)) × (naming.local m ≡ new_name P (slot m))) ⊎ (naming.local m ≡ 0 ∷ m ∷ [])

  local_cases : (m : ℕ) → LocalCases m
  unfolding naming
  local_cases m = by (nat_lt m (length ns.slots)) refl where
    by : (b : Bool) → nat_lt m (length ns.slots) ≡ b → ((m < slots_of (uses P)) × (cond b (name_at ns.slots m) (0 ∷ m ∷ []) ≡ new_name P (slot m))) ⊎ (cond b (name_at ns.slots m) (0 ∷ m ∷ []) ≡ 0 ∷ m ∷ [])
    by true e = let q = (has_names P).slots_end in let l : m < length ns.slots = grind (arith, nat_tests) in let k : m < slots_of (uses P) = omega (arith, l, q) in inl (k, at_place ns.slots m (new_name P (slot m)) ((has_names P).slots m k))
    by false e = inr refl

  -- a global has a new name, keeps its own, or isn't there
  data GlobalCases (m : ℕ) : Type 0 where
    its_own : (g : GlobalInfo) → slice_get P.globals m ≡ Some g → g.chunk ≡ None → naming.global m ≡ g.name → GlobalCases m
    a_new : (g : GlobalInfo) (c : ℕ) → slice_get P.globals m ≡ Some g → g.chunk ≡ Some c → naming.global m ≡ new_name P (global m) → GlobalCases m
    no_global : naming.global m ≡ [] → GlobalCases m

  global_cases : (m : ℕ) → GlobalCases m
  unfolding naming
  global_cases m = by (slice_get P.globals m) refl where
    past : slice_get P.globals m ≡ None → (o : Option (List ℕ)) → slice_get ns.globals m ≡ o → unwrap_or o [] ≡ []
    past e None d = refl
    past e (Some x) d = absurd (let q = (has_names P).globals_end in let l = slice_get_within ns.globals m x d in let t = there_is P.globals m (omega (arith, l, q)) in let s = sym e ∙ t.1 in cc)

    kind : (g : GlobalInfo) → slice_get P.globals m ≡ Some g → HasChunk g → GlobalCases m
    kind g e (inl h) = its_own g e h (at_place ns.globals m g.name ((has_names P).outer m g e h))
    kind g e (inr c) = a_new g c.0 e c.1 (at_place ns.globals m (new_name P (global m)) ((has_names P).inner m c.0 g e c.1))

    by : (o : Option GlobalInfo) → slice_get P.globals m ≡ o → GlobalCases m
    by None e = no_global (past e (slice_get ns.globals m) refl)
    by (Some g) e = kind g e (has_chunk g)

  outer_passed : (n : ℕ) (g : GlobalInfo) (v : Variable) → slice_get P.globals n ≡ Some g → g.chunk ≡ None → new_name P v ≡ g.name → ⊥
  unfolding passed_over
  outer_passed n g v e h q = no_passed P v g.name (right_in g.name (map spelling words) (strict_words ++ (special_names ++ names_of_outer P.globals)) (right_in g.name strict_words (special_names ++ names_of_outer P.globals) (right_in g.name special_names (names_of_outer P.globals) (outer_in P.globals n g e (outer_is g h))))) q

  local_once : (m n : ℕ) → naming.local m ≡ naming.local n → m ≡ n
  local_once m n e = by (local_cases m) (local_cases n) where
    by : LocalCases m → LocalCases n → m ≡ n
    by (inl a) (inl b) = let q : slot m ≡ slot n = apart P (slot m) (slot n) (slot_in P m a.0) (slot_in P n b.0) (sym a.1 ∙ e ∙ b.1) in cc
    by (inl a) (inr b) = absurd (zero_no_name n (subst IsVariableName (sym a.1 ∙ e ∙ b) (new_is_variable P (slot m))))
    by (inr a) (inl b) = absurd (zero_no_name m (subst IsVariableName (sym b.1 ∙ sym e ∙ a) (new_is_variable P (slot n))))
    by (inr a) (inr b) = let q : (0 ∷ m ∷ []) ≡ (0 ∷ n ∷ []) = sym a ∙ e ∙ b in cc

  local_global : (m n : ℕ) → naming.local m ≡ naming.global n → ⊥
  local_global m n e = by (local_cases m) (global_cases n) where
    by : LocalCases m → GlobalCases n → ⊥
    by (inl a) (its_own g s h q) = outer_passed n g (slot m) s h (sym a.1 ∙ e ∙ q)
    by (inl a) (a_new g c s h q) = let z : slot m ≡ global n = apart P (slot m) (global n) (slot_in P m a.0) (global_in P n c g s h) (sym a.1 ∙ e ∙ q) in cc
    by (inl a) (no_global q) = empty_no_name (subst IsVariableName (sym a.1 ∙ e ∙ q) (new_is_variable P (slot m)))
    by (inr a) (its_own g s h q) = zero_no_name m (subst IsVariableName (sym q ∙ sym e ∙ a) (H.names n g s h))
    by (inr a) (a_new g c s h q) = zero_no_name m (subst IsVariableName (sym q ∙ sym e ∙ a) (new_is_variable P (global n)))
    by (inr a) (no_global q) = let z : (0 ∷ m ∷ []) ≡ [] = sym a ∙ e ∙ q in cc

  pub are_apart : Apart naming
  are_apart = record { local = local_once; mixed = local_global }

  -- ---- the outside

  abbrev wc : ℕ
  wc = without_chunk P.globals

  outer_none : (n : ℕ) (g : GlobalInfo) → n < wc → slice_get P.globals n ≡ Some g → g.chunk ≡ None
  outer_none n g l e = no_chunk g.chunk (outer_first P.globals wc W.globals.inner (omega arith) n g l e)

  inner_above : (n c : ℕ) → global_kind (tables_of P) n ≡ of_chunk c → wc ≤ n
  inner_above n c k = by (nat_lt n wc) refl where
    by : (b : Bool) → nat_lt n wc ≡ b → wc ≤ n
    by true e = absurd (let s = kind_stands P n c k in let l : n < wc = grind (arith, nat_tests) in let z = sym (outer_none n s.0 l s.1) ∙ s.2 in cc)
    by false e = grind (arith, nat_tests)

  inner_name : (n c : ℕ) → global_kind (tables_of P) n ≡ of_chunk c → naming.global n ≡ new_name P (global n)
  inner_name n c k = let s = kind_stands P n c k in sym (globals n) ∙ at_place ns.globals n (new_name P (global n)) ((has_names P).inner n c s.0 s.1 s.2)

  inner_listed : (n c : ℕ) → global_kind (tables_of P) n ≡ of_chunk c → In (global n) (variables P)
  inner_listed n c k = let s = kind_stands P n c k in global_in P n c s.0 s.1 s.2

  -- a global that a chunk declares
  record IsInner (n : ℕ) : Type 0 where
    chunk : ℕ
    kind : global_kind (tables_of P) n ≡ of_chunk chunk
    declared : IsDeclared P n chunk
    below : chunk < length P.chunks

  chunk_below : (n c : ℕ) → global_kind (tables_of P) n ≡ of_chunk c → c < length P.chunks
  chunk_below n c k = let s = kind_stands P n c k in ((W.each_global n s.0 s.1).chunk c s.2).0

  sound_inner : (f e n : ℕ) → IsSound P f e (Ref.Global n) → (c : ℕ) → global_kind (tables_of P) n ≡ of_chunk c → IsInner n
  sound_inner f e n (sound_global _ d k h) c q = record { chunk = d; kind = k; declared = h; below = chunk_below n d k }
  sound_inner f e n (sound_outer _ g s h) c q = absurd (let x = kind_stands P n c q in let z : g ≡ x.0 = some_one s x.1 in let y = sym h ∙ ap (λ (w : GlobalInfo). w.chunk) z ∙ x.2 in cc)

  declared_inner : (f e n : ℕ) → Reached P f → IsPart P f (declares e (Ref.Global n)) → IsInner n
  declared_inner f e n r (a_declaration _ _ (placed_global _ d t k) h) = sound_inner f e n (h r) d k

  is_a_chunk : (c : ℕ) → c < length P.chunks → is_chunk P c ≡ true
  unfolding is_chunk
  is_a_chunk c l = grind (arith, nat_tests)

  -- what a chunk's own statements declare
  record Declares (c i : ℕ) : Type 0 where
    catches : ℕ
    stands : In (declares catches (Ref.Global i)) (parts_of P c)

  chunk_declares : (c i : ℕ) → is_chunk P c ≡ true → In i (stmts_in (body_of P c)) → Declares c i
  unfolding parts_of number_of
  chunk_declares c i t h = let d = is_declared (tables_of P) 0 i (body_of P c) h in
      let o = scope_of P c (declares d.catches d.variable) d.stands in
      by d.catches d.variable d.number d.stands ((W.scopes c o.scope o.stands).parts (declares d.catches d.variable) d.stands) where
        placed : (e : ℕ) (r : Ref) → number_of r ≡ i → In (declares e r) (parts_of P c) → IsPlaced P c e r → Declares c i
        placed e _ q j (placed_global m d u k) = record { catches = e; stands = subst (λ z. In (declares e (Ref.Global z)) (parts_of P c)) q j }
        placed e _ q j (placed_local m s u y l) = absurd (let z = sym t ∙ u in cc)

        by : (e : ℕ) (r : Ref) → number_of r ≡ i → In (declares e r) (parts_of P c) → IsPart P c (declares e r) → Declares c i
        by e r q j (a_declaration _ _ p h) = placed e r q j p

  listed : (c k i : ℕ) → In (declares k (Ref.Global i)) (parts_of P c) → In i (stmts_in (body_of P c))
  unfolding parts_of number_of
  listed c k i h = is_listed (tables_of P) 0 k (Ref.Global i) (body_of P c) h

  chunk_inner : (c i : ℕ) → is_chunk P c ≡ true → In i (stmts_in (body_of P c)) → IsInner i
  chunk_inner c i t h = let d = chunk_declares c i t h in let o = scope_of P c (declares d.catches (Ref.Global i)) d.stands in
      declared_inner c d.catches i (chunk_reached c t) ((W.scopes c o.scope o.stands).parts (declares d.catches (Ref.Global i)) d.stands)

  module _ (S : Source) (one_each : length S.trees ≡ length P.chunks) (externs : outer_names P ≡ S.externs ++ builtin_globals) where
    abbrev pub ds : List ℕ
    ds = declared_from P 0 (length S.trees)

    outer_count : wc ≡ length S.externs + 3
    unfolding outer_names builtin_globals
    outer_count = let a = ap length externs in let b = length-map (take wc P.globals) (λ (g : GlobalInfo). g.name) in let c = length_taken wc P.globals (few_outer P.globals) in let d = length-append S.externs builtin_globals in omega (arith, a, b, c, d)

    in_inner : (i : ℕ) → In i ds → IsInner i
    in_inner i h = let d = declared_in P 0 (length S.trees) i h in chunk_inner d.0 i (is_a_chunk d.0 (let l = d.2 in omega (arith, l, one_each))) d.3

    inner_in : (i : ℕ) → IsInner i → In i ds
    inner_in i h = let l = h.below in in_declared P 0 (length S.trees) h.chunk i (omega arith) (omega (arith, l, one_each)) (let d = h.declared.here in listed h.chunk d.0 i d.1)

    outer_at : (i : ℕ) → i < wc → slice_get (S.externs ++ builtin_globals) i ≡ Some (naming.global i)
    unfolding outer_names
    outer_at i l = let x = there_is P.globals i (let f = few_outer P.globals in omega (arith, f, l)) in
        let n = outer_none i x.0 l x.1 in
        ap (λ xs. slice_get xs i) (sym externs) ∙ taken_at (λ (g : GlobalInfo). g.name) wc P.globals i x.0 l x.1 ∙ ap Some (sym (sym (globals i) ∙ at_place ns.globals i x.0.name ((has_names P).outer i x.0 x.1 n)))

    outer_kinds : (i : ℕ) → i < wc → global_kind (tables_of P) i ≡ outer_global (length S.externs) i
    unfolding global_kind global_by chunk_in tables_of
    outer_kinds i l = let x = there_is P.globals i (let f = few_outer P.globals in omega (arith, f, l)) in
        let n = outer_none i x.0 l x.1 in
        let w : wc - 3 ≡ length S.externs = let c = outer_count in omega (arith, c) in
        ap (λ o. global_by (wc - 3) i (chunk_in o)) x.1 ∙ ap (λ o. global_by (wc - 3) i o) n ∙ ap (λ m. outer_global m i) w

    not_outer : (i : ℕ) → In i ds → In (naming.global i) (S.externs ++ builtin_globals) → ⊥
    unfolding outer_names
    not_outer i h j =
        let w = in_inner i h in
        let t = taken_in (λ (g : GlobalInfo). g.name) wc P.globals (naming.global i) (subst (λ xs. In (naming.global i) xs) (sym externs) j) in
        outer_passed t.place t.item (global i) t.stands (outer_none t.place t.item t.below t.stands) (sym (inner_name i w.chunk w.kind) ∙ t.is)

    once : (i j : ℕ) → In i ds → In j ds → naming.global i ≡ naming.global j → i ≡ j
    once i j h k e =
        let a = in_inner i h in let b = in_inner j k in
        let q : global i ≡ global j = apart P (global i) (global j) (inner_listed i a.chunk a.kind) (inner_listed j b.chunk b.kind) (sym (inner_name i a.chunk a.kind) ∙ e ∙ inner_name j b.chunk b.kind) in cc

    externs_once : (i j : ℕ) (x : List ℕ) → slice_get S.externs i ≡ Some x → slice_get S.externs j ≡ Some x → i ≡ j
    externs_once = let q : W.globals.externs ≡ S.externs = cancel W.globals.externs S.externs builtin_globals (sym W.globals.names ∙ externs) in subst (λ xs. (i j : ℕ) (x : List ℕ) → slice_get xs i ≡ Some x → slice_get xs j ≡ Some x → i ≡ j) q W.globals.distinct

    least : (i : ℕ) → In i ds → (c : ℕ) × (global_kind (tables_of P) i ≡ of_chunk c) × (c < length S.trees) × In i (stmts_in (body_of P c)) × ((d : ℕ) → d < c → In i (stmts_in (body_of P d)) → ⊥)
    least i h =
        let w = in_inner i h in let d = w.declared.here in let b = w.below in
        (w.chunk, w.kind, omega (arith, b, one_each), listed w.chunk d.0 i d.1, λ e l j. let x = chunk_declares e i (is_a_chunk e (omega (arith, l, b))) j in w.declared.least e x.catches l x.stands)

    pub is_outside : Outside naming P S ds
    is_outside = record {
      outer_name = λ i l. let c = outer_count in outer_at i (omega (arith, c, l));
      externs_once = externs_once;
      outer_kind = λ i l. let c = outer_count in outer_kinds i (omega (arith, c, l));
      above = λ i h. let c = outer_count in let w = in_inner i h in let a = inner_above i w.chunk w.kind in omega (arith, c, a);
      apart = not_outer;
      injective = once;
      least = least;
    }

    -- ---- globals that are mentioned

    pub declared : (f c m : ℕ) → Reached P f → In (declares c (Ref.Global m)) (parts_of P f) → Meant naming S ds m
    declared f c m r i = let o = scope_of P f (declares c (Ref.Global m)) i in a_global m (inner_in m (declared_inner f c m r ((W.scopes f o.scope o.stands).parts (declares c (Ref.Global m)) i)))

    outer_meant : (f c m : ℕ) (g : GlobalInfo) → Reached P f → In (mentions c (Ref.Global m)) (parts_of P f) → slice_get P.globals m ≡ Some g → g.chunk ≡ None → Meant naming S ds m
    outer_meant f c m g r i e h = by (nat_lt m (length S.externs)) refl where
      first : m < wc
      first = go (nat_lt m wc) refl where
        go : (b : Bool) → nat_lt m wc ≡ b → m < wc
        go true q = grind (arith, nat_tests)
        go false q = absurd (let l : wc ≤ m = grind (arith, nat_tests) in let z = W.globals.inner m g e l in let y = ap (λ (o : Option ℕ). is_some o) h in let x = sym y ∙ z in cc)

      built : m < length S.externs → In (naming.global m) builtin_globals → ⊥
      built l j =
          let q = sym (globals m) ∙ at_place ns.globals m g.name ((has_names P).outer m g e h) in
          let w = (W.meant f c m r i).meant g e h (found g.name builtin_globals (subst (λ x. In x builtin_globals) q j)) in
          let k = outer_count in omega (arith, w, k, l)

      by : (b : Bool) → nat_lt m (length S.externs) ≡ b → Meant naming S ds m
      by true q = let l : m < length S.externs = grind (arith, nat_tests) in an_extern m l (built l)
      by false q = let l : length S.externs ≤ m = grind (arith, nat_tests) in let k = outer_count in
          let z : length S.externs + (m - length S.externs) ≡ m = omega (arith, l) in
          subst (Meant naming S ds) z (a_builtin (m - length S.externs) (let a = first in omega (arith, a, k, l)))

    pub mentioned : (f c m : ℕ) → Reached P f → In (mentions c (Ref.Global m)) (parts_of P f) → Meant naming S ds m
    mentioned f c m r i = let o = scope_of P f (mentions c (Ref.Global m)) i in by ((W.scopes f o.scope o.stands).parts (mentions c (Ref.Global m)) i) where
      sound : IsSound P f c (Ref.Global m) → Meant naming S ds m
      sound (sound_global _ d k h) = a_global m (inner_in m (record { chunk = d; kind = k; declared = h; below = chunk_below m d k }))
      sound (sound_outer _ g e h) = outer_meant f c m g r i e h

      by : IsPart P f (mentions c (Ref.Global m)) → Meant naming S ds m
      by (a_mention _ _ _ h) = sound (h r)
