-- Writes to tied objects keep the injection.
use Rattle.std.proofs.Common.{◌≡◌, ◌⊎◌, inl, inr, ℕ, zero, suc, Bool, true, false, List, [], ◌∷◌, length, Option, Some, None, is_some, refl, sym, ap, subst, ◌∙◌}
use Rattle.std.specs.Prelude.{slice_get, nat_eq, nat_lt, not, ◌&&◌, ◌||◌}
use Rattle.std.specs.List.{list_any}
use Rattle.std.proofs.lemmas.Bool.{eqb-true}
use Rattle.cc_ast.specs.Syntax.{Prim}
use Rattle.cc_meaning.specs.Values.{Val, prim, obj, out, Spot}
use Rattle.cc_meaning.specs.Operators.{list_eq}
use Rattle.cc_meaning.specs.Names.{is_index, index_value, name_proto, name_prototype}
use Rattle.cc_meaning.specs.State.{Kind, dotted_kind, Slot, Code, Obj, State, Tables}
use Rattle.cc_meaning.specs.Monad.{ret, pick}
use Rattle.cc_meaning.specs.Store.{Access, name_of, kind_by, kind_for, find_slot, set_slot, set_element, put_in_array, put_by, put_own, change, class_of_function}
use Rattle.cc_meaning.specs.SlotRules.{rule_if, array_write_rule, element_rule, prototype_of_function, is_code_of, is_object, is_prototype_of, extended, function_in, is_prototype_of_class, fits_extended, fits_class, no_slots, without_slots, is_off_chains, declares_well, code_rule, prototype_rule, object_write, write_rule}
use Rattle.cc_meaning.specs.Judge.{writes, least_broken}
use Rattle.cc_meaning.specs.Acts.{changing, write_slot}
use Rattle.cc_meaning.specs.Calls.{code_at, declares_on}
use Rattle.cc_meaning.specs.Script.{checked}
use Rattle.cc_meaning.specs.Alike.{In, here, there}
use Rattle.cc_tied.specs.Tied.{ListT, nil_t, cons_t, OptT, none_t, some_t, ValT, prim_t, out_t, obj_t}
use Rattle.cc_tied.specs.Facts.{Facts}
use Rattle.cc_tied.specs.Injection.{Pair}
use Rattle.cc_tied.proofs.Lists.{tied_set, tied_push, tied_length}
use Rattle.cc_tied.proofs.Sim.{Tie, World, Sim, fine, sim_bind}
use Rattle.cc_tied.proofs.Injection.World.{Tabs, Mates, Mate, Mated, mates_more, Vals, val_more, KindT, SlotT, Codes, ObjT}
use Rattle.cc_tied.proofs.Injection.Tie.{Other, Owned, DeclaresI, KeyI, with_set, TiedI, once, inject}
use Rattle.cc_tied.proofs.Injection.Rules.{least_none, none_least, unless_none, none_unless, and_true, true_and, kind_by_tied, name_same, kind_for_tied, kind_for_index, whole_key_none, slots_none, outside_none}
use Rattle.cc_tied.proofs.Injection.Objects.{ObjAt, obj_at, slot_found, elements_at, slots_at, chain_at, code_at_tied, prototype_tied, is_some_same, unwritten_same}
use Rattle.cc_tied.proofs.Injection.Types.{of_all_elements_true}
use Rattle.cc_tied.proofs.Injection.Acts.{judged_i, at_of, change_both}
use Rattle.cc_tied.proofs.Injection.Store.{field_none, fields_t}
use Rattle.cc_tied.proofs.Injection.Asked.{on_same}

-- ---- the object after the write

module _ {O : ℕ → ℕ → Type 0} where
  slots_chosen : (b b' : Bool) → b ≡ b' → {xs ys xs' ys' : List Slot} → ListT (SlotT O) xs ys → ListT (SlotT O) xs' ys' → ListT (SlotT O) (pick b xs xs') (pick b' ys ys')
  slots_chosen true true e h k = h
  slots_chosen true false e h k = absurd (cc)
  slots_chosen false true e h k = absurd (cc)
  slots_chosen false false e h k = k

  slots_set : {xs ys : List Slot} → ListT (SlotT O) xs ys → (n : List ℕ) {k k' : Kind} {x y : Val} → KindT k k' → (k ≡ dotted_kind → is_index n ≡ false) → ValT O x y → ListT (SlotT O) (set_slot xs n k x) (set_slot ys n k' y)
  unfolding set_slot
  slots_set nil_t n k d v = cons_t (record { name = refl; kind = k; value = v; index = d }) nil_t
  slots_set (cons_t h t) n k d v = slots_chosen _ _ (ap (λ z. list_eq z n) h.name) (cons_t (record { name = h.name; kind = h.kind; value = v; index = h.index }) t) (cons_t h (slots_set t n k d v))

  vals_chosen : (b : Bool) {xs ys xs' ys' : List Val} → ListT (ValT O) xs ys → ListT (ValT O) xs' ys' → ListT (ValT O) (pick b xs xs') (pick b ys ys')
  vals_chosen true h k = h
  vals_chosen false h k = k

  element_set : {xs ys : List Val} → ListT (ValT O) xs ys → (i : ℕ) {x y : Val} → ValT O x y → ListT (ValT O) (set_element xs i x) (set_element ys i y)
  unfolding set_element
  element_set {xs = xs} h i v = rw (← tied_length h) (vals_chosen (nat_lt i (length xs)) (tied_set h v i) (tied_push h v))

module _ (F : Facts) (S : Tables) (w : Tabs) where
  in_array : {x : Option Code} {a b : Obj} → ObjT F S w x a b → (n : List ℕ) {k k' : Kind} {u v : Val} → KindT k k' → (k ≡ dotted_kind → is_index n ≡ false) → Vals w u v → {es ds : List Val} → ListT (Vals w) es ds → (i : Option ℕ) → ObjT F S w x (put_in_array a es n k u i) (put_in_array b ds n k' v i)
  unfolding put_in_array
  in_array h n k d v es None = record { label = h.label; class = h.class; chain = h.chain; slots = slots_set h.slots n k d v; code = h.code; elements = h.elements; wanted = h.wanted }
  in_array h n k d v es (Some i) = record { label = h.label; class = h.class; chain = h.chain; slots = h.slots; code = h.code; elements = some_t (element_set es i v); wanted = h.wanted }

  by_elements : {x : Option Code} {a b : Obj} → ObjT F S w x a b → (n : List ℕ) {k k' : Kind} {u v : Val} → KindT k k' → (k ≡ dotted_kind → is_index n ≡ false) → Vals w u v → {es ds : Option (List Val)} → OptT (ListT (Vals w)) es ds → ObjT F S w x (put_by es a n k u) (put_by ds b n k' v)
  unfolding put_by
  by_elements h n k d v none_t = record { label = h.label; class = h.class; chain = h.chain; slots = slots_set h.slots n k d v; code = h.code; elements = h.elements; wanted = h.wanted }
  by_elements h n k d v (some_t es) = in_array h n k d v es (index_value n)

  pub put_tied : {x : Option Code} {a b : Obj} → ObjT F S w x a b → (n : List ℕ) {k k' : Kind} {u v : Val} → KindT k k' → (k ≡ dotted_kind → is_index n ≡ false) → Vals w u v → ObjT F S w x (put_own n k u a) (put_own n k' v b)
  unfolding put_own
  put_tied h n k d v = by_elements h n k d v h.elements

-- ---- the prototype of a function with this number

or_cases : (a b : Bool) → a || b ≡ true → (a ≡ true) ⊎ (b ≡ true)
or_cases true b e = inl refl
or_cases false b e = inr e

or_later : (a : Bool) {b : Bool} → b ≡ true → a || b ≡ true
or_later true e = refl
or_later false e = e

module _ (f p : ℕ) where
  pub record IsPrototype (os : List Obj) : Type 0 where
    pub place : ℕ
    pub object : Obj
    pub there : slice_get os place ≡ Some object
    pub function : is_code_of object.code f ≡ true
    pub prototype : is_object (find_slot object.slots name_prototype) p ≡ true

  first_or_later : (o : Obj) (os : List Obj) → (is_code_of o.code f && is_object (find_slot o.slots name_prototype) p ≡ true) ⊎ IsPrototype os → IsPrototype (o ∷ os)
  first_or_later o os (inl e) = let k = and_true _ _ e in record { place = 0; object = o; there = refl; function = k.0; prototype = k.1 }
  first_or_later o os (inr h) = record { place = suc h.place; object = h.object; there = h.there; function = h.function; prototype = h.prototype }

  pub prototype_found : (os : List Obj) → is_prototype_of os f p ≡ true → IsPrototype os
  unfolding is_prototype_of
  prototype_found [] e = absurd (cc)
  prototype_found (o ∷ os) e = first_or_later o os (found (or_cases _ _ e) (λ d. prototype_found os d))
    where
      found : (is_code_of o.code f && is_object (find_slot o.slots name_prototype) p ≡ true) ⊎ (is_prototype_of os f p ≡ true) → (is_prototype_of os f p ≡ true → IsPrototype os) → (is_code_of o.code f && is_object (find_slot o.slots name_prototype) p ≡ true) ⊎ IsPrototype os
      found (inl d) k = inl d
      found (inr d) k = inr (k d)

  pub prototype_there : (os : List Obj) (j : ℕ) (o : Obj) → slice_get os j ≡ Some o → is_code_of o.code f ≡ true → is_object (find_slot o.slots name_prototype) p ≡ true → is_prototype_of os f p ≡ true
  unfolding is_prototype_of
  prototype_there [] j o e h k = absurd (cc)
  prototype_there (x ∷ os) zero o e h k = let d : x ≡ o = cc in rw (d, h, k) refl
  prototype_there (x ∷ os) (suc j) o e h k = or_later _ (prototype_there os j o e h k)

-- ---- an object with this one on its chain

module _ (p : ℕ) where
  abbrev Has : List ℕ → Bool
  Has c = list_any (λ m. nat_eq m p) c

  record OnChain (os : List Obj) : Type 0 where
    pub place : ℕ
    pub object : Obj
    pub there : slice_get os place ≡ Some object
    pub has : Has object.chain ≡ true

  chain_found : (os : List Obj) → list_any (λ (o : Obj). Has o.chain) os ≡ true → OnChain os
  chain_found [] e = absurd (cc)
  chain_found (o ∷ os) e = found (or_cases _ _ e) (λ d. chain_found os d)
    where
      found : (Has o.chain ≡ true) ⊎ (list_any (λ (x : Obj). Has x.chain) os ≡ true) → (list_any (λ (x : Obj). Has x.chain) os ≡ true → OnChain os) → OnChain (o ∷ os)
      found (inl d) k = record { place = 0; object = o; there = refl; has = d }
      found (inr d) k = let h = k d in record { place = suc h.place; object = h.object; there = h.there; has = h.has }

  chain_there : (os : List Obj) (j : ℕ) (o : Obj) → slice_get os j ≡ Some o → Has o.chain ≡ true → list_any (λ (x : Obj). Has x.chain) os ≡ true
  chain_there [] j o e h = absurd (cc)
  chain_there (x ∷ os) zero o e h = let d : x ≡ o = cc in rw (d, h) refl
  chain_there (x ∷ os) (suc j) o e h = or_later _ (chain_there os j o e h)

-- ---- what a write breaks

module _ (F : Facts) (S : Tables) (set' : Other S) where
  abbrev R : Tables
  R = with_set S set'

  abbrev T : Tie
  T = inject F S set'

  abbrev W : Type 0
  W = World T

  abbrev Tied : Tabs → State → State → Type 0
  Tied = TiedI F S set'

  abbrev Done : W → Unit {0} → Unit {0} → Type 0
  Done v a b = Unit {0}

  array_none : {O : ℕ → ℕ → Type 0} {x y : Option (List Val)} → OptT (ListT (ValT O)) x y → (n : List ℕ) (i : Option ℕ) → array_write_rule x n i ≡ None → array_write_rule y n i ≡ None
  unfolding array_write_rule
  array_none none_t n i e = refl
  array_none (some_t h) n None e = e
  array_none (some_t h) n (Some i) e = ap (λ z. rule_if (nat_lt z i) 2) (sym (tied_length h)) ∙ e

  elements_count : (b c : Bool) → not b || c ≡ true → b ≡ true → c ≡ true
  elements_count true c e d = e
  elements_count false c e d = absurd (cc)

  not_or : (b c : Bool) → (b ≡ true → c ≡ true) → not b || c ≡ true
  not_or true c f = f refl
  not_or false c f = refl

  element_none : {w : Tabs} {s t : State} → Tied w s t → {a b : Option Obj} → ObjAt F S w a b → (i : Option ℕ) {x y : Val} → Vals w x y → element_rule S s.objs a i x ≡ None → element_rule R t.objs b i y ≡ None
  unfolding element_rule
  element_none ti (obj_at h) None v e = refl
  element_none {w = w} {s = s} {t = t} ti (obj_at {a = a} {b = b} h) (Some i) {x = x} {y = y} v e =
      let k = unless_none _ 6 e in
      none_unless 6 (not_or (is_some b.elements) _ (λ d. of_all_elements_true S set' F w s.objs t.objs (at_of F S set' ti) a.wanted b.wanted h.wanted (cons_t v nil_t) (elements_count (is_some a.elements) _ k (is_some_same h.elements ∙ d))))

  -- ---- the prototype of a constructor

  slot_is : (x : Option Val) (p : ℕ) → is_object x p ≡ true → x ≡ Some (obj p)
  unfolding is_object
  slot_is None p e = absurd (cc)
  slot_is (Some (prim q)) p e = absurd (cc)
  slot_is (Some (out n)) p e = absurd (cc)
  slot_is (Some (obj m)) p e = ap (λ z. Some (obj z)) (eqb-true m p e)

  is_slot : {w : Tabs} {s t : State} → Tied w s t → {x y : Option Val} → OptT (Vals w) x y → {p q : ℕ} → Mates w p q → is_object x p ≡ true → is_object y q ≡ true
  unfolding is_object
  is_slot ti none_t o e = absurd (cc)
  is_slot ti (some_t prim_t) o e = absurd (cc)
  is_slot ti (some_t out_t) o e = absurd (cc)
  is_slot ti (some_t (obj_t k)) o e = sym (once F S set' ti k o) ∙ e

  function_of : (c : Option Code) (f : ℕ) → is_code_of c f ≡ true → is_some c ≡ true
  unfolding is_code_of
  function_of None f e = absurd (cc)
  function_of (Some c) f e = refl

  same_function : {w : Tabs} {c d : Option Code} → OptT (Codes F S w) c d → (f : ℕ) → is_code_of c f ≡ is_code_of d f
  unfolding is_code_of
  same_function none_t f = refl
  same_function (some_t h) f = ap (λ z. nat_eq z f) h.function.same

  prototype_is : (o : Obj) (f p : ℕ) → is_code_of o.code f ≡ true → is_object (find_slot o.slots name_prototype) p ≡ true → prototype_of_function (Some o) ≡ Some (obj p)
  unfolding prototype_of_function
  prototype_is o f p h k = rw (function_of o.code f h) (slot_is _ p k)

  owner : (ps : List (Pair (Option Code))) (os : List Obj) (m p : ℕ) → Owned ps os m p → Mate ps p → Mate ps m
  owner ps os m p (inl h) k = h
  owner ps os m p (inr h) k = absurd (h.1 k)

  by_object : {w : Tabs} {s t : State} → Tied w s t → (f : ℕ) {p q : ℕ} → Mates w p q → (n : ℕ) {a b : Option Obj} → slice_get t.objs n ≡ b → ObjAt F S w a b → (x : Obj) → a ≡ Some x → is_code_of x.code f ≡ true → is_object (find_slot x.slots name_prototype) p ≡ true → is_prototype_of t.objs f q ≡ true
  by_object {w = w} {t = t} ti f {p = p} {q = q} o n d (obj_at {a = a} {b = b} h) x e j k =
      let u : x ≡ a = cc in
      prototype_there f q t.objs n b d (sym (same_function h.code f) ∙ ap (λ z. is_code_of z.code f) (sym u) ∙ j) (is_slot ti (slot_found h.slots name_prototype) o (ap (λ z. is_object (find_slot z.slots name_prototype) p) (sym u) ∙ k))

  prototype_of_tied : {w : Tabs} {s t : State} → Tied w s t → (f : ℕ) {p q : ℕ} → Mates w p q → is_prototype_of s.objs f p ≡ true → is_prototype_of t.objs f q ≡ true
  prototype_of_tied {w = w} {s = s} ti f {p = p} {q = q} o e =
      let h = prototype_found f p s.objs e in
      let m = owner w.objs s.objs h.place p (ti.owned h.place p (ap prototype_of_function h.there ∙ prototype_is h.object f p h.function h.prototype)) (record { label = o.0; right = q; mates = o.1 }) in
      by_object ti f o m.right refl (at_of F S set' ti h.place m.right (m.label, m.mates)) h.object h.there h.function h.prototype

  class_true : {w : Tabs} {s t : State} → Tied w s t → (o : Option ℕ) {p q : ℕ} → Mates w p q → is_prototype_of_class s.objs o p ≡ true → is_prototype_of_class t.objs o q ≡ true
  unfolding is_prototype_of_class
  class_true ti None o e = absurd (cc)
  class_true ti (Some f) o e = prototype_of_tied ti f o e

  extended_true : {w : Tabs} {s t : State} → Tied w s t → (o : Option ℕ) {c d : List ℕ} → ListT (Mates w) c d → fits_extended S s.objs o c ≡ true → fits_extended R t.objs o d ≡ true
  unfolding fits_extended
  extended_true ti None nil_t e = refl
  extended_true ti None (cons_t o h) e = absurd (cc)
  extended_true ti (Some k) nil_t e = absurd (cc)
  extended_true ti (Some k) (cons_t o h) e = let p = and_true _ _ e in true_and (class_true ti (function_in (slice_get S.classes k)) o p.0) (extended_true ti (extended (slice_get S.classes k)) h p.1)

  fits_true : {w : Tabs} {s t : State} → Tied w s t → (c : ℕ) {x y : Val} → Vals w x y → fits_class S s.objs c x ≡ true → fits_class R t.objs c y ≡ true
  unfolding fits_class
  fits_true ti c prim_t e = absurd (cc)
  fits_true ti c out_t e = absurd (cc)
  fits_true {w = w} ti c (obj_t o) e = extended_true ti (extended (slice_get S.classes c)) (chain_at F S w (at_of F S set' ti _ _ o)) e

  no_slots_same : {O : ℕ → ℕ → Type 0} {xs ys : List Slot} → ListT (SlotT O) xs ys → no_slots xs ≡ no_slots ys
  unfolding no_slots
  no_slots_same nil_t = refl
  no_slots_same (cons_t h t) = refl

  without_slots_same : {w : Tabs} {s t : State} → Tied w s t → {x y : Option Val} → OptT (Vals w) x y → without_slots s.objs x ≡ without_slots t.objs y
  unfolding without_slots
  without_slots_same ti none_t = refl
  without_slots_same ti (some_t prim_t) = refl
  without_slots_same ti (some_t out_t) = refl
  without_slots_same {w = w} ti (some_t (obj_t o)) = no_slots_same (slots_at F S w (at_of F S set' ti _ _ o))

  not_true : (a b : Bool) → (b ≡ true → a ≡ true) → not a ≡ true → not b ≡ true
  not_true a true f e = let d = f refl in let k : not true ≡ true = subst (λ z. not z ≡ true) d e in absurd (cc)
  not_true a false f e = refl

  -- an object of the right run is one of a pair, and its mate has as much on its chain
  on_left : {w : Tabs} {s t : State} → Tied w s t → {p q : ℕ} → Mates w p q → (m : ℕ) {a b : Option Obj} → slice_get s.objs m ≡ a → ObjAt F S w a b → (x : Obj) → b ≡ Some x → list_any (λ z. nat_eq z q) x.chain ≡ true → list_any (λ (y : Obj). list_any (λ z. nat_eq z p) y.chain) s.objs ≡ true
  on_left {w = w} {s = s} ti {p = p} {q = q} o m d (obj_at {a = a} {b = b} h) x e j =
      let u : x ≡ b = cc in
      chain_there p s.objs m a d (on_same F S set' ti h.chain o ∙ ap (λ z. list_any (λ y. nat_eq y q) z.chain) (sym u) ∙ j)

  mated_back : {w : Tabs} {s t : State} → Tied w s t → {p q : ℕ} → Mates w p q → (n : ℕ) (x : Obj) → slice_get t.objs n ≡ Some x → list_any (λ z. nat_eq z q) x.chain ≡ true → Mated w.objs n ⊎ (x.chain ≡ []) → list_any (λ (y : Obj). list_any (λ z. nat_eq z p) y.chain) s.objs ≡ true
  mated_back ti o n x e j (inl m) = on_left ti o m.left refl (at_of F S set' ti m.left n (m.label, m.mates)) x e j
  mated_back ti {q = q} o n x e j (inr c) = let d : list_any (λ z. nat_eq z q) [] ≡ true = subst (λ y. list_any (λ z. nat_eq z q) y ≡ true) c j in absurd (cc)

  chain_back : {w : Tabs} {s t : State} → Tied w s t → {p q : ℕ} → Mates w p q → list_any (λ (y : Obj). list_any (λ z. nat_eq z q) y.chain) t.objs ≡ true → list_any (λ (y : Obj). list_any (λ z. nat_eq z p) y.chain) s.objs ≡ true
  chain_back {w = w} {s = s} {t = t} ti {p = p} {q = q} o e =
      let h = chain_found q t.objs e in
      mated_back ti o h.place h.object h.there h.has (ti.mated h.place h.object h.there)

  off_true : {w : Tabs} {s t : State} → Tied w s t → {x y : Option Val} → OptT (Vals w) x y → is_off_chains s.objs x ≡ true → is_off_chains t.objs y ≡ true
  unfolding is_off_chains
  off_true ti none_t e = refl
  off_true ti (some_t prim_t) e = refl
  off_true ti (some_t out_t) e = refl
  off_true ti (some_t (obj_t o)) e = not_true _ _ (λ d. chain_back ti o d) e

  declares_true : {w : Tabs} {s t : State} → Tied w s t → {a b : Option Obj} → ObjAt F S w a b → (o : Option ℕ) {x y : Val} → Vals w x y → (d d' : Bool) → (d ≡ true → d' ≡ true) → declares_well S s a o x d ≡ true → declares_well R t b o y d' ≡ true
  unfolding declares_well
  declares_true ti at None v d d' k e = absurd (cc)
  declares_true {w = w} {s = s} {t = t} ti at (Some c) v d d' k e =
      let p = and_true _ _ e in let q = and_true _ _ p.0 in let r = and_true _ _ q.0 in let u = and_true _ _ r.0 in
      true_and (true_and (true_and (true_and (k u.0) (not_true (list_any (λ z. nat_eq z c) s.constructed) (list_any (λ z. nat_eq z c) t.constructed) (ti.constructed c) u.1)) (sym (without_slots_same ti (prototype_tied F S w at)) ∙ r.1)) (off_true ti (prototype_tied F S w at) q.1)) (fits_true ti c v p.1)

  class_same : (f : ℕ) → class_of_function S f ≡ class_of_function R f
  unfolding class_of_function
  class_same f = refl

  pick_rule : (b : Bool) {x y : Option ℕ} → (x ≡ None → y ≡ None) → pick b x None ≡ None → pick b y None ≡ None
  pick_rule true f e = f e
  pick_rule false f e = refl

  code_none : {w : Tabs} {s t : State} → Tied w s t → (a b : Obj) → ObjAt F S w (Some a) (Some b) → {c c' : Option Code} → OptT (Codes F S w) c c' → (n : List ℕ) {x y : Val} → Vals w x y → (d d' : Bool) → (d ≡ true → d' ≡ true) → code_rule S s a c n x d ≡ None → code_rule R t b c' n y d' ≡ None
  unfolding code_rule
  code_none ti a b at none_t n v d d' k e = refl
  code_none {s = s} {t = t} ti a b at (some_t {a = c} {b = c'} h) n {x = x} {y = y} v d d' k e =
      pick_rule (list_eq n name_prototype) (λ q. none_unless 12 (subst (λ z. declares_well R t (Some b) z y d' ≡ true) (class_same c.function ∙ ap (λ z. class_of_function R z) h.function.same) (declares_true ti at (class_of_function S c.function) v d d' k (unless_none _ 12 q)))) e

  prototype_none : {w : Tabs} {s t : State} → Tied w s t → {a b : Option Obj} → ObjAt F S w a b → (n : List ℕ) {x y : Val} → Vals w x y → (d d' : Bool) → (d ≡ true → d' ≡ true) → prototype_rule S s a n x d ≡ None → prototype_rule R t b n y d' ≡ None
  unfolding prototype_rule
  prototype_none ti (obj_at {a = a} {b = b} h) n v d d' k e = code_none ti a b (obj_at h) h.code n v d d' k e

  object_write_none : {w : Tabs} {s t : State} → Tied w s t → {m n : ℕ} → Mates w m n → {a b : Access} → KeyI a b → (c : List ℕ) {x y : Val} → Vals w x y → (d d' : Bool) → (d ≡ true → d' ≡ true) → object_write S s m a c x d ≡ None → object_write R t n b c y d' ≡ None
  unfolding object_write
  object_write_none {w = w} {s = s} {t = t} ti {m = m} {n = n} o {a = a} {b = b} k c v d d' j e =
      let at = at_of F S set' ti m n o in
      let whole = least_none _ _ e in let p = least_none _ _ whole.1 in let q = least_none _ _ p.1 in let r = least_none _ _ q.1 in let u = least_none _ _ r.1 in let z = least_none _ _ u.1 in
      none_least (whole_key_none (elements_at F S w at) k whole.0)
      (none_least (array_none (elements_at F S w at) c (index_value c) p.0)
      (none_least (element_none ti at (index_value c) v q.0)
      (none_least (field_none F S set' ti o k c c _ _ v u.0 r.0)
      (none_least (slots_none S set' k c (slots_at F S w at) u.0)
      (none_least (sym (unwritten_same F S w s.objs t.objs (at_of F S set' ti) o c) ∙ z.0) (prototype_none ti at c v d d' j z.1))))))

  pub out_none : (s t : State) (n : ℕ) {a b : Access} → KeyI a b → (x y : Val) (d d' : Bool) → write_rule S s (out n) a x d ≡ None → write_rule R t (out n) b y d' ≡ None
  unfolding write_rule
  out_none s t n k x y d d' e = let p = least_none _ _ e in none_least (subst (λ z. rule_if (list_eq z name_proto) 2 ≡ None) (name_same S set' k) p.0) (outside_none S set' k p.1)

  pub write_none : {w : Tabs} {s t : State} → Tied w s t → {x y : Val} → Vals w x y → {a b : Access} → KeyI a b → {u v : Val} → Vals w u v → (d d' : Bool) → (d ≡ true → d' ≡ true) → write_rule S s x a u d ≡ None → write_rule R t y b v d' ≡ None
  unfolding write_rule
  write_none {t = t} ti (obj_t {n = n} o) {a = a} {b = b} k {v = v} h d d' j e =
      let p = least_none _ _ e in
      none_least (subst (λ z. rule_if (list_eq z name_proto) 2 ≡ None) (name_same S set' k) p.0) (subst (λ z. object_write R t n b z v d' ≡ None) (name_same S set' k) (object_write_none ti o k (name_of S a) h d d' j p.1))
  write_none {s = s} {t = t} ti (out_t {n = n}) k {u = u} {v = v} h d d' j e = out_none s t n k u v d d' e
  write_none ti prim_t k h d d' j e = absurd (cc)

  -- ---- the write

  put_states : {w : Tabs} {s t : State} → Tied w s t → {m n : ℕ} → Mates w m n → {a b : Access} → KeyI a b → {k k' : Kind} → KindT k k' → {x y : Val} → Vals w x y → Tied w (change m (put_own (name_of S a) (kind_for S (name_of S a) k) x) s) (change n (put_own (name_of R b) (kind_for R (name_of R b) k') y) t)
  put_states {w = w} {s = s} {t = t} ti {m = m} {n = n} o {a = a} {b = b} q {k = k} {k' = k'} h {x = x} {y = y} v =
      subst (λ z. Tied w (change m (put_own (name_of S a) (kind_for S (name_of S a) k) x) s) (change n (put_own z (kind_for R z k') y) t)) (name_same S set' q)
      (change_both F S set' ti o _ _ (λ l c d g. put_tied F S w g (name_of S a) (kind_for_tied S set' (name_of S a) h) (kind_for_index S set' (name_of S a) k) v))

  put_t : {w : W} {m n : ℕ} → Mates w.w m n → {a b : Access} → KeyI a b → {k k' : Kind} → KindT k k' → {x y : Val} → Vals w.w x y → Sim T Done w (λ s. changing (change m (put_own (name_of s.tables a) (kind_for s.tables (name_of s.tables a) k) x)) s) (λ s. changing (change n (put_own (name_of s.tables b) (kind_for s.tables (name_of s.tables b) k') y)) s)
  unfolding changing change ret
  put_t {w = w} {m = m} {n = n} o {a = a} {b = b} q {k = k} {k' = k'} h {x = x} {y = y} v s t ti le le' =
      fine T tt tt tt
      (subst (λ z. Tied w.w (change m (put_own (name_of z a) (kind_for z (name_of z a) k) x) s) (change n (put_own (name_of t.tables b) (kind_for t.tables (name_of t.tables b) k') y) t)) (sym ti.tables)
      (subst (λ z. Tied w.w (change m (put_own (name_of S a) (kind_for S (name_of S a) k) x) s) (change n (put_own (name_of z b) (kind_for z (name_of z b) k') y) t)) (sym ti.tables')
      (put_states ti o q h v))) le le'

  pub write_slot_t : {w : W} (i i' : Spot) {m n : ℕ} → Mates w.w m n → {a b : Access} → KeyI a b → {k k' : Kind} → KindT k k' → {x y : Val} → Vals w.w x y → (d d' : Bool) → (d ≡ true → d' ≡ true) → Sim T Done w (write_slot checked i m a k x d) (write_slot checked i' n b k' y d')
  unfolding write_slot least_broken
  write_slot_t i i' {m = m} {n = n} o {a = a} {b = b} q h {x = x} {y = y} v d d' j =
      sim_bind T {R = Done} (judged_i F S set' i i' (writes (obj m) a x d) (writes (obj n) b y d') _ _ (λ s t ti e. write_none ti (obj_t o) q v d d' j e) (put_t o q h v)) (λ v2 l2 _ _ _.
      fields_t F S set' (mates_more l2.2.ext o) q (val_more l2.2.ext _ _ v))

  -- one of the functions is that of the object
  declared_one : (t : State) (n : ℕ) {f : ℕ} {fs : List ℕ} → is_code_of (code_at t n) f ≡ true → In f fs → declares_on t fs (obj n) ≡ true
  unfolding declares_on
  declared_one t n {fs = []} h i = elim i [ ]
  declared_one t n {fs = g ∷ fs} h here = ap (λ z. z || declares_on t fs (obj n)) h
  declared_one t n {fs = g ∷ fs} h (there i) = true_or (is_code_of (code_at t n) g) (declared_one t n h i)
    where
      true_or : (b : Bool) {c : Bool} → c ≡ true → b || c ≡ true
      true_or true e = refl
      true_or false e = e

  declared : {w : Tabs} {s t : State} → Tied w s t → {m n : ℕ} → Mates w m n → (d d' : List ℕ) → ((f : ℕ) → In f d → In f d') → declares_on s d (obj m) ≡ true → declares_on t d' (obj n) ≡ true
  unfolding declares_on code_at
  declared ti o [] d' k e = absurd (cc)
  declared {w = w} {s = s} {t = t} ti {m = m} {n = n} o (f ∷ fs) d' k e =
      by_first (is_code_of (code_at s m) f) (λ c. declared_one t n (sym (same_function (code_at_tied F S w (at_of F S set' ti m n o)) f) ∙ c) (k f here)) (declared ti o fs d' (λ g i. k g (there i))) e
    where
      by_first : (b : Bool) {c : Bool} → (b ≡ true → declares_on t d' (obj n) ≡ true) → (c ≡ true → declares_on t d' (obj n) ≡ true) → b || c ≡ true → declares_on t d' (obj n) ≡ true
      by_first true one others e = one refl
      by_first false one others e = others e

  pub write_t : {w : W} (i i' : Spot) {m n : ℕ} → Mates w.w m n → {a b : Access} → KeyI a b → {x y : Val} → Vals w.w x y → {d d' : List ℕ} → DeclaresI d d' → Sim T Done w (λ s. write_slot checked i m a (kind_by a) x (declares_on s d (obj m)) s) (λ s. write_slot checked i' n b (kind_by b) y (declares_on s d' (obj n)) s)
  write_t i i' {m = m} {n = n} o q v {d = d} {d' = d'} k s t ti le le' = write_slot_t i i' o q (kind_by_tied q) v (declares_on s d (obj m)) (declares_on t d' (obj n)) (declared ti o d d' k.keeps) s t ti le le'
