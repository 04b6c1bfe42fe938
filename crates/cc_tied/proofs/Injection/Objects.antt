-- Objects of two runs that are tied by an injection: what is found on them.
use Rattle.std.proofs.Common.{◌≡◌, ℕ, suc, Bool, true, false, List, ◌++◌, map, Option, Some, None, is_some, refl, ap, ◌∙◌}
use Rattle.std.specs.Prelude.{slice_get, pos, is_none, ◌&&◌, ◌||◌}
use Rattle.cc_ast.specs.Syntax.{Prim, whole}
use Rattle.cc_meaning.specs.Values.{Val, prim}
use Rattle.cc_meaning.specs.Operators.{list_eq, is_in}
use Rattle.cc_meaning.specs.Names.{index_value, name_prototype, name_length, name_call, name_hasOwnProperty, common_names, standard_array_names, unwritten_names}
use Rattle.cc_meaning.specs.Builtins.{ArrayUse, array_method}
use Rattle.cc_meaning.specs.State.{Slot, Code, Obj, Tables}
use Rattle.cc_meaning.specs.Monad.{pick}
use Rattle.cc_meaning.specs.Store.{find_slot, at_index, find_element, first_of, find_own, own_value, Use, has_own, Found, found_value, found_use, nothing_found, array_found, built_here, found_here, found_at, found_on, chain_in, chain_of, look_up, is_found_value, value_found, slots_in, slots_on, element_names, names_of_elements, own_names, fresh_names, names_on}
use Rattle.cc_meaning.specs.Typed.{elements_in, class_in}
use Rattle.cc_meaning.specs.SlotRules.{is_function, meets_function, has_function, has_array, rule_if, unfound_rule, unwritten_rule, function_rule, has_slot, prototype_of_function}
use Rattle.cc_meaning.specs.Acts.{object_type}
use Rattle.cc_meaning.specs.Calls.{code_in, use_found}
use Rattle.cc_tied.specs.Tied.{ListT, nil_t, cons_t, OptT, none_t, some_t, ValT, prim_t}
use Rattle.cc_tied.specs.Facts.{Facts}
use Rattle.cc_tied.proofs.Parts.{list_on}
use Rattle.cc_tied.proofs.Lists.{tied_get, tied_length}
use Rattle.cc_tied.proofs.Injection.World.{Tabs, Mates, Vals, SlotT, Codes, ObjT}

-- ---- what a name finds

pub data FoundT (V : Val → Val → Type 0) : Found → Found → Type 0 where
  value_found_t : {a b : Val} → V a b → FoundT V (found_value a) (found_value b)
  use_found_t : {u : Use} → FoundT V (found_use u) (found_use u)
  nothing_found_t : FoundT V nothing_found nothing_found

module _ {O : ℕ → ℕ → Type 0} where
  pub found_is_value : {a b : Found} → FoundT (ValT O) a b → is_found_value a ≡ is_found_value b
  unfolding is_found_value
  found_is_value (value_found_t h) = refl
  found_is_value use_found_t = refl
  found_is_value nothing_found_t = refl

  pub found_value_tied : {a b : Found} → FoundT (ValT O) a b → ValT O (value_found a) (value_found b)
  unfolding value_found
  found_value_tied (value_found_t h) = h
  found_value_tied use_found_t = prim_t
  found_value_tied nothing_found_t = prim_t

  pub found_use_same : {a b : Found} → FoundT (ValT O) a b → use_found a ≡ use_found b
  unfolding use_found
  found_use_same (value_found_t h) = refl
  found_use_same use_found_t = refl
  found_use_same nothing_found_t = refl

  pick_opt : (b : Bool) {x y z u : Option Val} → OptT (ValT O) x y → OptT (ValT O) z u → OptT (ValT O) (pick b x z) (pick b y u)
  pick_opt true h k = h
  pick_opt false h k = k

  pick_found : (b : Bool) {x y z u : Found} → FoundT (ValT O) x y → FoundT (ValT O) z u → FoundT (ValT O) (pick b x z) (pick b y u)
  pick_found true h k = h
  pick_found false h k = k

  -- ---- slots

  pub slot_found : {xs ys : List Slot} → ListT (SlotT O) xs ys → (n : List ℕ) → OptT (ValT O) (find_slot xs n) (find_slot ys n)
  unfolding find_slot
  slot_found nil_t n = none_t
  slot_found (cons_t {a = x} h t) n = rw (← h.name) (pick_opt (list_eq x.name n) (some_t h.value) (slot_found t n))

  names_same : {xs ys : List Slot} → ListT (SlotT O) xs ys → map (λ (x : Slot). x.name) xs ≡ map (λ (x : Slot). x.name) ys
  names_same nil_t = refl
  names_same (cons_t h t) = let e = h.name in let d = names_same t in cc

  -- ---- elements

  at_index_tied : {xs ys : List Val} → ListT (ValT O) xs ys → (i : Option ℕ) → OptT (ValT O) (at_index xs i) (at_index ys i)
  unfolding at_index
  at_index_tied h None = none_t
  at_index_tied h (Some i) = tied_get h i

  length_value : {m n : ℕ} → m ≡ n → ValT O (prim (whole (pos m))) (prim (whole (pos n)))
  length_value e = rw e prim_t

  element_found : {x y : Option (List Val)} → OptT (ListT (ValT O)) x y → (n : List ℕ) → OptT (ValT O) (find_element x n) (find_element y n)
  unfolding find_element
  element_found none_t n = none_t
  element_found (some_t h) n = pick_opt (list_eq n name_length) (some_t (length_value (tied_length h))) (at_index_tied h (index_value n))

  first_tied : {a b x y : Option Val} → OptT (ValT O) a b → OptT (ValT O) x y → OptT (ValT O) (first_of a x) (first_of b y)
  unfolding first_of
  first_tied none_t k = k
  first_tied (some_t h) k = some_t h

  element_names_same : (k : ℕ) {xs ys : List Val} → ListT (ValT O) xs ys → element_names k xs ≡ element_names k ys
  unfolding element_names
  element_names_same k nil_t = refl
  element_names_same k (cons_t h t) = rw (element_names_same (suc k) t) refl

  names_of_elements_same : {x y : Option (List Val)} → OptT (ListT (ValT O)) x y → names_of_elements x ≡ names_of_elements y
  unfolding names_of_elements
  names_of_elements_same none_t = refl
  names_of_elements_same (some_t h) = element_names_same 0 h

pub is_some_same : {A B : Type 0} {R : A → B → Type 0} {a : Option A} {b : Option B} → OptT R a b → is_some a ≡ is_some b
is_some_same none_t = refl
is_some_same (some_t h) = refl

pub is_none_same : {A B : Type 0} {R : A → B → Type 0} {a : Option A} {b : Option B} → OptT R a b → is_none a ≡ is_none b
is_none_same none_t = refl
is_none_same (some_t h) = refl

module _ (F : Facts) (S : Tables) (w : Tabs) where
  -- two objects, both there
  pub data ObjAt : Option Obj → Option Obj → Type 0 where
    obj_at : {x : Option Code} {a b : Obj} → ObjT F S w x a b → ObjAt (Some a) (Some b)

  -- ---- one object

  own_tied : {x : Option Code} {a b : Obj} → ObjT F S w x a b → (n : List ℕ) → OptT (Vals w) (find_own a n) (find_own b n)
  unfolding find_own
  own_tied h n = first_tied (element_found h.elements n) (slot_found h.slots n)

  pub value_at : {a b : Option Obj} → ObjAt a b → (n : List ℕ) → OptT (Vals w) (own_value a n) (own_value b n)
  unfolding own_value
  value_at (obj_at h) n = own_tied h n

  pub code_at_tied : {a b : Option Obj} → ObjAt a b → OptT (Codes F S w) (code_in a) (code_in b)
  unfolding code_in
  code_at_tied (obj_at h) = h.code

  pub class_at : {a b : Option Obj} → ObjAt a b → class_in a ≡ class_in b
  unfolding class_in
  class_at (obj_at h) = h.class

  pub elements_at : {a b : Option Obj} → ObjAt a b → OptT (ListT (Vals w)) (elements_in a) (elements_in b)
  unfolding elements_in
  elements_at (obj_at h) = h.elements

  pub chain_at : {a b : Option Obj} → ObjAt a b → ListT (Mates w) (chain_in a) (chain_in b)
  unfolding chain_in
  chain_at (obj_at h) = h.chain

  pub slots_at : {a b : Option Obj} → ObjAt a b → ListT (SlotT (Mates w)) (slots_in a) (slots_in b)
  unfolding slots_in
  slots_at (obj_at h) = h.slots

  pub has_slot_same : {a b : Option Obj} → ObjAt a b → (n : List ℕ) → has_slot a n ≡ has_slot b n
  unfolding has_slot
  has_slot_same (obj_at h) n = rw (is_some_same (slot_found h.slots n), is_some_same h.code) refl

  pub own_names_same : {a b : Option Obj} → ObjAt a b → own_names a ≡ own_names b
  unfolding own_names
  own_names_same (obj_at h) = rw (names_of_elements_same h.elements, is_some_same h.code, names_same h.slots) refl

  pick_prototype : (b b' : Bool) → b ≡ b' → {x y : Option Val} → OptT (Vals w) x y → OptT (Vals w) (pick b x None) (pick b' y None)
  pick_prototype true true e h = h
  pick_prototype true false e h = absurd (cc)
  pick_prototype false true e h = absurd (cc)
  pick_prototype false false e h = none_t

  pub prototype_tied : {a b : Option Obj} → ObjAt a b → OptT (Vals w) (prototype_of_function a) (prototype_of_function b)
  unfolding prototype_of_function
  prototype_tied (obj_at h) = pick_prototype _ _ (is_some_same h.code) (slot_found h.slots name_prototype)

  pub type_same : {a b : Option Obj} → ObjAt a b → object_type a ≡ object_type b
  unfolding object_type
  type_same (obj_at h) = rw (is_some_same h.code) refl

  pub is_function_same : {a b : Option Obj} → ObjAt a b → is_function a ≡ is_function b
  unfolding is_function
  is_function_same (obj_at h) = is_some_same h.code

  -- ---- what a look-up comes to at one object

  array_found_tied : (u : Option ArrayUse) {r s : Found} → FoundT (Vals w) r s → FoundT (Vals w) (array_found u r) (array_found u s)
  unfolding array_found
  array_found_tied None h = h
  array_found_tied (Some u) h = use_found_t

  here_tied : {x : Option Code} {a b : Obj} → ObjT F S w x a b → (n : List ℕ) {r s : Found} → FoundT (Vals w) r s → FoundT (Vals w) (built_here a n r) (built_here b n s)
  unfolding built_here
  here_tied {a = a} h n k = rw (← is_some_same h.elements, ← is_some_same h.code) (pick_found (is_some a.elements) (array_found_tied (array_method n) k) (pick_found (is_some a.code && list_eq n name_call) use_found_t k))

  found_by : {x : Option Code} {a b : Obj} → ObjT F S w x a b → (n : List ℕ) {o p : Option Val} → OptT (Vals w) o p → {r s : Found} → FoundT (Vals w) r s → FoundT (Vals w) (found_here o a n r) (found_here p b n s)
  unfolding found_here
  found_by h n none_t k = here_tied h n k
  found_by h n (some_t v) k = value_found_t v

  found_at_tied : {a b : Option Obj} → ObjAt a b → (n : List ℕ) {r s : Found} → FoundT (Vals w) r s → FoundT (Vals w) (found_at a n r) (found_at b n s)
  unfolding found_at
  found_at_tied (obj_at h) n k = found_by h n (own_tied h n) k

  -- ---- on a chain

  module _ (os ps : List Obj) (at : (m n : ℕ) → Mates w m n → ObjAt (slice_get os m) (slice_get ps n)) where
    pub chain_of_tied : {m n : ℕ} → Mates w m n → ListT (Mates w) (chain_of os m) (chain_of ps n)
    unfolding chain_of
    chain_of_tied o = cons_t o (chain_at (at _ _ o))

    end_tied : (b : Bool) → FoundT (Vals w) (pick b (found_use has_own) nothing_found) (pick b (found_use has_own) nothing_found)
    end_tied true = use_found_t
    end_tied false = nothing_found_t

    found_on_tied : {c d : List ℕ} → ListT (Mates w) c d → (n : List ℕ) → FoundT (Vals w) (found_on os c n) (found_on ps d n)
    unfolding found_on
    found_on_tied nil_t n = end_tied (list_eq n name_hasOwnProperty)
    found_on_tied (cons_t o t) n = found_at_tied (at _ _ o) n (found_on_tied t n)

    pub look_up_tied : {m n : ℕ} → Mates w m n → (t : List ℕ) → FoundT (Vals w) (look_up os m t) (look_up ps n t)
    unfolding look_up
    look_up_tied o t = found_on_tied (chain_of_tied o) t

    pub slots_on_tied : {c d : List ℕ} → ListT (Mates w) c d → ListT (SlotT (Mates w)) (slots_on os c) (slots_on ps d)
    unfolding slots_on
    slots_on_tied nil_t = nil_t
    slots_on_tied (cons_t o t) = list_on (slots_at (at _ _ o)) (slots_on_tied t)

    pub names_on_same : (met : List (List ℕ)) {c d : List ℕ} → ListT (Mates w) c d → names_on os met c ≡ names_on ps met d
    unfolding names_on
    names_on_same met nil_t = refl
    names_on_same met (cons_t {a = m} {b = n} {as' = c} {bs = d} o t) =
        let e : own_names (slice_get os m) ≡ own_names (slice_get ps n) = own_names_same (at _ _ o) in
        ap (λ z. fresh_names met (own_names (slice_get os m)) ++ z) (names_on_same (met ++ fresh_names met (own_names (slice_get os m))) t)
        ∙ ap (λ z. fresh_names met z ++ names_on ps (met ++ fresh_names met z) d) e

    meets_same : (n : List ℕ) {c d : List ℕ} → ListT (Mates w) c d → meets_function os c n ≡ meets_function ps d n
    unfolding meets_function
    meets_same n nil_t = refl
    meets_same n (cons_t o t) = rw (is_function_same (at _ _ o), is_none_same (value_at (at _ _ o) n), meets_same n t) refl

    has_array_same : {c d : List ℕ} → ListT (Mates w) c d → has_array os c ≡ has_array ps d
    unfolding has_array
    has_array_same nil_t = refl
    has_array_same (cons_t o t) = rw (is_some_same (elements_at (at _ _ o)), has_array_same t) refl

    has_function_same : {c d : List ℕ} → ListT (Mates w) c d → has_function os c ≡ has_function ps d
    unfolding has_function
    has_function_same nil_t = refl
    has_function_same (cons_t o t) = rw (is_function_same (at _ _ o), has_function_same t) refl

    pub unfound_same : {c d : List ℕ} → ListT (Mates w) c d → (n : List ℕ) {a b : Found} → FoundT (Vals w) a b → unfound_rule os c n a ≡ unfound_rule ps d n b
    unfolding unfound_rule
    unfound_same h n (value_found_t v) = refl
    unfound_same h n use_found_t = refl
    unfound_same h n nothing_found_t = ap (λ z. rule_if (is_in n common_names || (is_in n standard_array_names && z)) 10) (has_array_same h)

    pub unwritten_same : {m n : ℕ} → Mates w m n → (t : List ℕ) → unwritten_rule os m t ≡ unwritten_rule ps n t
    unfolding unwritten_rule
    unwritten_same o t = ap (λ z. rule_if (is_in t unwritten_names && z) 10) (has_function_same (chain_of_tied o))

    pub function_rule_same : {m n : ℕ} → Mates w m n → (t : List ℕ) → function_rule os m t ≡ function_rule ps n t
    unfolding function_rule
    function_rule_same o t = rw (meets_same t (chain_of_tied o)) refl
