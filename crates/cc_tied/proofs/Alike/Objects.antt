-- Objects of two runs of alike programs: equal but for their classes, the kinds of their slots, what was entered for their elements, and the numbers of their functions.
use Rattle.std.proofs.Common.{◌≡◌, ℕ, zero, suc, Bool, true, false, List, [], ◌∷◌, ◌++◌, map, Option, Some, None, is_some, refl, sym, ap, subst, ◌∙◌}
use Rattle.std.specs.Prelude.{slice_get}
use Rattle.cc_ast.specs.Syntax.{Prim}
use Rattle.cc_ast.specs.declared.tables.Element.{Element}
use Rattle.cc_meaning.specs.Values.{Val, prim, obj, out}
use Rattle.cc_meaning.specs.Operators.{list_eq}
use Rattle.cc_meaning.specs.Names.{index_value, name_prototype}
use Rattle.cc_meaning.specs.Builtins.{ArrayUse, array_concat, concat_use}
use Rattle.cc_meaning.specs.State.{Kind, Slot, Code, Obj, State, Tables}
use Rattle.cc_meaning.specs.Monad.{pick}
use Rattle.cc_meaning.specs.Store.{find_slot, find_own, own_value, Found, built_here, found_here, found_at, found_on, chain_in, chain_of, look_up, own_names, fresh_names, names_on, set_slot, drop_slot, put_in_array, put_by, put_own, changed_at, Use, of_array, of_text, of_math, string_of_value, from_codes, create_object, has_own, call_with}
use Rattle.cc_meaning.specs.Typed.{elements_in, entered_in}
use Rattle.cc_meaning.specs.SlotRules.{has_slot, prototype_of_function}
use Rattle.cc_meaning.specs.Built.{as_arg, arg_of, args_of, array_result, from_result, put_in, on_array, on_code, on_function, outcome_of}
use Rattle.cc_meaning.specs.Acts.{drop_own, object_type}
use Rattle.cc_meaning.specs.Calls.{code_in, method_on, use_found}
use Rattle.cc_meaning.specs.Alike.{Paired, call_pair, own_pair, Around, Numbering, owns}
use Rattle.cc_meaning.specs.Alike as A
use Rattle.cc_tied.specs.Tied.{OptT, none_t, some_t, ListT, nil_t, cons_t}
use Rattle.cc_tied.proofs.Lists.{tied_get, tied_set, opt_more}
use Rattle.cc_tied.proofs.Alike.Frames.{Label, Chain, Grows, chain_later}

-- what is around the frame of a call
unfoldable pub beyond : Bool → Around → Around
beyond true c = own_pair ∷ c
beyond false c = c

pub inside_beyond : (b : Bool) (p : ℕ × ℕ) (c : Around) → A.inside b p c ≡ call_pair p.0 p.1 ∷ beyond b c
unfolding A.inside beyond
inside_beyond true p c = refl
inside_beyond false p c = refl

pub record SlotA (a b : Slot) : Type 0 where
  pub name : a.name ≡ b.name
  pub value : a.value ≡ b.value

-- ---- slots

find_same : {xs ys : List Slot} → ListT SlotA xs ys → (n : List ℕ) → find_slot xs n ≡ find_slot ys n
unfolding find_slot
find_same nil_t n = refl
find_same (cons_t h t) n = rw (h.name, h.value, find_same t n) refl

slots_chosen : (b b' : Bool) → b ≡ b' → {xs xs' ys ys' : List Slot} → ListT SlotA xs ys → ListT SlotA xs' ys' → ListT SlotA (pick b xs xs') (pick b' ys ys')
slots_chosen true true e h k = h
slots_chosen true false e h k = absurd (cc)
slots_chosen false true e h k = absurd (cc)
slots_chosen false false e h k = k

slots_set : {xs ys : List Slot} → ListT SlotA xs ys → (n : List ℕ) (k k' : Kind) (v : Val) → ListT SlotA (set_slot xs n k v) (set_slot ys n k' v)
unfolding set_slot
slots_set nil_t n k k' v = cons_t (record { name = refl; value = refl }) nil_t
slots_set (cons_t h t) n k k' v = slots_chosen _ _ (ap (λ z. list_eq z n) h.name) (cons_t (record { name = h.name; value = refl }) t) (cons_t h (slots_set t n k k' v))

slots_dropped : {xs ys : List Slot} → ListT SlotA xs ys → (n : List ℕ) → ListT SlotA (drop_slot xs n) (drop_slot ys n)
unfolding drop_slot
slots_dropped nil_t n = nil_t
slots_dropped (cons_t h t) n = slots_chosen _ _ (ap (λ z. list_eq z n) h.name) t (cons_t h (slots_dropped t n))

names_same : {xs ys : List Slot} → ListT SlotA xs ys → map (λ (x : Slot). x.name) xs ≡ map (λ (x : Slot). x.name) ys
names_same nil_t = refl
names_same (cons_t h t) = let e = h.name in let d = names_same t in cc

changed_later : (x : Obj) (xs : List Obj) (n : ℕ) (o : Option Obj) (f : Obj → Obj) → changed_at (x ∷ xs) (suc n) o f ≡ x ∷ changed_at xs n o f
unfolding changed_at
changed_later x xs n None f = refl
changed_later x xs n (Some a) f = refl

module _ (S : Tables) (N : Numbering) where
  pub record CodeA (w : List Label) (a b : Code) : Type 0 where
    pub function : Paired N.functions a.function b.function
    pub up : a.up ≡ b.up
    pub chain : Chain w (beyond (owns S a.function) (N.around (a.function, b.function))) a.up

  pub record ObjA (w : List Label) (a b : Obj) : Type 0 where
    pub chain : a.chain ≡ b.chain
    pub elements : a.elements ≡ b.elements
    pub slots : ListT SlotA a.slots b.slots
    pub code : OptT (CodeA w) a.code b.code

  pub code_later : {v w : List Label} → Grows v w → (a b : Code) → CodeA v a b → CodeA w a b
  code_later l a b h = record { function = h.function; up = h.up; chain = chain_later l _ _ h.chain }

  pub obj_later : {v w : List Label} → Grows v w → (a b : Obj) → ObjA v a b → ObjA w a b
  obj_later l a b h = record { chain = h.chain; elements = h.elements; slots = h.slots; code = opt_more (code_later l) h.code }

  module _ (w : List Label) where
    coded : {a b : Option Code} → OptT (CodeA w) a b → is_some a ≡ is_some b
    coded none_t = refl
    coded (some_t h) = refl

    pub code_in_t : {a b : Option Obj} → OptT (ObjA w) a b → OptT (CodeA w) (code_in a) (code_in b)
    unfolding code_in
    code_in_t none_t = none_t
    code_in_t (some_t h) = h.code

    -- ---- what an object has

    pub chain_same : {a b : Option Obj} → OptT (ObjA w) a b → chain_in a ≡ chain_in b
    unfolding chain_in
    chain_same none_t = refl
    chain_same (some_t h) = h.chain

    pub elements_same : {a b : Option Obj} → OptT (ObjA w) a b → elements_in a ≡ elements_in b
    unfolding elements_in
    elements_same none_t = refl
    elements_same (some_t h) = h.elements

    own_same : {a b : Obj} → ObjA w a b → (n : List ℕ) → find_own a n ≡ find_own b n
    unfolding find_own
    own_same h n = rw (h.elements, find_same h.slots n) refl

    pub value_same : {a b : Option Obj} → OptT (ObjA w) a b → (n : List ℕ) → own_value a n ≡ own_value b n
    unfolding own_value
    value_same none_t n = refl
    value_same (some_t h) n = own_same h n

    here_same : {a b : Obj} → ObjA w a b → (n : List ℕ) (r : Found) → built_here a n r ≡ built_here b n r
    unfolding built_here
    here_same h n r = rw (h.elements, coded h.code) refl

    found_same : (o : Option Val) {a b : Obj} → ObjA w a b → (n : List ℕ) (r : Found) → found_here o a n r ≡ found_here o b n r
    unfolding found_here
    found_same (Some v) h n r = refl
    found_same None h n r = here_same h n r

    found_at_same : {a b : Option Obj} → OptT (ObjA w) a b → (n : List ℕ) (r : Found) → found_at a n r ≡ found_at b n r
    unfolding found_at
    found_at_same none_t n r = refl
    found_at_same (some_t {a = a} {b = b} h) n r = found_same (find_own a n) h n r ∙ ap (λ z. found_here z b n r) (own_same h n)

    pub has_slot_same : {a b : Option Obj} → OptT (ObjA w) a b → (n : List ℕ) → has_slot a n ≡ has_slot b n
    unfolding has_slot
    has_slot_same none_t n = refl
    has_slot_same (some_t h) n = rw (find_same h.slots n, coded h.code) refl

    own_names_same : {a b : Option Obj} → OptT (ObjA w) a b → own_names a ≡ own_names b
    unfolding own_names
    own_names_same none_t = refl
    own_names_same (some_t h) = rw (h.elements, coded h.code, names_same h.slots) refl

    pub prototype_same : {a b : Option Obj} → OptT (ObjA w) a b → prototype_of_function a ≡ prototype_of_function b
    unfolding prototype_of_function
    prototype_same none_t = refl
    prototype_same (some_t h) = rw (coded h.code, find_same h.slots name_prototype) refl

    pub type_same : {a b : Option Obj} → OptT (ObjA w) a b → object_type a ≡ object_type b
    unfolding object_type
    type_same none_t = refl
    type_same (some_t h) = rw (coded h.code) refl

    -- ---- what is found from an object on

    module _ {os ps : List Obj} (h : ListT (ObjA w) os ps) where
      pub chain_of_same : (n : ℕ) → chain_of os n ≡ chain_of ps n
      unfolding chain_of
      chain_of_same n = ap (λ z. n ∷ z) (chain_same (tied_get h n))

      found_on_same : (c : List ℕ) (n : List ℕ) → found_on os c n ≡ found_on ps c n
      unfolding found_on
      found_on_same [] n = refl
      found_on_same (m ∷ c) n = found_at_same (tied_get h m) n (found_on os c n) ∙ ap (λ z. found_at (slice_get ps m) n z) (found_on_same c n)

      pub look_up_same : (o : ℕ) (n : List ℕ) → look_up os o n ≡ look_up ps o n
      unfolding look_up
      look_up_same o n = found_on_same (chain_of os o) n ∙ ap (λ z. found_on ps z n) (chain_of_same o)

      pub names_on_same : (met : List (List ℕ)) (c : List ℕ) → names_on os met c ≡ names_on ps met c
      unfolding names_on
      names_on_same met [] = refl
      names_on_same met (m ∷ c) =
          let e : own_names (slice_get os m) ≡ own_names (slice_get ps m) = own_names_same (tied_get h m) in
          ap (λ z. fresh_names met (own_names (slice_get os m)) ++ z) (names_on_same (met ++ fresh_names met (own_names (slice_get os m))) c)
          ∙ ap (λ z. fresh_names met z ++ names_on ps (met ++ fresh_names met z) c) e

      -- ---- uses of what is built in

      arg_same : (v : Val) → arg_of os v ≡ arg_of ps v
      unfolding arg_of
      arg_same (obj n) = ap (λ z. as_arg (obj n) z) (elements_same (tied_get h n))
      arg_same (out n) = refl
      arg_same (prim p) = refl

      args_same : (vs : List Val) → args_of os vs ≡ args_of ps vs
      unfolding args_of
      args_same [] = refl
      args_same (v ∷ vs) = rw (arg_same v, args_same vs) refl

      result_same : (u : ArrayUse) (es vs : List Val) → array_result os u es vs ≡ array_result ps u es vs
      unfolding array_result
      result_same array_concat es vs = ap (λ z. concat_use es z) (args_same vs)
      result_same u es vs = refl

      on_array_same : (u : ArrayUse) (n : ℕ) (es : Option (List Val)) (vs : List Val) → on_array os u n es vs ≡ on_array ps u n es vs
      unfolding on_array
      on_array_same u n None vs = refl
      on_array_same u n (Some es) vs = ap (λ z. from_result n (put_in u vs) z) (result_same u es vs)

    on_code_same : (n : ℕ) {a b : Option Code} → OptT (CodeA w) a b → (vs : List Val) → on_code n a vs ≡ on_code n b vs
    unfolding on_code
    on_code_same n none_t vs = refl
    on_code_same n (some_t h) [] = refl
    on_code_same n (some_t h) (v ∷ vs) = refl

    on_function_same : (n : ℕ) {a b : Option Obj} → OptT (ObjA w) a b → (vs : List Val) → on_function n a vs ≡ on_function n b vs
    unfolding on_function
    on_function_same n none_t vs = refl
    on_function_same n (some_t h) vs = on_code_same n h.code vs

    module _ (s t : State) (h : ListT (ObjA w) s.objs t.objs) where
      array_outcome : (u : ArrayUse) (vs : List Val) → outcome_of s (of_array u) vs ≡ outcome_of t (of_array u) vs
      unfolding outcome_of
      array_outcome u [] = refl
      array_outcome u (prim p ∷ vs) = refl
      array_outcome u (out n ∷ vs) = refl
      array_outcome u (obj n ∷ vs) = on_array_same h u n (elements_in (slice_get s.objs n)) vs ∙ ap (λ z. on_array t.objs u n z vs) (elements_same (tied_get h n))

      call_outcome : (vs : List Val) → outcome_of s call_with vs ≡ outcome_of t call_with vs
      unfolding outcome_of
      call_outcome [] = refl
      call_outcome (prim p ∷ vs) = refl
      call_outcome (out n ∷ vs) = refl
      call_outcome (obj n ∷ vs) = on_function_same n (tied_get h n) vs

      pub outcome_same : (u : Use) (vs : List Val) → outcome_of s u vs ≡ outcome_of t u vs
      unfolding outcome_of
      outcome_same (of_array u) vs = array_outcome u vs
      outcome_same call_with vs = call_outcome vs
      outcome_same (of_text u) vs = refl
      outcome_same (of_math u) vs = refl
      outcome_same string_of_value vs = refl
      outcome_same from_codes vs = refl
      outcome_same create_object vs = refl
      outcome_same has_own vs = refl

      pub method_same : (v : Val) (n : List ℕ) → method_on s v n ≡ method_on t v n
      unfolding method_on
      method_same (obj o) n = ap use_found (look_up_same h o n)
      method_same (out m) n = refl
      method_same (prim p) n = refl

    -- ---- changes

    by_index : {a b : Obj} → ObjA w a b → (n : List ℕ) (k k' : Kind) (v : Val) (vs : List Val) (i : Option ℕ) → ObjA w (put_in_array a vs n k v i) (put_in_array b vs n k' v i)
    unfolding put_in_array
    by_index h n k k' v vs None = record { chain = h.chain; elements = h.elements; slots = slots_set h.slots n k k' v; code = h.code }
    by_index h n k k' v vs (Some i) = record { chain = h.chain; elements = refl; slots = h.slots; code = h.code }

    by_elements : {a b : Obj} → ObjA w a b → (n : List ℕ) (k k' : Kind) (v : Val) (es : Option (List Val)) → ObjA w (put_by es a n k v) (put_by es b n k' v)
    unfolding put_by
    by_elements h n k k' v None = record { chain = h.chain; elements = h.elements; slots = slots_set h.slots n k k' v; code = h.code }
    by_elements h n k k' v (Some vs) = by_index h n k k' v vs (index_value n)

    pub put_tied : {a b : Obj} → ObjA w a b → (n : List ℕ) (k k' : Kind) (v : Val) → ObjA w (put_own n k v a) (put_own n k' v b)
    unfolding put_own
    put_tied {a = a} {b = b} h n k k' v = subst (λ z. ObjA w (put_by a.elements a n k v) (put_by z b n k' v)) h.elements (by_elements h n k k' v a.elements)

    pub drop_tied : {a b : Obj} → ObjA w a b → (n : List ℕ) → ObjA w (drop_own n a) (drop_own n b)
    unfolding drop_own
    drop_tied h n = record { chain = h.chain; elements = h.elements; slots = slots_dropped h.slots n; code = h.code }

    entered_by : (c : Bool) {a b : Obj} (es : List Element) → ObjA w a b → ObjA w (pick c (record a { wanted = es }) a) b
    entered_by true es h = record { chain = h.chain; elements = h.elements; slots = h.slots; code = h.code }
    entered_by false es h = h

    pub entered_left : {a b : Obj} (e : Element) → ObjA w a b → ObjA w (entered_in e a) b
    unfolding entered_in
    entered_left {a = a} e h = entered_by (is_some a.elements) _ h

    entered_by' : (c : Bool) {a b : Obj} (es : List Element) → ObjA w a b → ObjA w a (pick c (record b { wanted = es }) b)
    entered_by' true es h = record { chain = h.chain; elements = h.elements; slots = h.slots; code = h.code }
    entered_by' false es h = h

    pub entered_right : {a b : Obj} (e : Element) → ObjA w a b → ObjA w a (entered_in e b)
    unfolding entered_in
    entered_right {b = b} e h = entered_by' (is_some b.elements) _ h

    -- both are changed, or one alone
    change_at : {os ps : List Obj} → ListT (ObjA w) os ps → (n : ℕ) (f f' : Obj → Obj) → ((a b : Obj) → ObjA w a b → ObjA w (f a) (f' b)) → {a b : Option Obj} → OptT (ObjA w) a b → ListT (ObjA w) (changed_at os n a f) (changed_at ps n b f')
    unfolding changed_at
    change_at h n f f' k none_t = h
    change_at h n f f' k (some_t q) = tied_set h (k _ _ q) n

    pub objs_changed : {os ps : List Obj} → ListT (ObjA w) os ps → (n : ℕ) (f f' : Obj → Obj) → ((a b : Obj) → ObjA w a b → ObjA w (f a) (f' b)) → ListT (ObjA w) (changed_at os n (slice_get os n) f) (changed_at ps n (slice_get ps n) f')
    objs_changed h n f f' k = change_at h n f f' k (tied_get h n)

    pub objs_left : {os ps : List Obj} → ListT (ObjA w) os ps → (n : ℕ) (f : Obj → Obj) → ((a b : Obj) → ObjA w a b → ObjA w (f a) b) → ListT (ObjA w) (changed_at os n (slice_get os n) f) ps
    unfolding changed_at
    objs_left nil_t n f k = nil_t
    objs_left (cons_t h t) zero f k = cons_t (k _ _ h) t
    objs_left (cons_t {a = a} {b = b} {as' = xs} {bs = ys} h t) (suc n) f k = subst (λ z. ListT (ObjA w) z (b ∷ ys)) (sym (changed_later a xs n (slice_get xs n) f)) (cons_t h (objs_left t n f k))

    pub objs_right : {os ps : List Obj} → ListT (ObjA w) os ps → (n : ℕ) (f : Obj → Obj) → ((a b : Obj) → ObjA w a b → ObjA w a (f b)) → ListT (ObjA w) os (changed_at ps n (slice_get ps n) f)
    unfolding changed_at
    objs_right nil_t n f k = nil_t
    objs_right (cons_t h t) zero f k = cons_t (k _ _ h) t
    objs_right (cons_t {a = a} {b = b} {as' = xs} {bs = ys} h t) (suc n) f k = subst (λ z. ListT (ObjA w) (a ∷ xs) z) (sym (changed_later b ys n (slice_get ys n) f)) (cons_t h (objs_right t n f k))
