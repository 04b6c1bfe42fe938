-- What an object is after a change.
use Rattle.std.proofs.Common.{◌≡◌, ℕ, ◌<◌, ◌≤◌, Bool, true, false, ◌&&◌, List, [], ◌∷◌, ◌++◌, length, map, set, Option, Some, None, is_some, nat_eq, nat_lt, refl, sym, ap, ◌∙◌, arith}
use Rattle.std.specs.List.{list_any}
use Rattle.std.specs.Option.{option_map}
use Rattle.std.proofs.lemmas.Bool.{eq-eqb, ne_eqb, lt-ltb, le-ltb}
use Rattle.std.proofs.lemmas.List.{length-map, map-append, map-set}
use Rattle.cc_ast.specs.declared.tables.Element.{Element}
use Rattle.cc_meaning.specs.Values.{Val}
use Rattle.cc_meaning.specs.Operators.{list_eq}
use Rattle.cc_meaning.specs.State.{Kind, Obj}
use Rattle.cc_meaning.specs.Monad.{pick}
use Rattle.cc_meaning.specs.Store.{put_own, put_by, put_in_array, set_slot, set_element, same_numbers}
use Rattle.cc_meaning.specs.Typed.{same_element, entered, entered_in}
use Rattle.cc_value.specs.declared.value.Value.{Value}
use Rattle.cc_value.specs.Bridge.{value_of}
use Rattle.cc_heap.specs.Store.{element_place}

-- ---- a value is put

module _ (n : List ℕ) (k : Kind) (v : Val) (o : Obj) where
  put-at-by : (es : Option (List Val)) (i : ℕ) → element_place es n ≡ Some i → put_by es o n k v ≡ record o { elements = option_map (λ vs. set_element vs i v) es }
  unfolding put_by put_in_array
  put-at-by None i e = cc
  put-at-by (Some vs) i e = ap (put_in_array o vs n k v) e

  pub put-at : (i : ℕ) → element_place o.elements n ≡ Some i → put_own n k v o ≡ record o { elements = option_map (λ vs. set_element vs i v) o.elements }
  unfolding put_own
  put-at i e = put-at-by o.elements i e

  put-slot-by : (es : Option (List Val)) → element_place es n ≡ None → put_by es o n k v ≡ record o { slots = set_slot o.slots n k v }
  unfolding put_by put_in_array
  put-slot-by None e = refl
  put-slot-by (Some vs) e = ap (put_in_array o vs n k v) e

  pub put-slot : element_place o.elements n ≡ None → put_own n k v o ≡ record o { slots = set_slot o.slots n k v }
  unfolding put_own
  put-slot e = put-slot-by o.elements e

-- ---- an element is exchanged, or put at the end

module _ (items : List Value) (place : ℕ) (x : Value) where
  pub set-within : place < length items → map value_of (set items place x) ≡ set_element (map value_of items) place (value_of x)
  unfolding set_element
  set-within h =
      let within : nat_lt place (length (map value_of items)) ≡ true = lt-ltb place (length (map value_of items)) (omega (arith, h, length-map items value_of)) in
      map-set value_of items place x ∙ sym (ap (λ b. pick b (set (map value_of items) place (value_of x)) (map value_of items ++ value_of x ∷ [])) within)

  pub set-past : length items ≤ place → map value_of (items ++ x ∷ []) ≡ set_element (map value_of items) place (value_of x)
  unfolding set_element
  set-past h =
      let past : nat_lt place (length (map value_of items)) ≡ false = le-ltb place (length (map value_of items)) (omega (arith, h, length-map items value_of)) in
      map-append value_of items (x ∷ []) ∙ sym (ap (λ b. pick b (set (map value_of items) place (value_of x)) (map value_of items ++ value_of x ∷ [])) past)

-- ---- element types

pub same-kinds : (d e : Element) → d.kinds ≡ e.kinds → list_eq d.classes e.classes ≡ same_element d e
unfolding same_element same_numbers
same-kinds d e h = sym (ap (λ b. b && list_eq d.classes e.classes) (eq-eqb d.kinds e.kinds h))

pub other-kinds : (d e : Element) → (d.kinds ≡ e.kinds → ⊥) → nat_eq d.kinds e.kinds ≡ same_element d e
unfolding same_element same_numbers
other-kinds d e h =
    let differ = ne_eqb d.kinds e.kinds h in
    differ ∙ sym (ap (λ b. b && list_eq d.classes e.classes) differ)

pub is_some-map : {X Y : Type 0} (f : X → Y) (o : Option X) → is_some (option_map f o) ≡ is_some o
is_some-map f None = refl
is_some-map f (Some x) = refl

module _ (e : Element) (o : Obj) where
  pub enter-none : is_some o.elements ≡ false → o ≡ entered_in e o
  unfolding entered_in
  enter-none h = sym (ap (λ b. pick b (record o { wanted = entered e o.wanted }) o) h)

  pub enter-known : list_any (λ d. same_element d e) o.wanted ≡ true → o ≡ entered_in e o
  unfolding entered_in entered
  enter-known h = by (is_some o.elements) ∙ ap (λ ws. pick (is_some o.elements) (record o { wanted = ws }) o) (sym (ap (λ b. pick b o.wanted (o.wanted ++ e ∷ [])) h))
    where
      by : (b : Bool) → o ≡ pick b (record o { wanted = o.wanted }) o
      by true = refl
      by false = refl

  pub enter-new : is_some o.elements ≡ true → list_any (λ d. same_element d e) o.wanted ≡ false → record o { wanted = o.wanted ++ e ∷ [] } ≡ entered_in e o
  unfolding entered_in entered
  enter-new h k =
      ap (λ ws. record o { wanted = ws }) (sym (ap (λ b. pick b o.wanted (o.wanted ++ e ∷ [])) k))
      ∙ sym (ap (λ b. pick b (record o { wanted = entered e o.wanted }) o) h)
