-- The table of slots by name, read and changed as the list of its slots.
use Rattle.std.proofs.Common.{◌≡◌, ℕ, Bool, true, false, cond, ◌&&◌, List, [], ◌∷◌, Option, Some, None, nat_eq, Vec, Bor, refl, sym, ap, ◌∙◌, subst}
use Rattle.std.specs.Cmp.Lexicographic.{pointwise}
use Rattle.std.specs.Map.{lookup, set_value, remove_entry, values_of}
use Rattle.std.specs.Option.{option_map, option_copied}
use Rattle.std.proofs.lemmas.Cmp.{nat_list_eq_equiv}
use Rattle.cc_meaning.specs.Values.{Val}
use Rattle.cc_meaning.specs.Operators.{list_eq}
use Rattle.cc_meaning.specs.State.{Slot, Kind}
use Rattle.cc_meaning.specs.Monad.{pick}
use Rattle.cc_meaning.specs.Store.{find_slot, set_slot, drop_slot}
use Rattle.indexmap.specs.IndexMap.{insert_entry}
use Rattle.cc_heap.specs.Store.{slot_named}
use Rattle.cc_heap.specs.Table.{AreNamed}

-- ---- texts are compared unit by unit

pub same_texts : (s t : List ℕ) → pointwise nat_eq s t ≡ list_eq s t
unfolding list_eq
same_texts [] [] = refl
same_texts [] (y ∷ ys) = refl
same_texts (x ∷ xs) [] = refl
same_texts (x ∷ xs) (y ∷ ys) = ap (λ b. nat_eq x y && b) (same_texts xs ys)

pub flipped : (s t : List ℕ) → list_eq s t ≡ list_eq t s
flipped s t = sym (same_texts s t) ∙ nat_list_eq_equiv.symm s t ∙ same_texts t s

-- a look-up by q asks for the name n
pub asks : (q n : List ℕ) → q ≡ n → (t : List ℕ) → pointwise nat_eq q t ≡ list_eq t n
asks q n e t = same_texts q t ∙ flipped q t ∙ ap (λ s. list_eq t s) e

none_some : {X : Type 0} {x : X} → None ≡ Some x → ⊥
none_some e = cc

same_some : {X : Type 0} {x y : X} → Some x ≡ Some y → x ≡ y
same_some e = cc

-- ---- the slot of a name, and its value

named_value : (b : Bool) (x : Slot) (o : Option Slot) (r : Option Val) → option_map (λ s. s.value) o ≡ r → option_map (λ s. s.value) (pick b (Some x) o) ≡ pick b (Some x.value) r
named_value true x o r e = refl
named_value false x o r e = e

pub find_named : (xs : List Slot) (n : List ℕ) → option_map (λ s. s.value) (slot_named xs n) ≡ find_slot xs n
unfolding find_slot
find_named [] n = refl
find_named (x ∷ xs) n = named_value (list_eq x.name n) x (slot_named xs n) (find_slot xs n) (find_named xs n)

pub value-copied : (o : Option (Bor Slot)) → option_map (λ s. s.now.value) o ≡ option_map (λ s. s.value) (option_copied o)
value-copied None = refl
value-copied (Some s) = refl

-- ---- a test of the keys by a name

either : (b : Bool) (x o r : Option Slot) → o ≡ r → cond b x o ≡ pick b x r
either true x o r e = refl
either false x o r e = e

module _ {A : Type 0} (n : List ℕ) (test : Vec ℕ A → Bool) (tests : (key : Vec ℕ A) → test key ≡ list_eq key.items n) where
  same_test : (e : Vec ℕ A × Slot) → e.0.items ≡ e.1.name → test e.0 ≡ list_eq e.1.name n
  same_test e named = tests e.0 ∙ ap (λ s. list_eq s n) named

  pub lookup-named : (es : List (Vec ℕ A × Slot)) → AreNamed es → lookup test es ≡ slot_named (values_of es) n
  lookup-named [] h = refl
  lookup-named (e ∷ es) h = ap (λ b. cond b (Some e.1) (lookup test es)) (same_test e h.0) ∙ either (list_eq e.1.name n) (Some e.1) (lookup test es) (slot_named (values_of es) n) (lookup-named es h.1)

  -- ---- a value is put under a name that is there

  module _ (s : Slot) (k : Kind) (v : Val) where
    set-case : (b : Bool) (e : Vec ℕ A × Slot) (es rest : List (Vec ℕ A × Slot)) (o : Option Slot) → cond b (Some e.1) o ≡ Some s
        → (o ≡ Some s → values_of rest ≡ set_slot (values_of es) n k v)
        → values_of (cond b ((e.0, record s { value = v }) ∷ es) (e ∷ rest)) ≡ pick b ((record e.1 { value = v }) ∷ values_of es) (e.1 ∷ set_slot (values_of es) n k v)
    set-case true e es rest o at h = ap (λ (x : Slot). (record x { value = v }) ∷ values_of es) (sym (same_some at))
    set-case false e es rest o at h = ap (λ xs. e.1 ∷ xs) (h at)

    pub set-named : (es : List (Vec ℕ A × Slot)) → AreNamed es → lookup test es ≡ Some s → values_of (set_value test es (record s { value = v })) ≡ set_slot (values_of es) n k v
    unfolding set_slot
    set-named [] h at = absurd (none_some at)
    set-named (e ∷ es) h at =
        let w = record s { value = v } in
        ap (λ b. values_of (cond b ((e.0, w) ∷ es) (e ∷ set_value test es w))) (same_test e h.0)
        ∙ set-case (list_eq e.1.name n) e es (set_value test es w) (lookup test es) (sym (ap (λ b. cond b (Some e.1) (lookup test es)) (same_test e h.0)) ∙ at) (λ p. set-named es h.1 p)

  named-case : (b : Bool) (s w : Slot) (e : Vec ℕ A × Slot) (es rest : List (Vec ℕ A × Slot)) (o : Option Slot) → AreNamed (e ∷ es) → s.name ≡ w.name → cond b (Some e.1) o ≡ Some s → (o ≡ Some s → AreNamed rest) → AreNamed (cond b ((e.0, w) ∷ es) (e ∷ rest))
  named-case true s w e es rest o h same at more = (h.0 ∙ ap (λ x. x.name) (same_some at) ∙ same, h.1)
  named-case false s w e es rest o h same at more = (h.0, more at)

  pub named-set : (s w : Slot) → s.name ≡ w.name → (es : List (Vec ℕ A × Slot)) → AreNamed es → lookup test es ≡ Some s → AreNamed (set_value test es w)
  named-set s w same [] h at = tt
  named-set s w same (e ∷ es) h at = named-case (test e.0) s w e es (set_value test es w) (lookup test es) h same at (λ p. named-set s w same es h.1 p)

  -- ---- a slot is removed

  drop-case : (b : Bool) (e : Vec ℕ A × Slot) (es rest : List (Vec ℕ A × Slot)) (xs : List Slot) → values_of rest ≡ xs → values_of (cond b es (e ∷ rest)) ≡ pick b (values_of es) (e.1 ∷ xs)
  drop-case true e es rest xs h = refl
  drop-case false e es rest xs h = ap (λ ys. e.1 ∷ ys) h

  pub drop-named : (es : List (Vec ℕ A × Slot)) → AreNamed es → values_of (remove_entry test es) ≡ drop_slot (values_of es) n
  unfolding drop_slot
  drop-named [] h = refl
  drop-named (e ∷ es) h =
      ap (λ b. values_of (cond b es (e ∷ remove_entry test es))) (same_test e h.0)
      ∙ drop-case (list_eq e.1.name n) e es (remove_entry test es) (drop_slot (values_of es) n) (drop-named es h.1)

  left-case : (b : Bool) (e : Vec ℕ A × Slot) (es rest : List (Vec ℕ A × Slot)) → AreNamed (e ∷ es) → AreNamed rest → AreNamed (cond b es (e ∷ rest))
  left-case true e es rest h more = h.1
  left-case false e es rest h more = (h.0, more)

  pub named-drop : (es : List (Vec ℕ A × Slot)) → AreNamed es → AreNamed (remove_entry test es)
  named-drop [] h = tt
  named-drop (e ∷ es) h = left-case (test e.0) e es (remove_entry test es) h (named-drop es h.1)

-- ---- a slot of a new name

module _ {A : Type 0} (eq : Vec ℕ A → Vec ℕ A → Bool) (key : Vec ℕ A) (x : Slot) (is_key : key.items ≡ x.name) (tests : (k : Vec ℕ A) → eq key k ≡ list_eq k.items x.name) where
  new-case : (b : Bool) (e : Vec ℕ A × Slot) (es rest : List (Vec ℕ A × Slot)) (o : Option Slot) (xs ys : List Slot) → pick b (Some e.1) o ≡ None → (o ≡ None → values_of rest ≡ xs) → values_of (cond b ((e.0, x) ∷ es) (e ∷ rest)) ≡ pick b ys (e.1 ∷ xs)
  new-case true e es rest o xs ys none h = absurd (none_some (sym none))
  new-case false e es rest o xs ys none h = ap (λ zs. e.1 ∷ zs) (h none)

  pub put-new : (es : List (Vec ℕ A × Slot)) → AreNamed es → slot_named (values_of es) x.name ≡ None → values_of (insert_entry eq es key x) ≡ set_slot (values_of es) x.name x.kind x.value
  unfolding set_slot
  put-new [] h none = refl
  put-new (e ∷ es) h none =
      ap (λ b. values_of (cond b ((e.0, x) ∷ es) (e ∷ insert_entry eq es key x))) (tests e.0 ∙ ap (λ t. list_eq t x.name) h.0)
      ∙ new-case (list_eq e.1.name x.name) e es (insert_entry eq es key x) (slot_named (values_of es) x.name) (set_slot (values_of es) x.name x.kind x.value) ((record e.1 { value = x.value }) ∷ values_of es) none (λ p. put-new es h.1 p)

  named-new-case : (b : Bool) (e : Vec ℕ A × Slot) (es rest : List (Vec ℕ A × Slot)) (o : Option Slot) → AreNamed (e ∷ es) → pick b (Some e.1) o ≡ None → (o ≡ None → AreNamed rest) → AreNamed (cond b ((e.0, x) ∷ es) (e ∷ rest))
  named-new-case true e es rest o h none more = absurd (none_some (sym none))
  named-new-case false e es rest o h none more = (h.0, more none)

  pub named-new : (es : List (Vec ℕ A × Slot)) → AreNamed es → slot_named (values_of es) x.name ≡ None → AreNamed (insert_entry eq es key x)
  named-new [] h none = (is_key, tt)
  named-new (e ∷ es) h none =
      subst (λ b. AreNamed (cond b ((e.0, x) ∷ es) (e ∷ insert_entry eq es key x))) (sym (tests e.0 ∙ ap (λ t. list_eq t x.name) h.0))
      (named-new-case (list_eq e.1.name x.name) e es (insert_entry eq es key x) (slot_named (values_of es) x.name) h none (λ p. named-new es h.1 p))
