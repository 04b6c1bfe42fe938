-- What writes and removals break, by cases.
use Rattle.std.proofs.Common.{◌≡◌, ℕ, Bool, true, false, not, ◌&&◌, ◌||◌, nat_lt, List, [], ◌∷◌, length, Option, Some, None, is_some, refl, sym, ap}
use Rattle.std.specs.Option.{option_map}
use Rattle.cc_heap.specs.Store.{code_in, wanted_in}
use Rattle.cc_meaning.specs.Names.{name_length, name_prototype}
use Rattle.cc_meaning.specs.Operators.{list_eq}
use Rattle.cc_meaning.specs.SlotRules.{array_write_rule, element_rule, has_slot, rule_if, rule_unless, write_rule, remove_rule}
use Rattle.cc_meaning.specs.State.{Obj, State, Tables}
use Rattle.cc_meaning.specs.Store.{Access, find_slot, slots_in}
use Rattle.cc_meaning.specs.Typed.{elements_in, of_all_elements}
use Rattle.cc_meaning.specs.Values.{Val}
use Rattle.cc_value.specs.Bridge.{value_of}
use Rattle.cc_value.specs.declared.value.Value.{Value}
use Rattle.cc_value.specs.declared.value.Value.TheVariants as V

-- ---- arrays

pub array-index : (es : Option (List Val)) (n : List ℕ) (count i : ℕ) → Some count ≡ option_map length es → rule_if (nat_lt count i) 2 ≡ array_write_rule es n (Some i)
unfolding array_write_rule
array-index None n count i e = cc
array-index (Some vs) n count i e = let same : count ≡ length vs = cc in ap (λ (m : ℕ). rule_if (nat_lt m i) 2) same

pub array-length : (es : Option (List Val)) (n : List ℕ) (count : ℕ) → Some count ≡ option_map length es → rule_if (list_eq n name_length) 2 ≡ array_write_rule es n None
unfolding array_write_rule
array-length None n count e = cc
array-length (Some vs) n count e = refl

pub array-none : (es : Option (List Val)) (n : List ℕ) (i : Option ℕ) → None ≡ option_map length es → ◌≡◌ {A = Option ℕ} None (array_write_rule es n i)
unfolding array_write_rule
array-none None n i e = refl
array-none (Some vs) n i e = cc

pub element-no_index : (T : Tables) (os : List Obj) (o : Option Obj) (i : Option ℕ) (v : Val) → is_some i ≡ false → ◌≡◌ {A = Option ℕ} None (element_rule T os o i v)
unfolding element_rule
element-no_index T os None i v e = refl
element-no_index T os (Some o) None v e = refl
element-no_index T os (Some o) (Some i) v e = cc

pub element-no_array : (T : Tables) (os : List Obj) (o : Option Obj) (i : Option ℕ) (v : Val) → is_some (elements_in o) ≡ false → ◌≡◌ {A = Option ℕ} None (element_rule T os o i v)
unfolding element_rule elements_in rule_unless
element-no_array T os None i v e = refl
element-no_array T os (Some o) None v e = refl
element-no_array T os (Some o) (Some i) v e = sym (ap (λ (b : Bool). rule_unless (not b || of_all_elements T os o.wanted (v ∷ [])) 6) e)

pub element-parts : (T : Tables) (os : List Obj) (o : Option Obj) (i : Option ℕ) (v : Val) → is_some i ≡ true → is_some (elements_in o) ≡ true → rule_unless (of_all_elements T os (wanted_in o) (v ∷ [])) 6 ≡ element_rule T os o i v
unfolding element_rule elements_in
element-parts T os None i v h e = cc
element-parts T os (Some o) None v h e = cc
element-parts T os (Some o) (Some i) v h e = sym (ap (λ (b : Bool). rule_unless (not b || of_all_elements T os o.wanted (v ∷ [])) 6) e)

-- ---- slots

pub slot-parts : (o : Option Obj) (n : List ℕ) → has_slot o n ≡ (is_some (find_slot (slots_in o) n) && not (is_some (code_in o) && list_eq n name_prototype))
unfolding has_slot slots_in find_slot
slot-parts None n = refl
slot-parts (Some o) n = refl

-- ---- values that have no slots

pub write-others : (T : Tables) (s : State) (a : Access) (v : Value) (x : Val) (d : Bool) → ((n : ℕ) → v ≡ V.Object n → ⊥) → ((n : ℕ) → v ≡ V.Outside n → ⊥) → Some 2 ≡ write_rule T s (value_of v) a x d
unfolding write_rule
write-others T s a V.Undefined x d h j = refl
write-others T s a V.Null x d h j = refl
write-others T s a (V.Truth b) x d h j = refl
write-others T s a (V.Whole z) x d h j = refl
write-others T s a (V.Text t) x d h j = refl
write-others T s a (V.Object n) x d h j = absurd (h n refl)
write-others T s a (V.Outside n) x d h j = absurd (j n refl)

pub remove-others : (T : Tables) (s : State) (a : Access) (v : Value) → ((n : ℕ) → v ≡ V.Object n → ⊥) → Some 2 ≡ remove_rule T s (value_of v) a
unfolding remove_rule
remove-others T s a V.Undefined h = refl
remove-others T s a V.Null h = refl
remove-others T s a (V.Truth b) h = refl
remove-others T s a (V.Whole z) h = refl
remove-others T s a (V.Text t) h = refl
remove-others T s a (V.Object n) h = absurd (h n refl)
remove-others T s a (V.Outside n) h = refl
