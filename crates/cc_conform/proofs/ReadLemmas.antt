-- What reads, questions for a name and `for-in` break, at values of each kind.
use Rattle.std.proofs.Common.{◌≡◌, ℕ, ℤ, Bool, not, ◌&&◌, ◌||◌, List, [], ◌∷◌, Option, Some, None, is_some, unwrap_or, refl, ap}
use Rattle.cc_ast.specs.Syntax.{undefined, whole}
use Rattle.cc_ast.specs.declared.tables.TypeSet.{TypeSet}
use Rattle.cc_ast.specs.declared.tables.Element.{Element}
use Rattle.cc_heap.specs.Store.{value_if_found}
use Rattle.cc_meaning.specs.SlotRules.{field_rule, fields_reached, rule_unless, read_rule, prim_read, probe_rule, walk_rule, unfound_rule}
use Rattle.cc_meaning.specs.State.{Obj, State, Tables}
use Rattle.cc_meaning.specs.Store.{Access, is_kept, Found, found_value, found_use, nothing_found, value_found}
use Rattle.cc_meaning.specs.Typed.{of_all_types, of_type, of_kinds, prim_of, elements_fit}
use Rattle.cc_meaning.specs.Values.{Val, prim}
use Rattle.cc_value.specs.Bridge.{value_of}
use Rattle.cc_value.specs.declared.value.Value.{Value}
use Rattle.cc_value.specs.declared.value.Value.TheVariants as V

-- ---- what is found

pub value_found-parts : (f : Found) → value_found f ≡ unwrap_or (value_if_found f) (prim undefined)
unfolding value_found
value_found-parts (found_value v) = refl
value_found-parts (found_use u) = refl
value_found-parts nothing_found = refl

pub found-rule : (os : List Obj) (all n : List ℕ) (f : Found) (v : Val) → value_if_found f ≡ Some v → None ≡ unfound_rule os all n f
unfolding unfound_rule
found-rule os all n (found_value w) v h = refl
found-rule os all n (found_use u) v h = cc
found-rule os all n nothing_found v h = cc

-- ---- numbers are of the same types

same_elements : (T : Tables) (os : List Obj) (e : Option Element) (x y : ℤ) → elements_fit T os e (prim (whole x)) ≡ elements_fit T os e (prim (whole y))
unfolding elements_fit
same_elements T os None x y = refl
same_elements T os (Some e) x y = refl

same_type : (T : Tables) (os : List Obj) (t : TypeSet) (x y : ℤ) → of_type T os t (prim (whole x)) ≡ of_type T os t (prim (whole y))
unfolding of_type of_kinds prim_of
same_type T os t x y = ap (λ (b : Bool). t.unknown || (of_kinds T os t.kinds t.classes (prim (whole x)) && b)) (same_elements T os t.element x y)

same_types : (T : Tables) (os : List Obj) (ts : List TypeSet) (x y : ℤ) → of_all_types T os ts (prim (whole x)) ≡ of_all_types T os ts (prim (whole y))
unfolding of_all_types
same_types T os [] x y = refl
same_types T os (t ∷ ts) x y = λ i. same_type T os t x y i && same_types T os ts x y i

pub same_field : (T : Tables) (s : State) (o : ℕ) (a : Access) (n : List ℕ) (r : Option ℕ) (x y : ℤ) → field_rule T s o a n r (prim (whole x)) ≡ field_rule T s o a n r (prim (whole y))
unfolding field_rule
same_field T s o a n r x y = ap (λ (b : Bool). rule_unless ((is_some r && not (is_kept T n)) || b) 6) (same_types T s.objs (fields_reached T s.objs o a) x y)

-- ---- values that are no objects

pub read-others : (T : Tables) (s : State) (a : Access) (v : Value) → ((t : List ℕ) → v ≡ V.Text t → ⊥) → ((n : ℕ) → v ≡ V.Object n → ⊥) → ((n : ℕ) → v ≡ V.Outside n → ⊥) → Some 2 ≡ read_rule T s (value_of v) a
unfolding read_rule prim_read
read-others T s a V.Undefined h j k = refl
read-others T s a V.Null h j k = refl
read-others T s a (V.Truth b) h j k = refl
read-others T s a (V.Whole z) h j k = refl
read-others T s a (V.Text t) h j k = absurd (h t refl)
read-others T s a (V.Object n) h j k = absurd (j n refl)
read-others T s a (V.Outside n) h j k = absurd (k n refl)

pub probe-others : (T : Tables) (s : State) (a : Access) (v : Value) → ((n : ℕ) → v ≡ V.Object n → ⊥) → Some 2 ≡ probe_rule T s (value_of v) a
unfolding probe_rule
probe-others T s a V.Undefined h = refl
probe-others T s a V.Null h = refl
probe-others T s a (V.Truth b) h = refl
probe-others T s a (V.Whole z) h = refl
probe-others T s a (V.Text t) h = refl
probe-others T s a (V.Object n) h = absurd (h n refl)
probe-others T s a (V.Outside n) h = refl

pub walk-others : (s : State) (v : Value) → (v ≡ V.Undefined → ⊥) → (v ≡ V.Null → ⊥) → ((n : ℕ) → v ≡ V.Object n → ⊥) → Some 2 ≡ walk_rule s (value_of v)
unfolding walk_rule
walk-others s V.Undefined h j k = absurd (h refl)
walk-others s V.Null h j k = absurd (j refl)
walk-others s (V.Truth b) h j k = refl
walk-others s (V.Whole z) h j k = refl
walk-others s (V.Text t) h j k = refl
walk-others s (V.Object n) h j k = absurd (k n refl)
walk-others s (V.Outside n) h j k = refl
