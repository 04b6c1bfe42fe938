-- What uses of arrays break, with what they put in.
use Rattle.std.proofs.Common.{◌≡◌, ◌∙◌, ◌+◌, ℕ, Bool, true, false, pos, List, [], ◌∷◌, ◌++◌, length, map, slice_get, Option, Some, None, length-append, refl, sym, ap, arith}
use Rattle.std.proofs.lemmas.List.{length-map}
use Rattle.cc_ast.specs.declared.tables.Element.{Element}
use Rattle.cc_heap.specs.Store.{wanted_in}
use Rattle.cc_meaning.specs.Built as Built
use Rattle.cc_meaning.specs.Built.{outcome_of, rule_in, from_result, change_rule, on_array}
use Rattle.cc_meaning.specs.Builtins.{ArrayUse, ArrayResult, changes, array_breaks, array_use, array_push, array_unshift, array_length, first_of_two}
use Rattle.cc_meaning.specs.Operators.{number}
use Rattle.cc_meaning.specs.Rules.{outcome_rule}
use Rattle.cc_meaning.specs.SlotRules.{rule_unless}
use Rattle.cc_meaning.specs.State.{Obj, State, Tables}
use Rattle.cc_meaning.specs.Store.{of_array}
use Rattle.cc_meaning.specs.Typed.{all_of_element, elements_in, of_all_elements}
use Rattle.cc_meaning.specs.Values.{Val}
use Rattle.cc_value.specs.declared.value.Value.{Value}
use Rattle.cc_value.specs.declared.value.Value.TheVariants as V
use Rattle.cc_value.specs.Bridge.{value_of}
use Rattle.cc_conform.specs.Uses.{result_rule}
use Rattle.cc_conform.proofs.UseArrays.{changed-rule}

-- ---- what is put in

wanted-parts : (T : Tables) (os : List Obj) (o : Option Obj) (vs : List Val) → Built.wanted_in o vs T os ≡ of_all_elements T os (wanted_in o) vs
unfolding Built.wanted_in of_all_elements
wanted-parts T os None vs = refl
wanted-parts T os (Some o) vs = refl

change-parts : (b : Bool) → change_rule b ≡ rule_unless b 6
unfolding change_rule rule_unless
change-parts true = refl
change-parts false = refl

pub entered : (T : Tables) (s : State) (n : ℕ) (vs : List Val) (r : ArrayResult) → first_of_two (result_rule r) (rule_unless (of_all_elements T s.objs (wanted_in (slice_get s.objs n)) vs) 6) ≡ rule_in T s (from_result n vs r)
unfolding rule_in from_result
entered T s n vs (changes c) = sym (ap change_rule (wanted-parts T s.objs (slice_get s.objs n) vs) ∙ change-parts (of_all_elements T s.objs (wanted_in (slice_get s.objs n)) vs))
entered T s n vs (array_breaks k) = refl

none-wanted : (T : Tables) (os : List Obj) (es : List Element) → of_all_elements T os es [] ≡ true
unfolding of_all_elements all_of_element
none-wanted T os [] = refl
none-wanted T os (e ∷ es) = none-wanted T os es

or_none : (o : Option ℕ) → first_of_two o None ≡ o
or_none None = refl
or_none (Some k) = refl

-- nothing is put in
pub still : (T : Tables) (s : State) (n : ℕ) (r : ArrayResult) → result_rule r ≡ rule_in T s (from_result n [] r)
unfolding rule_unless
still T s n r =
    sym (or_none (result_rule r)) ∙ ap (λ (b : Bool). first_of_two (result_rule r) (rule_unless b 6)) (sym (none-wanted T s.objs (wanted_in (slice_get s.objs n)))) ∙ entered T s n [] r

-- ---- lengths

pub push-length : (xs ys : List Value) → outcome_rule (number (pos (length xs + length ys))) ≡ result_rule (array_use array_push (map value_of xs) (map value_of ys))
unfolding array_use array_length
push-length xs ys =
    let n : length xs + length ys ≡ length (map value_of xs ++ map value_of ys) = omega (arith, length-append (map value_of xs) (map value_of ys), length-map xs value_of, length-map ys value_of) in
    ap (λ (m : ℕ). outcome_rule (number (pos m))) n ∙ sym (changed-rule (map value_of xs ++ map value_of ys) (number (pos (length (map value_of xs ++ map value_of ys)))))

pub unshift-length : (xs ys : List Value) → outcome_rule (number (pos (length xs + length ys))) ≡ result_rule (array_use array_unshift (map value_of xs) (map value_of ys))
unfolding array_use array_length
unshift-length xs ys =
    let n : length xs + length ys ≡ length (map value_of ys ++ map value_of xs) = omega (arith, length-append (map value_of ys) (map value_of xs), length-map xs value_of, length-map ys value_of) in
    ap (λ (m : ℕ). outcome_rule (number (pos m))) n ∙ sym (changed-rule (map value_of ys ++ map value_of xs) (number (pos (length (map value_of ys ++ map value_of xs)))))

-- ---- receivers

pub array-receiver : (T : Tables) (s : State) (u : ArrayUse) (v : Value) (n : ℕ) (vs : List Val) (es : Option (List Val)) → v ≡ V.Object n → es ≡ elements_in (slice_get s.objs n)
    → rule_in T s (on_array s.objs u n es vs) ≡ rule_in T s (outcome_of s (of_array u) (value_of v ∷ vs))
unfolding outcome_of
array-receiver T s u v n vs es e is = ap (λ (o : Option (List Val)). rule_in T s (on_array s.objs u n o vs)) is ∙ sym (ap (λ (x : Value). rule_in T s (outcome_of s (of_array u) (value_of x ∷ vs))) e)

pub no_elements : (T : Tables) (s : State) (u : ArrayUse) (n : ℕ) (vs : List Val) → Some 2 ≡ rule_in T s (on_array s.objs u n None vs)
unfolding rule_in on_array
no_elements T s u n vs = refl

pub no_array-receiver : (T : Tables) (s : State) (u : ArrayUse) (v : Value) (vs : List Val) → ((n : ℕ) → v ≡ V.Object n → ⊥) → Some 2 ≡ rule_in T s (outcome_of s (of_array u) (value_of v ∷ vs))
unfolding outcome_of rule_in
no_array-receiver T s u (V.Object n) vs h = absurd (h n refl)
no_array-receiver T s u v vs h = refl

pub no-array : (T : Tables) (s : State) (u : ArrayUse) (xs : List Value) → length xs ≡ 0 → Some 2 ≡ rule_in T s (outcome_of s (of_array u) (map value_of xs))
unfolding outcome_of rule_in
no-array T s u [] e = refl
no-array T s u (x ∷ xs) e = absurd (omega (arith, e))
