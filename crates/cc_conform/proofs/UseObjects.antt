-- What uses of objects and functions break.
use Rattle.std.proofs.Common.{◌≡◌, ◌∙◌, ◌<◌, ◌≤◌, ℕ, not, ◌&&◌, List, [], ◌∷◌, length, map, slice_get, Option, Some, None, is_some, refl, sym, ap, arith}
use Rattle.cc_heap.specs.Store.{code_in}
use Rattle.cc_meaning.specs.Built.{outcome_of, rule_in, on_function, on_code}
use Rattle.cc_meaning.specs.SlotRules.{rule_unless}
use Rattle.cc_meaning.specs.State.{Code, Obj, State, Tables}
use Rattle.cc_meaning.specs.Store.{call_with, create_object, has_own}
use Rattle.cc_meaning.specs.Values.{Val}
use Rattle.cc_value.specs.declared.value.Value.{Value}
use Rattle.cc_value.specs.declared.value.Value.TheVariants as V
use Rattle.cc_value.specs.Bridge.{value_of}
use Rattle.cc_conform.specs.Operands.{is_text, is_object, is_prototype, has_none, only}

-- ---- `Object.create`

pub create-one : (T : Tables) (s : State) (v : Value) → rule_unless (is_prototype (value_of v)) 2 ≡ rule_in T s (outcome_of s create_object (value_of v ∷ []))
unfolding rule_unless rule_in outcome_of
create-one T s (V.Object n) = refl
create-one T s V.Null = refl
create-one T s v = refl

pub create-other : (T : Tables) (s : State) (xs : List Value) → only xs ≡ None → Some 2 ≡ rule_in T s (outcome_of s create_object (map value_of xs))
unfolding rule_in outcome_of
create-other T s [] e = refl
create-other T s (x ∷ []) e = cc
create-other T s (V.Object n ∷ y ∷ xs) e = refl
create-other T s (V.Null ∷ y ∷ xs) e = refl
create-other T s (x ∷ y ∷ xs) e = refl

-- ---- `hasOwnProperty`

pub has_own-two : (T : Tables) (s : State) (v w : Value) → rule_unless (is_object (value_of v) && is_text (value_of w)) 2 ≡ rule_in T s (outcome_of s has_own (value_of v ∷ value_of w ∷ []))
unfolding rule_unless rule_in outcome_of
has_own-two T s (V.Object n) (V.Text t) = refl
has_own-two T s (V.Object n) w = refl
has_own-two T s v w = refl

pub has_own-other : (T : Tables) (s : State) (xs : List Value) → (2 ≤ length xs → length xs < 3 → ⊥) → Some 2 ≡ rule_in T s (outcome_of s has_own (map value_of xs))
unfolding rule_in outcome_of
has_own-other T s [] h = refl
has_own-other T s (V.Object n ∷ []) h = refl
has_own-other T s (x ∷ []) h = refl
has_own-other T s (x ∷ y ∷ []) h = absurd (h (omega arith) (omega arith))
has_own-other T s (V.Object n ∷ V.Text t ∷ z ∷ xs) h = refl
has_own-other T s (V.Object n ∷ y ∷ z ∷ xs) h = refl
has_own-other T s (x ∷ y ∷ z ∷ xs) h = refl

-- ---- `call`

code-parts : (T : Tables) (s : State) (n : ℕ) (k : Option Code) (vs : List Val) → rule_unless (is_some k && not (has_none vs)) 2 ≡ rule_in T s (on_code n k vs)
unfolding rule_unless rule_in on_code
code-parts T s n None vs = refl
code-parts T s n (Some c) [] = refl
code-parts T s n (Some c) (v ∷ vs) = refl

function-parts : (T : Tables) (s : State) (n : ℕ) (o : Option Obj) (vs : List Val) → rule_unless (is_some (code_in o) && not (has_none vs)) 2 ≡ rule_in T s (on_function n o vs)
unfolding rule_unless rule_in on_function
function-parts T s n None vs = refl
function-parts T s n (Some o) vs = code-parts T s n o.code vs

pub call-Object : (T : Tables) (s : State) (v : Value) (n : ℕ) (vs : List Val) → v ≡ V.Object n → rule_unless (is_some (code_in (slice_get s.objs n)) && not (has_none vs)) 2 ≡ rule_in T s (outcome_of s call_with (value_of v ∷ vs))
unfolding outcome_of
call-Object T s v n vs e = function-parts T s n (slice_get s.objs n) vs ∙ sym (ap (λ (x : Value). rule_in T s (outcome_of s call_with (value_of x ∷ vs))) e)

pub call-no_object : (T : Tables) (s : State) (v : Value) (vs : List Val) → ((n : ℕ) → v ≡ V.Object n → ⊥) → Some 2 ≡ rule_in T s (outcome_of s call_with (value_of v ∷ vs))
unfolding outcome_of rule_in
call-no_object T s (V.Object n) vs h = absurd (h n refl)
call-no_object T s v vs h = refl

pub call-none : (T : Tables) (s : State) (xs : List Value) → length xs ≡ 0 → Some 2 ≡ rule_in T s (outcome_of s call_with (map value_of xs))
unfolding outcome_of rule_in
call-none T s [] e = refl
call-none T s (x ∷ xs) e = absurd (omega (arith, e))
