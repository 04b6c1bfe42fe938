-- What look-ups meet: functions, built-in methods, and nothing.
use Rattle.std.proofs.Common.{◌≡◌, ◌∙◌, ℕ, Bool, true, false, not, ◌&&◌, ◌||◌, List, [], ◌∷◌, Option, Some, None, is_some, is_none, slice_get, if◌then◌else◌, refl, sym, ap}
use Rattle.std.specs.List.{list_any}
use Rattle.std.specs.Option.{option_map}
use Rattle.cc_heap.specs.Store.{code_in, value_if_found}
use Rattle.cc_heap.proofs.SlotLaws.{flipped}
use Rattle.cc_meaning.specs.Builtins.{ArrayUse, TextUse, array_method, text_method, text_methods, method_of}
use Rattle.cc_meaning.specs.Monad.{pick}
use Rattle.cc_meaning.specs.Names.{name_call, name_hasOwnProperty, common_names, standard_array_names, name_charAt, name_charCodeAt, name_indexOf, name_lastIndexOf, name_slice, name_substring}
use Rattle.cc_meaning.specs.Operators.{is_in, list_eq}
use Rattle.cc_meaning.specs.SlotRules.{is_function, has_function, has_array, unfound_rule, rule_if}
use Rattle.cc_meaning.specs.State.{Obj}
use Rattle.cc_meaning.specs.Store.{Found, found_use, nothing_found, found_on, found_at, found_here, find_own, built_here, array_found, call_with, has_own}
use Rattle.cc_meaning.specs.Typed.{elements_in}
use Rattle.cc_meaning.specs.Values.{Val}
use Rattle.cc_conform.specs.Met.{hides_at}

pub some_map : {A B : Type 0} (f : A → B) (o : Option A) → is_some (option_map f o) ≡ is_some o
some_map f None = refl
some_map f (Some a) = refl

pub none_map : {A B : Type 0} (f : A → B) (o : Option A) → is_none (option_map f o) ≡ not (is_some o)
none_map f None = refl
none_map f (Some a) = refl

pub function-code : (o : Option Obj) → is_function o ≡ is_some (code_in o)
unfolding is_function
function-code None = refl
function-code (Some o) = refl

pub hides-parts : (o : Option Obj) (n : List ℕ) → hides_at o n ≡ pick (is_some (elements_in o)) (is_some (array_method n)) (is_some (code_in o) && list_eq n name_call)
unfolding elements_in
hides-parts None n = refl
hides-parts (Some o) n = refl

-- ---- chains

pub arrays_on : (os : List Obj) (cs : List ℕ) → has_array os cs ≡ list_any (λ c. is_some (elements_in (slice_get os c))) cs
unfolding has_array
arrays_on os [] = refl
arrays_on os (c ∷ cs) = ap (λ (b : Bool). is_some (elements_in (slice_get os c)) || b) (arrays_on os cs)

pub functions_on : (os : List Obj) (cs : List ℕ) → has_function os cs ≡ list_any (λ c. is_function (slice_get os c)) cs
unfolding has_function
functions_on os [] = refl
functions_on os (c ∷ cs) = ap (λ (b : Bool). is_function (slice_get os c) || b) (functions_on os cs)

-- ---- a look-up that comes to no value

-- the name is one of the standard library without a meaning here, that a look-up on this chain would come to
standard : List Obj → List ℕ → List ℕ → Bool
standard os all n = is_in n common_names || (is_in n standard_array_names && has_array os all)

-- what is built in at an object, or else what comes after it
built : (os : List Obj) (all n : List ℕ) (e : Bool) (m : Option ArrayUse) (k any st : Bool) (rest : Found) → value_if_found (pick e (array_found m rest) (pick k (found_use call_with) rest)) ≡ None
    → (value_if_found rest ≡ None → unfound_rule os all n rest ≡ rule_if (any || st) 10)
    → unfound_rule os all n (pick e (array_found m rest) (pick k (found_use call_with) rest)) ≡ rule_if ((pick e (is_some m) k || any) || st) 10
unfolding array_found unfound_rule rule_if
built os all n true None k any st rest h more = more h
built os all n true (Some u) k any st rest h more = refl
built os all n false m true any st rest h more = refl
built os all n false m false any st rest h more = more h

here : (os : List Obj) (all : List ℕ) (own : Option Val) (o : Obj) (n : List ℕ) (any st : Bool) (rest : Found) → value_if_found (found_here own o n rest) ≡ None
    → (value_if_found rest ≡ None → unfound_rule os all n rest ≡ rule_if (any || st) 10) → unfound_rule os all n (found_here own o n rest) ≡ rule_if ((hides_at (Some o) n || any) || st) 10
unfolding found_here built_here
here os all None o n any st rest h more = built os all n (is_some o.elements) (array_method n) (is_some o.code && list_eq n name_call) any st rest h more
here os all (Some v) o n any st rest h more = cc

at : (os : List Obj) (all : List ℕ) (o : Option Obj) (n : List ℕ) (any st : Bool) (rest : Found) → value_if_found (found_at o n rest) ≡ None
    → (value_if_found rest ≡ None → unfound_rule os all n rest ≡ rule_if (any || st) 10) → unfound_rule os all n (found_at o n rest) ≡ rule_if ((hides_at o n || any) || st) 10
unfolding found_at
at os all None n any st rest h more = more h
at os all (Some o) n any st rest h more = here os all (find_own o n) o n any st rest h more

ended : (os : List Obj) (all n : List ℕ) (own : Bool) → unfound_rule os all n (pick own (found_use has_own) nothing_found) ≡ rule_if (own || standard os all n) 10
unfolding unfound_rule rule_if standard
ended os all n true = refl
ended os all n false = refl

-- the rule asks for arrays on the whole chain, of which the look-up goes through `cs`
on : (os : List Obj) (all cs n : List ℕ) → value_if_found (found_on os cs n) ≡ None
    → unfound_rule os all n (found_on os cs n) ≡ rule_if (list_any (λ c. hides_at (slice_get os c) n) cs || (list_eq n name_hasOwnProperty || standard os all n)) 10
unfolding found_on
on os all [] n h = ended os all n (list_eq n name_hasOwnProperty)
on os all (c ∷ cs) n h = at os all (slice_get os c) n (list_any (λ d. hides_at (slice_get os d) n) cs) (list_eq n name_hasOwnProperty || standard os all n) (found_on os cs n) h (on os all cs n)

or-assoc : (a b c : Bool) → ((a || b) || c) ≡ (a || (b || c))
or-assoc true b c = refl
or-assoc false b c = refl

pub unfound-parts : (os : List Obj) (cs n : List ℕ) → value_if_found (found_on os cs n) ≡ None
    → rule_if ((list_any (λ c. hides_at (slice_get os c) n) cs || list_eq n name_hasOwnProperty) || (is_in n common_names || (is_in n standard_array_names && has_array os cs))) 10 ≡ unfound_rule os cs n (found_on os cs n)
unfolding standard
unfound-parts os cs n h = ap (λ (b : Bool). rule_if b 10) (or-assoc (list_any (λ c. hides_at (slice_get os c) n) cs) (list_eq n name_hasOwnProperty) (standard os cs n)) ∙ sym (on os cs cs n h)

-- ---- the methods of texts

six : (a b c d e f : Bool) (s t u v w x : TextUse) → is_some (if a then Some s else if b then Some t else if c then Some u else if d then Some v else if e then Some w else if f then Some x else None) ≡ (((((a || b) || c) || d) || e) || f)
six true b c d e f s t u v w x = refl
six false true c d e f s t u v w x = refl
six false false true d e f s t u v w x = refl
six false false false true e f s t u v w x = refl
six false false false false true f s t u v w x = refl
six false false false false false true s t u v w x = refl
six false false false false false false s t u v w x = refl

pub text_methods-parts : (n : List ℕ) → is_some (text_method n) ≡ (((((list_eq n name_charAt || list_eq n name_charCodeAt) || list_eq n name_indexOf) || list_eq n name_lastIndexOf) || list_eq n name_slice) || list_eq n name_substring)
unfolding text_method text_methods method_of
text_methods-parts n =
    six (list_eq name_charAt n) (list_eq name_charCodeAt n) (list_eq name_indexOf n) (list_eq name_lastIndexOf n) (list_eq name_slice n) (list_eq name_substring n) _ _ _ _ _ _
    ∙ (λ i. (((((flipped name_charAt n i || flipped name_charCodeAt n i) || flipped name_indexOf n i) || flipped name_lastIndexOf n i) || flipped name_slice n i) || flipped name_substring n i))
