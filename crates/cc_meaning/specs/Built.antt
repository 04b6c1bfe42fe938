-- Uses of what is built in, on a store (ECMA-262 5.1, 15): what they come to, and what they break.
use Rattle.std.specs.Prelude.{ℕ, ◌∷◌, Bool, true, false, List, [], slice_get, Option, Some, None}
use Rattle.cc_ast.specs.Syntax.{Prim, null, text}
use Rattle.cc_meaning.specs.Values.{Val, prim, obj, out}
use Rattle.cc_meaning.specs.Operators.{Outcome, gives, breaks}
use Rattle.cc_meaning.specs.Builtins.{ArrayUse, array_push, array_unshift, array_concat, Arg, value_arg, list_arg, ArrayResult, changes, array_breaks, ArrayChange, array_use, concat_use, text_use, math_use, string_use, from_char_codes}
use Rattle.cc_meaning.specs.State.{Code, Obj, Tables, State}
use Rattle.cc_meaning.specs.Store.{Use, of_array, of_text, of_math, string_of_value, from_codes, create_object, has_own, call_with}
use Rattle.cc_meaning.specs.Typed.{of_all_elements, elements_in}

-- what a use comes to: a value; a change of an array's elements, with the values that are put in; a
-- new object with a prototype or none; a question whether an object itself has a name; a call of a
-- function on a receiver; or the rule that it breaks
pub data BuiltOutcome : Type 0 where
  built_value : Val → BuiltOutcome
  built_change : (array : ℕ) → (new : List Val) → ArrayChange → BuiltOutcome
  built_object : (prototype : Option ℕ) → BuiltOutcome
  built_question : (object : ℕ) → (name : List ℕ) → BuiltOutcome
  built_call : (function : ℕ) → (receiver : Val) → List Val → BuiltOutcome
  built_breaks : (rule : ℕ) → BuiltOutcome

unfoldable pub from_outcome : Outcome → BuiltOutcome
from_outcome (gives v) = built_value v
from_outcome (breaks r) = built_breaks r

-- the values that a use puts into the array
unfoldable pub put_in : ArrayUse → List Val → List Val
put_in array_push vs = vs
put_in array_unshift vs = vs
put_in _ vs = []

unfoldable pub from_result : ℕ → List Val → ArrayResult → BuiltOutcome
from_result n new (changes c) = built_change n new c
from_result n new (array_breaks r) = built_breaks r

unfoldable pub as_arg : Val → Option (List Val) → Arg
as_arg v None = value_arg v
as_arg v (Some es) = list_arg es

unfoldable pub arg_of : List Obj → Val → Arg
unfolding as_arg elements_in
arg_of os (obj n) = as_arg (obj n) (elements_in (slice_get os n))
arg_of os (out n) = value_arg (out n)
arg_of os (prim p) = value_arg (prim p)

unfoldable pub args_of : List Obj → List Val → List Arg
unfolding arg_of
args_of os [] = []
args_of os (v ∷ vs) = arg_of os v ∷ args_of os vs

unfoldable pub array_result : List Obj → ArrayUse → List Val → List Val → ArrayResult
unfolding concat_use args_of array_use
array_result os array_concat es vs = concat_use es (args_of os vs)
array_result os u es vs = array_use u es vs

unfoldable pub on_array : List Obj → ArrayUse → ℕ → Option (List Val) → List Val → BuiltOutcome
unfolding from_result put_in array_result
on_array os u n None vs = built_breaks 2
on_array os u n (Some es) vs = from_result n (put_in u vs) (array_result os u es vs)

unfoldable pub on_code : ℕ → Option Code → List Val → BuiltOutcome
on_code n None vs = built_breaks 2
on_code n (Some c) [] = built_breaks 2
on_code n (Some c) (v ∷ vs) = built_call n v vs

unfoldable pub on_function : ℕ → Option Obj → List Val → BuiltOutcome
unfolding on_code
on_function n None vs = built_breaks 2
on_function n (Some o) vs = on_code n o.code vs

-- the receiver comes first where the use has one
unfoldable pub outcome_of : State → Use → List Val → BuiltOutcome
unfolding on_array elements_in on_function from_outcome text_use math_use string_use from_char_codes
outcome_of s (of_array u) (obj n ∷ vs) = on_array s.objs u n (elements_in (slice_get s.objs n)) vs
outcome_of s (of_text u) (prim (text t) ∷ vs) = from_outcome (text_use u t vs)
outcome_of s (of_math u) vs = from_outcome (math_use u vs)
outcome_of s string_of_value vs = from_outcome (string_use vs)
outcome_of s from_codes vs = from_outcome (from_char_codes vs)
outcome_of s create_object (obj n ∷ []) = built_object (Some n)
outcome_of s create_object (prim null ∷ []) = built_object None
outcome_of s has_own (obj n ∷ prim (text t) ∷ []) = built_question n t
outcome_of s call_with (obj n ∷ vs) = on_function n (slice_get s.objs n) vs
outcome_of s u vs = built_breaks 2

unfoldable pub wanted_in : Option Obj → List Val → Tables → List Obj → Bool
unfolding of_all_elements
wanted_in None vs T os = true
wanted_in (Some o) vs T os = of_all_elements T os o.wanted vs

unfoldable pub change_rule : Bool → Option ℕ
change_rule true = None
change_rule false = Some 6

unfoldable pub rule_in : Tables → State → BuiltOutcome → Option ℕ
unfolding wanted_in change_rule
rule_in T s (built_value v) = None
rule_in T s (built_change n new c) = change_rule (wanted_in (slice_get s.objs n) new T s.objs)
rule_in T s (built_object p) = None
rule_in T s (built_question n t) = None
rule_in T s (built_call n v vs) = None
rule_in T s (built_breaks r) = Some r
