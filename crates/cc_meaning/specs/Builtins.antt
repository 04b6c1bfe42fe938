-- Uses of what is built in (ECMA-262 5.1, 15), as far as they need no store: an array is here the
-- list of its elements. Rule 2 asks for the arguments of the built-in table, rule 1 for a number.
use Rattle.std.specs.Prelude.{ℕ, suc, ◌-◌, min, max, ℤ, pos, negsuc, Bool, true, false, nat_eq, if◌then◌else◌, List, [], ◌∷◌, ◌++◌, length, take, drop, slice_get, slice_range, Option, Some, None, codes, unsigned_abs, ◌&&◌}
use Rattle.std.specs.Int.{int_max, int_min, int_rem_euclid}
use Rattle.cc_ast.specs.Syntax.{Prim, undefined, null, truth, whole, text}
use Rattle.cc_meaning.specs.Values.{Val, prim}
use Rattle.cc_meaning.specs.Operators.{Outcome, gives, breaks, number, list_eq, prim_text, strict_equal}
use Rattle.cc_meaning.specs.Names.{name_push, name_unshift, name_pop, name_shift, name_slice, name_concat, name_join, name_indexOf, name_charAt, name_charCodeAt, name_lastIndexOf, name_substring, name_max, name_min, name_abs}

-- ---- shared parts

-- what a table of methods has under a name
unfoldable pub method_of : {A : Type 0} → List (List ℕ × A) → List ℕ → Option A
unfolding list_eq
method_of [] n = None
method_of (m ∷ ms) n = if list_eq m.0 n then Some m.1 else method_of ms n

abbrev pub missing : Val
missing = prim undefined

unfoldable pub or_undefined : Option Val → Val
or_undefined None = missing
or_undefined (Some v) = v

-- a place in a list of this length: counted from the end where it is negative, and never past
-- either end (15.4.4.10, 15.5.4.13)
unfoldable pub place_from_end : (len : ℕ) → ℤ → ℕ
place_from_end len (pos n) = min n len
place_from_end len (negsuc n) = len - suc n

-- the same, where a negative number is the beginning (15.5.4.15)
unfoldable pub place_within : (len : ℕ) → ℤ → ℕ
place_within len (pos n) = min n len
place_within len (negsuc n) = 0

-- the place of an item or a part, or -1
unfoldable pub position_number : Option ℕ → Outcome
unfolding number
position_number None = number (negsuc 0)
position_number (Some k) = number (pos k)

-- ---- texts

pub data TextUse : Type 0 where
  text_char_at text_char_code_at text_index_of text_last_index_of text_slice text_substring : TextUse

unfoldable pub text_methods : List (List ℕ × TextUse)
text_methods = (name_charAt, text_char_at) ∷ (name_charCodeAt, text_char_code_at) ∷ (name_indexOf, text_index_of) ∷ (name_lastIndexOf, text_last_index_of) ∷ (name_slice, text_slice) ∷ (name_substring, text_substring) ∷ []

unfoldable pub text_method : List ℕ → Option TextUse
unfolding method_of text_methods
text_method n = method_of text_methods n

abbrev pub gives_text : List ℕ → Outcome
gives_text t = gives (prim (text t))

-- the unit at a place, as a text (15.5.4.4)
unfoldable pub char_at : List ℕ → ℤ → List ℕ
char_at t (pos n) = slice_range t n (suc n)
char_at t (negsuc n) = []

unfoldable pub code_outcome : Option ℕ → Outcome
unfolding number
code_outcome None = breaks 1
code_outcome (Some c) = number (pos c)

-- the unit at a place, as a number (15.5.4.5)
unfoldable pub char_code_at : List ℕ → ℤ → Outcome
unfolding code_outcome
char_code_at t (pos n) = code_outcome (slice_get t n)
char_code_at t (negsuc n) = breaks 1

-- t begins with s
unfoldable pub begins_with : (s t : List ℕ) → Bool
begins_with [] t = true
begins_with (x ∷ xs) [] = false
begins_with (x ∷ xs) (y ∷ ys) = nat_eq x y && begins_with xs ys

-- k, where t begins with s
unfoldable pub here : ℕ → (s t : List ℕ) → Option ℕ
unfolding begins_with
here k s t = if begins_with s t then Some k else None

abbrev pub first_of_two : Option ℕ → Option ℕ → Option ℕ
first_of_two (Some k) other = Some k
first_of_two None other = other

-- the first and the last place at which s stands in the text t, whose first unit has place k
-- (15.5.4.7, 15.5.4.8)
unfoldable pub first_place : ℕ → (s t : List ℕ) → Option ℕ
unfolding here
first_place k s [] = here k s []
first_place k s (c ∷ t) = first_of_two (here k s (c ∷ t)) (first_place (suc k) s t)

unfoldable pub last_place : ℕ → (s t : List ℕ) → Option ℕ
unfolding here
last_place k s [] = here k s []
last_place k s (c ∷ t) = first_of_two (last_place (suc k) s t) (here k s (c ∷ t))

-- the part between two places, of which either may come first (15.5.4.15)
unfoldable pub part_between : List ℕ → ℕ → ℕ → List ℕ
part_between t i j = slice_range t (min i j) (max i j)

unfoldable pub text_use : TextUse → List ℕ → List Val → Outcome
unfolding char_at char_code_at position_number first_place last_place place_from_end place_within part_between
text_use text_char_at t (prim (whole i) ∷ []) = gives_text (char_at t i)
text_use text_char_code_at t (prim (whole i) ∷ []) = char_code_at t i
text_use text_index_of t (prim (text s) ∷ []) = position_number (first_place 0 s t)
text_use text_last_index_of t (prim (text s) ∷ []) = position_number (last_place 0 s t)
text_use text_slice t (prim (whole i) ∷ []) = gives_text (drop (place_from_end (length t) i) t)
text_use text_slice t (prim (whole i) ∷ prim (whole j) ∷ []) = gives_text (slice_range t (place_from_end (length t) i) (place_from_end (length t) j))
text_use text_substring t (prim (whole i) ∷ []) = gives_text (drop (place_within (length t) i) t)
text_use text_substring t (prim (whole i) ∷ prim (whole j) ∷ []) = gives_text (part_between t (place_within (length t) i) (place_within (length t) j))
text_use _ t vs = breaks 2

-- ---- `String(v)` (15.5.1.1) and `String.fromCharCode(..)` (15.5.3.2)

unfoldable pub string_of : Val → Outcome
unfolding prim_text
string_of (prim p) = gives_text (prim_text p)
string_of _ = breaks 2

unfoldable pub string_use : List Val → Outcome
unfolding string_of
string_use (v ∷ []) = string_of v
string_use _ = breaks 2

-- ToUint16 (9.7)
unfoldable pub to_uint16 : ℤ → ℕ
to_uint16 z = unsigned_abs (int_rem_euclid z (pos 65536))

unfoldable pub codes_after : List ℕ → List Val → Outcome
unfolding to_uint16
codes_after t [] = gives_text t
codes_after t (prim (whole z) ∷ vs) = codes_after (t ++ to_uint16 z ∷ []) vs
codes_after t _ = breaks 2

unfoldable pub from_char_codes : List Val → Outcome
unfolding codes_after
from_char_codes vs = codes_after [] vs

-- ---- `Math` (15.8.2)

pub data MathUse : Type 0 where
  math_max math_min math_abs : MathUse

unfoldable pub math_methods : List (List ℕ × MathUse)
math_methods = (name_max, math_max) ∷ (name_min, math_min) ∷ (name_abs, math_abs) ∷ []

unfoldable pub math_method : List ℕ → Option MathUse
unfolding method_of math_methods
math_method n = method_of math_methods n

-- the outermost of z and these numbers, by f of two
unfoldable pub outermost : (ℤ → ℤ → ℤ) → ℤ → List Val → Outcome
outermost f z [] = gives (prim (whole z))
outermost f z (prim (whole y) ∷ vs) = outermost f (f z y) vs
outermost f z _ = breaks 2

unfoldable pub math_use : MathUse → List Val → Outcome
unfolding outermost number
math_use math_max (prim (whole z) ∷ vs) = outermost int_max z vs
math_use math_min (prim (whole z) ∷ vs) = outermost int_min z vs
math_use math_abs (prim (whole z) ∷ []) = number (pos (unsigned_abs z))
math_use _ vs = breaks 2

-- ---- arrays (15.4.4)

pub data ArrayUse : Type 0 where
  array_push array_unshift array_pop array_shift array_slice array_concat array_join array_index_of : ArrayUse

unfoldable pub array_methods : List (List ℕ × ArrayUse)
array_methods = (name_push, array_push) ∷ (name_unshift, array_unshift) ∷ (name_pop, array_pop) ∷ (name_shift, array_shift) ∷ (name_slice, array_slice) ∷ (name_concat, array_concat) ∷ (name_join, array_join) ∷ (name_indexOf, array_index_of) ∷ []

unfoldable pub array_method : List ℕ → Option ArrayUse
unfolding method_of array_methods
array_method n = method_of array_methods n

-- what the use has as its value: a value, or a new array of these elements
pub data ArrayAnswer : Type 0 where
  answers : Val → ArrayAnswer
  answers_array : List Val → ArrayAnswer

-- the elements of the array after the use, and its value
pub record ArrayChange : Type 0 where
  pub elements : List Val
  pub answer : ArrayAnswer

pub data ArrayResult : Type 0 where
  changes : ArrayChange → ArrayResult
  array_breaks : (rule : ℕ) → ArrayResult

-- an argument of `concat`: an array by its elements, or another value
pub data Arg : Type 0 where
  value_arg : Val → Arg
  list_arg : List Val → Arg

-- the elements become these, and the value is that of an outcome
unfoldable pub changed : List Val → Outcome → ArrayResult
changed es (gives v) = changes (record { elements = es; answer = answers v })
changed es (breaks rule) = array_breaks rule

-- the elements stay, and the value is a new array
unfoldable pub copied : (elements new : List Val) → ArrayResult
copied es new = changes (record { elements = es; answer = answers_array new })

-- `a.length` (15.4.5.2)
unfoldable pub array_length : List Val → Outcome
unfolding number
array_length es = number (pos (length es))

-- the text of an element in `join`: undefined and null have none (15.4.4.5)
unfoldable pub element_text : Val → Option (List ℕ)
unfolding prim_text
element_text (prim undefined) = Some []
element_text (prim null) = Some []
element_text (prim (truth b)) = Some (prim_text (truth b))
element_text (prim (whole z)) = Some (prim_text (whole z))
element_text (prim (text t)) = Some t
element_text _ = None

abbrev pub both_texts : Option (List ℕ) → Option (List ℕ) → Option (List ℕ)
both_texts (Some s) (Some t) = Some (s ++ t)
both_texts _ _ = None

-- each element's text, with the separator before it
unfoldable pub joined_after : List ℕ → List Val → Option (List ℕ)
unfolding element_text
joined_after sep [] = Some []
joined_after sep (v ∷ vs) = both_texts (both_texts (Some sep) (element_text v)) (joined_after sep vs)

unfoldable pub joined : List ℕ → List Val → Option (List ℕ)
unfolding element_text joined_after
joined sep [] = Some []
joined sep (v ∷ vs) = both_texts (element_text v) (joined_after sep vs)

unfoldable pub text_outcome : Option (List ℕ) → Outcome
text_outcome (Some t) = gives_text t
text_outcome None = breaks 2

-- the first place of an element that is `===` to v (15.4.4.14), where the first has place k
unfoldable pub element_place : ℕ → Val → List Val → Option ℕ
unfolding strict_equal
element_place k v [] = None
element_place k v (e ∷ es) = if strict_equal e v then Some k else element_place (suc k) v es

-- the elements of all the arguments, which are arrays (15.4.4.4)
unfoldable pub arrays_after : List Val → List Arg → Option (List Val)
arrays_after es [] = Some es
arrays_after es (list_arg vs ∷ as') = arrays_after (es ++ vs) as'
arrays_after es (value_arg v ∷ as') = None

unfoldable pub copied_or_breaks : List Val → Option (List Val) → ArrayResult
unfolding copied
copied_or_breaks es (Some new) = copied es new
copied_or_breaks es None = array_breaks 2

-- `a.concat(b..)` on the elements of a
unfoldable pub concat_use : List Val → List Arg → ArrayResult
unfolding arrays_after copied_or_breaks
concat_use es bs = copied_or_breaks es (arrays_after es bs)

unfoldable pub value_args : List Val → List Arg
value_args [] = []
value_args (v ∷ vs) = value_arg v ∷ value_args vs

-- a use of an array with these elements and arguments; where an argument of `concat` is an array,
-- it is `concat_use` that tells
unfoldable pub array_use : ArrayUse → List Val → List Val → ArrayResult
unfolding changed copied array_length or_undefined place_from_end joined text_outcome position_number element_place concat_use value_args
array_use array_push es vs = changed (es ++ vs) (array_length (es ++ vs))
array_use array_unshift es vs = changed (vs ++ es) (array_length (vs ++ es))
array_use array_pop es [] = changed (take (length es - 1) es) (gives (or_undefined (slice_get es (length es - 1))))
array_use array_shift es [] = changed (drop 1 es) (gives (or_undefined (slice_get es 0)))
array_use array_slice es [] = copied es es
array_use array_slice es (prim (whole i) ∷ []) = copied es (drop (place_from_end (length es) i) es)
array_use array_slice es (prim (whole i) ∷ prim (whole j) ∷ []) = copied es (slice_range es (place_from_end (length es) i) (place_from_end (length es) j))
array_use array_concat es vs = concat_use es (value_args vs)
array_use array_join es [] = changed es (text_outcome (joined (codes ",") es))
array_use array_join es (prim (text sep) ∷ []) = changed es (text_outcome (joined sep es))
array_use array_index_of es (v ∷ []) = changed es (position_number (element_place 0 v es))
array_use _ es vs = array_breaks 2
