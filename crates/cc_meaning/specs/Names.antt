-- Names: index names, the order of `for-in`, and the names of which the language speaks.
use Rattle.std.specs.Prelude.{ℕ, ◌+◌, ◌-◌, ◌*◌, Bool, false, not, ◌&&◌, nat_eq, nat_lt, nat_le, if◌then◌else◌, List, [], ◌∷◌, ◌++◌, Option, Some, None, is_some, codes}
use Rattle.std.specs.List.{filter}

-- ---- index names: `0`, and decimals without leading zero up to 4294967294 (ECMA-262 5.1, 15.4)

abbrev pub is_digit : ℕ → Bool
is_digit c = nat_le 48 c && nat_le c 57

-- the number that n followed by these digits writes
unfoldable pub digits_after : ℕ → List ℕ → Option ℕ
digits_after n [] = Some n
digits_after n (c ∷ t) = if is_digit c then digits_after (n * 10 + (c - 48)) t else None

-- a `0` stands alone
unfoldable pub alone : List ℕ → Option ℕ
alone [] = Some 0
alone (c ∷ t) = None

-- the number that a decimal without leading zero writes
unfoldable pub decimal_value : List ℕ → Option ℕ
unfolding digits_after alone
decimal_value [] = None
decimal_value (c ∷ t) = if nat_eq c 48 then alone t else (digits_after 0 (c ∷ t))

unfoldable pub up_to_greatest_index : Option ℕ → Option ℕ
up_to_greatest_index None = None
up_to_greatest_index (Some n) = if nat_le n 4294967294 then Some n else None

unfoldable pub index_value : List ℕ → Option ℕ
unfolding decimal_value up_to_greatest_index
index_value t = up_to_greatest_index (decimal_value t)

unfoldable pub is_index : List ℕ → Bool
unfolding index_value
is_index t = is_some (index_value t)

-- ---- the order of `for-in`: index names ascending, then the others as they stand

unfoldable pub index_less : Option ℕ → Option ℕ → Bool
index_less (Some m) (Some n) = nat_lt m n
index_less _ _ = false

-- an index name put before the first greater one
unfoldable pub put_ascending : List ℕ → List (List ℕ) → List (List ℕ)
unfolding index_less index_value
put_ascending n [] = n ∷ []
put_ascending n (m ∷ ms) = if index_less (index_value n) (index_value m) then n ∷ m ∷ ms else (m ∷ put_ascending n ms)

unfoldable pub ascending : List (List ℕ) → List (List ℕ)
unfolding put_ascending
ascending [] = []
ascending (n ∷ ns) = put_ascending n (ascending ns)

unfoldable pub enumeration : List (List ℕ) → List (List ℕ)
unfolding ascending is_index
enumeration ns = ascending (filter is_index ns) ++ filter (λ n. not (is_index n)) ns

-- ---- the built-in globals, in their order
abbrev pub name_Object : List ℕ
name_Object = codes "Object"

abbrev pub name_Math : List ℕ
name_Math = codes "Math"

abbrev pub name_String : List ℕ
name_String = codes "String"

unfoldable pub builtin_globals : List (List ℕ)
builtin_globals = name_Object ∷ name_Math ∷ name_String ∷ []

-- ---- the names of the built-in uses: of arrays, of texts, and the others
abbrev pub name_length : List ℕ
name_length = codes "length"

abbrev pub name_push : List ℕ
name_push = codes "push"

abbrev pub name_unshift : List ℕ
name_unshift = codes "unshift"

abbrev pub name_pop : List ℕ
name_pop = codes "pop"

abbrev pub name_shift : List ℕ
name_shift = codes "shift"

abbrev pub name_slice : List ℕ
name_slice = codes "slice"

abbrev pub name_concat : List ℕ
name_concat = codes "concat"

abbrev pub name_join : List ℕ
name_join = codes "join"

abbrev pub name_indexOf : List ℕ
name_indexOf = codes "indexOf"

abbrev pub name_charAt : List ℕ
name_charAt = codes "charAt"

abbrev pub name_charCodeAt : List ℕ
name_charCodeAt = codes "charCodeAt"

abbrev pub name_lastIndexOf : List ℕ
name_lastIndexOf = codes "lastIndexOf"

abbrev pub name_substring : List ℕ
name_substring = codes "substring"

abbrev pub name_fromCharCode : List ℕ
name_fromCharCode = codes "fromCharCode"

abbrev pub name_max : List ℕ
name_max = codes "max"

abbrev pub name_min : List ℕ
name_min = codes "min"

abbrev pub name_abs : List ℕ
name_abs = codes "abs"

abbrev pub name_create : List ℕ
name_create = codes "create"

abbrev pub name_hasOwnProperty : List ℕ
name_hasOwnProperty = codes "hasOwnProperty"

abbrev pub name_call : List ℕ
name_call = codes "call"

unfoldable pub array_names : List (List ℕ)
array_names = name_length ∷ name_push ∷ name_unshift ∷ name_pop ∷ name_shift ∷ name_slice ∷ name_concat ∷ name_join ∷ name_indexOf ∷ []

-- each name of the built-in table once
unfoldable pub builtin_names : List (List ℕ)
unfolding builtin_globals array_names
builtin_names = builtin_globals ++ array_names ++ (name_charAt ∷ name_charCodeAt ∷ name_lastIndexOf ∷ name_substring ∷ name_fromCharCode ∷ name_max ∷ name_min ∷ name_abs ∷ name_create ∷ name_hasOwnProperty ∷ name_call ∷ [])

-- ---- own names of functions
abbrev pub name_name : List ℕ
name_name = codes "name"

abbrev pub name_prototype : List ℕ
name_prototype = codes "prototype"

-- those that rule 10 keeps from being read
unfoldable pub function_names : List (List ℕ)
function_names = name_name ∷ name_length ∷ []

-- ---- standard names, which are kept and have no meaning here

-- of every object and function
abbrev pub name_constructor : List ℕ
name_constructor = codes "constructor"

abbrev pub name_toString : List ℕ
name_toString = codes "toString"

abbrev pub name_toLocaleString : List ℕ
name_toLocaleString = codes "toLocaleString"

abbrev pub name_valueOf : List ℕ
name_valueOf = codes "valueOf"

abbrev pub name_isPrototypeOf : List ℕ
name_isPrototypeOf = codes "isPrototypeOf"

abbrev pub name_propertyIsEnumerable : List ℕ
name_propertyIsEnumerable = codes "propertyIsEnumerable"

abbrev pub name_proto : List ℕ
name_proto = codes "__proto__"

abbrev pub name_apply : List ℕ
name_apply = codes "apply"

abbrev pub name_bind : List ℕ
name_bind = codes "bind"

abbrev pub name_caller : List ℕ
name_caller = codes "caller"

abbrev pub name_arguments : List ℕ
name_arguments = codes "arguments"

-- those that an engine keeps as a function has them, whatever is written (15.3.5)
unfoldable pub unwritten_names : List (List ℕ)
unwritten_names = name_name ∷ name_length ∷ name_caller ∷ name_arguments ∷ []

unfoldable pub common_names : List (List ℕ)
common_names = name_constructor ∷ name_toString ∷ name_toLocaleString ∷ name_valueOf ∷ name_isPrototypeOf ∷ name_propertyIsEnumerable ∷ name_proto ∷ name_apply ∷ name_bind ∷ name_caller ∷ name_arguments ∷ []

-- of arrays
unfoldable pub standard_array_names : List (List ℕ)
standard_array_names = codes "sort" ∷ codes "reverse" ∷ codes "splice" ∷ codes "forEach" ∷ codes "map" ∷ codes "filter" ∷ codes "reduce" ∷ codes "reduceRight" ∷ codes "some" ∷ codes "every" ∷ name_lastIndexOf ∷ []

-- of texts
unfoldable pub standard_text_names : List (List ℕ)
standard_text_names = codes "split" ∷ codes "replace" ∷ codes "match" ∷ codes "search" ∷ codes "toLowerCase" ∷ codes "toUpperCase" ∷ codes "trim" ∷ codes "localeCompare" ∷ []

unfoldable pub standard_names : List (List ℕ)
unfolding common_names standard_array_names standard_text_names
standard_names = common_names ++ standard_array_names ++ standard_text_names

-- the names that every program keeps
unfoldable pub always_kept : List (List ℕ)
unfolding builtin_names standard_names
always_kept = builtin_names ++ standard_names ++ (name_prototype ∷ [])
