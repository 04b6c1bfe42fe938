-- What is found in a store, and what an object is after a change (ECMA-262 5.1, 8.12).
use Rattle.std.specs.Prelude.{ℕ, zero, suc, ◌-◌, pos, Bool, true, false, not, ◌&&◌, ◌||◌, nat_eq, nat_lt, is_some, List, [], ◌∷◌, ◌++◌, length, map, filter, slice_get, slice_set, replicate, Option, Some, None}
use Rattle.std.specs.List.{list_any}
use Rattle.cc_ast.specs.Syntax.{undefined, whole}
use Rattle.cc_ast.specs.declared.tables.GlobalInfo.{GlobalInfo}
use Rattle.cc_ast.specs.declared.tables.PropInfo.{PropInfo}
use Rattle.cc_ast.specs.declared.tables.Class.{Class}
use Rattle.cc_ast.specs.declared.tables.FlatPath.{FlatPath}
use Rattle.cc_meaning.specs.Values.{Val, prim}
use Rattle.cc_meaning.specs.Operators.{list_eq, is_in, decimal}
use Rattle.cc_meaning.specs.Names.{is_index, index_value, enumeration, name_length, name_prototype, name_call, name_hasOwnProperty}
use Rattle.cc_meaning.specs.Builtins.{TextUse, MathUse, ArrayUse, array_method}
use Rattle.cc_meaning.specs.State.{Kind, kept_kind, indexed_kind, dotted_kind, quoted_kind, keyed_kind, Slot, Obj, Frame, Path, Tables, State}
use Rattle.cc_meaning.specs.Monad.{pick}

-- ---- names

-- the key of an access: a property's number after a dot, a text that was written in quotes, or the
-- text of a value, with whether the value was a whole number
pub data Access : Type 0 where
  dotted : ℕ → Access
  quoted : List ℕ → Access
  runtime : List ℕ → (whole : Bool) → Access

unfoldable pub prop_name : Option PropInfo → List ℕ
prop_name None = []
prop_name (Some p) = p.name

unfoldable pub name_of : Tables → Access → List ℕ
unfolding prop_name
name_of T (dotted p) = prop_name (slice_get T.props p)
name_of T (quoted t) = t
name_of T (runtime t w) = t

unfoldable pub is_kept : Tables → List ℕ → Bool
unfolding is_in
is_kept T n = is_in n T.kept

-- the kind of a slot that an access makes
unfoldable pub kind_by : Access → Kind
kind_by (dotted p) = dotted_kind
kind_by (quoted t) = quoted_kind
kind_by (runtime t w) = keyed_kind

-- the kind of a slot with this name, where it is neither kept nor an index
unfoldable pub kind_for : Tables → List ℕ → Kind → Kind
unfolding is_kept is_index
kind_for T n made = pick (is_kept T n) kept_kind (pick (is_index n) indexed_kind made)

-- ---- globals (the extern ones stand first, then the three built-in ones, then those of the chunks)

pub data Built : Type 0 where
  object_global math_global string_global : Built

pub data Global : Type 0 where
  extern : Global
  built_in : Built → Global
  of_chunk : ℕ → Global

unfoldable pub without_chunk : List GlobalInfo → ℕ
without_chunk [] = 0
without_chunk (g ∷ gs) = pick (is_some g.chunk) (without_chunk gs) (suc (without_chunk gs))

unfoldable pub built_number : ℕ → Built
built_number zero = object_global
built_number (suc zero) = math_global
built_number (suc (suc n)) = string_global

-- the global with number n, of externs + 3 that no chunk declares
unfoldable pub outer_global : (externs n : ℕ) → Global
unfolding built_number
outer_global externs n = pick (nat_lt n externs) extern (built_in (built_number (n - externs)))

unfoldable pub global_by : (externs n : ℕ) → Option ℕ → Global
unfolding outer_global
global_by externs n None = outer_global externs n
global_by externs n (Some c) = of_chunk c

unfoldable pub chunk_in : Option GlobalInfo → Option ℕ
chunk_in None = None
chunk_in (Some g) = g.chunk

unfoldable pub global_kind : Tables → ℕ → Global
unfolding global_by without_chunk chunk_in
global_kind T n = global_by (without_chunk T.globals - 3) n (chunk_in (slice_get T.globals n))

-- ---- paths

unfoldable pub same_numbers : List ℕ → List ℕ → Bool
unfolding list_eq
same_numbers ps qs = list_eq ps qs

-- the number of a flat path among those of its global
unfoldable pub flat_place : ℕ → List FlatPath → List ℕ → Option ℕ
unfolding same_numbers
flat_place k [] ps = None
flat_place k (f ∷ fs) ps = pick (same_numbers f.props ps) (Some k) (flat_place (suc k) fs ps)

unfoldable pub flats_in : Option GlobalInfo → List FlatPath
flats_in None = []
flats_in (Some g) = g.flat

unfoldable pub paired : ℕ → Option ℕ → Option (ℕ × ℕ)
paired g None = None
paired g (Some k) = Some (g, k)

-- the global and the number of a flat path, where this path is one
unfoldable pub flat_of : Tables → Option Path → Option (ℕ × ℕ)
unfolding flat_place flats_in paired
flat_of T None = None
flat_of T (Some p) = paired p.0 (flat_place 0 (flats_in (slice_get T.globals p.0)) p.1)

-- the functions that statements of the chunks' own lists set this global or path to
unfoldable pub set_to : List (Path × ℕ) → Path → List ℕ
unfolding same_numbers
set_to [] p = []
set_to (x ∷ xs) p = pick (nat_eq x.0.0 p.0 && same_numbers x.0.1 p.1) (x.1 ∷ set_to xs p) (set_to xs p)

-- ---- classes

unfoldable pub is_number : Option ℕ → ℕ → Bool
is_number None n = false
is_number (Some m) n = nat_eq m n

-- the class with this function
unfoldable pub class_from : ℕ → List Class → ℕ → Option ℕ
unfolding is_number
class_from k [] f = None
class_from k (c ∷ cs) f = pick (is_number c.function f) (Some k) (class_from (suc k) cs f)

unfoldable pub class_of_function : Tables → ℕ → Option ℕ
unfolding class_from
class_of_function T f = class_from 0 T.classes f

-- the class whose code the function is: its own function, or one of its methods
unfoldable pub code_class_from : ℕ → List Class → ℕ → Option ℕ
unfolding is_number
code_class_from k [] f = None
code_class_from k (c ∷ cs) f = pick (is_number c.function f || list_any (λ m. nat_eq m.1 f) c.methods) (Some k) (code_class_from (suc k) cs f)

-- ---- what an object has itself

unfoldable pub find_slot : List Slot → List ℕ → Option Val
unfolding list_eq
find_slot [] n = None
find_slot (x ∷ xs) n = pick (list_eq x.name n) (Some x.value) (find_slot xs n)

unfoldable pub at_index : List Val → Option ℕ → Option Val
at_index vs None = None
at_index vs (Some i) = slice_get vs i

-- an array's elements by their index names, and its length (15.4.5)
unfoldable pub find_element : Option (List Val) → List ℕ → Option Val
unfolding list_eq index_value at_index
find_element None n = None
find_element (Some vs) n = pick (list_eq n name_length) (Some (prim (whole (pos (length vs))))) (at_index vs (index_value n))

unfoldable pub first_of : Option Val → Option Val → Option Val
first_of (Some v) o = Some v
first_of None o = o

unfoldable pub find_own : Obj → List ℕ → Option Val
unfolding find_element find_slot first_of
find_own o n = first_of (find_element o.elements n) (find_slot o.slots n)

unfoldable pub own_value : Option Obj → List ℕ → Option Val
unfolding find_own
own_value None n = None
own_value (Some o) n = find_own o n

-- ---- what is found on a chain

-- a use of what is built in
pub data Use : Type 0 where
  of_array : ArrayUse → Use
  of_text : TextUse → Use
  of_math : MathUse → Use
  string_of_value from_codes create_object has_own call_with : Use

pub data Found : Type 0 where
  found_value : Val → Found
  found_use : Use → Found
  nothing_found : Found

unfoldable pub array_found : Option ArrayUse → Found → Found
array_found None rest = rest
array_found (Some u) rest = found_use (of_array u)

-- what arrays and functions have from their own built-in prototypes (15.4.4, 15.3.4)
unfoldable pub built_here : Obj → List ℕ → Found → Found
unfolding array_found array_method list_eq
built_here o n rest = pick (is_some o.elements) (array_found (array_method n) rest) (pick (is_some o.code && list_eq n name_call) (found_use call_with) rest)

unfoldable pub found_here : Option Val → Obj → List ℕ → Found → Found
unfolding built_here
found_here (Some v) o n rest = found_value v
found_here None o n rest = built_here o n rest

unfoldable pub found_at : Option Obj → List ℕ → Found → Found
unfolding found_here find_own
found_at None n rest = rest
found_at (Some o) n rest = found_here (find_own o n) o n rest

-- [[Get]] (8.12.3), with the prototypes that are built in: the first object of the chain that has
-- the name, and at the end what every object has (15.2.4)
unfoldable pub found_on : List Obj → List ℕ → List ℕ → Found
unfolding found_at list_eq
found_on os [] n = pick (list_eq n name_hasOwnProperty) (found_use has_own) nothing_found
found_on os (c ∷ cs) n = found_at (slice_get os c) n (found_on os cs n)

unfoldable pub chain_in : Option Obj → List ℕ
chain_in None = []
chain_in (Some o) = o.chain

-- an object's number, and then those of its prototypes
unfoldable pub chain_of : List Obj → ℕ → List ℕ
unfolding chain_in
chain_of os n = n ∷ chain_in (slice_get os n)

unfoldable pub look_up : List Obj → ℕ → List ℕ → Found
unfolding found_on chain_of
look_up os o n = found_on os (chain_of os o) n

unfoldable pub is_found_value : Found → Bool
is_found_value (found_value v) = true
is_found_value (found_use u) = false
is_found_value nothing_found = false

-- [[HasProperty]] (8.12.6), without what is built in
unfoldable pub has_name : List Obj → ℕ → List ℕ → Bool
unfolding is_found_value look_up
has_name os o n = is_found_value (look_up os o n)

unfoldable pub value_found : Found → Val
value_found (found_value v) = v
value_found (found_use u) = prim undefined
value_found nothing_found = prim undefined

unfoldable pub slots_in : Option Obj → List Slot
slots_in None = []
slots_in (Some o) = o.slots

-- the slots of each object of a chain, one after the other
unfoldable pub slots_on : List Obj → List ℕ → List Slot
unfolding slots_in
slots_on os [] = []
slots_on os (c ∷ cs) = slots_in (slice_get os c) ++ slots_on os cs

-- ---- the names of `for-in` (12.6.4)

unfoldable pub element_names : ℕ → List Val → List (List ℕ)
unfolding decimal
element_names k [] = []
element_names k (v ∷ vs) = decimal (pos k) ∷ element_names (suc k) vs

unfoldable pub names_of_elements : Option (List Val) → List (List ℕ)
unfolding element_names
names_of_elements None = []
names_of_elements (Some vs) = element_names 0 vs

-- a function's `prototype` is no such name
unfoldable pub shown_names : (function : Bool) → List (List ℕ) → List (List ℕ)
unfolding list_eq
shown_names false ns = ns
shown_names true ns = filter (λ n. not (list_eq n name_prototype)) ns

unfoldable pub own_names : Option Obj → List (List ℕ)
unfolding names_of_elements shown_names enumeration
own_names None = []
own_names (Some o) = enumeration (names_of_elements o.elements ++ shown_names (is_some o.code) (map (λ x. x.name) o.slots))

-- those that weren't met before
unfoldable pub fresh_names : List (List ℕ) → List (List ℕ) → List (List ℕ)
unfolding is_in
fresh_names met [] = []
fresh_names met (n ∷ ns) = pick (is_in n met) (fresh_names met ns) (n ∷ fresh_names (n ∷ met) ns)

unfoldable pub names_on : List Obj → List (List ℕ) → List ℕ → List (List ℕ)
unfolding own_names fresh_names
names_on os met [] = []
names_on os met (c ∷ cs) =
    let ns = fresh_names met (own_names (slice_get os c)) in
    ns ++ names_on os (met ++ ns) cs

-- ---- changes of an object

unfoldable pub set_slot : List Slot → List ℕ → Kind → Val → List Slot
unfolding list_eq
set_slot [] n k v = (record { name = n; kind = k; value = v }) ∷ []
set_slot (x ∷ xs) n k v = pick (list_eq x.name n) ((record x { value = v }) ∷ xs) (x ∷ set_slot xs n k v)

unfoldable pub drop_slot : List Slot → List ℕ → List Slot
unfolding list_eq
drop_slot [] n = []
drop_slot (x ∷ xs) n = pick (list_eq x.name n) xs (x ∷ drop_slot xs n)

-- an element is exchanged, or one is put at the end
unfoldable pub set_element : List Val → ℕ → Val → List Val
set_element vs i v = pick (nat_lt i (length vs)) (slice_set vs i v) (vs ++ v ∷ [])

unfoldable pub put_in_array : Obj → List Val → List ℕ → Kind → Val → Option ℕ → Obj
unfolding set_element set_slot
put_in_array o vs n k v (Some i) = record o { elements = Some (set_element vs i v) }
put_in_array o vs n k v None = record o { slots = set_slot o.slots n k v }

unfoldable pub put_by : Option (List Val) → Obj → List ℕ → Kind → Val → Obj
unfolding put_in_array set_slot index_value
put_by None o n k v = record o { slots = set_slot o.slots n k v }
put_by (Some vs) o n k v = put_in_array o vs n k v (index_value n)

-- an object with this value under this name (8.12.5, 15.4.5.1)
unfoldable pub put_own : List ℕ → Kind → Val → Obj → Obj
unfolding put_by
put_own n k v o = put_by o.elements o n k v

unfoldable pub changed_at : List Obj → ℕ → Option Obj → (Obj → Obj) → List Obj
changed_at os n None f = os
changed_at os n (Some o) f = slice_set os n (f o)

unfoldable pub change : ℕ → (Obj → Obj) → State → State
unfolding changed_at
change n f s = record s { objs = changed_at s.objs n (slice_get s.objs n) f }

-- ---- frames

unfoldable pub up_in : Option Frame → Option ℕ
up_in None = None
up_in (Some f) = f.up

-- the frame that is so many steps outwards
unfoldable pub frame_up : ℕ → List Frame → Option ℕ → Option ℕ
unfolding up_in
frame_up zero fs at = at
frame_up (suc n) fs None = None
frame_up (suc n) fs (Some i) = frame_up n fs (up_in (slice_get fs i))

unfoldable pub frame_at : List Frame → Option ℕ → Option Frame
frame_at fs None = None
frame_at fs (Some i) = slice_get fs i

unfoldable pub flat_option : {A : Type 0} → Option (Option A) → Option A
flat_option None = None
flat_option (Some x) = x

-- as many places as there are parameters: those without an argument aren't set
unfoldable pub arguments : ℕ → List Val → List (Option Val)
arguments zero vs = []
arguments (suc n) [] = None ∷ arguments n []
arguments (suc n) (v ∷ vs) = Some v ∷ arguments n vs

-- the places of a call: the parameters, and then the declared names (10.5)
unfoldable pub fitted : (params names : ℕ) → List Val → List (Option Val)
unfolding arguments
fitted p n vs = arguments p vs ++ replicate n None
