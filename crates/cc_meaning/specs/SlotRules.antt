-- What an access to an object breaks: reads, writes, removals, questions for a name, and `for-in`.
use Rattle.std.specs.Prelude.{ℕ, Bool, true, false, not, ◌&&◌, ◌||◌, nat_eq, nat_lt, List, [], ◌∷◌, length, slice_get, Option, Some, None, is_some, is_none}
use Rattle.std.specs.List.{list_any}
use Rattle.cc_ast.specs.Syntax.{Prim, undefined, null, truth, whole, text}
use Rattle.cc_ast.specs.declared.tables.Class.{Class}
use Rattle.cc_ast.specs.declared.tables.TypeSet.{TypeSet}
use Rattle.cc_meaning.specs.Values.{Val, prim, obj, out}
use Rattle.cc_meaning.specs.Operators.{list_eq, is_in}
use Rattle.cc_meaning.specs.Names.{is_index, index_value, standard_names, common_names, standard_array_names, function_names, unwritten_names, name_length, name_prototype, name_proto}
use Rattle.cc_meaning.specs.Builtins.{text_method}
use Rattle.cc_meaning.specs.State.{Kind, kept_kind, indexed_kind, dotted_kind, quoted_kind, keyed_kind, Slot, Code, Obj, Tables, State}
use Rattle.cc_meaning.specs.Monad.{pick}
use Rattle.cc_meaning.specs.Store.{Access, dotted, quoted, runtime, name_of, is_kept, find_slot, own_value, chain_in, chain_of, slots_in, slots_on, look_up, value_found, Found, found_value, found_use, nothing_found, class_of_function}
use Rattle.cc_meaning.specs.Typed.{of_all_types, of_all_elements, elements_in, field_types}

-- ---- rules, one or none

unfoldable pub least : Option ℕ → Option ℕ → Option ℕ
least None b = b
least (Some a) None = Some a
least (Some a) (Some b) = Some (pick (nat_lt b a) b a)

-- the rule is broken where this holds
unfoldable pub rule_if : Bool → ℕ → Option ℕ
rule_if true r = Some r
rule_if false r = None

-- the rule is broken where this doesn't hold
unfoldable pub rule_unless : Bool → ℕ → Option ℕ
rule_unless true r = None
rule_unless false r = Some r

-- ---- 7, 8, 9 and the host's names: slot by slot

unfoldable pub dotted_rule : List ℕ → Kind → List ℕ → Option ℕ
unfolding rule_if list_eq
dotted_rule n quoted_kind m = rule_if (list_eq m n) 7
dotted_rule n keyed_kind m = Some 8
dotted_rule n kept_kind m = None
dotted_rule n indexed_kind m = None
dotted_rule n dotted_kind m = None

unfoldable pub is_dotted : Kind → Bool
is_dotted dotted_kind = true
is_dotted kept_kind = false
is_dotted indexed_kind = false
is_dotted quoted_kind = false
is_dotted keyed_kind = false

-- an access by this key and name, at one slot
unfoldable pub slot_rule : Tables → Access → List ℕ → Kind → List ℕ → Option ℕ
unfolding dotted_rule is_dotted rule_if is_kept is_index list_eq
slot_rule T (dotted p) n k m = pick (is_kept T n) None (dotted_rule n k m)
slot_rule T (quoted t) n k m = rule_if (is_dotted k && list_eq m n) 7
slot_rule T (runtime t w) n k m = pick (is_index n) None (rule_if (is_dotted k) 8)

unfoldable pub slots_rule : Tables → Access → List ℕ → List Slot → Option ℕ
unfolding slot_rule least
slots_rule T a n [] = None
slots_rule T a n (x ∷ xs) = least (slot_rule T a n x.kind x.name) (slots_rule T a n xs)

-- an outside object counts as a chain with a keyed slot
unfoldable pub outside_rule : Tables → Access → Option ℕ
unfolding slot_rule name_of
outside_rule T a = slot_rule T a (name_of T a) keyed_kind []

-- each slot of the chain, also those whose name an object before them has
unfoldable pub walk_slots : List Slot → Option ℕ
unfolding is_dotted rule_if is_in standard_names least
walk_slots [] = None
walk_slots (x ∷ xs) = least (rule_if (is_dotted x.kind || is_in x.name standard_names) 9) (walk_slots xs)

-- ---- 10

unfoldable pub is_function : Option Obj → Bool
is_function None = false
is_function (Some o) = is_some o.code

-- the look-up comes to a function before it comes to a slot of that name
unfoldable pub meets_function : List Obj → List ℕ → List ℕ → Bool
unfolding is_function own_value
meets_function os [] n = false
meets_function os (c ∷ cs) n = is_function (slice_get os c) || (is_none (own_value (slice_get os c) n) && meets_function os cs n)

-- an object of the chain is a function, or an array
unfoldable pub has_function : List Obj → List ℕ → Bool
unfolding is_function
has_function os [] = false
has_function os (c ∷ cs) = is_function (slice_get os c) || has_function os cs

unfoldable pub has_array : List Obj → List ℕ → Bool
unfolding elements_in
has_array os [] = false
has_array os (c ∷ cs) = is_some (elements_in (slice_get os c)) || has_array os cs

-- what a look-up on a chain that doesn't come to a slot breaks
unfoldable pub unfound_rule : List Obj → List ℕ → List ℕ → Found → Option ℕ
unfolding rule_if is_in common_names standard_array_names has_array
unfound_rule os c n (found_value v) = None
unfound_rule os c n (found_use u) = Some 10
unfound_rule os c n nothing_found = rule_if (is_in n common_names || (is_in n standard_array_names && has_array os c)) 10

-- a write that an engine doesn't carry out
unfoldable pub unwritten_rule : List Obj → ℕ → List ℕ → Option ℕ
unfolding rule_if is_in unwritten_names has_function chain_of
unwritten_rule os o n = rule_if (is_in n unwritten_names && has_function os (chain_of os o)) 10

unfoldable pub function_rule : List Obj → ℕ → List ℕ → Option ℕ
unfolding rule_if is_in function_names meets_function chain_of
function_rule os o n = rule_if (is_in n function_names && meets_function os (chain_of os o) n) 10

-- ---- 6, at fields: of an unkept name only where the key is dotted and the act breaks neither 7 nor 8

unfoldable pub is_dot : Access → Bool
is_dot (dotted p) = true
is_dot (quoted t) = false
is_dot (runtime t w) = false

-- the types of the field that an access by this key reaches
unfoldable pub fields_reached : Tables → List Obj → ℕ → Access → List TypeSet
unfolding name_of is_kept is_dot field_types
fields_reached T os o a = pick (is_kept T (name_of T a) || is_dot a) (field_types T os o (name_of T a)) []

unfoldable pub field_rule : Tables → State → ℕ → Access → List ℕ → (broken : Option ℕ) → Val → Option ℕ
unfolding is_kept rule_unless of_all_types fields_reached
field_rule T s o a n r v = rule_unless ((is_some r && not (is_kept T n)) || of_all_types T s.objs (fields_reached T s.objs o a) v) 6

-- ---- 2, at arrays: a whole number as a key that is no index

unfoldable pub whole_key_rule : Option (List Val) → Access → Option ℕ
unfolding rule_if is_index
whole_key_rule None a = None
whole_key_rule (Some vs) (dotted p) = None
whole_key_rule (Some vs) (quoted t) = None
whole_key_rule (Some vs) (runtime t w) = rule_if (w && not (is_index t)) 2

-- ---- Read

unfoldable pub object_read : Tables → State → ℕ → Access → List ℕ → Option ℕ
unfolding slots_rule slots_on slots_in chain_of least whole_key_rule elements_in field_rule value_found look_up function_rule unfound_rule
object_read T s o a n =
    let broken = slots_rule T a n (slots_on s.objs (chain_of s.objs o)) in
    let found = look_up s.objs o n in
    least (whole_key_rule (elements_in (slice_get s.objs o)) a)
    (least (field_rule T s o a n broken (value_found found))
    (least broken (least (function_rule s.objs o n) (unfound_rule s.objs (chain_of s.objs o) n found))))

-- what a text has: its length, and its methods, which are only called (15.5)
unfoldable pub text_read : List ℕ → Option ℕ
unfolding list_eq text_method
text_read n = pick (list_eq n name_length) None (pick (is_some (text_method n)) (Some 10) (Some 2))

unfoldable pub prim_read : Prim → List ℕ → Option ℕ
unfolding text_read
prim_read (text t) n = text_read n
prim_read undefined n = Some 2
prim_read null n = Some 2
prim_read (truth b) n = Some 2
prim_read (whole z) n = Some 2

unfoldable pub read_rule : Tables → State → Val → Access → Option ℕ
unfolding object_read prim_read outside_rule name_of
read_rule T s (obj o) a = object_read T s o a (name_of T a)
read_rule T s (out n) a = outside_rule T a
read_rule T s (prim p) a = prim_read p (name_of T a)

-- ---- Write: on the object's own slots

-- an index beyond the length, or the length itself
unfoldable pub array_write_rule : Option (List Val) → List ℕ → Option ℕ → Option ℕ
unfolding rule_if list_eq
array_write_rule None n i = None
array_write_rule (Some vs) n None = rule_if (list_eq n name_length) 2
array_write_rule (Some vs) n (Some i) = rule_if (nat_lt (length vs) i) 2

-- an element is of each type that was entered
unfoldable pub element_rule : Tables → List Obj → Option Obj → Option ℕ → Val → Option ℕ
unfolding rule_unless of_all_elements
element_rule T os None i v = None
element_rule T os (Some o) None v = None
element_rule T os (Some o) (Some i) v = rule_unless (not (is_some o.elements) || of_all_elements T os o.wanted (v ∷ [])) 6

unfoldable pub prototype_of_function : Option Obj → Option Val
unfolding find_slot
prototype_of_function None = None
prototype_of_function (Some o) = pick (is_some o.code) (find_slot o.slots name_prototype) None

-- the code of a function object with this number
unfoldable pub is_code_of : Option Code → ℕ → Bool
is_code_of None f = false
is_code_of (Some c) f = nat_eq c.function f

unfoldable pub is_object : Option Val → ℕ → Bool
is_object (Some (obj m)) n = nat_eq m n
is_object (Some (out m)) n = false
is_object (Some (prim p)) n = false
is_object None n = false

-- this object is the prototype of a function object with this number
unfoldable pub is_prototype_of : List Obj → (function n : ℕ) → Bool
unfolding is_code_of is_object find_slot
is_prototype_of [] f n = false
is_prototype_of (o ∷ os) f n = (is_code_of o.code f && is_object (find_slot o.slots name_prototype) n) || is_prototype_of os f n

unfoldable pub extended : Option Class → Option ℕ
extended None = None
extended (Some c) = c.extends

unfoldable pub function_in : Option Class → Option ℕ
function_in None = None
function_in (Some c) = c.function

-- an extern class has no function
unfoldable pub is_prototype_of_class : List Obj → Option ℕ → ℕ → Bool
unfolding is_prototype_of
is_prototype_of_class os None n = false
is_prototype_of_class os (Some f) n = is_prototype_of os f n

-- the chain of a new prototype has the present prototypes of the class that is extended, of the one
-- that this extends, and so on
unfoldable pub fits_extended : Tables → List Obj → Option ℕ → List ℕ → Bool
unfolding is_prototype_of_class function_in extended
fits_extended T os None [] = true
fits_extended T os None (p ∷ ps) = false
fits_extended T os (Some d) [] = false
fits_extended T os (Some d) (p ∷ ps) = is_prototype_of_class os (function_in (slice_get T.classes d)) p && fits_extended T os (extended (slice_get T.classes d)) ps

unfoldable pub fits_class : Tables → List Obj → ℕ → Val → Bool
unfolding fits_extended extended chain_in
fits_class T os c (obj n) = fits_extended T os (extended (slice_get T.classes c)) (chain_in (slice_get os n))
fits_class T os c (out n) = false
fits_class T os c (prim p) = false

unfoldable pub no_slots : List Slot → Bool
no_slots [] = true
no_slots (x ∷ xs) = false

unfoldable pub without_slots : List Obj → Option Val → Bool
unfolding no_slots slots_in
without_slots os (Some (obj n)) = no_slots (slots_in (slice_get os n))
without_slots os (Some (out n)) = false
without_slots os (Some (prim p)) = false
without_slots os None = false

-- no object has this one on its chain
unfoldable pub is_off_chains : List Obj → Option Val → Bool
is_off_chains os (Some (obj n)) = not (list_any (λ o. list_any (λ m. nat_eq m n) o.chain) os)
is_off_chains os (Some (out n)) = true
is_off_chains os (Some (prim p)) = true
is_off_chains os None = true

-- a write of the prototype of a function of this class
unfoldable pub declares_well : Tables → State → Option Obj → Option ℕ → Val → Bool → Bool
unfolding fits_class without_slots is_off_chains prototype_of_function
declares_well T s o None v declares = false
declares_well T s o (Some c) v declares = declares && not (list_any (λ d. nat_eq d c) s.constructed) && without_slots s.objs (prototype_of_function o) && is_off_chains s.objs (prototype_of_function o) && fits_class T s.objs c v

unfoldable pub code_rule : Tables → State → Obj → Option Code → List ℕ → Val → Bool → Option ℕ
unfolding list_eq rule_unless declares_well class_of_function
code_rule T s o None n v declares = None
code_rule T s o (Some c) n v declares = pick (list_eq n name_prototype) (rule_unless (declares_well T s (Some o) (class_of_function T c.function) v declares) 12) None

unfoldable pub prototype_rule : Tables → State → Option Obj → List ℕ → Val → Bool → Option ℕ
unfolding code_rule
prototype_rule T s None n v declares = None
prototype_rule T s (Some o) n v declares = code_rule T s o o.code n v declares

unfoldable pub object_write : Tables → State → ℕ → Access → List ℕ → Val → Bool → Option ℕ
unfolding slots_rule slots_in least field_rule whole_key_rule array_write_rule elements_in index_value element_rule unwritten_rule prototype_rule
object_write T s o a n v declares =
    let broken = slots_rule T a n (slots_in (slice_get s.objs o)) in
    least (whole_key_rule (elements_in (slice_get s.objs o)) a)
    (least (array_write_rule (elements_in (slice_get s.objs o)) n (index_value n))
    (least (element_rule T s.objs (slice_get s.objs o) (index_value n) v)
    (least (field_rule T s o a n broken v)
    (least broken (least (unwritten_rule s.objs o n) (prototype_rule T s (slice_get s.objs o) n v declares))))))

-- `__proto__` may not be written
unfoldable pub write_rule : Tables → State → Val → Access → Val → Bool → Option ℕ
unfolding least rule_if list_eq name_of object_write outside_rule
write_rule T s (obj o) a v declares = least (rule_if (list_eq (name_of T a) name_proto) 2) (object_write T s o a (name_of T a) v declares)
write_rule T s (out n) a v declares = least (rule_if (list_eq (name_of T a) name_proto) 2) (outside_rule T a)
write_rule T s (prim p) a v declares = Some 2

-- ---- Remove: a slot of the object itself that is no function's prototype

unfoldable pub has_slot : Option Obj → List ℕ → Bool
unfolding find_slot list_eq
has_slot None n = false
has_slot (Some o) n = is_some (find_slot o.slots n) && not (is_some o.code && list_eq n name_prototype)

unfoldable pub object_remove : Tables → State → ℕ → Access → List ℕ → Option ℕ
unfolding least rule_unless has_slot slots_rule slots_in
object_remove T s o a n = least (rule_unless (has_slot (slice_get s.objs o) n) 2) (slots_rule T a n (slots_in (slice_get s.objs o)))

unfoldable pub remove_rule : Tables → State → Val → Access → Option ℕ
unfolding object_remove name_of
remove_rule T s (obj o) a = object_remove T s o a (name_of T a)
remove_rule T s (out n) a = Some 2
remove_rule T s (prim p) a = Some 2

-- ---- Probe and Walk: on the whole chain

unfoldable pub probe_rule : Tables → State → Val → Access → Option ℕ
unfolding slots_rule name_of slots_on chain_of
probe_rule T s (obj o) a = slots_rule T a (name_of T a) (slots_on s.objs (chain_of s.objs o))
probe_rule T s (out n) a = Some 2
probe_rule T s (prim p) a = Some 2

unfoldable pub walk_rule : State → Val → Option ℕ
unfolding walk_slots slots_on chain_of
walk_rule s (obj o) = walk_slots (slots_on s.objs (chain_of s.objs o))
walk_rule s (prim undefined) = None
walk_rule s (prim null) = None
walk_rule s (prim (truth b)) = Some 2
walk_rule s (prim (whole z)) = Some 2
walk_rule s (prim (text t)) = Some 2
walk_rule s (out n) = Some 2
