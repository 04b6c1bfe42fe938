-- Values of a type, and the types that annotations give (Closure Compiler, "Annotating JavaScript").
use Rattle.std.specs.Prelude.{is_some, ℕ, suc, ◌-◌, ◌/◌, ◌%◌, Bool, true, false, not, ◌&&◌, ◌||◌, nat_eq, nat_lt, List, [], ◌∷◌, ◌++◌, slice_get, Option, Some, None}
use Rattle.std.specs.List.{list_any}
use Rattle.cc_ast.specs.Syntax.{Prim, undefined, null, truth, whole, text}
use Rattle.cc_ast.specs.declared.tables.GlobalInfo.{GlobalInfo}
use Rattle.cc_ast.specs.declared.tables.FlatPath.{FlatPath}
use Rattle.cc_ast.specs.declared.tables.Class.{Class}
use Rattle.cc_ast.specs.declared.tables.SiteDoc.{SiteDoc}
use Rattle.cc_ast.specs.declared.tables.TypeSet.{TypeSet}
use Rattle.cc_ast.specs.declared.tables.Element.{Element}
use Rattle.cc_meaning.specs.Values.{Val, prim, obj, out}
use Rattle.cc_meaning.specs.Operators.{list_eq}
use Rattle.cc_meaning.specs.Types.{subtype}
use Rattle.cc_meaning.specs.State.{Obj, Head, Tables}
use Rattle.cc_meaning.specs.Monad.{pick}
use Rattle.cc_meaning.specs.Store.{prop_name, flats_in, flat_option, same_numbers}

-- ---- values of a type

-- the bit of a kind: 1 number, 2 string, 4 boolean, 8 function, 16 array, 32 outside object
unfoldable pub has_kind : (kinds bit : ℕ) → Bool
has_kind kinds bit = nat_eq (kinds / bit % 2) 1

unfoldable pub prim_of : (kinds : ℕ) → Prim → Bool
unfolding has_kind
prim_of kinds undefined = true
prim_of kinds null = true
prim_of kinds (truth b) = has_kind kinds 4
prim_of kinds (whole n) = has_kind kinds 1
prim_of kinds (text t) = has_kind kinds 2

-- an object's class is one of these, or extends or implements one by a chain
unfoldable pub class_of_any : List Class → Option ℕ → List ℕ → Bool
unfolding subtype
class_of_any classes None ds = false
class_of_any classes (Some c) ds = list_any (λ d. subtype classes c d) ds

unfoldable pub object_of : Tables → (kinds : ℕ) → List ℕ → Option Obj → Bool
unfolding has_kind class_of_any
object_of T kinds ds None = false
object_of T kinds ds (Some o) = (is_some o.code && has_kind kinds 8) || (is_some o.elements && has_kind kinds 16) || class_of_any T.classes o.class ds

-- a value of these kinds or classes; undefined and null are of every type
unfoldable pub of_kinds : Tables → List Obj → (kinds : ℕ) → List ℕ → Val → Bool
unfolding prim_of object_of has_kind
of_kinds T os kinds ds (prim p) = prim_of kinds p
of_kinds T os kinds ds (obj n) = object_of T kinds ds (slice_get os n)
of_kinds T os kinds ds (out n) = has_kind kinds 32

unfoldable pub of_element : Tables → List Obj → Element → Val → Bool
unfolding of_kinds
of_element T os e v = of_kinds T os e.kinds e.classes v

unfoldable pub all_of_element : Tables → List Obj → Element → List Val → Bool
unfolding of_element
all_of_element T os e [] = true
all_of_element T os e (v ∷ vs) = of_element T os e v && all_of_element T os e vs

unfoldable pub elements_in : Option Obj → Option (List Val)
elements_in None = None
elements_in (Some o) = o.elements

unfoldable pub array_of : Tables → List Obj → Element → Option (List Val) → Bool
unfolding all_of_element
array_of T os e None = true
array_of T os e (Some vs) = all_of_element T os e vs

-- each element of an array is of the element type, where there is one
unfoldable pub elements_fit : Tables → List Obj → Option Element → Val → Bool
unfolding array_of elements_in
elements_fit T os None v = true
elements_fit T os (Some e) (obj n) = array_of T os e (elements_in (slice_get os n))
elements_fit T os (Some e) v = true

unfoldable pub of_type : Tables → List Obj → TypeSet → Val → Bool
unfolding of_kinds elements_fit
of_type T os t v = t.unknown || (of_kinds T os t.kinds t.classes v && elements_fit T os t.element v)

unfoldable pub of_opt_type : Tables → List Obj → Option TypeSet → Val → Bool
unfolding of_type
of_opt_type T os None v = true
of_opt_type T os (Some t) v = of_type T os t v

unfoldable pub of_all_types : Tables → List Obj → List TypeSet → Val → Bool
unfolding of_type
of_all_types T os [] v = true
of_all_types T os (t ∷ ts) v = of_type T os t v && of_all_types T os ts v

-- each value is of each element type
unfoldable pub of_all_elements : Tables → List Obj → List Element → List Val → Bool
unfolding all_of_element
of_all_elements T os [] vs = true
of_all_elements T os (e ∷ es) vs = all_of_element T os e vs && of_all_elements T os es vs

-- ---- what annotations say

unfoldable pub value_in : Option SiteDoc → Option TypeSet
value_in None = None
value_in (Some d) = d.value

unfoldable pub result_in : Option SiteDoc → Option TypeSet
result_in None = None
result_in (Some d) = d.result

unfoldable pub receiver_in : Option SiteDoc → Option TypeSet
receiver_in None = None
receiver_in (Some d) = d.receiver

unfoldable pub params_in : Option SiteDoc → List (Option TypeSet)
params_in None = []
params_in (Some d) = d.params

unfoldable pub vars_in : Option SiteDoc → List ℕ
vars_in None = []
vars_in (Some d) = d.vars

-- marked `@const` or `@define`
unfoldable pub settled_in : Option SiteDoc → Bool
settled_in None = false
settled_in (Some d) = d.constant || d.define

unfoldable pub doc_at : Tables → Option ℕ → Option SiteDoc
doc_at T None = None
doc_at T (Some d) = slice_get T.docs d

unfoldable pub head_doc : Option Head → Option ℕ
head_doc None = None
head_doc (Some h) = Some h.doc

unfoldable pub function_doc : Tables → ℕ → Option SiteDoc
unfolding doc_at head_doc
function_doc T f = doc_at T (head_doc (slice_get T.heads f))

unfoldable pub head_params : Option Head → ℕ
head_params None = 0
head_params (Some h) = h.params

-- a variable: a global, a place of a scope, or a flat path by its global and its number
pub data Variable : Type 0 where
  global : ℕ → Variable
  local : (scope place : ℕ) → Variable
  flat : (global number : ℕ) → Variable

unfoldable pub global_doc : Option GlobalInfo → Option ℕ
global_doc None = None
global_doc (Some g) = Some g.doc

unfoldable pub path_doc : Option FlatPath → Option ℕ
path_doc None = None
path_doc (Some f) = Some f.doc

-- the doc of a variable that is no parameter
unfoldable pub variable_doc : Tables → Variable → Option SiteDoc
unfolding doc_at global_doc path_doc flats_in function_doc vars_in head_params
variable_doc T (global n) = doc_at T (global_doc (slice_get T.globals n))
variable_doc T (local f n) = doc_at T (slice_get (vars_in (function_doc T f)) (n - head_params (slice_get T.heads f)))
variable_doc T (flat g k) = doc_at T (path_doc (slice_get (flats_in (slice_get T.globals g)) k))

unfoldable pub is_param : Tables → Variable → Bool
unfolding head_params
is_param T (local f n) = nat_lt n (head_params (slice_get T.heads f))
is_param T v = false

unfoldable pub param_type : Tables → Variable → Option TypeSet
unfolding flat_option params_in function_doc
param_type T (local f n) = flat_option (slice_get (params_in (function_doc T f)) n)
param_type T v = None

unfoldable pub variable_type : Tables → Variable → Option TypeSet
unfolding is_param param_type value_in variable_doc
variable_type T v = pick (is_param T v) (param_type T v) (value_in (variable_doc T v))

-- a variable that is read only after it is set
unfoldable pub is_settled : Tables → Variable → Bool
unfolding is_param settled_in variable_doc
is_settled T v = not (is_param T v) && settled_in (variable_doc T v)

-- ---- fields

unfoldable pub with_type : Option TypeSet → List TypeSet → List TypeSet
with_type None ts = ts
with_type (Some t) ts = t ∷ ts

-- the types of the fields with this name, of pairs of a property and a doc
unfoldable pub types_of_fields : Tables → List ℕ → List (ℕ × ℕ) → List TypeSet
unfolding list_eq prop_name with_type value_in doc_at
types_of_fields T n [] = []
types_of_fields T n (x ∷ xs) = pick (list_eq (prop_name (slice_get T.props x.0)) n) (with_type (value_in (doc_at T (Some x.1))) (types_of_fields T n xs)) (types_of_fields T n xs)

-- those of the classes, from number k on, that class c is or extends or implements by a chain; an
-- extern class annotates no field
unfoldable pub fields_from : Tables → ℕ → List Class → (c : ℕ) → List ℕ → List TypeSet
unfolding subtype types_of_fields
fields_from T k [] c n = []
fields_from T k (d ∷ ds) c n = pick (not d.external && subtype T.classes c k) (types_of_fields T n d.fields) [] ++ fields_from T (suc k) ds c n

unfoldable pub class_in : Option Obj → Option ℕ
class_in None = None
class_in (Some o) = o.class

unfoldable pub fields_of_class : Tables → Option ℕ → List ℕ → List TypeSet
unfolding fields_from
fields_of_class T None n = []
fields_of_class T (Some c) n = fields_from T 0 T.classes c n

-- the types of the field with this name of an object
unfoldable pub field_types : Tables → List Obj → ℕ → List ℕ → List TypeSet
unfolding fields_of_class class_in
field_types T os o n = fields_of_class T (class_in (slice_get os o)) n

-- ---- element types that are entered

unfoldable pub same_element : Element → Element → Bool
unfolding same_numbers
same_element d e = nat_eq d.kinds e.kinds && same_numbers d.classes e.classes

unfoldable pub entered : Element → List Element → List Element
unfolding same_element
entered e es = pick (list_any (λ d. same_element d e) es) es (es ++ e ∷ [])

unfoldable pub entered_in : Element → Obj → Obj
unfolding entered
entered_in e o = pick (is_some o.elements) (record o { wanted = entered e o.wanted }) o
