-- The store of a run as the machine holds it, and what is read off it.
use Rattle.std.specs.Prelude.{ℕ, Bool, List, [], ◌∷◌, Option, None, Some, is_some, ◌&&◌, slice_get}
use Rattle.cc_meaning.specs.Values.{Val}
use Rattle.cc_meaning.specs.Operators.{list_eq}
use Rattle.cc_meaning.specs.Names.{index_value, name_call}
use Rattle.cc_meaning.specs.Builtins.{array_method}
use Rattle.cc_meaning.specs.State.{Code, Obj, Slot, FrameKind, Frame}
use Rattle.cc_meaning.specs.Monad.{pick}
use Rattle.cc_meaning.specs.Store.{Found, found_value, found_use, nothing_found, chain_of}
use Rattle.cc_ast.specs.declared.tables.Element.{Element}

-- the objects and the frames by number, and the classes of which an object was made
pub record Store : Type 0 where
  pub objs : List Obj
  pub frames : List Frame
  pub constructed : List ℕ

abbrev pub empty_store : Store
empty_store = record { objs = []; frames = []; constructed = [] }

-- the code of the object with this number
abbrev pub code_in : Option Obj → Option Code
code_in None = None
code_in (Some o) = o.code

abbrev pub frame_kind_in : Option Frame → Option FrameKind
frame_kind_in None = None
frame_kind_in (Some f) = Some f.kind

-- an element of an array
abbrev pub element_in : Option (List Val) → ℕ → Option Val
element_in None n = None
element_in (Some vs) n = slice_get vs n

-- the element types that were entered
abbrev pub wanted_in : Option Obj → List Element
wanted_in None = []
wanted_in (Some o) = o.wanted

-- the place that a name is of an array's elements
abbrev pub element_place : Option (List Val) → List ℕ → Option ℕ
element_place None n = None
element_place (Some vs) n = index_value n

-- the slot with this name
abbrev pub slot_named : List Slot → List ℕ → Option Slot
slot_named [] n = None
slot_named (x ∷ xs) n = pick (list_eq x.name n) (Some x) (slot_named xs n)

-- the value that a look-up comes to, where it comes to one
abbrev pub value_if_found : Found → Option Val
value_if_found (found_value v) = Some v
value_if_found (found_use u) = None
value_if_found nothing_found = None

-- a built-in method of arrays or functions stands here for this name
abbrev pub hides : Obj → List ℕ → Bool
hides o n = pick (is_some o.elements) (is_some (array_method n)) (is_some o.code && list_eq n name_call)

-- the chain of a new object with this prototype
abbrev pub chain_by : List Obj → Option ℕ → List ℕ
chain_by os None = []
chain_by os (Some p) = chain_of os p
