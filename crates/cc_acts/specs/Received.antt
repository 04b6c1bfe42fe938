-- The objects after a value was received by a type: an array has its element type entered.
use Rattle.std.specs.Prelude.{◌≡◌, ℕ, [], ◌∷◌, List, Option, Some, None, slice_get}
use Rattle.cc_ast.specs.declared.tables.Element.{Element}
use Rattle.cc_ast.specs.declared.tables.TypeSet.{TypeSet}
use Rattle.cc_meaning.specs.Values.{Val, prim, obj, out}
use Rattle.cc_meaning.specs.State.{Kind, Obj, State, Tables}
use Rattle.cc_meaning.specs.Store.{Access, changed_at, kind_for, name_of, put_own}
use Rattle.cc_meaning.specs.Typed.{entered_in}

abbrev pub entered_at : Option Element → Val → List Obj → List Obj
entered_at (Some e) (obj n) os = changed_at os n (slice_get os n) (entered_in e)
entered_at (Some e) (out n) os = os
entered_at (Some e) (prim p) os = os
entered_at None v os = os

abbrev pub received : Option TypeSet → Val → List Obj → List Obj
received None v os = os
received (Some t) v os = entered_at t.element v os

-- a change of a state that has nothing to do with its objects
pub record SparesObjects (f : State → State) : Type 0 where
  pub tables : (s : State) → (f s).tables ≡ s.tables
  pub objs : (s : State) → (f s).objs ≡ s.objs
  pub apart : (s : State) (os : List Obj) → f (record s { objs = os }) ≡ record (f s) { objs = os }

-- the same by each of these types in turn
unfoldable pub received_all : List TypeSet → Val → List Obj → List Obj
received_all [] v os = os
received_all (t ∷ ts) v os = received_all ts v (received (Some t) v os)

-- the objects after a value was put under the name that a key means
abbrev pub put_at : Tables → ℕ → Access → Kind → Val → List Obj → List Obj
put_at T o a made v os = changed_at os o (slice_get os o) (put_own (name_of T a) (kind_for T (name_of T a) made) v)
