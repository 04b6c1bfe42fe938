-- What a look-up comes to at one object.
use Rattle.std.specs.Prelude.{◌≡◌, ℕ, List, Option, None}
use Rattle.cc_meaning.specs.State.{Obj}
use Rattle.cc_meaning.specs.Store.{Found, found_value, found_at}
use Rattle.cc_heap.specs.Store.{value_if_found}
use Rattle.cc_heap.specs.Bridge.{held_of}
use Rattle.cc_heap.specs.declared.heap.look_up.Met.{Met}
use Rattle.cc_heap.specs.declared.heap.look_up.Met.TheVariants as M

-- the object has the value, or hides what comes after it, or passes the look-up on
abbrev pub Meets : Option Obj → List ℕ → Met → Type 0
Meets o n (M.Value h) = (rest : Found) → found_at o n rest ≡ found_value (held_of h)
Meets o n M.BuiltIn = (rest : Found) → value_if_found (found_at o n rest) ≡ None
Meets o n M.Nothing = (rest : Found) → found_at o n rest ≡ rest
