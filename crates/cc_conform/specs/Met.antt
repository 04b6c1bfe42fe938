-- What a look-up meets on its way.
use Rattle.std.specs.Prelude.{ℕ, Bool, false, List, Option, Some, None}
use Rattle.cc_meaning.specs.State.{Obj}
use Rattle.cc_heap.specs.Store.{hides}

-- a built-in method stands at the object under this name
abbrev pub hides_at : Option Obj → List ℕ → Bool
hides_at None n = false
hides_at (Some o) n = hides o n
