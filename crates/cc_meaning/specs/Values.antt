-- Values, what the outside sees of them, and what a run tells (ECMA-262 5.1, 8).
use Rattle.std.specs.Prelude.{ℕ, List}
use Rattle.cc_ast.specs.Syntax.{Prim}

-- a primitive value, an object of the program by its number, or an object of the outside
pub data Val : Type 0 where
  prim : Prim → Val
  obj : ℕ → Val
  out : ℕ → Val

-- a value as the outside sees it: objects of the program stand as handles
pub data View : Type 0 where
  shown_prim : Prim → View
  shown_out : ℕ → View
  handle : ℕ → View

-- what reaches the outside, and how each turn and each inner call ends
pub data Event : Type 0 where
  called : (target this : View) → (args : List View) → Event
  constructed : (target : View) → (args : List View) → Event
  got : (target : View) → (name : List ℕ) → Event
  put : (target : View) → (name : List ℕ) → View → Event
  ended : View → Event
  threw : View → Event

-- where an act stands: a site of the program, or a turn of the script
pub data Spot : Type 0 where
  at_site : ℕ → Spot
  at_turn : ℕ → Spot
