-- What is known of a program before it runs, and the frames around a place in it.
use Rattle.std.specs.Prelude.{ℕ, zero, suc, Option, Some, None}
use Rattle.cc_ast.specs.Syntax.{Prim}
use Rattle.cc_meaning.specs.State.{FrameKind, of_call, of_catch, of_own_name, Tables}
use Rattle.cc_meaning.specs.Monad.{pick}
use Rattle.cc_meaning.specs.Alike.{owns}

-- A frame by where it comes from: the call of a function; a catch clause, by the function in whose
-- statements it stands, or none in a chunk's own list, and by the number of catch clauses around it
-- there; or the own name of a function expression.
pub data Level : Type 0 where
  called : (function : ℕ) → Level
  caught : (function : Option ℕ) → (around : ℕ) → Level
  named : (function : ℕ) → Level

-- what a global holds, once it is set: the object of a function, or a literal
pub data Held : Type 0 where
  holds_function : ℕ → Held
  holds_literal : Prim → Held

pub record Facts : Type 1 where
  -- the function in whose statements a function stands, or none in a chunk's own list, and the number of catch clauses around it there
  pub parent : ℕ → Option ℕ × ℕ
  -- functions that are reached from the chunks: no other one is made
  pub Reached : (function : ℕ) → Type 0
  -- parameters of a function that are never assigned
  pub Fixed : (function place : ℕ) → Type 0
  -- places of a function's frame that are never read
  pub Dead : (function place : ℕ) → Type 0
  -- globals that are set by their declaration alone, to this
  pub Known : (global : ℕ) → Held → Type 0
  -- globals that the right program never reads
  pub Unread : (global : ℕ) → Type 0

unfoldable pub frame_kind : Level → FrameKind
frame_kind (called f) = of_call f
frame_kind (caught o c) = of_catch
frame_kind (named f) = of_own_name

-- the innermost frame in the statements of a function, or of a chunk's own list, under so many catch clauses
unfoldable pub innermost : Option ℕ → (catches : ℕ) → Option Level
innermost o (suc c) = Some (caught o c)
innermost None zero = None
innermost (Some f) zero = Some (called f)

module _ (F : Facts) where
  unfoldable pub around_function : ℕ → Option Level
  unfolding innermost
  around_function f = innermost (F.parent f).0 (F.parent f).1

  -- the next frame outwards
  unfoldable pub outward : Tables → Level → Option Level
  unfolding around_function innermost owns
  outward T (called f) = pick (owns T f) (Some (named f)) (around_function f)
  outward T (caught o c) = innermost o c
  outward T (named f) = around_function f

  -- the frame that is so many steps outwards
  pub data Above (T : Tables) : Option Level → ℕ → Level → Type 0 where
    above_here : {l : Level} → Above T (Some l) zero l
    above_more : {l k : Level} {u : ℕ} → Above T (outward T l) u k → Above T (Some l) (suc u) k

  abbrev pub DeadAt : Level → ℕ → Type 0
  DeadAt (called f) n = F.Dead f n
  DeadAt (caught o c) n = ⊥
  DeadAt (named f) n = ⊥

  abbrev pub FixedAt : Level → ℕ → Type 0
  FixedAt (called f) n = F.Fixed f n
  FixedAt (caught o c) n = ⊥
  FixedAt (named f) n = ⊥
