-- The machine: what it is about to do, what waits for that, and the state of the run.
use Rattle.std.specs.Prelude.{ℕ, Bool, List, Option}
use Rattle.cc_ast.specs.Syntax.{Prim, Expr, Target, Exprs, Fields, Declarator, ForInit, ForTarget, Stmt, Stmts, Cases}
use Rattle.cc_ast.specs.declared.operator.BinOp.{BinOp}
use Rattle.cc_ast.specs.declared.operator.UnOp.{UnOp}
use Rattle.cc_ast.specs.declared.tree.Ref.{Ref}
use Rattle.cc_ast.specs.declared.tree.Key.{Key}
use Rattle.cc_meaning.specs.Values.{Val, Event, Spot}
use Rattle.cc_meaning.specs.State.{Code, Env, Path, Inner, Answer, State}
use Rattle.cc_meaning.specs.Monad.{Way}
use Rattle.cc_meaning.specs.Store.{Access}
use Rattle.cc_meaning.specs.Built.{BuiltOutcome}
use Rattle.cc_meaning.specs.Calls.{Reference, Reach, Callee, Returned}
use Rattle.cc_meaning.specs.Meaning.{Comp, Place}
use Rattle.cc_meaning.specs.Script.{Turn, Run}

-- what is done next: a part of the program or of what it asks for, or a part's end that goes to the
-- newest frame
pub data Focus : Type 0 where
  -- expressions
  eval want : Option Path → Expr → Focus
  aim : Target → Focus
  gather : List Val → Exprs → Focus
  fill : Option Path → Val → Fields → Focus
  -- reads and callees
  take : Reach → Focus
  take_from : Place → Focus
  get_from : Spot → Val → Access → Focus
  got_outside : Spot → ℕ → Access → Focus
  unary_of : ℕ → UnOp → Reach → Focus
  member_of : ℕ → Option Path → ℕ → Reach → Focus
  find : Reach → Focus
  -- calls
  applies : Spot → Callee → List Val → Focus
  carries_out : Spot → BuiltOutcome → Focus
  calls_object : Spot → ℕ → Option Val → List Val → Focus
  begins_at : Spot → ℕ → Option Val → List Val → Focus
  enters : Spot → Code → (built : Bool) → Option Val → List Val → Focus
  pays_call does_body : Code → Option Val → List Val → Focus
  has_frame : ℕ → Code → Option Val → Focus
  binds : Stmts → Focus
  calls_outside : Spot → ℕ → Option Val → List Val → Focus
  asks : Spot → Focus
  replies : Spot → List Inner → Answer → Focus
  calls_inner : Spot → Val → Val → List Val → Focus
  constructs : Spot → Val → List Val → Focus
  builds_at : Spot → ℕ → List Val → Focus
  builds_on : Spot → Code → Val → List Val → Focus
  builds_outside : Spot → ℕ → List Val → Focus
  -- statements
  does : List (List ℕ) → Stmt → Focus
  does_all : List (List ℕ) → Stmts → Focus
  declares : List Declarator → Focus
  begins : ForInit → Focus
  begins_names : ForTarget → Focus
  turning turn_body again : List (List ℕ) → ℕ → (test rest : Option Expr) → Stmts → Focus
  resting : List (List ℕ) → ℕ → (test rest : Option Expr) → Stmts → Focus
  doing do_again retesting : List (List ℕ) → ℕ → Expr → Stmts → Focus
  naming : List (List ℕ) → ℕ → Val → ForTarget → Stmts → List (List ℕ) → Focus
  named : List (List ℕ) → ℕ → Val → ForTarget → Stmts → List ℕ → List (List ℕ) → Bool → Focus
  puts_name : ForTarget → List ℕ → Focus
  chooses : Val → Cases → Option Cases → Focus
  runs_cases : Cases → Focus
  has_caught : ℕ → Stmts → Focus
  -- turns
  does_chunk : Stmts → Focus
  takes_turns : ℕ → List Turn → Focus
  takes_turn : Spot → Turn → Focus
  gets_for : Spot → Val → Access → Focus
  loads : Spot → ℕ → Focus
  -- ends of parts
  reached : Reach → Focus
  gave : Val → Focus
  gathered : List Val → Focus
  placed : Place → Focus
  found : Callee → Focus
  returned : Returned → Focus
  done : Focus
  ended : Comp → Focus
  tossed : Val → Focus

-- what waits for what an expression reaches
pub data ReachFrame : Type 0 where
  to_value : ReachFrame
  unary_on : ℕ → UnOp → ReachFrame
  member_on : ℕ → Option Path → ℕ → ReachFrame
  cast_on : ℕ → ℕ → ReachFrame
  callee_on : ℕ → Exprs → ReachFrame

-- what waits for a value
pub data ValFrame : Type 0 where
  to_reach : ValFrame
  operand_on : ℕ → UnOp → ValFrame
  left_on : ℕ → BinOp → Expr → ValFrame
  right_on : ℕ → BinOp → Val → ValFrame
  and_on or_on comma_on : Expr → ValFrame
  cond_on : Expr → Expr → ValFrame
  stored_on : Place → ValFrame
  update_on : ℕ → BinOp → Place → Option Path → Expr → ValFrame
  updated_on : ℕ → BinOp → Place → Val → ValFrame
  stepped_on : ℕ → (up prefix : Bool) → Place → ValFrame
  dot_on : ℕ → Option Path → ℕ → ValFrame
  index_on : ℕ → Expr → ValFrame
  key_on : ℕ → Option (List ℕ) → Val → ValFrame
  aim_dot_on : ℕ → Option Path → ℕ → ValFrame
  aim_index_on : ℕ → Expr → ValFrame
  aim_key_on : ℕ → Option (List ℕ) → Val → ValFrame
  new_on : ℕ → Exprs → ValFrame
  arg_on : List Val → Exprs → ValFrame
  field_on : Option Path → Val → Key → ℕ → Fields → ValFrame
  got_on : Reference → ValFrame
  found_on : Reference → ValFrame
  built_on : Val → ValFrame
  simple_on : ValFrame
  declare_on : ℕ → Ref → List Declarator → ValFrame
  branch_on : Stmts → Stmts → ValFrame
  test_on rest_on : List (List ℕ) → ℕ → (test rest : Option Expr) → Stmts → ValFrame
  do_test_on : List (List ℕ) → ℕ → Expr → Stmts → ValFrame
  begun_on : ValFrame
  names_on : List (List ℕ) → ℕ → ForTarget → Stmts → ValFrame
  return_on : ℕ → ValFrame
  throw_on : ValFrame
  switch_on : Cases → ValFrame
  case_on : Val → Stmts → Cases → Option Cases → ValFrame

pub data ListFrame : Type 0 where
  array_on : ListFrame
  apply_on : ℕ → Callee → ListFrame
  construct_on : ℕ → Val → ListFrame

pub data PlaceFrame : Type 0 where
  assign_on : ℕ → Option BinOp → Option Path → Expr → PlaceFrame
  step_on : ℕ → (up prefix : Bool) → PlaceFrame
  name_on : List ℕ → PlaceFrame

-- what waits for an end without a value
pub data DoneFrame : Type 0 where
  reply_on : Spot → List Inner → Answer → DoneFrame
  vars_on : DoneFrame
  for_on : List (List ℕ) → (test rest : Option Expr) → Stmts → DoneFrame
  for_in_on : List (List ℕ) → ℕ → ForTarget → Expr → Stmts → DoneFrame
  name_put_on : List (List ℕ) → ℕ → Val → ForTarget → Stmts → List (List ℕ) → DoneFrame
  turn_on : ℕ → List Turn → DoneFrame

-- what waits for the end of a statement
pub data EndFrame : Type 0 where
  list_on : List (List ℕ) → Stmts → EndFrame
  turn_end_on : List (List ℕ) → ℕ → (test rest : Option Expr) → Stmts → EndFrame
  do_end_on : List (List ℕ) → ℕ → Expr → Stmts → EndFrame
  name_end_on : List (List ℕ) → ℕ → Val → ForTarget → Stmts → List (List ℕ) → EndFrame
  label_on : List ℕ → EndFrame
  unbroken_on : EndFrame
  cases_on : Cases → EndFrame
  resume_on : Way Comp → EndFrame

-- What waits. The last ones also meet throws, or restore where the run stood.
pub data Frame : Type 0 where
  on_reach : ReachFrame → Frame
  on_val : ValFrame → Frame
  on_list : ListFrame → Frame
  on_place : PlaceFrame → Frame
  on_done : DoneFrame → Frame
  on_end : EndFrame → Frame
  args_on : ℕ → Exprs → Frame
  leaves_on : Code → (built : Bool) → Frame
  leave_on : Env → (depth : ℕ) → Code → Frame
  restore_on : Env → Frame
  catch_on : Stmts → Frame
  finally_on : Stmts → Frame
  chunk_on : Env → Stmts → Frame
  tell_on : Frame
  load_on : ℕ → Frame

pub record Machine : Type 0 where
  pub focus : Focus
  pub env : Env
  pub depth : ℕ
  pub stack : List Frame
  pub state : State
  pub log : List Event

-- the machine goes on, or the run is over
pub data Next : Type 0 where
  on : Machine → Next
  halt : Run → Next
