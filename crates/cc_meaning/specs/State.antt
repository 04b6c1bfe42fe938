-- The store of a run and what stands beside it (ECMA-262 5.1, 8.6 and 10.2).
use Rattle.std.specs.Prelude.{ℕ, Bool, List, [], Option, None}
use Rattle.cc_ast.specs.declared.tables.ChunkInfo.{ChunkInfo}
use Rattle.cc_ast.specs.declared.tables.GlobalInfo.{GlobalInfo}
use Rattle.cc_ast.specs.declared.tables.PropInfo.{PropInfo}
use Rattle.cc_ast.specs.declared.tables.Class.{Class}
use Rattle.cc_ast.specs.declared.tables.SiteDoc.{SiteDoc}
use Rattle.cc_ast.specs.declared.tables.Element.{Element}
use Rattle.cc_meaning.specs.Values.{Val, View}

-- How a slot came to be. The first that applies counts: its name is kept; it is an index name; it
-- was made with a dot or an unquoted key; with a literal text as key; by another text or by the host.
pub data Kind : Type 0 where
  kept_kind indexed_kind dotted_kind quoted_kind keyed_kind : Kind

-- a named property of an object (8.6); it keeps the kind of its making
pub record Slot : Type 0 where
  pub name : List ℕ
  pub kind : Kind
  pub value : Val

-- the function of a function object: its number, the frame around it, and the site where it stands
pub record Code : Type 0 where
  pub function : ℕ
  pub up : Option ℕ
  pub site : ℕ

-- An object. `chain` has the numbers of its prototypes from the nearest on, which never change once
-- the object is made (8.6.2, [[Prototype]]). The slots stand in order of creation. An array has its
-- elements, and the element types that were entered for it.
pub record Obj : Type 0 where
  pub class : Option ℕ
  pub chain : List ℕ
  pub slots : List Slot
  pub code : Option Code
  pub elements : Option (List Val)
  pub wanted : List Element

-- an object without anything
abbrev pub bare : Obj
bare = record { class = None; chain = []; slots = []; code = None; elements = None; wanted = [] }

-- what made a frame: a call of a function, a catch clause, or the own name of a function expression
pub data FrameKind : Type 0 where
  of_call : (function : ℕ) → FrameKind
  of_catch of_own_name : FrameKind

-- a frame (10.2.1.1, declarative environment records): a place that wasn't set has no value
pub record Frame : Type 0 where
  pub kind : FrameKind
  pub up : Option ℕ
  pub values : List (Option Val)

-- where a part of a program runs: the innermost frame, the receiver where there is one, and the
-- functions whose prototype the statement declares that is being carried out
pub record Env : Type 0 where
  pub at : Option ℕ
  pub this : Option Val
  pub declares : List ℕ

-- what a run needs of a scope besides its body
pub record Head : Type 0 where
  pub params : ℕ
  pub names : ℕ
  pub own : Bool
  pub doc : ℕ

-- a global, and the properties by which one goes on from it
abbrev pub Path : Type 0
Path = ℕ × List ℕ

-- The tables of a program, which never change in a run. `set` tells which global or path is set to
-- which function by a statement of a chunk's own list.
pub record Tables : Type 0 where
  pub heads : List Head
  pub chunks : List ChunkInfo
  pub globals : List GlobalInfo
  pub props : List PropInfo
  pub kept : List (List ℕ)
  pub classes : List Class
  pub docs : List SiteDoc
  pub set : List (Path × ℕ)

-- a call that the outside makes of a handle
pub record Inner : Type 0 where
  pub callee : ℕ
  pub this : View
  pub args : List View

pub data Answer : Type 0 where
  gives throws : View → Answer

-- a reply of the outside: the calls that it makes first, and its answer
pub record Reply : Type 0 where
  pub first : List Inner
  pub answer : Answer

-- The state of a run. A global that wasn't set has no value; `loaded` are the chunks whose load has
-- begun, `failed` those whose load ended with a throw, `constructed` the classes of which an object
-- was made. A handle is a place in `handles`.
pub record State : Type 0 where
  pub tables : Tables
  pub objs : List Obj
  pub frames : List Frame
  pub globals : List (Option Val)
  pub loaded : List ℕ
  pub failed : List ℕ
  pub constructed : List ℕ
  pub handles : List ℕ
  pub replies : List Reply
  pub budget : ℕ
