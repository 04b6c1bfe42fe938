-- Trees as plain data, which every meaning and every law speaks of. They follow the types of src/
-- variant by variant. The first number of each constructor is its site.
use Rattle.std.specs.Prelude.{ℕ, ℤ, Bool, List, Option}
use Rattle.cc_ast.specs.declared.operator.BinOp.{BinOp}
use Rattle.cc_ast.specs.declared.operator.UnOp.{UnOp}
use Rattle.cc_ast.specs.declared.tree.Ref.{Ref}
use Rattle.cc_ast.specs.declared.tree.Key.{Key}
use Rattle.cc_ast.specs.declared.place.Place.{Place}
use Rattle.cc_ast.specs.declared.tables.ChunkInfo.{ChunkInfo}
use Rattle.cc_ast.specs.declared.tables.GlobalInfo.{GlobalInfo}
use Rattle.cc_ast.specs.declared.tables.PropInfo.{PropInfo}
use Rattle.cc_ast.specs.declared.tables.Class.{Class}
use Rattle.cc_ast.specs.declared.tables.SiteDoc.{SiteDoc}

-- a primitive value (ECMA-262 5.1, 4.3.2)
pub data Prim : Type 0 where
  undefined null : Prim
  truth : Bool → Prim
  whole : ℤ → Prim
  text : List ℕ → Prim

mutual
  -- an expression (ECMA-262 5.1, 11)
  pub data Expr : Type 0 where
    lit : ℕ → Prim → Expr
    var : ℕ → Ref → Expr
    this : ℕ → Expr
    fun : ℕ → ℕ → Expr
    list : ℕ → Exprs → Expr
    object : ℕ → Fields → Expr
    unary : ℕ → UnOp → Expr → Expr
    binary : ℕ → BinOp → Expr → Expr → Expr
    and : ℕ → Expr → Expr → Expr
    or : ℕ → Expr → Expr → Expr
    cond : ℕ → Expr → Expr → Expr → Expr
    assign : ℕ → Option BinOp → Target → Expr → Expr
    step : ℕ → (up prefix : Bool) → Target → Expr
    member : ℕ → Expr → (prop : ℕ) → Expr
    index : ℕ → Expr → Expr → Expr
    call : ℕ → Expr → Exprs → Expr
    new : ℕ → Expr → Exprs → Expr
    comma : ℕ → Expr → Expr → Expr
    cast : ℕ → (doc : ℕ) → Expr → Expr
    tick : ℕ → (price : ℕ) → Expr → Expr

  -- what is written to
  pub data Target : Type 0 where
    to_var : ℕ → Ref → Target
    to_member : ℕ → Expr → (prop : ℕ) → Target
    to_index : ℕ → Expr → Expr → Target

  pub data Exprs : Type 0 where
    no_exprs : Exprs
    more_exprs : Expr → Exprs → Exprs

  -- the keys of an object literal with their values
  pub data Fields : Type 0 where
    no_fields : Fields
    more_fields : Key → Expr → Fields → Fields

-- a variable of a `var` statement (ECMA-262 5.1, 12.2)
pub record Declarator : Type 0 where
  pub site : ℕ
  pub variable : Ref
  pub value : Option Expr

-- what a `for` begins with
pub data ForInit : Type 0 where
  no_init : ForInit
  init_value : Expr → ForInit
  init_vars : List Declarator → ForInit

-- what a `for-in` writes each name to
pub data ForTarget : Type 0 where
  in_target : Target → ForTarget
  in_declared : Declarator → ForTarget

mutual
  -- a statement (ECMA-262 5.1, 12 and 13)
  pub data Stmt : Type 0 where
    simple : ℕ → Expr → Stmt
    vars : ℕ → List Declarator → Stmt
    fun_decl : ℕ → Ref → ℕ → Stmt
    if : ℕ → Expr → Stmts → Stmts → Stmt
    while : ℕ → Expr → Stmts → Stmt
    do_while : ℕ → Stmts → Expr → Stmt
    for : ℕ → ForInit → (test step : Option Expr) → Stmts → Stmt
    for_in : ℕ → ForTarget → Expr → Stmts → Stmt
    return : ℕ → Option Expr → Stmt
    throw : ℕ → Expr → Stmt
    break : ℕ → Option (List ℕ) → Stmt
    continue : ℕ → Option (List ℕ) → Stmt
    label : ℕ → List ℕ → Stmts → Stmt
    switch : ℕ → Expr → Cases → Stmt
    try : ℕ → Stmts → (catch finally : MaybeStmts) → Stmt
    pay_stmt : ℕ → (price : ℕ) → Stmt

  pub data Stmts : Type 0 where
    no_stmts : Stmts
    more_stmts : Stmt → Stmts → Stmts

  -- the body of a `catch` or of a `finally`, where it is there
  pub data MaybeStmts : Type 0 where
    absent : MaybeStmts
    present : Stmts → MaybeStmts

  -- the clauses of a `switch`, with no test for `default`
  pub data Cases : Type 0 where
    no_cases : Cases
    more_cases : Option Expr → Stmts → Cases → Cases

-- a function, or a chunk's own statements
pub record Scope : Type 0 where
  pub params : ℕ
  pub names : ℕ
  pub own : Bool
  pub body : Stmts
  pub parent : Option ℕ
  pub doc : ℕ

-- a program: its scopes, of which the first are the chunks', and the tables beside them
pub record Program : Type 0 where
  pub scopes : List Scope
  pub chunks : List ChunkInfo
  pub globals : List GlobalInfo
  pub props : List PropInfo
  pub kept : List (List ℕ)
  pub classes : List Class
  pub places : List Place
  pub docs : List SiteDoc

-- the tables that a step may exchange beside the scopes
pub record Heads : Type 0 where
  pub globals : List GlobalInfo
  pub props : List PropInfo
  pub classes : List Class
  pub docs : List SiteDoc

-- the names of a program's globals, and those of the places of its frames
pub record Names : Type 0 where
  pub globals : List (List ℕ)
  pub slots : List (List ℕ)
