-- Trees as they are read: with names in place of variables, functions in their places, and places in place of sites.
use Rattle.std.specs.Prelude.{ℕ, ℤ, Bool, List, [], ◌∷◌, Option}
use Rattle.cc_ast.specs.declared.operator.BinOp.{BinOp}
use Rattle.cc_ast.specs.declared.operator.UnOp.{UnOp}
use Rattle.cc_ast.specs.declared.place.Place.{Place}
use Rattle.cc_ast.specs.Syntax.{Prim}

-- a variable that is declared, and where its name stands
pub record Named : Type 0 where
  pub place : Place
  pub name : List ℕ

-- a key of an object literal: a name or word, a text, or a number
pub data RawKey : Type 0 where
  dotted quoted : List ℕ → RawKey
  numbered : ℤ → RawKey

mutual
  -- An expression (ECMA-262 5.1, 11). A dotted access has the place of its name too. What stands in parentheses behind
  -- an annotation comment is a cast, if the comment has a type.
  pub data RawExpr : Type 0 where
    lit : Place → Prim → RawExpr
    var : Place → List ℕ → RawExpr
    this : Place → RawExpr
    fun : Place → (own : Option Named) → (params : List Named) → RawStmts → RawExpr
    list : Place → RawExprs → RawExpr
    object : Place → RawFields → RawExpr
    unary : Place → UnOp → RawExpr → RawExpr
    binary : Place → BinOp → RawExpr → RawExpr → RawExpr
    and : Place → RawExpr → RawExpr → RawExpr
    or : Place → RawExpr → RawExpr → RawExpr
    cond : Place → RawExpr → RawExpr → RawExpr → RawExpr
    assign : Place → Option BinOp → RawTarget → RawExpr → RawExpr
    step : Place → (up prefix : Bool) → RawTarget → RawExpr
    member : Place → RawExpr → Place → List ℕ → RawExpr
    index : Place → RawExpr → RawExpr → RawExpr
    call : Place → RawExpr → RawExprs → RawExpr
    new : Place → RawExpr → RawExprs → RawExpr
    comma : Place → RawExpr → RawExpr → RawExpr
    cast : Place → RawExpr → RawExpr

  -- what is written to
  pub data RawTarget : Type 0 where
    to_var : Place → List ℕ → RawTarget
    to_member : Place → RawExpr → Place → List ℕ → RawTarget
    to_index : Place → RawExpr → RawExpr → RawTarget

  pub data RawExprs : Type 0 where
    no_exprs : RawExprs
    more_exprs : RawExpr → RawExprs → RawExprs

  pub data MaybeExpr : Type 0 where
    no_expr : MaybeExpr
    one_expr : RawExpr → MaybeExpr

  -- the keys of an object literal, with their places and values
  pub data RawFields : Type 0 where
    no_fields : RawFields
    more_fields : Place → RawKey → RawExpr → RawFields → RawFields

  -- the variables of a `var` statement (ECMA-262 5.1, 12.2)
  pub data RawDeclarators : Type 0 where
    no_declarators : RawDeclarators
    more_declarators : Named → MaybeExpr → RawDeclarators → RawDeclarators

  -- what a `for` begins with
  pub data RawInit : Type 0 where
    no_init : RawInit
    init_value : RawExpr → RawInit
    init_vars : RawDeclarators → RawInit

  -- what a `for-in` writes each name to
  pub data RawForTarget : Type 0 where
    in_target : RawTarget → RawForTarget
    in_declared : Named → MaybeExpr → RawForTarget

  -- a statement (ECMA-262 5.1, 12 and 13)
  pub data RawStmt : Type 0 where
    simple : Place → RawExpr → RawStmt
    vars : Place → RawDeclarators → RawStmt
    fun_decl : Place → Named → (params : List Named) → RawStmts → RawStmt
    if : Place → RawExpr → RawStmts → RawStmts → RawStmt
    while : Place → RawExpr → RawStmts → RawStmt
    do_while : Place → RawStmts → RawExpr → RawStmt
    for : Place → RawInit → (test step : MaybeExpr) → RawStmts → RawStmt
    for_in : Place → RawForTarget → RawExpr → RawStmts → RawStmt
    return : Place → MaybeExpr → RawStmt
    throw : Place → RawExpr → RawStmt
    break : Place → Option (List ℕ) → RawStmt
    continue : Place → Option (List ℕ) → RawStmt
    label : Place → List ℕ → RawStmts → RawStmt
    switch : Place → RawExpr → RawCases → RawStmt
    try : Place → RawStmts → RawCatch → RawFinally → RawStmt

  pub data RawStmts : Type 0 where
    no_stmts : RawStmts
    more_stmts : RawStmt → RawStmts → RawStmts

  pub data RawCatch : Type 0 where
    no_catch : RawCatch
    caught : Named → RawStmts → RawCatch

  pub data RawFinally : Type 0 where
    no_finally : RawFinally
    finally : RawStmts → RawFinally

  -- the clauses of a `switch`, with no test for `default`
  pub data RawCases : Type 0 where
    no_cases : RawCases
    more_cases : MaybeExpr → RawStmts → RawCases → RawCases

-- ---- lists of parts

abbrev pub exprs : List RawExpr → RawExprs
exprs [] = no_exprs
exprs (e ∷ es) = more_exprs e (exprs es)

pub record RawField : Type 0 where
  pub place : Place
  pub key : RawKey
  pub value : RawExpr

abbrev pub fields : List RawField → RawFields
fields [] = no_fields
fields (f ∷ fs) = more_fields f.place f.key f.value (fields fs)

pub record RawDeclarator : Type 0 where
  pub variable : Named
  pub value : MaybeExpr

abbrev pub declarators : List RawDeclarator → RawDeclarators
declarators [] = no_declarators
declarators (d ∷ ds) = more_declarators d.variable d.value (declarators ds)

abbrev pub stmts : List RawStmt → RawStmts
stmts [] = no_stmts
stmts (s ∷ ss) = more_stmts s (stmts ss)

pub record RawCase : Type 0 where
  pub test : MaybeExpr
  pub body : List RawStmt

abbrev pub cases : List RawCase → RawCases
cases [] = no_cases
cases (c ∷ cs) = more_cases c.test (stmts c.body) (cases cs)
