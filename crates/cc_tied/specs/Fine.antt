-- Every reference of a tree that is read and that is written, every `this`, every function that is
-- made and every statement is of a kind that its context allows.
use Rattle.std.specs.Prelude.{ℕ, Bool, true, false, List, [], ◌∷◌, Option, Some, None, is_some}
use Rattle.cc_ast.specs.Syntax.{Expr, lit, var, this, fun, list, object, unary, binary, and, or, cond, assign, step, member, index, call, new, comma, cast, tick, Target, to_var, to_member, to_index, Exprs, no_exprs, more_exprs, Fields, no_fields, more_fields, Declarator, ForInit, no_init, init_value, init_vars, ForTarget, in_target, in_declared, Stmt, simple, vars, fun_decl, if, while, do_while, for, for_in, return, throw, break, continue, label, switch, try, pay_stmt, Stmts, no_stmts, more_stmts, MaybeStmts, absent, present, Cases, no_cases, more_cases}
use Rattle.cc_ast.specs.declared.tree.Ref.{Ref}

-- what a context allows: what is read, what is written, what functions are bound to before a list
-- runs, what declarators set to their values, `this`, what is made, and statements under the labels
-- in force; and the context in a catch clause there
pub record Allowed (C : Type 0) : Type 1 where
  pub caught : C → C
  pub reads : C → Ref → Type 0
  pub writes : C → Ref → Type 0
  pub binds : C → Ref → (function : ℕ) → Type 0
  pub sets : C → Ref → (value : Option Expr) → Type 0
  pub this_here : C → Type 0
  pub makes : C → ℕ → Type 0
  pub stands : C → List (List ℕ) → Stmt → Type 0

module _ (C : Type 0) (A : Allowed C) where
  unfoldable pub FineRead : (c : C) (is_read : Bool) → Ref → Type 0
  FineRead c true r = A.reads c r
  FineRead c false r = Unit {0}

  module _ (c : C) where
    unfoldable mutual
      unfolding FineRead

      pub Fine : Expr → Type 0
      Fine (lit i p) = Unit {0}
      Fine (var i r) = A.reads c r
      Fine (this i) = A.this_here c
      Fine (fun i f) = A.makes c f
      Fine (list i es) = FineAll es
      Fine (object i fs) = FineFields fs
      Fine (unary i op e) = Fine e
      Fine (binary i op a b) = Fine a × Fine b
      Fine (and i a b) = Fine a × Fine b
      Fine (or i a b) = Fine a × Fine b
      Fine (cond i e a b) = Fine e × Fine a × Fine b
      Fine (assign i op u e) = FineTarget (is_some op) u × Fine e
      Fine (step i up prefix u) = FineTarget true u
      Fine (member i e p) = Fine e
      Fine (index i e k) = Fine e × Fine k
      Fine (call i f es) = Fine f × FineAll es
      Fine (new i f es) = Fine f × FineAll es
      Fine (comma i a b) = Fine a × Fine b
      Fine (cast i d e) = Fine e
      Fine (tick i n e) = Fine e

      -- a variable is read by an assignment with an operator and by a step
      pub FineTarget : (is_read : Bool) → Target → Type 0
      FineTarget b (to_var i r) = FineRead c b r × A.writes c r
      FineTarget b (to_member i e p) = Fine e
      FineTarget b (to_index i e k) = Fine e × Fine k

      pub FineAll : Exprs → Type 0
      FineAll no_exprs = Unit {0}
      FineAll (more_exprs e es) = Fine e × FineAll es

      pub FineFields : Fields → Type 0
      FineFields no_fields = Unit {0}
      FineFields (more_fields k e fs) = Fine e × FineFields fs

    unfoldable pub FineOption : Option Expr → Type 0
    unfolding Fine
    FineOption None = Unit {0}
    FineOption (Some e) = Fine e

    unfoldable pub FineDeclarator : Declarator → Type 0
    unfolding FineOption
    FineDeclarator d = A.sets c d.variable d.value × FineOption d.value

    unfoldable pub FineDeclarators : List Declarator → Type 0
    unfolding FineDeclarator
    FineDeclarators [] = Unit {0}
    FineDeclarators (d ∷ ds) = FineDeclarator d × FineDeclarators ds

    unfoldable pub FineInit : ForInit → Type 0
    unfolding Fine FineDeclarators
    FineInit no_init = Unit {0}
    FineInit (init_value e) = Fine e
    FineInit (init_vars ds) = FineDeclarators ds

    unfoldable pub FineNames : ForTarget → Type 0
    unfolding Fine FineDeclarator
    FineNames (in_target u) = FineTarget false u
    FineNames (in_declared d) = A.writes c d.variable × FineDeclarator d

  unfoldable mutual
    unfolding Fine FineOption FineDeclarators FineInit FineNames

    pub FineStmt : C → (labels : List (List ℕ)) → Stmt → Type 0
    FineStmt c ls (simple i e) = Fine c e
    FineStmt c ls (vars i ds) = FineDeclarators c ds
    FineStmt c ls (fun_decl i r f) = A.binds c r f × A.makes c f
    FineStmt c ls (if i e a b) = Fine c e × FineStmts c [] a × FineStmts c [] b
    FineStmt c ls (while i e b) = Fine c e × FineStmts c [] b
    FineStmt c ls (do_while i b e) = FineStmts c [] b × Fine c e
    FineStmt c ls (for i h e o b) = FineInit c h × FineOption c e × FineOption c o × FineStmts c [] b
    FineStmt c ls (for_in i u e b) = FineNames c u × Fine c e × FineStmts c [] b
    FineStmt c ls (return i o) = FineOption c o
    FineStmt c ls (throw i e) = Fine c e
    FineStmt c ls (break i l) = Unit {0}
    FineStmt c ls (continue i l) = Unit {0}
    FineStmt c ls (label i l b) = FineStmts c (l ∷ ls) b
    FineStmt c ls (switch i e cs) = Fine c e × FineCases c cs
    FineStmt c ls (try i b k f) = FineStmts c [] b × FineMaybe (A.caught c) k × FineMaybe c f
    FineStmt c ls (pay_stmt i n) = Unit {0}

    pub FineStmts : C → (labels : List (List ℕ)) → Stmts → Type 0
    FineStmts c ls no_stmts = Unit {0}
    FineStmts c ls (more_stmts s ss) = A.stands c ls s × FineStmt c ls s × FineStmts c ls ss

    pub FineMaybe : C → MaybeStmts → Type 0
    FineMaybe c absent = Unit {0}
    FineMaybe c (present b) = FineStmts c [] b

    pub FineCases : C → Cases → Type 0
    FineCases c no_cases = Unit {0}
    FineCases c (more_cases o b cs) = FineOption c o × FineStmts c [] b × FineCases c cs
