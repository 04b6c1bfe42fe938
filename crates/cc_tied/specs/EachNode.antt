-- A test of single nodes over a whole tree: yes where it says yes to each expression in the tree. A `for`
-- with an empty list of declarators is refused, since a rewriting leaves nothing of the list (Rewrites).
use Rattle.std.specs.Prelude.{Bool, true, false, ◌&&◌, List, [], ◌∷◌, Option, Some, None}
use Rattle.cc_ast.specs.Syntax.{Expr, lit, var, this, fun, list, object, unary, binary, and, or, cond, assign, step, member, index, call, new, comma, cast, tick, Target, to_var, to_member, to_index, Exprs, no_exprs, more_exprs, Fields, no_fields, more_fields, Declarator, ForInit, no_init, init_value, init_vars, ForTarget, in_target, in_declared, Stmt, simple, vars, fun_decl, if, while, do_while, for, for_in, return, throw, break, continue, label, switch, try, pay_stmt, Stmts, no_stmts, more_stmts, MaybeStmts, absent, present, Cases, no_cases, more_cases}

module _ (test : Expr → Bool) where
  unfoldable mutual
    pub each_expr : Expr → Bool
    each_expr (lit i p) = test (lit i p)
    each_expr (var i r) = test (var i r)
    each_expr (this i) = test (this i)
    each_expr (fun i f) = test (fun i f)
    each_expr (list i es) = test (list i es) && each_exprs es
    each_expr (object i fs) = test (object i fs) && each_fields fs
    each_expr (unary i op e) = test (unary i op e) && each_expr e
    each_expr (binary i op a b) = test (binary i op a b) && (each_expr a && each_expr b)
    each_expr (and i a b) = test (and i a b) && (each_expr a && each_expr b)
    each_expr (or i a b) = test (or i a b) && (each_expr a && each_expr b)
    each_expr (cond i e a b) = test (cond i e a b) && (each_expr e && (each_expr a && each_expr b))
    each_expr (assign i op u e) = test (assign i op u e) && (each_target u && each_expr e)
    each_expr (step i up prefix u) = test (step i up prefix u) && each_target u
    each_expr (member i e p) = test (member i e p) && each_expr e
    each_expr (index i e k) = test (index i e k) && (each_expr e && each_expr k)
    each_expr (call i f es) = test (call i f es) && (each_expr f && each_exprs es)
    each_expr (new i f es) = test (new i f es) && (each_expr f && each_exprs es)
    each_expr (comma i a b) = test (comma i a b) && (each_expr a && each_expr b)
    each_expr (cast i d e) = test (cast i d e) && each_expr e
    each_expr (tick i n e) = test (tick i n e) && each_expr e

    pub each_target : Target → Bool
    each_target (to_var i r) = true
    each_target (to_member i e p) = each_expr e
    each_target (to_index i e k) = each_expr e && each_expr k

    pub each_exprs : Exprs → Bool
    each_exprs no_exprs = true
    each_exprs (more_exprs e es) = each_expr e && each_exprs es

    pub each_fields : Fields → Bool
    each_fields no_fields = true
    each_fields (more_fields k e fs) = each_expr e && each_fields fs

  unfoldable pub each_option : Option Expr → Bool
  unfolding each_expr
  each_option None = true
  each_option (Some e) = each_expr e

  unfoldable pub each_declarator : Declarator → Bool
  unfolding each_option
  each_declarator d = each_option d.value

  unfoldable pub each_declarators : List Declarator → Bool
  unfolding each_declarator
  each_declarators [] = true
  each_declarators (d ∷ ds) = each_declarator d && each_declarators ds

  unfoldable pub each_init : ForInit → Bool
  unfolding each_expr each_declarator each_declarators
  each_init no_init = true
  each_init (init_value e) = each_expr e
  each_init (init_vars []) = false
  each_init (init_vars (d ∷ ds)) = each_declarator d && each_declarators ds

  unfoldable pub each_names : ForTarget → Bool
  unfolding each_expr each_declarator
  each_names (in_target u) = each_target u
  each_names (in_declared d) = each_declarator d

  unfoldable mutual
    unfolding each_expr each_option each_declarators each_init each_names

    pub each_stmt : Stmt → Bool
    each_stmt (simple i e) = each_expr e
    each_stmt (vars i ds) = each_declarators ds
    each_stmt (fun_decl i r f) = true
    each_stmt (if i e a b) = each_expr e && (each_stmts a && each_stmts b)
    each_stmt (while i e b) = each_expr e && each_stmts b
    each_stmt (do_while i b e) = each_stmts b && each_expr e
    each_stmt (for i h e o b) = each_init h && (each_option e && (each_option o && each_stmts b))
    each_stmt (for_in i u e b) = each_names u && (each_expr e && each_stmts b)
    each_stmt (return i o) = each_option o
    each_stmt (throw i e) = each_expr e
    each_stmt (break i l) = true
    each_stmt (continue i l) = true
    each_stmt (label i l b) = each_stmts b
    each_stmt (switch i e cs) = each_expr e && each_cases cs
    each_stmt (try i b k f) = each_stmts b && (each_maybe k && each_maybe f)
    each_stmt (pay_stmt i n) = true

    pub each_stmts : Stmts → Bool
    each_stmts no_stmts = true
    each_stmts (more_stmts s ss) = each_stmt s && each_stmts ss

    pub each_maybe : MaybeStmts → Bool
    each_maybe absent = true
    each_maybe (present b) = each_stmts b

    pub each_cases : Cases → Bool
    each_cases no_cases = true
    each_cases (more_cases o b cs) = each_option o && (each_stmts b && each_cases cs)
