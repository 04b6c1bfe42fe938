-- Rewriting from the leaves up: `step` on each value, `step_call` on each call, `trim` on each
-- declarator and `cut` on each statement, once its parts are rewritten. Literals stay.
use Rattle.std.specs.Prelude.{ℕ, Bool, true, false, List, [], ◌∷◌, ◌++◌, Option, Some, None}
use Rattle.cc_ast.specs.Syntax.{Expr, lit, var, this, fun, list, object, unary, binary, and, or, cond, assign, step as step_of, member, index, call, new, comma, cast, tick, Target, to_var, to_member, to_index, Exprs, no_exprs, more_exprs, Fields, no_fields, more_fields, Declarator, ForInit, no_init, init_value, init_vars, ForTarget, in_target, in_declared, Stmt, simple, vars, fun_decl, if, while, do_while, for, for_in, return, throw, break, continue, label, switch, try, pay_stmt, Stmts, no_stmts, more_stmts, MaybeStmts, absent, present, Cases, no_cases, more_cases}
use Rattle.cc_ast.specs.declared.tree.Ref.{Ref}
use Rattle.cc_tied.specs.Placed.{Place, a_value, an_assigned, a_callee, an_object, guard, operand}

unfoldable pub splice : Stmts → Stmts → Stmts
splice no_stmts ss = ss
splice (more_stmts s rest) ss = more_stmts s (splice rest ss)

-- a `for` without declarators begins with nothing
unfoldable pub init_of : List Declarator → ForInit
init_of [] = no_init
init_of (d ∷ ds) = init_vars (d ∷ ds)

module _ (built : Ref → Bool) (step : Expr → Expr) (step_call : ℕ → Expr → Exprs → Expr) where
  -- a value alone with its parts rewritten: the old node, or what the step makes of it
  unfoldable pub put : (in_target : Bool) → Place → Expr → Expr
  unfolding guard
  put t q e = guard built t q e (step e)

  unfoldable pub put_call : (in_target : Bool) → Place → ℕ → Expr → Exprs → Expr
  unfolding guard
  put_call t q i f es = guard built t q (call i f es) (step_call i f es)

  -- an access, a cast or a price mark is no value alone where more than its value counts
  unfoldable pub put_on_value : Place → Expr → Expr
  put_on_value a_value e = step e
  put_on_value an_assigned e = step e
  put_on_value _ e = e

  unfoldable mutual
    unfolding put put_call put_on_value operand

    pub re : (in_target : Bool) → Place → Expr → Expr
    re t q (lit i p) = lit i p
    re t q (var i r) = put t q (var i r)
    re t q (this i) = put t q (this i)
    re t q (fun i f) = put t q (fun i f)
    re t q (list i es) = put t q (list i (re_all t es))
    re t q (object i fs) = put t q (object i (re_fields t fs))
    re t q (unary i op e) = put t q (unary i op (re t (operand op) e))
    re t q (binary i op a b) = put t q (binary i op (re t a_value a) (re t a_value b))
    re t q (and i a b) = put t q (and i (re t a_value a) (re t a_value b))
    re t q (or i a b) = put t q (or i (re t a_value a) (re t a_value b))
    re t q (cond i e a b) = put t q (cond i (re t a_value e) (re t a_value a) (re t a_value b))
    re t q (assign i op u e) = put t q (assign i op (re_target u) (re t an_assigned e))
    re t q (step_of i up prefix u) = put t q (step_of i up prefix (re_target u))
    re t q (member i e p) = put_on_value q (member i (re t an_object e) p)
    re t q (index i e k) = put_on_value q (index i (re t an_object e) (re t a_value k))
    re t q (call i f es) = put_call t q i (re t a_callee f) (re_all t es)
    re t q (new i f es) = put t q (new i (re t a_callee f) (re_all t es))
    re t q (comma i a b) = put t q (comma i (re t a_value a) (re t a_value b))
    re t q (cast i d e) = put_on_value q (cast i d (re t q e))
    re t q (tick i n e) = put_on_value q (tick i n (re t q e))

    pub re_target : Target → Target
    re_target (to_var i r) = to_var i r
    re_target (to_member i e p) = to_member i (re true an_object e) p
    re_target (to_index i e k) = to_index i (re true an_object e) (re true a_value k)

    pub re_all : (in_target : Bool) → Exprs → Exprs
    re_all t no_exprs = no_exprs
    re_all t (more_exprs e es) = more_exprs (re t a_value e) (re_all t es)

    pub re_fields : (in_target : Bool) → Fields → Fields
    re_fields t no_fields = no_fields
    re_fields t (more_fields k e fs) = more_fields k (re t a_value e) (re_fields t fs)

  unfoldable pub re_value : Expr → Expr
  unfolding re
  re_value e = re false a_value e

  unfoldable pub re_option : Option Expr → Option Expr
  unfolding re_value
  re_option None = None
  re_option (Some e) = Some (re_value e)

  unfoldable pub re_declarator : Declarator → Declarator
  unfolding re_option
  re_declarator d = record { site = d.site; variable = d.variable; value = re_option d.value }

  -- `trim` leaves what is left of a declarator, `trim_in` of the one in the head of a `for-in`
  module _ (trim : Declarator → List Declarator) (trim_in : Declarator → Declarator) where
    unfoldable pub re_declarators : List Declarator → List Declarator
    unfolding re_declarator
    re_declarators [] = []
    re_declarators (d ∷ ds) = trim (re_declarator d) ++ re_declarators ds

    unfoldable pub re_init : ForInit → ForInit
    unfolding re_value re_declarators init_of
    re_init no_init = no_init
    re_init (init_value e) = init_value (re_value e)
    re_init (init_vars ds) = init_of (re_declarators ds)

    unfoldable pub re_names : ForTarget → ForTarget
    unfolding re re_declarator
    re_names (in_target u) = in_target (re_target u)
    re_names (in_declared d) = in_declared (trim_in (re_declarator d))

    -- `cut` leaves what is left of a statement before the rest of its list
    module _ (cut : Stmt → Stmts → Stmts) where
      unfoldable mutual
        unfolding re_value re_option re_declarators re_init re_names

        pub re_stmt : Stmt → Stmt
        re_stmt (simple i e) = simple i (re_value e)
        re_stmt (vars i ds) = vars i (re_declarators ds)
        re_stmt (fun_decl i r f) = fun_decl i r f
        re_stmt (if i e a b) = if i (re_value e) (re_stmts a) (re_stmts b)
        re_stmt (while i e b) = while i (re_value e) (re_stmts b)
        re_stmt (do_while i b e) = do_while i (re_stmts b) (re_value e)
        re_stmt (for i h e o b) = for i (re_init h) (re_option e) (re_option o) (re_stmts b)
        re_stmt (for_in i u e b) = for_in i (re_names u) (re_value e) (re_stmts b)
        re_stmt (return i o) = return i (re_option o)
        re_stmt (throw i e) = throw i (re_value e)
        re_stmt (break i l) = break i l
        re_stmt (continue i l) = continue i l
        re_stmt (label i l b) = label i l (re_stmts b)
        re_stmt (switch i e cs) = switch i (re_value e) (re_cases cs)
        re_stmt (try i b k f) = try i (re_stmts b) (re_maybe k) (re_maybe f)
        re_stmt (pay_stmt i n) = pay_stmt i n

        pub re_stmts : Stmts → Stmts
        re_stmts no_stmts = no_stmts
        re_stmts (more_stmts s ss) = cut (re_stmt s) (re_stmts ss)

        pub re_maybe : MaybeStmts → MaybeStmts
        re_maybe absent = absent
        re_maybe (present b) = present (re_stmts b)

        pub re_cases : Cases → Cases
        re_cases no_cases = no_cases
        re_cases (more_cases o b cs) = more_cases (re_option o) (re_stmts b) (re_cases cs)

-- ---- what a phase takes that leaves calls, declarators and statements whole

unfoldable pub stay_call : ℕ → Expr → Exprs → Expr
stay_call i f es = call i f es

abbrev pub whole : Declarator → List Declarator
whole d = d ∷ []

abbrev pub whole_in : Declarator → Declarator
whole_in d = d
