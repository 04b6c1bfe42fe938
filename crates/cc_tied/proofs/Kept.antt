-- Where a test that says yes only to nodes that the steps keep says yes to each node of a tree, the
-- rewriting keeps the tree.
use Rattle.std.proofs.Common.{◌≡◌, refl, ℕ, Bool, true, false, ◌&&◌, List, [], ◌∷◌, Option, Some, None}
use Rattle.cc_ast.specs.Syntax.{Expr, lit, var, this, fun, list, object, unary, binary, and, or, cond, assign, step as step_of, member, index, call, new, comma, cast, tick, Target, to_var, to_member, to_index, Exprs, no_exprs, more_exprs, Fields, no_fields, more_fields, Declarator, ForInit, no_init, init_value, init_vars, ForTarget, in_target, in_declared, Stmt, simple, vars, fun_decl, if, while, do_while, for, for_in, return, throw, break, continue, label, switch, try, pay_stmt, Stmts, no_stmts, more_stmts, MaybeStmts, absent, present, Cases, no_cases, more_cases}
use Rattle.cc_ast.specs.declared.tree.Ref.{Ref}
use Rattle.cc_meaning.specs.Monad.{pick}
use Rattle.cc_tied.specs.Placed.{Place, a_value, an_assigned, a_callee, a_deleted, an_object, keeps, guard, operand}
use Rattle.cc_tied.specs.Rewrites.{init_of, put, put_call, put_on_value, re, re_target, re_all, re_fields, re_value, re_option, re_declarator, re_declarators, re_init, re_names, re_stmt, re_stmts, re_maybe, re_cases}
use Rattle.cc_tied.specs.EachNode.{each_expr, each_target, each_exprs, each_fields, each_option, each_declarator, each_declarators, each_init, each_names, each_stmt, each_stmts, each_maybe, each_cases}

-- both of two answers that are yes together
pub both : {a b : Bool} → (a && b) ≡ true → (a ≡ true) × (b ≡ true)
both {a = true} h = (refl, h)
both {a = false} h = absurd (cc)

pick_same : (b : Bool) (e : Expr) → pick b e e ≡ e
pick_same true e = refl
pick_same false e = refl

-- what is asked of the steps on expressions, where the test says yes
pub record KeepsExprs (step : Expr → Expr) (step_call : ℕ → Expr → Exprs → Expr) (test : Expr → Bool) : Type 0 where
  pub by_step : (e : Expr) → test e ≡ true → step e ≡ e
  pub by_call : (i : ℕ) (f : Expr) (es : Exprs) → test (call i f es) ≡ true → step_call i f es ≡ call i f es

-- what is asked of those on declarators and statements
pub record KeepsLists (trim : Declarator → List Declarator) (trim_in : Declarator → Declarator) (cut : Stmt → Stmts → Stmts) : Type 0 where
  pub by_trim : (d : Declarator) → trim d ≡ d ∷ []
  pub by_trim_in : (d : Declarator) → trim_in d ≡ d
  pub by_cut : (s : Stmt) (ss : Stmts) → cut s ss ≡ more_stmts s ss

module _ (built : Ref → Bool) (step : Expr → Expr) (step_call : ℕ → Expr → Exprs → Expr) (test : Expr → Bool) (K : KeepsExprs step step_call test) where
  put_kept : (t : Bool) (q : Place) (e : Expr) → test e ≡ true → put built step step_call t q e ≡ e
  unfolding put guard
  put_kept t q e h = rw (K.by_step e h) (pick_same (keeps built t q e e) e)

  put_call_kept : (t : Bool) (q : Place) (i : ℕ) (f : Expr) (es : Exprs) → test (call i f es) ≡ true → put_call built step step_call t q i f es ≡ call i f es
  unfolding put_call guard
  put_call_kept t q i f es h = rw (K.by_call i f es h) (pick_same (keeps built t q (call i f es) (call i f es)) (call i f es))

  on_value_kept : (q : Place) (e : Expr) → test e ≡ true → put_on_value built step step_call q e ≡ e
  unfolding put_on_value
  on_value_kept a_value e h = K.by_step e h
  on_value_kept an_assigned e h = K.by_step e h
  on_value_kept a_callee e h = refl
  on_value_kept a_deleted e h = refl
  on_value_kept an_object e h = refl

  mutual
    unfolding re each_expr

    pub re_kept : (t : Bool) (q : Place) (e : Expr) → each_expr test e ≡ true → re built step step_call t q e ≡ e
    re_kept t q (lit i p) h = refl
    re_kept t q (var i r) h = put_kept t q (var i r) h
    re_kept t q (this i) h = put_kept t q (this i) h
    re_kept t q (fun i f) h = put_kept t q (fun i f) h
    re_kept t q (list i es) h = let x : (test (list i es) ≡ true) × ((each_exprs test es) ≡ true) = both h in rw (re_all_kept t es x.1) (put_kept t q (list i es) x.0)
    re_kept t q (object i fs) h = let x : (test (object i fs) ≡ true) × ((each_fields test fs) ≡ true) = both h in rw (re_fields_kept t fs x.1) (put_kept t q (object i fs) x.0)
    re_kept t q (unary i op e) h = let x : (test (unary i op e) ≡ true) × ((each_expr test e) ≡ true) = both h in rw (re_kept t (operand op) e x.1) (put_kept t q (unary i op e) x.0)
    re_kept t q (binary i op a b) h = let x : (test (binary i op a b) ≡ true) × ((each_expr test a && each_expr test b) ≡ true) = both h in let y : (each_expr test a ≡ true) × ((each_expr test b) ≡ true) = both x.1 in rw (re_kept t a_value a y.0, re_kept t a_value b y.1) (put_kept t q (binary i op a b) x.0)
    re_kept t q (and i a b) h = let x : (test (and i a b) ≡ true) × ((each_expr test a && each_expr test b) ≡ true) = both h in let y : (each_expr test a ≡ true) × ((each_expr test b) ≡ true) = both x.1 in rw (re_kept t a_value a y.0, re_kept t a_value b y.1) (put_kept t q (and i a b) x.0)
    re_kept t q (or i a b) h = let x : (test (or i a b) ≡ true) × ((each_expr test a && each_expr test b) ≡ true) = both h in let y : (each_expr test a ≡ true) × ((each_expr test b) ≡ true) = both x.1 in rw (re_kept t a_value a y.0, re_kept t a_value b y.1) (put_kept t q (or i a b) x.0)
    re_kept t q (cond i e a b) h = let x : (test (cond i e a b) ≡ true) × ((each_expr test e && (each_expr test a && each_expr test b)) ≡ true) = both h in let y : (each_expr test e ≡ true) × ((each_expr test a && each_expr test b) ≡ true) = both x.1 in let z : (each_expr test a ≡ true) × ((each_expr test b) ≡ true) = both y.1 in rw (re_kept t a_value e y.0, re_kept t a_value a z.0, re_kept t a_value b z.1) (put_kept t q (cond i e a b) x.0)
    re_kept t q (assign i op u e) h = let x : (test (assign i op u e) ≡ true) × ((each_target test u && each_expr test e) ≡ true) = both h in let y : (each_target test u ≡ true) × ((each_expr test e) ≡ true) = both x.1 in rw (re_target_kept u y.0, re_kept t an_assigned e y.1) (put_kept t q (assign i op u e) x.0)
    re_kept t q (step_of i up prefix u) h = let x : (test (step_of i up prefix u) ≡ true) × ((each_target test u) ≡ true) = both h in rw (re_target_kept u x.1) (put_kept t q (step_of i up prefix u) x.0)
    re_kept t q (member i e p) h = let x : (test (member i e p) ≡ true) × ((each_expr test e) ≡ true) = both h in rw (re_kept t an_object e x.1) (on_value_kept q (member i e p) x.0)
    re_kept t q (index i e k) h = let x : (test (index i e k) ≡ true) × ((each_expr test e && each_expr test k) ≡ true) = both h in let y : (each_expr test e ≡ true) × ((each_expr test k) ≡ true) = both x.1 in rw (re_kept t an_object e y.0, re_kept t a_value k y.1) (on_value_kept q (index i e k) x.0)
    re_kept t q (call i f es) h = let x : (test (call i f es) ≡ true) × ((each_expr test f && each_exprs test es) ≡ true) = both h in let y : (each_expr test f ≡ true) × ((each_exprs test es) ≡ true) = both x.1 in rw (re_kept t a_callee f y.0, re_all_kept t es y.1) (put_call_kept t q i f es x.0)
    re_kept t q (new i f es) h = let x : (test (new i f es) ≡ true) × ((each_expr test f && each_exprs test es) ≡ true) = both h in let y : (each_expr test f ≡ true) × ((each_exprs test es) ≡ true) = both x.1 in rw (re_kept t a_callee f y.0, re_all_kept t es y.1) (put_kept t q (new i f es) x.0)
    re_kept t q (comma i a b) h = let x : (test (comma i a b) ≡ true) × ((each_expr test a && each_expr test b) ≡ true) = both h in let y : (each_expr test a ≡ true) × ((each_expr test b) ≡ true) = both x.1 in rw (re_kept t a_value a y.0, re_kept t a_value b y.1) (put_kept t q (comma i a b) x.0)
    re_kept t q (cast i d e) h = let x : (test (cast i d e) ≡ true) × ((each_expr test e) ≡ true) = both h in rw (re_kept t q e x.1) (on_value_kept q (cast i d e) x.0)
    re_kept t q (tick i n e) h = let x : (test (tick i n e) ≡ true) × ((each_expr test e) ≡ true) = both h in rw (re_kept t q e x.1) (on_value_kept q (tick i n e) x.0)

    pub re_target_kept : (u : Target) → each_target test u ≡ true → re_target built step step_call u ≡ u
    re_target_kept (to_var i r) h = refl
    re_target_kept (to_member i e p) h = rw (re_kept true an_object e h) refl
    re_target_kept (to_index i e k) h = let x : (each_expr test e ≡ true) × ((each_expr test k) ≡ true) = both h in rw (re_kept true an_object e x.0, re_kept true a_value k x.1) refl

    pub re_all_kept : (t : Bool) (es : Exprs) → each_exprs test es ≡ true → re_all built step step_call t es ≡ es
    re_all_kept t no_exprs h = refl
    re_all_kept t (more_exprs e es) h = let x : (each_expr test e ≡ true) × ((each_exprs test es) ≡ true) = both h in rw (re_kept t a_value e x.0, re_all_kept t es x.1) refl

    pub re_fields_kept : (t : Bool) (fs : Fields) → each_fields test fs ≡ true → re_fields built step step_call t fs ≡ fs
    re_fields_kept t no_fields h = refl
    re_fields_kept t (more_fields k e fs) h = let x : (each_expr test e ≡ true) × ((each_fields test fs) ≡ true) = both h in rw (re_kept t a_value e x.0, re_fields_kept t fs x.1) refl

  pub re_value_kept : (e : Expr) → each_expr test e ≡ true → re_value built step step_call e ≡ e
  unfolding re_value
  re_value_kept e h = re_kept false a_value e h

  pub re_option_kept : (o : Option Expr) → each_option test o ≡ true → re_option built step step_call o ≡ o
  unfolding re_option each_option
  re_option_kept None h = refl
  re_option_kept (Some e) h = rw (re_value_kept e h) refl

  pub re_declarator_kept : (d : Declarator) → each_declarator test d ≡ true → re_declarator built step step_call d ≡ d
  unfolding re_declarator each_declarator
  re_declarator_kept d h = rw (re_option_kept d.value h) refl

  module _ (trim : Declarator → List Declarator) (trim_in : Declarator → Declarator) (cut : Stmt → Stmts → Stmts) (L : KeepsLists trim trim_in cut) where
    pub re_declarators_kept : (ds : List Declarator) → each_declarators test ds ≡ true → re_declarators built step step_call trim trim_in ds ≡ ds
    unfolding re_declarators each_declarators
    re_declarators_kept [] h = refl
    re_declarators_kept (d ∷ ds) h = let x : (each_declarator test d ≡ true) × ((each_declarators test ds) ≡ true) = both h in rw (re_declarator_kept d x.0, L.by_trim d, re_declarators_kept ds x.1) refl

    pub re_init_kept : (h : ForInit) → each_init test h ≡ true → re_init built step step_call trim trim_in h ≡ h
    unfolding re_init each_init each_declarators init_of
    re_init_kept no_init k = refl
    re_init_kept (init_value e) k = rw (re_value_kept e k) refl
    re_init_kept (init_vars []) k = absurd (cc)
    re_init_kept (init_vars (d ∷ ds)) k = rw (re_declarators_kept (d ∷ ds) k) refl

    pub re_names_kept : (u : ForTarget) → each_names test u ≡ true → re_names built step step_call trim trim_in u ≡ u
    unfolding re_names each_names
    re_names_kept (in_target u) h = rw (re_target_kept u h) refl
    re_names_kept (in_declared d) h = rw (re_declarator_kept d h, L.by_trim_in d) refl

    mutual
      unfolding re_stmt each_stmt

      pub re_stmt_kept : (s : Stmt) → each_stmt test s ≡ true → re_stmt built step step_call trim trim_in cut s ≡ s
      re_stmt_kept (simple i e) h = rw (re_value_kept e h) refl
      re_stmt_kept (vars i ds) h = rw (re_declarators_kept ds h) refl
      re_stmt_kept (fun_decl i r f) h = refl
      re_stmt_kept (if i e a b) h = let x : (each_expr test e ≡ true) × ((each_stmts test a && each_stmts test b) ≡ true) = both h in let y : (each_stmts test a ≡ true) × ((each_stmts test b) ≡ true) = both x.1 in rw (re_value_kept e x.0, re_stmts_kept a y.0, re_stmts_kept b y.1) refl
      re_stmt_kept (while i e b) h = let x : (each_expr test e ≡ true) × ((each_stmts test b) ≡ true) = both h in rw (re_value_kept e x.0, re_stmts_kept b x.1) refl
      re_stmt_kept (do_while i b e) h = let x : (each_stmts test b ≡ true) × ((each_expr test e) ≡ true) = both h in rw (re_stmts_kept b x.0, re_value_kept e x.1) refl
      re_stmt_kept (for i n e o b) h = let x : (each_init test n ≡ true) × ((each_option test e && (each_option test o && each_stmts test b)) ≡ true) = both h in let y : (each_option test e ≡ true) × ((each_option test o && each_stmts test b) ≡ true) = both x.1 in let z : (each_option test o ≡ true) × ((each_stmts test b) ≡ true) = both y.1 in rw (re_init_kept n x.0, re_option_kept e y.0, re_option_kept o z.0, re_stmts_kept b z.1) refl
      re_stmt_kept (for_in i u e b) h = let x : (each_names test u ≡ true) × ((each_expr test e && each_stmts test b) ≡ true) = both h in let y : (each_expr test e ≡ true) × ((each_stmts test b) ≡ true) = both x.1 in rw (re_names_kept u x.0, re_value_kept e y.0, re_stmts_kept b y.1) refl
      re_stmt_kept (return i o) h = rw (re_option_kept o h) refl
      re_stmt_kept (throw i e) h = rw (re_value_kept e h) refl
      re_stmt_kept (break i l) h = refl
      re_stmt_kept (continue i l) h = refl
      re_stmt_kept (label i l b) h = rw (re_stmts_kept b h) refl
      re_stmt_kept (switch i e cs) h = let x : (each_expr test e ≡ true) × ((each_cases test cs) ≡ true) = both h in rw (re_value_kept e x.0, re_cases_kept cs x.1) refl
      re_stmt_kept (try i b k f) h = let x : (each_stmts test b ≡ true) × ((each_maybe test k && each_maybe test f) ≡ true) = both h in let y : (each_maybe test k ≡ true) × ((each_maybe test f) ≡ true) = both x.1 in rw (re_stmts_kept b x.0, re_maybe_kept k y.0, re_maybe_kept f y.1) refl
      re_stmt_kept (pay_stmt i n) h = refl

      pub re_stmts_kept : (ss : Stmts) → each_stmts test ss ≡ true → re_stmts built step step_call trim trim_in cut ss ≡ ss
      re_stmts_kept no_stmts h = refl
      re_stmts_kept (more_stmts s ss) h = let x : (each_stmt test s ≡ true) × ((each_stmts test ss) ≡ true) = both h in rw (re_stmt_kept s x.0, re_stmts_kept ss x.1) (L.by_cut s ss)

      pub re_maybe_kept : (b : MaybeStmts) → each_maybe test b ≡ true → re_maybe built step step_call trim trim_in cut b ≡ b
      re_maybe_kept absent h = refl
      re_maybe_kept (present b) h = rw (re_stmts_kept b h) refl

      pub re_cases_kept : (cs : Cases) → each_cases test cs ≡ true → re_cases built step step_call trim trim_in cut cs ≡ cs
      re_cases_kept no_cases h = refl
      re_cases_kept (more_cases o b cs) h = let x : (each_option test o ≡ true) × ((each_stmts test b && each_cases test cs) ≡ true) = both h in let y : (each_stmts test b ≡ true) × ((each_cases test cs) ≡ true) = both x.1 in rw (re_option_kept o x.0, re_stmts_kept b y.0, re_cases_kept cs y.1) refl
