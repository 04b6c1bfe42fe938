-- Where no step changes anything, trees stay; and each fine tree follows itself.
use Rattle.std.proofs.Common.{◌≡◌, refl, ℕ, Bool, true, false, List, [], ◌∷◌, Option, Some, None, subst}
use Rattle.cc_ast.specs.Syntax.{Expr, lit, var, this, fun, list, object, unary, binary, and, or, cond, assign, step as step_of, member, index, call, new, comma, cast, tick, Target, to_var, to_member, to_index, Exprs, no_exprs, more_exprs, Fields, no_fields, more_fields, Declarator, ForInit, no_init, init_value, init_vars, ForTarget, in_target, in_declared, Stmt, simple, vars, fun_decl, if, while, do_while, for, for_in, return, throw, break, continue, label, switch, try, pay_stmt, Stmts, no_stmts, more_stmts, MaybeStmts, absent, present, Cases, no_cases, more_cases}
use Rattle.cc_ast.specs.declared.tree.Ref.{Ref}
use Rattle.cc_meaning.specs.Monad.{pick}
use Rattle.cc_meaning.specs.Shapes.{declared_by}
use Rattle.cc_tied.specs.Placed.{Place, a_value, an_assigned, a_callee, a_deleted, an_object, keeps, guard, operand}
use Rattle.cc_tied.specs.Rewrites.{put, put_call, put_on_value, re, re_target, re_all, re_fields, re_value, re_option, re_declarator, stay_call}
use Rattle.cc_tied.specs.Fine.{FineOption, FineDeclarator, FineDeclarators, FineInit, FineNames, FineStmt, FineStmts, FineMaybe, FineCases, Fine, FineTarget}
use Rattle.cc_tied.proofs.Kit.{Kit}
use Rattle.cc_tied.proofs.Parts.{Below}
use Rattle.cc_tied.proofs.Expressions as E
use Rattle.cc_tied.proofs.Valued as W
use Rattle.cc_tied.proofs.Nodes as N
use Rattle.cc_tied.proofs.Statements as S
use Rattle.cc_tied.proofs.Turns as T
use Rattle.cc_tied.proofs.Rewriting as R
use Rattle.cc_tied.proofs.Rewriting.{Standing, allowed, BindsT, bound_by_write, bound_alone, SetsT, set_by_write, set_alone}

-- no step
unfoldable pub stay : Expr → Expr
stay e = e

pick_same : (b : Bool) (e : Expr) → pick b e e ≡ e
pick_same true e = refl
pick_same false e = refl

module _ (built : Ref → Bool) where
  put_same : (t : Bool) (q : Place) (e : Expr) → put built stay stay_call t q e ≡ e
  unfolding put guard stay
  put_same t q e = pick_same (keeps built t q e e) e

  put_call_same : (t : Bool) (q : Place) (i : ℕ) (f : Expr) (es : Exprs) → put_call built stay stay_call t q i f es ≡ call i f es
  unfolding put_call guard stay_call
  put_call_same t q i f es = pick_same (keeps built t q (call i f es) (call i f es)) (call i f es)

  on_value_same : (q : Place) (e : Expr) → put_on_value built stay stay_call q e ≡ e
  unfolding put_on_value stay
  on_value_same a_value e = refl
  on_value_same an_assigned e = refl
  on_value_same a_callee e = refl
  on_value_same a_deleted e = refl
  on_value_same an_object e = refl

  mutual
    unfolding re

    pub re_same : (t : Bool) (q : Place) (e : Expr) → re built stay stay_call t q e ≡ e
    re_same t q (lit i p) = refl
    re_same t q (var i r) = put_same t q (var i r)
    re_same t q (this i) = put_same t q (this i)
    re_same t q (fun i f) = put_same t q (fun i f)
    re_same t q (list i es) = rw (re_all_same t es) (put_same t q (list i es))
    re_same t q (object i fs) = rw (re_fields_same t fs) (put_same t q (object i fs))
    re_same t q (unary i op e) = rw (re_same t (operand op) e) (put_same t q (unary i op e))
    re_same t q (binary i op a b) = rw (re_same t a_value a, re_same t a_value b) (put_same t q (binary i op a b))
    re_same t q (and i a b) = rw (re_same t a_value a, re_same t a_value b) (put_same t q (and i a b))
    re_same t q (or i a b) = rw (re_same t a_value a, re_same t a_value b) (put_same t q (or i a b))
    re_same t q (cond i e a b) = rw (re_same t a_value e, re_same t a_value a, re_same t a_value b) (put_same t q (cond i e a b))
    re_same t q (assign i op u e) = rw (re_target_same u, re_same t an_assigned e) (put_same t q (assign i op u e))
    re_same t q (step_of i up prefix u) = rw (re_target_same u) (put_same t q (step_of i up prefix u))
    re_same t q (member i e p) = rw (re_same t an_object e) (on_value_same q (member i e p))
    re_same t q (index i e k) = rw (re_same t an_object e, re_same t a_value k) (on_value_same q (index i e k))
    re_same t q (call i f es) = rw (re_same t a_callee f, re_all_same t es) (put_call_same t q i f es)
    re_same t q (new i f es) = rw (re_same t a_callee f, re_all_same t es) (put_same t q (new i f es))
    re_same t q (comma i a b) = rw (re_same t a_value a, re_same t a_value b) (put_same t q (comma i a b))
    re_same t q (cast i d e) = rw (re_same t q e) (on_value_same q (cast i d e))
    re_same t q (tick i n e) = rw (re_same t q e) (on_value_same q (tick i n e))

    pub re_target_same : (u : Target) → re_target built stay stay_call u ≡ u
    re_target_same (to_var i r) = refl
    re_target_same (to_member i e p) = rw (re_same true an_object e) refl
    re_target_same (to_index i e k) = rw (re_same true an_object e, re_same true a_value k) refl

    pub re_all_same : (t : Bool) (es : Exprs) → re_all built stay stay_call t es ≡ es
    re_all_same t no_exprs = refl
    re_all_same t (more_exprs e es) = rw (re_same t a_value e, re_all_same t es) refl

    pub re_fields_same : (t : Bool) (fs : Fields) → re_fields built stay stay_call t fs ≡ fs
    re_fields_same t no_fields = refl
    re_fields_same t (more_fields k e fs) = rw (re_same t a_value e, re_fields_same t fs) refl

  pub re_value_same : (e : Expr) → re_value built stay stay_call e ≡ e
  unfolding re_value
  re_value_same e = re_same false a_value e

  pub re_option_same : (o : Option Expr) → re_option built stay stay_call o ≡ o
  unfolding re_option
  re_option_same None = refl
  re_option_same (Some e) = rw (re_value_same e) refl

  pub re_declarator_same : (d : Declarator) → re_declarator built stay stay_call d ≡ d
  unfolding re_declarator
  re_declarator_same d = rw (re_option_same d.value) refl

  -- .. and where the step answers what it is given
  pub value_same : (e : Expr) → re_value built (λ e. e) stay_call e ≡ e
  unfolding stay
  value_same e = re_value_same e

  pub declarator_same : (d : Declarator) → re_declarator built (λ e. e) stay_call d ≡ d
  unfolding stay
  declarator_same d = re_declarator_same d

-- a pass whose steps answer what they are given
pub no_step_rules : (K : Kit) (X : Below K) (built : Ref → Bool) → N.SameTables K X built → (Here : K.Ctx → Type 0) → ((c : K.Ctx) → Here c → Here (K.in_catch c)) → (Stands : Standing K.Ctx) → R.StepRules K X built Here Stands (λ e. e) stay_call
unfolding stay_call
no_step_rules K X built same Here caught Stands = record {
  caught = caught;
  reads = λ c h i r rd. (E.follows_var K X c (same.sites i) rd, N.var_valued K X built same c i r rd);
  steps = λ c h e e' n. N.node_valued K X built same c n;
  calls = λ c h i f f' es es' hf ha. N.call_valued K X built same c i hf ha;
}

-- ---- each fine tree follows itself

module _ (K : Kit) (X : Below K) (built : Ref → Bool) (same : N.SameTables K X built) (Stands : Standing K.Ctx) where
  abbrev Anywhere : K.Ctx → Type 0
  Anywhere c = Unit {0}

  abbrev Written : K.Ctx → Type 0
  Written c = (r : Ref) (f : ℕ) → K.BindT c r f → ⊥

  no_steps : R.StepRules K X built Anywhere Stands stay stay_call
  unfolding stay
  no_steps = no_step_rules K X built same Anywhere (λ c h. h) Stands

  module _ (c : K.Ctx) where
    pub like : (e : Expr) → Fine K.Ctx (allowed K Stands) c e → W.FollowsValue K X built c e e
    like e o = subst (λ z. W.FollowsValue K X built c e z) (re_same built false a_value e) (R.re_like K X built Anywhere Stands stay stay_call same no_steps c tt false a_value e o)

    like_value : (e : Expr) → Fine K.Ctx (allowed K Stands) c e → E.Follows K X c e e
    like_value e o = (like e o).values None None

    like_target : (b : Bool) (u : Target) → FineTarget K.Ctx (allowed K Stands) c b u → E.FollowsTarget K X c (R.ReadWhere K X built Anywhere Stands stay stay_call same no_steps c tt b) u u
    like_target b u o = subst (λ z. E.FollowsTarget K X c (R.ReadWhere K X built Anywhere Stands stay stay_call same no_steps c tt b) u z) (re_target_same built u) (R.re_like_target K X built Anywhere Stands stay stay_call same no_steps c tt b u o)

    like_test : (v : Option Expr) → FineOption K.Ctx (allowed K Stands) c v → S.FollowsTest K X c v v
    unfolding FineOption
    like_test None o = S.follows_no_test K X c
    like_test (Some e) o = S.follows_test K X c (like_value e o)

    like_only : (v : Option Expr) → FineOption K.Ctx (allowed K Stands) c v → S.FollowsOnly K X c v v
    unfolding FineOption
    like_only None o = S.follows_no_only K X c
    like_only (Some e) o = S.follows_only K X c (like_value e o)

    like_return : (ls : List (List ℕ)) (i : ℕ) (v : Option Expr) → FineOption K.Ctx (allowed K Stands) c v → S.FollowsStmt K X c ls (return i v) (return i v)
    unfolding FineOption
    like_return ls i None o = S.follows_return_none K X c (same.sites i)
    like_return ls i (Some e) o = S.follows_return K X c (same.sites i) (like_value e o)

    like_case : (v : Option Expr) {b : Stmts} {cs : Cases} → FineOption K.Ctx (allowed K Stands) c v → S.FollowsStmts K X c [] b b → S.FollowsCases K X c cs cs → S.FollowsCases K X c (more_cases v b cs) (more_cases v b cs)
    unfolding FineOption
    like_case None o h k = S.follows_default K X c h k
    like_case (Some e) o h k = S.follows_case K X c (like_value e o) h k

    like_set : (i : ℕ) (r : Ref) (v : Option Expr) → SetsT K c r v → FineOption K.Ctx (allowed K Stands) c v → S.FollowsSet K X c (record { site = i; variable = r; value = v }) (record { site = i; variable = r; value = v })
    unfolding FineOption
    like_set i r None h o = S.follows_bare K X c
    like_set i r (Some e) (set_by_write wr) o = S.follows_set K X c (same.sites i) wr ((like e o).values _ _)
    like_set i r (Some _) (set_alone {i = j} {p = p} h) o = S.follows_set_literal K X c (same.sites i) j j h

    pub like_declarator : (d : Declarator) → FineDeclarator K.Ctx (allowed K Stands) c d → S.FollowsSet K X c d d
    unfolding FineDeclarator
    like_declarator d o = like_set d.site d.variable d.value o.0.0 o.1

    pub like_declarators : (ds : List Declarator) → FineDeclarators K.Ctx (allowed K Stands) c ds → S.FollowsDecls K X c ds ds
    unfolding FineDeclarators
    like_declarators [] o = S.follows_no_decls K X c
    like_declarators (d ∷ ds) o = S.follows_more_decls K X c (like_declarator d o.0) (like_declarators ds o.1)

    like_init : (h : ForInit) → FineInit K.Ctx (allowed K Stands) c h → S.FollowsInit K X c h h
    unfolding FineInit
    like_init no_init o = S.follows_no_init K X c
    like_init (init_value e) o = S.follows_init_value K X c (like_value e o)
    like_init (init_vars ds) o = S.follows_init_vars K X c (like_declarators ds o)

    like_names : (u : ForTarget) → FineNames K.Ctx (allowed K Stands) c u → S.FollowsNames K X c u u
    unfolding FineNames FineDeclarator
    like_names (in_target u) o = S.follows_in_target K X c (like_target false u o)
    like_names (in_declared d) o = S.follows_in_declared K X c (same.sites d.site) o.0 (like_declarator d o.1)

  mutual
    unfolding FineStmt

    pub like_stmt : (c : K.Ctx) (ls : List (List ℕ)) (s : Stmt) → FineStmt K.Ctx (allowed K Stands) c ls s → S.FollowsStmt K X c ls s s
    like_stmt c ls (simple i e) o = S.follows_simple K X c (like_value c e o)
    like_stmt c ls (vars i ds) o = S.follows_vars K X c (like_declarators c ds o)
    like_stmt c ls (fun_decl i r f) o = S.follows_fun_decl K X c
    like_stmt c ls (if i e a b) o = S.follows_if K X c (like_value c e o.0) (like_stmts c [] a o.1) (like_stmts c [] b o.2)
    like_stmt c ls (while i e b) o = S.follows_while K X c (S.follows_test K X c (like_value c e o.0)) (like_stmts c [] b o.1)
    like_stmt c ls (do_while i b e) o = S.follows_do_while K X c (like_stmts c [] b o.0) (S.follows_test K X c (like_value c e o.1))
    like_stmt c ls (for i h e f b) o = S.follows_for K X c (like_init c h o.0) (like_test c e o.1) (like_only c f o.2) (like_stmts c [] b o.3)
    like_stmt c ls (for_in i u e b) o = S.follows_for_in K X c (same.sites i) (like_names c u o.0) (like_value c e o.1) (like_stmts c [] b o.2)
    like_stmt c ls (return i v) o = like_return c ls i v o
    like_stmt c ls (throw i e) o = S.follows_throw K X c (like_value c e o)
    like_stmt c ls (break i l) o = S.follows_break K X c l
    like_stmt c ls (continue i l) o = S.follows_continue K X c l
    like_stmt c ls (label i l b) o = S.follows_label K X c l (like_stmts c (l ∷ ls) b o)
    like_stmt c ls (switch i e cs) o = S.follows_switch K X c (like_value c e o.0) (like_cases c cs o.1)
    like_stmt c ls (try i b k f) o = S.follows_try K X c (like_stmts c [] b o.0) (like_catch c k o.1) (like_finally c f o.2)
    like_stmt c ls (pay_stmt i n) o = S.follows_pay K X c n

    pub like_stmts : (c : K.Ctx) (ls : List (List ℕ)) (ss : Stmts) → FineStmts K.Ctx (allowed K Stands) c ls ss → S.FollowsStmts K X c ls ss ss
    like_stmts c ls no_stmts o = S.follows_no_stmts K X c
    like_stmts c ls (more_stmts s ss) o = S.follows_more_stmts K X c (like_stmt c ls s o.1) (like_stmts c ls ss o.2)

    like_catch : (c : K.Ctx) (k : MaybeStmts) → FineMaybe K.Ctx (allowed K Stands) (K.in_catch c) k → S.FollowsCatch K X c k k
    like_catch c absent o = S.follows_no_catch K X c
    like_catch c (present b) o = S.follows_catch K X c (like_stmts (K.in_catch c) [] b o)

    like_finally : (c : K.Ctx) (k : MaybeStmts) → FineMaybe K.Ctx (allowed K Stands) c k → S.FollowsFinally K X c k k
    like_finally c absent o = S.follows_no_finally K X c
    like_finally c (present b) o = S.follows_finally K X c (like_stmts c [] b o)

    like_cases : (c : K.Ctx) (cs : Cases) → FineCases K.Ctx (allowed K Stands) c cs → S.FollowsCases K X c cs cs
    like_cases c no_cases o = S.follows_no_cases K X c
    like_cases c (more_cases v b cs) o = like_case c v o.0 (like_stmts c [] b o.1) (like_cases c cs o.2)

  like_bound : (c : K.Ctx) → Written c → (i : ℕ) (r : Ref) (f : ℕ) → BindsT K c r f → K.StandT c f f → S.FollowsHoistOne K X c (fun_decl i r f) (fun_decl i r f)
  like_bound c nb i r f (bound_by_write wr) st = S.hoist_fun K X c (same.sites i) st wr
  like_bound c nb i r f (bound_alone h) st = absurd (nb r f h)

  like_hoist_one : (c : K.Ctx) → Written c → (ls : List (List ℕ)) (s : Stmt) → FineStmt K.Ctx (allowed K Stands) c ls s → S.FollowsHoistOne K X c s s
  unfolding FineStmt S.declares_function
  like_hoist_one c nb ls (fun_decl i r f) o = like_bound c nb i r f o.0 o.1
  like_hoist_one c nb ls s o = S.hoist_other K X c s s refl refl

  pub like_hoist : (c : K.Ctx) → Written c → (ss : Stmts) → FineStmts K.Ctx (allowed K Stands) c [] ss → S.FollowsHoist K X c ss ss
  unfolding FineStmt
  like_hoist c nb no_stmts o = S.hoist_no K X c
  like_hoist c nb (more_stmts s ss) o = S.hoist_more K X c (like_hoist_one c nb [] s o.1) (like_hoist c nb ss o.2)

  pub like_body : (c : K.Ctx) → Written c → (ss : Stmts) → FineStmts K.Ctx (allowed K Stands) c [] ss → S.FollowsBody K X c ss ss
  like_body c nb ss o = record { hoist = like_hoist c nb ss o; runs = like_stmts c [] ss o }

  -- a chunk's own list, whose statements declare the same prototypes
  pub like_chunk : (n : ℕ) → ((s : Stmt) → Stands.of_stmt (K.outer n) [] s → K.DeclaresT (declared_by K.tables s) (declared_by K.tables' s)) → (ss : Stmts) → FineStmts K.Ctx (allowed K Stands) (K.outer n) [] ss → T.FollowsChunk K X n ss ss
  unfolding FineStmt
  like_chunk n d no_stmts o = T.follows_no_chunk K X
  like_chunk n d (more_stmts s ss) o = T.follows_more_chunk K X (d s o.0) (like_stmt (K.outer n) [] s o.1) (like_chunk n d ss o.2)
