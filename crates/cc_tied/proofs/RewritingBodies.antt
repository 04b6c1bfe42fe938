-- Rewriting from the leaves up keeps what each trim and each cut keeps: statements, bodies and chunks.
use Rattle.std.proofs.Common.{refl, ℕ, Bool, false, List, [], ◌∷◌, ◌++◌}
use Rattle.cc_ast.specs.Syntax.{Prim, Expr, Exprs, Declarator, ForInit, no_init, init_value, init_vars, ForTarget, in_target, in_declared, Stmt, simple, vars, fun_decl, if, while, do_while, for, for_in, return, throw, break, continue, label, switch, try, pay_stmt, Stmts, no_stmts, more_stmts, MaybeStmts, absent, present, Cases, no_cases, more_cases}
use Rattle.cc_ast.specs.declared.tree.Ref.{Ref}
use Rattle.cc_meaning.specs.Shapes.{declared_by}
use Rattle.cc_meaning.specs.Meaning as M
use Rattle.cc_tied.specs.Rewrites.{init_of, re_declarator, re_declarators, re_init, re_names, re_stmt, re_stmts, re_maybe, re_cases, whole, whole_in}
use Rattle.cc_tied.specs.Fine.{FineDeclarator, FineDeclarators, FineInit, FineNames, FineStmt, FineStmts, FineMaybe, FineCases}
use Rattle.cc_tied.proofs.Kit.{Kit}
use Rattle.cc_tied.proofs.Parts.{Below}
use Rattle.cc_tied.proofs.Nodes as N
use Rattle.cc_tied.proofs.Statements as S
use Rattle.cc_tied.proofs.Turns as T
use Rattle.cc_tied.proofs.Rewriting as R
use Rattle.cc_tied.proofs.Rewriting.{Standing, allowed, BindsT, bound_by_write, bound_alone}

module _ (K : Kit) (X : Below K) (built : Ref → Bool) (Here : K.Ctx → Type 0) (Stands : Standing K.Ctx) (step : Expr → Expr) (step_call : ℕ → Expr → Exprs → Expr) (trim : Declarator → List Declarator) (trim_in : Declarator → Declarator) (cut : Stmt → Stmts → Stmts) where
  abbrev pub new_stmt : Stmt → Stmt
  new_stmt s = re_stmt built step step_call trim trim_in cut s

  abbrev pub new_stmts : Stmts → Stmts
  new_stmts ss = re_stmts built step step_call trim trim_in cut ss

  -- what the trims and cuts of a pass owe, in the contexts where it rewrites
  pub record Rules : Type 0 where
    -- a declarator and a statement, beside what their parts became
    pub trims : (c : K.Ctx) → Here c → (d : Declarator) (ds ds' : List Declarator) → FineDeclarator K.Ctx (allowed K Stands) c d → S.FollowsSet K X c d (R.new_declarator K X built Here Stands step step_call d) → S.FollowsDecls K X c ds ds' → S.FollowsDecls K X c (d ∷ ds) (trim (R.new_declarator K X built Here Stands step step_call d) ++ ds')
    pub trim_ins : (c : K.Ctx) → Here c → (d : Declarator) → K.WriteT c d.variable d.variable → FineDeclarator K.Ctx (allowed K Stands) c d → S.FollowsSet K X c d (R.new_declarator K X built Here Stands step step_call d) → S.FollowsNames K X c (in_declared d) (in_declared (trim_in (R.new_declarator K X built Here Stands step step_call d)))
    pub cuts : (c : K.Ctx) → Here c → (ls : List (List ℕ)) (s : Stmt) (ss ss' : Stmts) → Stands.of_stmt c ls s → FineStmt K.Ctx (allowed K Stands) c ls s → S.FollowsStmt K X c ls s (new_stmt s) → S.FollowsStmts K X c ls ss ss' → S.FollowsStmts K X c ls (more_stmts s ss) (cut (new_stmt s) ss')
    -- in a function's or a chunk's own list
    pub hoists : (c : K.Ctx) → Here c → (s : Stmt) (ss ss' : Stmts) → Stands.of_stmt c [] s → FineStmt K.Ctx (allowed K Stands) c [] s → S.FollowsHoistOne K X c s (new_stmt s) → S.FollowsHoist K X c ss ss' → S.FollowsHoist K X c (more_stmts s ss) (cut (new_stmt s) ss')
    pub chunks : (n : ℕ) → Here (K.outer n) → (s : Stmt) (ss ss' : Stmts) → Stands.of_stmt (K.outer n) [] s → FineStmt K.Ctx (allowed K Stands) (K.outer n) [] s → S.FollowsStmt K X (K.outer n) [] s (new_stmt s) → T.FollowsChunk K X n ss ss' → T.FollowsChunk K X n (more_stmts s ss) (cut (new_stmt s) ss')

  module _ (same : N.SameTables K X built) (by_steps : R.StepRules K X built Here Stands step step_call) (rules : Rules) where
    module _ (c : K.Ctx) (here : Here c) where
      re_like_declarators : (ds : List Declarator) → FineDeclarators K.Ctx (allowed K Stands) c ds → S.FollowsDecls K X c ds (re_declarators built step step_call trim trim_in ds)
      unfolding re_declarators FineDeclarators
      re_like_declarators [] o = S.follows_no_decls K X c
      re_like_declarators (d ∷ ds) o = rules.trims c here d ds _ o.0 (R.re_like_declarator K X built Here Stands step step_call same by_steps c here d o.0) (re_like_declarators ds o.1)

      init_vars_like : (ds ds' : List Declarator) → S.FollowsDecls K X c ds ds' → S.FollowsInit K X c (init_vars ds) (init_of ds')
      unfolding init_of M.begin_for M.declare
      init_vars_like ds [] h = record { by = λ v l g g' t. h.by v l g g' t }
      init_vars_like ds (d ∷ ds') h = S.follows_init_vars K X c h

      re_like_init : (h : ForInit) → FineInit K.Ctx (allowed K Stands) c h → S.FollowsInit K X c h (re_init built step step_call trim trim_in h)
      unfolding re_init FineInit
      re_like_init no_init o = S.follows_no_init K X c
      re_like_init (init_value e) o = S.follows_init_value K X c (R.re_like_value K X built Here Stands step step_call same by_steps c here e o)
      re_like_init (init_vars ds) o = init_vars_like ds _ (re_like_declarators ds o)

      re_like_names : (u : ForTarget) → FineNames K.Ctx (allowed K Stands) c u → S.FollowsNames K X c u (re_names built step step_call trim trim_in u)
      unfolding re_names FineNames
      re_like_names (in_target u) o = S.follows_in_target K X c (R.re_like_target K X built Here Stands step step_call same by_steps c here false u o)
      re_like_names (in_declared d) o = rules.trim_ins c here d o.0 o.1 (R.re_like_declarator K X built Here Stands step step_call same by_steps c here d o.1)

    -- ---- statements

    mutual
      unfolding re_stmt FineStmt

      pub re_like_stmt : (c : K.Ctx) → Here c → (ls : List (List ℕ)) (s : Stmt) → FineStmt K.Ctx (allowed K Stands) c ls s → S.FollowsStmt K X c ls s (new_stmt s)
      re_like_stmt c here ls (simple i e) o = S.follows_simple K X c (R.re_like_value K X built Here Stands step step_call same by_steps c here e o)
      re_like_stmt c here ls (vars i ds) o = S.follows_vars K X c (re_like_declarators c here ds o)
      re_like_stmt c here ls (fun_decl i r f) o = S.follows_fun_decl K X c
      re_like_stmt c here ls (if i e a b) o = S.follows_if K X c (R.re_like_value K X built Here Stands step step_call same by_steps c here e o.0) (re_like_stmts c here [] a o.1) (re_like_stmts c here [] b o.2)
      re_like_stmt c here ls (while i e b) o = S.follows_while K X c (S.follows_test K X c (R.re_like_value K X built Here Stands step step_call same by_steps c here e o.0)) (re_like_stmts c here [] b o.1)
      re_like_stmt c here ls (do_while i b e) o = S.follows_do_while K X c (re_like_stmts c here [] b o.0) (S.follows_test K X c (R.re_like_value K X built Here Stands step step_call same by_steps c here e o.1))
      re_like_stmt c here ls (for i h e f b) o = S.follows_for K X c (re_like_init c here h o.0) (R.re_like_test K X built Here Stands step step_call same by_steps c here e o.1) (R.re_like_only K X built Here Stands step step_call same by_steps c here f o.2) (re_like_stmts c here [] b o.3)
      re_like_stmt c here ls (for_in i u e b) o = S.follows_for_in K X c (same.sites i) (re_like_names c here u o.0) (R.re_like_value K X built Here Stands step step_call same by_steps c here e o.1) (re_like_stmts c here [] b o.2)
      re_like_stmt c here ls (return i v) o = R.re_like_return K X built Here Stands step step_call same by_steps c here ls i v o
      re_like_stmt c here ls (throw i e) o = S.follows_throw K X c (R.re_like_value K X built Here Stands step step_call same by_steps c here e o)
      re_like_stmt c here ls (break i l) o = S.follows_break K X c l
      re_like_stmt c here ls (continue i l) o = S.follows_continue K X c l
      re_like_stmt c here ls (label i l b) o = S.follows_label K X c l (re_like_stmts c here (l ∷ ls) b o)
      re_like_stmt c here ls (switch i e cs) o = S.follows_switch K X c (R.re_like_value K X built Here Stands step step_call same by_steps c here e o.0) (re_like_cases c here cs o.1)
      re_like_stmt c here ls (try i b k f) o = S.follows_try K X c (re_like_stmts c here [] b o.0) (re_like_catch c here k o.1) (re_like_finally c here f o.2)
      re_like_stmt c here ls (pay_stmt i n) o = S.follows_pay K X c n

      pub re_like_stmts : (c : K.Ctx) → Here c → (ls : List (List ℕ)) (ss : Stmts) → FineStmts K.Ctx (allowed K Stands) c ls ss → S.FollowsStmts K X c ls ss (new_stmts ss)
      re_like_stmts c here ls no_stmts o = S.follows_no_stmts K X c
      re_like_stmts c here ls (more_stmts s ss) o = rules.cuts c here ls s ss _ o.0 o.1 (re_like_stmt c here ls s o.1) (re_like_stmts c here ls ss o.2)

      re_like_catch : (c : K.Ctx) → Here c → (k : MaybeStmts) → FineMaybe K.Ctx (allowed K Stands) (K.in_catch c) k → S.FollowsCatch K X c k (re_maybe built step step_call trim trim_in cut k)
      re_like_catch c here absent o = S.follows_no_catch K X c
      re_like_catch c here (present b) o = S.follows_catch K X c (re_like_stmts (K.in_catch c) (by_steps.caught c here) [] b o)

      re_like_finally : (c : K.Ctx) → Here c → (k : MaybeStmts) → FineMaybe K.Ctx (allowed K Stands) c k → S.FollowsFinally K X c k (re_maybe built step step_call trim trim_in cut k)
      re_like_finally c here absent o = S.follows_no_finally K X c
      re_like_finally c here (present b) o = S.follows_finally K X c (re_like_stmts c here [] b o)

      re_like_cases : (c : K.Ctx) → Here c → (cs : Cases) → FineCases K.Ctx (allowed K Stands) c cs → S.FollowsCases K X c cs (re_cases built step step_call trim trim_in cut cs)
      re_like_cases c here no_cases o = S.follows_no_cases K X c
      re_like_cases c here (more_cases v b cs) o = R.re_like_case K X built Here Stands step step_call same by_steps c here v o.0 (re_like_stmts c here [] b o.1) (re_like_cases c here cs o.2)

    -- ---- hoisting, bodies and chunks

    -- where no variable is bound but by a write
    abbrev pub Written : K.Ctx → Type 0
    Written c = (r : Ref) (f : ℕ) → K.BindT c r f → ⊥

    bound_like : (c : K.Ctx) → Written c → (i : ℕ) (r : Ref) (f : ℕ) → BindsT K c r f → K.StandT c f f → S.FollowsHoistOne K X c (fun_decl i r f) (fun_decl i r f)
    bound_like c no_binds i r f (bound_by_write wr) st = S.hoist_fun K X c (same.sites i) st wr
    bound_like c no_binds i r f (bound_alone h) st = absurd (no_binds r f h)

    hoist_one_like : (c : K.Ctx) → Written c → (ls : List (List ℕ)) (s : Stmt) → FineStmt K.Ctx (allowed K Stands) c ls s → S.FollowsHoistOne K X c s (new_stmt s)
    unfolding re_stmt FineStmt S.declares_function
    hoist_one_like c nb ls (fun_decl i r f) o = bound_like c nb i r f o.0 o.1
    hoist_one_like c nb ls s o = S.hoist_other K X c s _ refl refl

    pub re_like_hoist : (c : K.Ctx) → Here c → Written c → (ss : Stmts) → FineStmts K.Ctx (allowed K Stands) c [] ss → S.FollowsHoist K X c ss (new_stmts ss)
    unfolding re_stmt FineStmt
    re_like_hoist c here nb no_stmts o = S.hoist_no K X c
    re_like_hoist c here nb (more_stmts s ss) o = rules.hoists c here s ss _ o.0 o.1 (hoist_one_like c nb [] s o.1) (re_like_hoist c here nb ss o.2)

    -- the body of a function
    pub re_like_body : (c : K.Ctx) → Here c → Written c → (ss : Stmts) → FineStmts K.Ctx (allowed K Stands) c [] ss → S.FollowsBody K X c ss (new_stmts ss)
    re_like_body c here nb ss o = record { hoist = re_like_hoist c here nb ss o; runs = re_like_stmts c here [] ss o }

    -- a chunk's own list
    pub re_like_chunk : (n : ℕ) → Here (K.outer n) → (ss : Stmts) → FineStmts K.Ctx (allowed K Stands) (K.outer n) [] ss → T.FollowsChunk K X n ss (new_stmts ss)
    unfolding re_stmt FineStmt
    re_like_chunk n here no_stmts o = T.follows_no_chunk K X
    re_like_chunk n here (more_stmts s ss) o = rules.chunks n here s ss _ o.0 o.1 (re_like_stmt (K.outer n) here [] s o.1) (re_like_chunk n here ss o.2)

-- ---- a pass that leaves statements and declarators whole

module _ (K : Kit) (X : Below K) (built : Ref → Bool) (Here : K.Ctx → Type 0) (Stands : Standing K.Ctx) (step : Expr → Expr) (step_call : ℕ → Expr → Exprs → Expr) where
  -- statements of chunks declare the prototypes that they declared before
  pub whole_rules : N.SameTables K X built → ((n : ℕ) (s : Stmt) → Stands.of_stmt (K.outer n) [] s → K.DeclaresT (declared_by K.tables s) (declared_by K.tables' (re_stmt built step step_call whole whole_in more_stmts s))) → Rules K X built Here Stands step step_call whole whole_in more_stmts
  unfolding FineDeclarator re_declarator
  whole_rules same declares = record {
    trims = λ c h d ds ds' o hd hs. S.follows_more_decls K X c hd hs;
    trim_ins = λ c h d wr o hd. S.follows_in_declared K X c (same.sites d.site) wr hd;
    cuts = λ c h ls s ss ss' st o hs hss. S.follows_more_stmts K X c hs hss;
    hoists = λ c h s ss ss' st o hs hss. S.hoist_more K X c hs hss;
    chunks = λ n h s ss ss' st o hs hss. T.follows_more_chunk K X (declares n s st) hs hss;
  }
