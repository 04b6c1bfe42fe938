-- A rewriting by a step that drops parts leaves parts that stood before.
use Rattle.std.proofs.Common.{◌≡◌, ℕ, suc, Bool, true, false, List, [], ◌∷◌, Option, Some, None, sym, subst}
use Rattle.cc_ast.specs.Syntax.{Expr, lit, var, this, fun, list, object, unary, binary, and, or, cond, assign, step as step_of, member, index, call, new, comma, cast, tick, Target, to_var, to_member, to_index, Exprs, no_exprs, more_exprs, Fields, no_fields, more_fields, Declarator, ForInit, no_init, init_value, init_vars, ForTarget, in_target, in_declared, Stmt, simple, vars, fun_decl, if, while, do_while, for, for_in, return, throw, break, continue, label, switch, try, pay_stmt, Stmts, no_stmts, more_stmts, MaybeStmts, absent, present, Cases, no_cases, more_cases}
use Rattle.cc_ast.specs.declared.tree.Ref.{Ref}
use Rattle.cc_meaning.specs.State.{Tables}
use Rattle.cc_meaning.specs.Parts.{Part, has_site, uses_prop, uses_doc, declares, key_parts, expr_parts, target_parts, exprs_parts, fields_parts, option_parts, vars_parts, init_parts, name_parts, stmt_parts, stmts_parts, maybe_parts, cases_parts}
use Rattle.cc_tied.specs.Placed.{Place, a_value, an_assigned, a_callee, an_object, operand}
use Rattle.cc_tied.specs.Rewrites.{put, re, re_target, re_all, re_fields, re_value, re_option, re_declarators, re_init, re_names, re_stmt, re_stmts, re_maybe, re_cases, whole, whole_in}
use Rattle.cc_tied.proofs.Mixed.KeptPaths.{re_member}
use Rattle.cc_fold.proofs.WellMade.FewerParts.{Fewer, fewer_same, fewer_twice, fewer_both, fewer_kept}
use Rattle.cc_fold.proofs.DroppingSteps.{re_any_call, Drops, put_either, re_index, re_cast, re_tick}
use Rattle.cc_fold.proofs.WellMade.RewrittenMethods.{method_fewer}

module _ (T : Tables) (built : Ref → Bool) (step : Expr → Expr) (step_call : ℕ → Expr → Exprs → Expr) (D : Drops T step step_call) where
  abbrev R : Bool → Place → Expr → Expr
  R t q e = re built step step_call t q e

  put_fewer : (c : ℕ) (t : Bool) (q : Place) (e : Expr) {xs : List Part} → Fewer (expr_parts T c e) xs → Fewer (expr_parts T c (put built step step_call t q e)) xs
  put_fewer c t q e {xs = xs} h = fewer_twice (put_either built step step_call (λ z. Fewer (expr_parts T c z) (expr_parts T c e)) t q e (fewer_same (expr_parts T c e)) (D.parts c e)) h

  as_node : (c : ℕ) {e d : Expr} {xs : List Part} → e ≡ d → Fewer (expr_parts T c d) xs → Fewer (expr_parts T c e) xs
  as_node c {xs = xs} h k = subst (λ z. Fewer (expr_parts T c z) xs) (sym h) k

  mutual
    unfolding re expr_parts

    re_fewer : (c : ℕ) (t : Bool) (q : Place) (e : Expr) → Fewer (expr_parts T c (R t q e)) (expr_parts T c e)
    re_fewer c t q (lit i p) = fewer_same _
    re_fewer c t q (var i r) = put_fewer c t q (var i r) (fewer_same _)
    re_fewer c t q (this i) = put_fewer c t q (this i) (fewer_same _)
    re_fewer c t q (fun i f) = put_fewer c t q (fun i f) (fewer_same _)
    re_fewer c t q (list i es) = put_fewer c t q _ (fewer_kept (has_site i) (all_fewer c t es))
    re_fewer c t q (object i fs) = put_fewer c t q _ (fewer_kept (has_site i) (fields_fewer c t fs))
    re_fewer c t q (unary i op e) = put_fewer c t q _ (fewer_kept (has_site i) (re_fewer c t (operand op) e))
    re_fewer c t q (binary i op a b) = put_fewer c t q _ (fewer_kept (has_site i) (fewer_both (re_fewer c t a_value a) (re_fewer c t a_value b)))
    re_fewer c t q (and i a b) = put_fewer c t q _ (fewer_kept (has_site i) (fewer_both (re_fewer c t a_value a) (re_fewer c t a_value b)))
    re_fewer c t q (or i a b) = put_fewer c t q _ (fewer_kept (has_site i) (fewer_both (re_fewer c t a_value a) (re_fewer c t a_value b)))
    re_fewer c t q (cond i e a b) = put_fewer c t q _ (fewer_kept (has_site i) (fewer_both (fewer_both (re_fewer c t a_value e) (re_fewer c t a_value a)) (re_fewer c t a_value b)))
    re_fewer c t q (assign i op u e) = put_fewer c t q _ (fewer_kept (has_site i) (fewer_both (fewer_both (method_fewer T built step step_call D t u e) (target_fewer c u)) (re_fewer c t an_assigned e)))
    re_fewer c t q (step_of i up prefix u) = put_fewer c t q _ (fewer_kept (has_site i) (target_fewer c u))
    re_fewer c t q (member i e p) = as_node c (re_member built step step_call D.stays t q i e p) (fewer_kept (has_site i) (fewer_kept (uses_prop p) (re_fewer c t an_object e)))
    re_fewer c t q (index i e k) = as_node c (re_index built step step_call T D t q i e k) (fewer_kept (has_site i) (fewer_both (re_fewer c t an_object e) (re_fewer c t a_value k)))
    re_fewer c t q (call i f es) = as_node c (re_any_call built step step_call T D t q i f es) (fewer_kept (has_site i) (fewer_both (re_fewer c t a_callee f) (all_fewer c t es)))
    re_fewer c t q (new i f es) = put_fewer c t q _ (fewer_kept (has_site i) (fewer_both (re_fewer c t a_callee f) (all_fewer c t es)))
    re_fewer c t q (comma i a b) = put_fewer c t q _ (fewer_kept (has_site i) (fewer_both (re_fewer c t a_value a) (re_fewer c t a_value b)))
    re_fewer c t q (cast i d e) = as_node c (re_cast built step step_call T D t q i d e) (fewer_kept (has_site i) (fewer_kept (uses_doc d) (re_fewer c t q e)))
    re_fewer c t q (tick i n e) = as_node c (re_tick built step step_call T D t q i n e) (fewer_kept (has_site i) (re_fewer c t q e))

    target_fewer : (c : ℕ) (u : Target) → Fewer (target_parts T c (re_target built step step_call u)) (target_parts T c u)
    target_fewer c (to_var i r) = fewer_same _
    target_fewer c (to_member i e p) = fewer_kept (has_site i) (fewer_kept (uses_prop p) (re_fewer c true an_object e))
    target_fewer c (to_index i e k) = fewer_kept (has_site i) (fewer_both (re_fewer c true an_object e) (re_fewer c true a_value k))

    all_fewer : (c : ℕ) (t : Bool) (es : Exprs) → Fewer (exprs_parts T c (re_all built step step_call t es)) (exprs_parts T c es)
    all_fewer c t no_exprs = fewer_same _
    all_fewer c t (more_exprs e es) = fewer_both (re_fewer c t a_value e) (all_fewer c t es)

    fields_fewer : (c : ℕ) (t : Bool) (fs : Fields) → Fewer (fields_parts T c (re_fields built step step_call t fs)) (fields_parts T c fs)
    fields_fewer c t no_fields = fewer_same _
    fields_fewer c t (more_fields k e fs) = fewer_both (fewer_both (fewer_same (key_parts k)) (re_fewer c t a_value e)) (fields_fewer c t fs)

  value_fewer : (c : ℕ) (e : Expr) → Fewer (expr_parts T c (re_value built step step_call e)) (expr_parts T c e)
  unfolding re_value
  value_fewer c e = re_fewer c false a_value e

  option_fewer : (c : ℕ) (o : Option Expr) → Fewer (option_parts T c (re_option built step step_call o)) (option_parts T c o)
  unfolding option_parts re_option
  option_fewer c None = fewer_same _
  option_fewer c (Some e) = value_fewer c e

  vars_fewer : (c : ℕ) (ds : List Declarator) → Fewer (vars_parts T c (re_declarators built step step_call whole whole_in ds)) (vars_parts T c ds)
  unfolding vars_parts re_declarators
  vars_fewer c [] = fewer_same _
  vars_fewer c (d ∷ ds) = fewer_kept (has_site d.site) (fewer_kept (declares c d.variable) (fewer_both (option_fewer c d.value) (vars_fewer c ds)))

  init_fewer : (c : ℕ) (h : ForInit) → Fewer (init_parts T c (re_init built step step_call whole whole_in h)) (init_parts T c h)
  unfolding init_parts re_init vars_parts
  init_fewer c no_init = fewer_same _
  init_fewer c (init_value e) = value_fewer c e
  init_fewer c (init_vars []) = fewer_same _
  init_fewer c (init_vars (d ∷ ds)) = vars_fewer c (d ∷ ds)

  names_fewer : (c : ℕ) (u : ForTarget) → Fewer (name_parts T c (re_names built step step_call whole whole_in u)) (name_parts T c u)
  unfolding name_parts re_names vars_parts re_declarators
  names_fewer c (in_target u) = target_fewer c u
  names_fewer c (in_declared d) = vars_fewer c (d ∷ [])

  mutual
    unfolding re_stmt stmt_parts

    stmt_fewer : (c : ℕ) (s : Stmt) → Fewer (stmt_parts T c (re_stmt built step step_call whole whole_in more_stmts s)) (stmt_parts T c s)
    stmt_fewer c (simple i e) = fewer_kept (has_site i) (value_fewer c e)
    stmt_fewer c (vars i ds) = fewer_kept (has_site i) (vars_fewer c ds)
    stmt_fewer c (fun_decl i r f) = fewer_same _
    stmt_fewer c (if i e a b) = fewer_kept (has_site i) (fewer_both (fewer_both (value_fewer c e) (stmts_fewer c a)) (stmts_fewer c b))
    stmt_fewer c (while i e b) = fewer_kept (has_site i) (fewer_both (value_fewer c e) (stmts_fewer c b))
    stmt_fewer c (do_while i b e) = fewer_kept (has_site i) (fewer_both (stmts_fewer c b) (value_fewer c e))
    stmt_fewer c (for i h e o b) = fewer_kept (has_site i) (fewer_both (fewer_both (fewer_both (init_fewer c h) (option_fewer c e)) (option_fewer c o)) (stmts_fewer c b))
    stmt_fewer c (for_in i u e b) = fewer_kept (has_site i) (fewer_both (fewer_both (names_fewer c u) (value_fewer c e)) (stmts_fewer c b))
    stmt_fewer c (return i o) = fewer_kept (has_site i) (option_fewer c o)
    stmt_fewer c (throw i e) = fewer_kept (has_site i) (value_fewer c e)
    stmt_fewer c (break i l) = fewer_same _
    stmt_fewer c (continue i l) = fewer_same _
    stmt_fewer c (label i l b) = fewer_kept (has_site i) (stmts_fewer c b)
    stmt_fewer c (switch i e cs) = fewer_kept (has_site i) (fewer_both (value_fewer c e) (cases_fewer c cs))
    stmt_fewer c (try i b k f) = fewer_kept (has_site i) (fewer_both (fewer_both (stmts_fewer c b) (maybe_fewer (suc c) k)) (maybe_fewer c f))
    stmt_fewer c (pay_stmt i n) = fewer_same _

    pub stmts_fewer : (c : ℕ) (ss : Stmts) → Fewer (stmts_parts T c (re_stmts built step step_call whole whole_in more_stmts ss)) (stmts_parts T c ss)
    stmts_fewer c no_stmts = fewer_same _
    stmts_fewer c (more_stmts s ss) = fewer_both (stmt_fewer c s) (stmts_fewer c ss)

    maybe_fewer : (c : ℕ) (b : MaybeStmts) → Fewer (maybe_parts T c (re_maybe built step step_call whole whole_in more_stmts b)) (maybe_parts T c b)
    maybe_fewer c absent = fewer_same _
    maybe_fewer c (present ss) = stmts_fewer c ss

    cases_fewer : (c : ℕ) (cs : Cases) → Fewer (cases_parts T c (re_cases built step step_call whole whole_in more_stmts cs)) (cases_parts T c cs)
    cases_fewer c no_cases = fewer_same _
    cases_fewer c (more_cases o b cs) = fewer_both (fewer_both (option_fewer c o) (stmts_fewer c b)) (cases_fewer c cs)
