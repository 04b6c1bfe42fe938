-- A rewriting of whole statements leaves mentions that follow those before, and keeps labels.
use Rattle.std.proofs.Common.{◌≡◌, ℕ, Bool, true, false, List, [], ◌∷◌, ◌++◌, Option, Some, None, refl, ap, ◌∙◌}
use Rattle.cc_ast.specs.Syntax.{Expr, Exprs, Declarator, ForInit, no_init, init_value, init_vars, ForTarget, in_target, in_declared, Stmt, simple, vars, fun_decl, if, while, do_while, for, for_in, return, throw, break, continue, label, switch, try, pay_stmt, Stmts, no_stmts, more_stmts, MaybeStmts, absent, present, Cases, no_cases, more_cases}
use Rattle.cc_ast.specs.declared.tree.Ref.{Ref}
use Rattle.cc_meaning.specs.State.{Path, Tables}
use Rattle.cc_meaning.specs.Shapes.{path_of_ref}
use Rattle.cc_meaning.specs.Spelled.{stmt_labels, stmts_labels, maybe_labels, cases_labels}
use Rattle.cc_meaning.specs.FlatPaths.{other, elsewhere, setting_of, in_expr, in_option, in_initial, in_declarator, in_declarators, in_init, in_each, in_stmt, in_stmts, in_maybe, in_cases, pure}
use Rattle.cc_tied.specs.Rewrites.{re_value, re_option, re_declarators, re_init, re_names, re_stmt, re_stmts, re_maybe, re_cases, whole, whole_in}
use Rattle.cc_fold.proofs.DroppingSteps.{Drops}
use Rattle.cc_fold.proofs.WellMade.Mentioned.{Mentioned, mentioned_same, mentioned_both}
use Rattle.cc_fold.proofs.WellMade.RewrittenMentions.{Turned}
use Rattle.cc_fold.proofs.WellMade.RewrittenSettings.{value_mentioned, target_mentioned, initial_mentioned, statement_mentioned}

module _ (T : Tables) (built : Ref → Bool) (step : Expr → Expr) (step_call : ℕ → Expr → Exprs → Expr) (D : Drops T step step_call) (turned : (e : Expr) → Turned e (step e)) (pure_kept : (e : Expr) → pure e ≡ true → pure (step e) ≡ true) where
  value_kept : (e : Expr) → Mentioned (in_expr other e) (in_expr other (re_value built step step_call e))
  value_kept e = value_mentioned T built step step_call D turned pure_kept e

  option_kept : (o : Option Expr) → Mentioned (in_option o) (in_option (re_option built step step_call o))
  unfolding in_option re_option
  option_kept None = mentioned_same _
  option_kept (Some e) = value_kept e

  initial_kept : (own : Bool) (w : Option Path) (o : Option Expr) → Mentioned (in_initial own w o) (in_initial own w (re_option built step step_call o))
  unfolding in_initial re_option
  initial_kept own w None = mentioned_same _
  initial_kept own w (Some e) = mentioned_both (initial_mentioned T built step step_call D turned pure_kept own w e) (value_kept e)

  vars_kept : (own : Bool) (ds : List Declarator) → Mentioned (in_declarators own ds) (in_declarators own (re_declarators built step step_call whole whole_in ds))
  unfolding in_declarators in_declarator re_declarators
  vars_kept own [] = mentioned_same _
  vars_kept own (d ∷ ds) = mentioned_both (initial_kept own (path_of_ref d.variable) d.value) (vars_kept own ds)

  init_kept : (h : ForInit) → Mentioned (in_init h) (in_init (re_init built step step_call whole whole_in h))
  unfolding in_init in_declarators re_init
  init_kept no_init = mentioned_same _
  init_kept (init_value e) = value_kept e
  init_kept (init_vars []) = mentioned_same _
  init_kept (init_vars (d ∷ ds)) = vars_kept false (d ∷ ds)

  names_kept : (u : ForTarget) → Mentioned (in_each u) (in_each (re_names built step step_call whole whole_in u))
  unfolding in_each re_names
  names_kept (in_target u) = target_mentioned T built step step_call D turned pure_kept u
  names_kept (in_declared d) = mentioned_both (mentioned_same (setting_of (path_of_ref d.variable) elsewhere [])) (option_kept d.value)

  abbrev SS : Stmts → Stmts
  SS ss = re_stmts built step step_call whole whole_in more_stmts ss

  mutual
    unfolding re_stmt in_stmt

    stmt_kept : (own : Bool) (s : Stmt) → Mentioned (in_stmt own s) (in_stmt own (re_stmt built step step_call whole whole_in more_stmts s))
    stmt_kept own (simple i e) = statement_mentioned T built step step_call D turned pure_kept own e
    stmt_kept own (vars i ds) = vars_kept own ds
    stmt_kept own (fun_decl i r f) = mentioned_same _
    stmt_kept own (if i e a b) = mentioned_both (mentioned_both (value_kept e) (stmts_mentioned false a)) (stmts_mentioned false b)
    stmt_kept own (while i e b) = mentioned_both (value_kept e) (stmts_mentioned false b)
    stmt_kept own (do_while i b e) = mentioned_both (stmts_mentioned false b) (value_kept e)
    stmt_kept own (for i h e o b) = mentioned_both (mentioned_both (mentioned_both (init_kept h) (option_kept e)) (option_kept o)) (stmts_mentioned false b)
    stmt_kept own (for_in i u e b) = mentioned_both (mentioned_both (names_kept u) (value_kept e)) (stmts_mentioned false b)
    stmt_kept own (return i o) = option_kept o
    stmt_kept own (throw i e) = value_kept e
    stmt_kept own (break i l) = mentioned_same _
    stmt_kept own (continue i l) = mentioned_same _
    stmt_kept own (label i l b) = stmts_mentioned false b
    stmt_kept own (switch i e cs) = mentioned_both (value_kept e) (cases_mentioned cs)
    stmt_kept own (try i b k f) = mentioned_both (mentioned_both (stmts_mentioned false b) (maybe_mentioned k)) (maybe_mentioned f)
    stmt_kept own (pay_stmt i n) = mentioned_same _

    pub stmts_mentioned : (own : Bool) (ss : Stmts) → Mentioned (in_stmts own ss) (in_stmts own (SS ss))
    stmts_mentioned own no_stmts = mentioned_same _
    stmts_mentioned own (more_stmts s ss) = mentioned_both (stmt_kept own s) (stmts_mentioned own ss)

    maybe_mentioned : (b : MaybeStmts) → Mentioned (in_maybe b) (in_maybe (re_maybe built step step_call whole whole_in more_stmts b))
    maybe_mentioned absent = mentioned_same _
    maybe_mentioned (present ss) = stmts_mentioned false ss

    cases_mentioned : (cs : Cases) → Mentioned (in_cases cs) (in_cases (re_cases built step step_call whole whole_in more_stmts cs))
    cases_mentioned no_cases = mentioned_same _
    cases_mentioned (more_cases o b cs) = mentioned_both (mentioned_both (option_kept o) (stmts_mentioned false b)) (cases_mentioned cs)

-- ---- labels

joined : {A : Type 0} {xs us ys vs : List A} → xs ≡ us → ys ≡ vs → xs ++ ys ≡ us ++ vs
joined {us = us} {ys = ys} h k = ap (λ z. z ++ ys) h ∙ ap (λ z. us ++ z) k

module _ (built : Ref → Bool) (step : Expr → Expr) (step_call : ℕ → Expr → Exprs → Expr) where
  mutual
    unfolding re_stmt stmt_labels

    labels_kept : (s : Stmt) → stmt_labels (re_stmt built step step_call whole whole_in more_stmts s) ≡ stmt_labels s
    labels_kept (simple i e) = refl
    labels_kept (vars i ds) = refl
    labels_kept (fun_decl i r f) = refl
    labels_kept (if i e a b) = joined (all_labels a) (all_labels b)
    labels_kept (while i e b) = all_labels b
    labels_kept (do_while i b e) = all_labels b
    labels_kept (for i h e o b) = all_labels b
    labels_kept (for_in i u e b) = all_labels b
    labels_kept (return i o) = refl
    labels_kept (throw i e) = refl
    labels_kept (break i l) = refl
    labels_kept (continue i l) = refl
    labels_kept (label i l b) = ap (λ z. l ∷ z) (all_labels b)
    labels_kept (switch i e cs) = case_labels cs
    labels_kept (try i b k f) = joined (joined (all_labels b) (maybe_kept k)) (maybe_kept f)
    labels_kept (pay_stmt i n) = refl

    pub all_labels : (ss : Stmts) → stmts_labels (re_stmts built step step_call whole whole_in more_stmts ss) ≡ stmts_labels ss
    all_labels no_stmts = refl
    all_labels (more_stmts s ss) = joined (labels_kept s) (all_labels ss)

    maybe_kept : (b : MaybeStmts) → maybe_labels (re_maybe built step step_call whole whole_in more_stmts b) ≡ maybe_labels b
    maybe_kept absent = refl
    maybe_kept (present ss) = all_labels ss

    case_labels : (cs : Cases) → cases_labels (re_cases built step step_call whole whole_in more_stmts cs) ≡ cases_labels cs
    case_labels no_cases = refl
    case_labels (more_cases o b cs) = joined (all_labels b) (case_labels cs)
