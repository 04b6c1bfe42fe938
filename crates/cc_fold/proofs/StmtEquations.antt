-- Folding, one equation for each kind of statement.
use Rattle.std.proofs.Common.{◌≡◌, refl, ap, ◌∙◌, ℕ, Bool, false, List, [], ◌∷◌, map, Option, Some, None}
use Rattle.cc_ast.specs.Syntax.{Expr, Target, Declarator, ForInit, no_init, init_value, init_vars, ForTarget, in_target, in_declared, Stmt, simple, vars, fun_decl, if, while, do_while, for, for_in, return, throw, break, continue, label, switch, try, pay_stmt, Stmts, more_stmts, MaybeStmts, absent, present, Cases, more_cases}
use Rattle.cc_ast.specs.declared.tree.Ref.{Ref}
use Rattle.cc_ast.specs.declared.tree.Declarator as Plain
use Rattle.cc_ast.specs.declared.tree.Stmt as Tree
use Rattle.cc_ast.specs.declared.tree.Case.{Case}
use Rattle.cc_ast.specs.StmtBridge.{declarator, stmts, cases, CaseTerm, term_stmt, term_stmts, term_case, term_cases}
use Rattle.cc_tied.specs.Placed.{a_value}
use Rattle.cc_tied.specs.Rewrites.{init_of, re_value, re_option, re_declarator, re_declarators, re_init, re_names, re_stmt, re_stmts, re_maybe, re_cases}
use Rattle.cc_fold.specs.Fold.{fold, same_call, same_declarator, same_name, same_stmt}
use Rattle.cc_fold.specs.Walk.{fold_expr, fold_target, fold_value, fold_option, fold_declarator, fold_init, fold_names, fold_stmt, fold_stmts, fold_maybe, fold_cases, fold_case}

-- what a `for` begins with, by its declarators
pub head_some : (ds : List Plain.Declarator) → (ds ≡ [] → ⊥) → init_of (map declarator ds) ≡ init_vars (map declarator ds)
unfolding init_of
head_some [] h = absurd (h refl)
head_some (d ∷ ds) h = refl

pub head_none : (ds : List Plain.Declarator) → ds ≡ [] → init_of (map declarator ds) ≡ no_init
unfolding init_of
head_none ds h = rw h refl

module _ (built : Ref → Bool) where
  pub value_at : (e : Expr) → fold_value built e ≡ fold_expr built false a_value e
  unfolding fold_value fold_expr re_value
  value_at e = refl

  pub option-None : fold_option built None ≡ None
  unfolding fold_option re_option
  option-None = refl

  pub option-Some : (e : Expr) → fold_option built (Some e) ≡ Some (fold_value built e)
  unfolding fold_option fold_value re_option
  option-Some e = refl

  pub declarator_at : (d : Declarator) → fold_declarator built d ≡ record { site = d.site; variable = d.variable; value = fold_option built d.value }
  unfolding fold_declarator fold_option re_declarator
  declarator_at d = refl

  declarators_at : (ds : List Declarator) → re_declarators built fold same_call same_declarator same_name ds ≡ map (fold_declarator built) ds
  unfolding re_declarators fold_declarator same_declarator
  declarators_at [] = refl
  declarators_at (d ∷ ds) = ap (λ z. fold_declarator built d ∷ z) (declarators_at ds)

  pub init-no : fold_init built no_init ≡ no_init
  unfolding fold_init re_init
  init-no = refl

  pub init-value : (e : Expr) → fold_init built (init_value e) ≡ init_value (fold_value built e)
  unfolding fold_init fold_value re_init
  init-value e = refl

  pub init-vars : (ds : List Declarator) → fold_init built (init_vars ds) ≡ init_of (map (fold_declarator built) ds)
  unfolding fold_init re_init
  init-vars ds = ap init_of (declarators_at ds)

  pub names-target : (u : Target) → fold_names built (in_target u) ≡ in_target (fold_target built u)
  unfolding fold_names fold_target re_names
  names-target u = refl

  pub names-declared : (d : Declarator) → fold_names built (in_declared d) ≡ in_declared (fold_declarator built d)
  unfolding fold_names fold_declarator re_names same_name
  names-declared d = refl

  -- ---- statements

  pub at-simple : (i : ℕ) (e : Expr) → fold_stmt built (simple i e) ≡ simple i (fold_value built e)
  unfolding fold_stmt fold_value re_stmt
  at-simple i e = refl

  pub at-vars : (i : ℕ) (ds : List Declarator) → fold_stmt built (vars i ds) ≡ vars i (map (fold_declarator built) ds)
  unfolding fold_stmt re_stmt
  at-vars i ds = ap (vars i) (declarators_at ds)

  pub at-fun_decl : (i : ℕ) (r : Ref) (f : ℕ) → fold_stmt built (fun_decl i r f) ≡ fun_decl i r f
  unfolding fold_stmt re_stmt
  at-fun_decl i r f = refl

  pub at-if : (i : ℕ) (e : Expr) (a b : Stmts) → fold_stmt built (if i e a b) ≡ if i (fold_value built e) (fold_stmts built a) (fold_stmts built b)
  unfolding fold_stmt fold_stmts fold_value re_stmt
  at-if i e a b = refl

  pub at-while : (i : ℕ) (e : Expr) (b : Stmts) → fold_stmt built (while i e b) ≡ while i (fold_value built e) (fold_stmts built b)
  unfolding fold_stmt fold_stmts fold_value re_stmt
  at-while i e b = refl

  pub at-do_while : (i : ℕ) (b : Stmts) (e : Expr) → fold_stmt built (do_while i b e) ≡ do_while i (fold_stmts built b) (fold_value built e)
  unfolding fold_stmt fold_stmts fold_value re_stmt
  at-do_while i b e = refl

  pub at-for : (i : ℕ) (h : ForInit) (e o : Option Expr) (b : Stmts) → fold_stmt built (for i h e o b) ≡ for i (fold_init built h) (fold_option built e) (fold_option built o) (fold_stmts built b)
  unfolding fold_stmt fold_stmts fold_init fold_option re_stmt
  at-for i h e o b = refl

  pub at-for_in : (i : ℕ) (u : ForTarget) (e : Expr) (b : Stmts) → fold_stmt built (for_in i u e b) ≡ for_in i (fold_names built u) (fold_value built e) (fold_stmts built b)
  unfolding fold_stmt fold_stmts fold_names fold_value re_stmt
  at-for_in i u e b = refl

  pub at-return : (i : ℕ) (o : Option Expr) → fold_stmt built (return i o) ≡ return i (fold_option built o)
  unfolding fold_stmt fold_option re_stmt
  at-return i o = refl

  pub at-throw : (i : ℕ) (e : Expr) → fold_stmt built (throw i e) ≡ throw i (fold_value built e)
  unfolding fold_stmt fold_value re_stmt
  at-throw i e = refl

  pub at-break : (i : ℕ) (l : Option (List ℕ)) → fold_stmt built (break i l) ≡ break i l
  unfolding fold_stmt re_stmt
  at-break i l = refl

  pub at-continue : (i : ℕ) (l : Option (List ℕ)) → fold_stmt built (continue i l) ≡ continue i l
  unfolding fold_stmt re_stmt
  at-continue i l = refl

  pub at-label : (i : ℕ) (l : List ℕ) (b : Stmts) → fold_stmt built (label i l b) ≡ label i l (fold_stmts built b)
  unfolding fold_stmt fold_stmts re_stmt
  at-label i l b = refl

  pub at-switch : (i : ℕ) (e : Expr) (cs : Cases) → fold_stmt built (switch i e cs) ≡ switch i (fold_value built e) (fold_cases built cs)
  unfolding fold_stmt fold_cases fold_value re_stmt
  at-switch i e cs = refl

  pub at-try : (i : ℕ) (b : Stmts) (k f : MaybeStmts) → fold_stmt built (try i b k f) ≡ try i (fold_stmts built b) (fold_maybe built k) (fold_maybe built f)
  unfolding fold_stmt fold_stmts fold_maybe re_stmt
  at-try i b k f = refl

  pub at-pay : (i n : ℕ) → fold_stmt built (pay_stmt i n) ≡ pay_stmt i n
  unfolding fold_stmt re_stmt
  at-pay i n = refl

  -- ---- lists

  all_stmts : (ss : List Stmt) → stmts (map (fold_stmt built) ss) ≡ fold_stmts built (stmts ss)
  unfolding stmts fold_stmts fold_stmt re_stmts same_stmt
  all_stmts [] = refl
  all_stmts (s ∷ ss) = ap (more_stmts (fold_stmt built s)) (all_stmts ss)

  all_cases : (cs : List CaseTerm) → cases (map (fold_case built) cs) ≡ fold_cases built (cases cs)
  unfolding cases fold_cases fold_stmts fold_option re_cases
  all_cases [] = refl
  all_cases (c ∷ cs) = ap (more_cases (fold_option built c.0) (fold_stmts built c.1)) (all_cases cs)

  pub at-stmts : (ss rs : List Tree.Stmt) → map term_stmt rs ≡ map (fold_stmt built) (map term_stmt ss) → term_stmts rs ≡ fold_stmts built (term_stmts ss)
  unfolding term_stmts
  at-stmts ss rs h = ap stmts h ∙ all_stmts (map term_stmt ss)

  pub at-cases : (cs rs : List Case) → map term_case rs ≡ map (fold_case built) (map term_case cs) → term_cases rs ≡ fold_cases built (term_cases cs)
  unfolding term_cases
  at-cases cs rs h = ap cases h ∙ all_cases (map term_case cs)

  pub maybe-absent : fold_maybe built absent ≡ absent
  unfolding fold_maybe re_maybe
  maybe-absent = refl

  pub maybe-present : (b : Stmts) → fold_maybe built (present b) ≡ present (fold_stmts built b)
  unfolding fold_maybe fold_stmts re_maybe
  maybe-present b = refl

pub ruleset option_steps = (option-None, option-Some)

pub ruleset init_steps = (init-no, init-value, init-vars)

pub ruleset names_steps = (names-target, names-declared)

pub ruleset walk = (at-simple, at-vars, at-fun_decl, at-if, at-while, at-do_while, at-for, at-for_in, at-return, at-throw, at-break, at-continue, at-label, at-switch, at-try, at-pay, at-stmts, at-cases, maybe-absent, maybe-present)
