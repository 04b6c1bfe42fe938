-- A rewriting by a step that keeps what is well keeps the statements of the language.
use Rattle.std.proofs.Common.{◌≡◌, inl, inr, ℕ, suc, Bool, true, false, List, [], ◌∷◌, Option, Some, None, refl, sym, ap, subst, ◌∙◌}
use Rattle.std.specs.Prelude.{not, ◌&&◌, ◌||◌, nat_eq, nat_lt}
use Rattle.std.proofs.lemmas.Bool.{and_parts, and_from, or_cases, or_left, or_right, not-true, not_from_false}
use Rattle.cc_ast.specs.Syntax.{Expr, lit, var, this, fun, list, object, unary, binary, and, or, cond, assign, step as step_of, member, index, call, new, comma, cast, tick, Target, to_var, to_member, to_index, Exprs, no_exprs, more_exprs, Fields, no_fields, more_fields, Declarator, ForInit, no_init, init_value, init_vars, ForTarget, in_target, in_declared, Stmt, simple, vars, fun_decl, if, while, do_while, for, for_in, return, throw, break, continue, label, switch, try, pay_stmt, Stmts, no_stmts, more_stmts, MaybeStmts, absent, present, Cases, no_cases, more_cases}
use Rattle.cc_ast.specs.declared.operator.UnOp.{UnOp}
use Rattle.cc_ast.specs.declared.operator.UnOp.TheVariants.{Delete}
use Rattle.cc_ast.specs.declared.tree.Ref.{Ref}
use Rattle.cc_meaning.specs.Operators.{is_in}
use Rattle.cc_meaning.specs.State.{Path, Tables}
use Rattle.cc_meaning.specs.Monad.{pick}
use Rattle.cc_meaning.specs.Store.{dotted, name_of}
use Rattle.cc_meaning.specs.Shapes.{path_of}
use Rattle.cc_meaning.specs.Parts.{assigns, global_at, is_use, built_callee, is_variable, takes_operand, expr_well, target_well, exprs_well, fields_well}
use Rattle.cc_meaning.specs.WellMade.{Open, nested, in_loop, option_well, vars_well, some_vars, init_well, name_well, counted, labels_for, defaults, is_there, stmt_well, stmts_well, maybe_well, cases_well}
use Rattle.cc_tied.specs.Placed.{Place, a_value, an_assigned, a_callee, a_deleted, an_object, variable, operand}
use Rattle.cc_tied.specs.Rewrites.{put, re, re_target, re_all, re_fields, re_value, re_option, re_declarators, re_init, re_names, re_stmt, re_stmts, re_maybe, re_cases, whole, whole_in}
use Rattle.cc_tied.proofs.Mixed.KeptPaths.{re_var, re_member, path_kept}
use Rattle.cc_fold.proofs.DroppingSteps.{re_any_call, Drops, put_either, re_index, re_cast, re_tick, deleted_no_variable}

pub both : {a b a' b' : Bool} → (a ≡ true → a' ≡ true) → (b ≡ true → b' ≡ true) → a && b ≡ true → a' && b' ≡ true
both {a = a} {b = b} {a' = a'} {b' = b'} f g h = let p = and_parts a b h in and_from a' b' (f p.0) (g p.1)

either : {a b a' b' : Bool} → (a ≡ true → a' ≡ true) → (b ≡ true → b' ≡ true) → a || b ≡ true → a' || b' ≡ true
either {a = a} {b = b} {a' = a'} {b' = b'} f g h = elim (or_cases a b h) [ inl k ↦ or_left a' b' (f k) | inr k ↦ or_right a' b' (g k) ]

variable_is : (e : Expr) → is_variable e ≡ variable e
unfolding is_variable variable
variable_is (cast i d e) = variable_is e
variable_is (tick i n e) = variable_is e
variable_is e = refl

module _ (T : Tables) (built : Ref → Bool) (step : Expr → Expr) (step_call : ℕ → Expr → Exprs → Expr) (D : Drops T step step_call) where
  abbrev R : Bool → Place → Expr → Expr
  R t q e = re built step step_call t q e

  put_well : (t : Bool) (q : Place) (e : Expr) → expr_well T e ≡ true → expr_well T (put built step step_call t q e) ≡ true
  put_well t q e h = put_either built step step_call (λ z. expr_well T z ≡ true) t q e h (D.well e h)

  as_node : {e d : Expr} → e ≡ d → expr_well T d ≡ true → expr_well T e ≡ true
  as_node h k = subst (λ z. expr_well T z ≡ true) (sym h) k

  -- ---- operands of `delete`, and callees that are built in

  takes_kept : (t : Bool) (op : UnOp) (e : Expr) → takes_operand op e ≡ true → takes_operand op (R t (operand op) e) ≡ true
  unfolding takes_operand operand
  takes_kept t Delete e h =
      let before : variable e ≡ false = sym (variable_is e) ∙ not-true (is_variable e) h in
      not_from_false (is_variable (R t a_deleted e)) (variable_is (R t a_deleted e) ∙ deleted_no_variable built step step_call T D t e before)
  takes_kept t op e h = refl

  use_kept : (t : Bool) (e : Expr) (n : List ℕ) (o : Option Path) → path_of e ≡ o → is_use (global_at T o) n ≡ true → is_use (global_at T (path_of (R t an_object e))) n ≡ true
  unfolding is_use global_at
  use_kept t e n None p h = absurd (cc)
  use_kept t e n (Some w) p h = subst (λ z. is_use (global_at T z) n ≡ true) (sym (path_kept built step step_call D.stays t an_object e w p)) h

  callee_kept : (t : Bool) (f : Expr) → built_callee T f ≡ true → built_callee T (R t a_callee f) ≡ true
  unfolding built_callee
  callee_kept t (var i r) h = ap (built_callee T) (re_var built step step_call D.stays t a_callee i r) ∙ h
  callee_kept t (member i e p) h = ap (built_callee T) (re_member built step step_call D.stays t a_callee i e p) ∙ use_kept t e (name_of T (dotted p)) (path_of e) refl h
  callee_kept t f h = absurd (cc)

  -- ---- expressions

  mutual
    unfolding re expr_well

    re_well : (t : Bool) (q : Place) (e : Expr) → expr_well T e ≡ true → expr_well T (R t q e) ≡ true
    re_well t q (lit i p) h = h
    re_well t q (var i r) h = put_well t q (var i r) h
    re_well t q (this i) h = put_well t q (this i) h
    re_well t q (fun i f) h = put_well t q (fun i f) h
    re_well t q (list i es) h = put_well t q _ (all_well t es h)
    re_well t q (object i fs) h = put_well t q _ (each_well t fs h)
    re_well t q (unary i op e) h = put_well t q _ (both (takes_kept t op e) (re_well t (operand op) e) h)
    re_well t q (binary i op a b) h = put_well t q _ (both (re_well t a_value a) (re_well t a_value b) h)
    re_well t q (and i a b) h = put_well t q _ (both (re_well t a_value a) (re_well t a_value b) h)
    re_well t q (or i a b) h = put_well t q _ (both (re_well t a_value a) (re_well t a_value b) h)
    re_well t q (cond i e a b) h = put_well t q _ (both (both (re_well t a_value e) (re_well t a_value a)) (re_well t a_value b) h)
    re_well t q (assign i op u e) h = put_well t q _ (both (both {a = assigns op} (λ k. k) (to_well u)) (re_well t an_assigned e) h)
    re_well t q (step_of i up prefix u) h = put_well t q _ (to_well u h)
    re_well t q (member i e p) h = as_node (re_member built step step_call D.stays t q i e p) (re_well t an_object e h)
    re_well t q (index i e k) h = as_node (re_index built step step_call T D t q i e k) (both (re_well t an_object e) (re_well t a_value k) h)
    re_well t q (call i f es) h = as_node (re_any_call built step step_call T D t q i f es) (both (either (callee_kept t f) (re_well t a_callee f)) (all_well t es) h)
    re_well t q (new i f es) h = put_well t q _ (both (re_well t a_callee f) (all_well t es) h)
    re_well t q (comma i a b) h = put_well t q _ (both (re_well t a_value a) (re_well t a_value b) h)
    re_well t q (cast i d e) h = as_node (re_cast built step step_call T D t q i d e) (re_well t q e h)
    re_well t q (tick i n e) h = as_node (re_tick built step step_call T D t q i n e) (re_well t q e h)

    to_well : (u : Target) → target_well T u ≡ true → target_well T (re_target built step step_call u) ≡ true
    to_well (to_var i r) h = h
    to_well (to_member i e p) h = re_well true an_object e h
    to_well (to_index i e k) h = both (re_well true an_object e) (re_well true a_value k) h

    all_well : (t : Bool) (es : Exprs) → exprs_well T es ≡ true → exprs_well T (re_all built step step_call t es) ≡ true
    all_well t no_exprs h = h
    all_well t (more_exprs e es) h = both (re_well t a_value e) (all_well t es) h

    each_well : (t : Bool) (fs : Fields) → fields_well T fs ≡ true → fields_well T (re_fields built step step_call t fs) ≡ true
    each_well t no_fields h = h
    each_well t (more_fields k e fs) h = both (re_well t a_value e) (each_well t fs) h

  -- ---- declarators

  value_kept : (e : Expr) → expr_well T e ≡ true → expr_well T (re_value built step step_call e) ≡ true
  unfolding re_value
  value_kept e h = re_well false a_value e h

  option_kept : (o : Option Expr) → option_well T o ≡ true → option_well T (re_option built step step_call o) ≡ true
  unfolding option_well re_option
  option_kept None h = h
  option_kept (Some e) h = value_kept e h

  vars_kept : (ds : List Declarator) → vars_well T ds ≡ true → vars_well T (re_declarators built step step_call whole whole_in ds) ≡ true
  unfolding vars_well re_declarators
  vars_kept [] h = h
  vars_kept (d ∷ ds) h = both (option_kept d.value) (vars_kept ds) h

  some_kept : (ds : List Declarator) → some_vars T ds ≡ true → some_vars T (re_declarators built step step_call whole whole_in ds) ≡ true
  unfolding some_vars re_declarators
  some_kept [] h = h
  some_kept (d ∷ ds) h = vars_kept (d ∷ ds) h

  init_kept : (x : ForInit) → init_well T x ≡ true → init_well T (re_init built step step_call whole whole_in x) ≡ true
  unfolding init_well re_init
  init_kept no_init h = h
  init_kept (init_value e) h = value_kept e h
  init_kept (init_vars []) h = absurd (cc)
  init_kept (init_vars (d ∷ ds)) h = some_kept (d ∷ ds) h

  names_kept : (u : ForTarget) → name_well T u ≡ true → name_well T (re_names built step step_call whole whole_in u) ≡ true
  unfolding name_well re_names
  names_kept (in_target u) h = to_well u h
  names_kept (in_declared d) h = option_kept d.value h

  -- ---- statements

  abbrev SS : Stmts → Stmts
  SS ss = re_stmts built step step_call whole whole_in more_stmts ss

  counted_kept : (ss : Stmts) → counted (SS ss) ≡ counted ss
  unfolding counted re_stmts
  counted_kept no_stmts = refl
  counted_kept (more_stmts (pay_stmt i n) ss) = counted_kept ss
  counted_kept (more_stmts s ss) = ap suc (counted_kept ss)

  labels_kept : (ls : List (List ℕ)) (ss : Stmts) → labels_for ls (SS ss) ≡ labels_for ls ss
  unfolding labels_for
  labels_kept ls ss = ap (λ z. pick (nat_eq z 1) ls []) (counted_kept ss)

  defaults_kept : (cs : Cases) → defaults (re_cases built step step_call whole whole_in more_stmts cs) ≡ defaults cs
  unfolding defaults re_cases re_option
  defaults_kept no_cases = refl
  defaults_kept (more_cases None b cs) = ap suc (defaults_kept cs)
  defaults_kept (more_cases (Some e) b cs) = defaults_kept cs

  there_kept : (b : MaybeStmts) → is_there (re_maybe built step step_call whole whole_in more_stmts b) ≡ is_there b
  unfolding is_there re_maybe
  there_kept absent = refl
  there_kept (present ss) = refl

  -- the labels of a list that is rewritten
  relabelled : (o : Open) (ls : List (List ℕ)) (b : Stmts) → stmts_well T o (labels_for ls b) (SS b) ≡ true → stmts_well T o (labels_for ls (SS b)) (SS b) ≡ true
  relabelled o ls b h = subst (λ z. stmts_well T o z (SS b) ≡ true) (sym (labels_kept ls b)) h

  fewer_defaults : (cs : Cases) → nat_lt (defaults cs) 2 ≡ true → nat_lt (defaults (re_cases built step step_call whole whole_in more_stmts cs)) 2 ≡ true
  fewer_defaults cs h = ap (λ z. nat_lt z 2) (defaults_kept cs) ∙ h

  one_there : (b : MaybeStmts) → is_there b ≡ true → is_there (re_maybe built step step_call whole whole_in more_stmts b) ≡ true
  one_there b h = there_kept b ∙ h

  mutual
    unfolding re_stmt stmt_well

    stmt_kept : (o : Open) (ls : List (List ℕ)) (s : Stmt) → stmt_well T o ls s ≡ true → stmt_well T o ls (re_stmt built step step_call whole whole_in more_stmts s) ≡ true
    stmt_kept o ls (simple i e) h = value_kept e h
    stmt_kept o ls (vars i ds) h = some_kept ds h
    stmt_kept o ls (fun_decl i r f) h = h
    stmt_kept o ls (if i e a b) h = both (both (value_kept e) (stmts_kept (nested o) [] a)) (stmts_kept (nested o) [] b) h
    stmt_kept o ls (while i e b) h = both (value_kept e) (stmts_kept (in_loop o ls) [] b) h
    stmt_kept o ls (do_while i b e) h = both (value_kept e) (stmts_kept (in_loop o ls) [] b) h
    stmt_kept o ls (for i x e n b) h = both (both (both (init_kept x) (option_kept e)) (option_kept n)) (stmts_kept (in_loop o ls) [] b) h
    stmt_kept o ls (for_in i u e b) h = both (both (names_kept u) (value_kept e)) (stmts_kept (in_loop o ls) [] b) h
    stmt_kept o ls (return i e) h = both {a = o.returns} (λ k. k) (option_kept e) h
    stmt_kept o ls (throw i e) h = value_kept e h
    stmt_kept o ls (break i l) h = h
    stmt_kept o ls (continue i l) h = h
    stmt_kept o ls (label i l b) h = both {a = not (is_in l o.labels)} (λ k. k) (λ k. relabelled (record o { labels = l ∷ o.labels; own = false }) (l ∷ ls) b (stmts_kept (record o { labels = l ∷ o.labels; own = false }) (labels_for (l ∷ ls) b) b k)) h
    stmt_kept o ls (switch i e cs) h = both (both (value_kept e) (fewer_defaults cs)) (cases_kept (record o { breaks = true; own = false }) cs) h
    stmt_kept o ls (try i b k f) h = both (both (both (either (one_there k) (one_there f)) (stmts_kept (nested o) [] b)) (maybe_kept (nested o) k)) (maybe_kept (nested o) f) h
    stmt_kept o ls (pay_stmt i n) h = h

    pub stmts_kept : (o : Open) (ls : List (List ℕ)) (ss : Stmts) → stmts_well T o ls ss ≡ true → stmts_well T o ls (SS ss) ≡ true
    stmts_kept o ls no_stmts h = h
    stmts_kept o ls (more_stmts s ss) h = both (stmt_kept o ls s) (stmts_kept o ls ss) h

    maybe_kept : (o : Open) (b : MaybeStmts) → maybe_well T o b ≡ true → maybe_well T o (re_maybe built step step_call whole whole_in more_stmts b) ≡ true
    maybe_kept o absent h = h
    maybe_kept o (present ss) h = stmts_kept o [] ss h

    cases_kept : (o : Open) (cs : Cases) → cases_well T o cs ≡ true → cases_well T o (re_cases built step step_call whole whole_in more_stmts cs) ≡ true
    cases_kept o no_cases h = h
    cases_kept o (more_cases e b cs) h = both (both (option_kept e) (stmts_kept o [] b)) (cases_kept o cs) h
