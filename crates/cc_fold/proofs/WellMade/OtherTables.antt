-- Parts and what is well go by the globals and the properties alone, and not by the scopes' heads and by
-- what paths are set to.
use Rattle.std.proofs.Common.{◌≡◌, ℕ, suc, Bool, true, false, List, [], ◌∷◌, ◌++◌, Option, Some, None, refl, ap, ◌∙◌}
use Rattle.std.specs.Prelude.{not, ◌&&◌, ◌||◌, nat_lt}
use Rattle.cc_ast.specs.Syntax.{Expr, lit, var, this, fun, list, object, unary, binary, and, or, cond, assign, step, member, index, call, new, comma, cast, tick, Target, to_var, to_member, to_index, Exprs, no_exprs, more_exprs, Fields, no_fields, more_fields, Declarator, ForInit, no_init, init_value, init_vars, ForTarget, in_target, in_declared, Stmt, simple, vars, fun_decl, if, while, do_while, for, for_in, return, throw, break, continue, label, switch, try, pay_stmt, Stmts, no_stmts, more_stmts, MaybeStmts, absent, present, Cases, no_cases, more_cases, Scope}
use Rattle.cc_ast.specs.declared.tree.Ref.{Ref}
use Rattle.cc_meaning.specs.Operators.{is_in}
use Rattle.cc_meaning.specs.State.{Head, Path, Tables}
use Rattle.cc_meaning.specs.Store.{global_kind, name_of}
use Rattle.cc_meaning.specs.Shapes.{is_named}
use Rattle.cc_meaning.specs.Parts.{Part, has_site, uses_prop, uses_doc, declares, method_on_prototype, method_to, method_in, key_parts, expr_parts, target_parts, exprs_parts, fields_parts, option_parts, vars_parts, init_parts, name_parts, stmt_parts, stmts_parts, maybe_parts, cases_parts, assigns, may_write, may_read, global_at, is_use, built_callee, takes_operand, expr_well, target_well, exprs_well, fields_well}
use Rattle.cc_meaning.specs.WellMade.{Open, nested, in_loop, option_well, vars_well, some_vars, init_well, name_well, labels_for, defaults, is_there, stmt_well, stmts_well, maybe_well, cases_well, functions_in, all_functions}

joined : {A : Type 0} {xs us ys vs : List A} → xs ≡ us → ys ≡ vs → xs ++ ys ≡ us ++ vs
joined {us = us} {ys = ys} h k = ap (λ z. z ++ ys) h ∙ ap (λ z. us ++ z) k

both : {a b c d : Bool} → a ≡ c → b ≡ d → a && b ≡ c && d
both {b = b} {c = c} h k = ap (λ z. z && b) h ∙ ap (λ z. c && z) k

module _ (T : Tables) (heads' : List Head) (set' : List (Path × ℕ)) where
  abbrev pub Other : Tables
  Other = record T { heads = heads'; set = set' }

  -- ---- parts

  prototype_same : (e : Expr) (p f : ℕ) → method_on_prototype Other e p f ≡ method_on_prototype T e p f
  unfolding method_on_prototype is_named name_of
  prototype_same (member i e q) p f = refl
  prototype_same e p f = refl

  to_same : (u : Target) (f : ℕ) → method_to Other u f ≡ method_to T u f
  unfolding method_to
  to_same (to_member i e p) f = prototype_same e p f
  to_same u f = refl

  method_same : (u : Target) (e : Expr) → method_in Other u e ≡ method_in T u e
  unfolding method_in
  method_same u (fun i f) = to_same u f
  method_same u e = refl

  below : (i : ℕ) {xs ys : List Part} → xs ≡ ys → has_site i ∷ xs ≡ has_site i ∷ ys
  below i h = ap (λ z. has_site i ∷ z) h

  mutual
    unfolding expr_parts

    expr_same : (c : ℕ) (e : Expr) → expr_parts Other c e ≡ expr_parts T c e
    expr_same c (lit i p) = refl
    expr_same c (var i r) = refl
    expr_same c (this i) = refl
    expr_same c (fun i f) = refl
    expr_same c (list i es) = below i (all_same c es)
    expr_same c (object i fs) = below i (fields_same c fs)
    expr_same c (unary i op e) = below i (expr_same c e)
    expr_same c (binary i op a b) = below i (joined (expr_same c a) (expr_same c b))
    expr_same c (and i a b) = below i (joined (expr_same c a) (expr_same c b))
    expr_same c (or i a b) = below i (joined (expr_same c a) (expr_same c b))
    expr_same c (cond i e a b) = below i (joined (joined (expr_same c e) (expr_same c a)) (expr_same c b))
    expr_same c (assign i op u e) = below i (joined (joined (method_same u e) (target_same c u)) (expr_same c e))
    expr_same c (step i up prefix u) = below i (target_same c u)
    expr_same c (member i e p) = below i (ap (λ z. uses_prop p ∷ z) (expr_same c e))
    expr_same c (index i e k) = below i (joined (expr_same c e) (expr_same c k))
    expr_same c (call i f es) = below i (joined (expr_same c f) (all_same c es))
    expr_same c (new i f es) = below i (joined (expr_same c f) (all_same c es))
    expr_same c (comma i a b) = below i (joined (expr_same c a) (expr_same c b))
    expr_same c (cast i d e) = below i (ap (λ z. uses_doc d ∷ z) (expr_same c e))
    expr_same c (tick i n e) = below i (expr_same c e)

    target_same : (c : ℕ) (u : Target) → target_parts Other c u ≡ target_parts T c u
    target_same c (to_var i r) = refl
    target_same c (to_member i e p) = below i (ap (λ z. uses_prop p ∷ z) (expr_same c e))
    target_same c (to_index i e k) = below i (joined (expr_same c e) (expr_same c k))

    all_same : (c : ℕ) (es : Exprs) → exprs_parts Other c es ≡ exprs_parts T c es
    all_same c no_exprs = refl
    all_same c (more_exprs e es) = joined (expr_same c e) (all_same c es)

    fields_same : (c : ℕ) (fs : Fields) → fields_parts Other c fs ≡ fields_parts T c fs
    fields_same c no_fields = refl
    fields_same c (more_fields k e fs) = joined (ap (λ z. key_parts k ++ z) (expr_same c e)) (fields_same c fs)

  option_same : (c : ℕ) (o : Option Expr) → option_parts Other c o ≡ option_parts T c o
  unfolding option_parts
  option_same c None = refl
  option_same c (Some e) = expr_same c e

  vars_same : (c : ℕ) (ds : List Declarator) → vars_parts Other c ds ≡ vars_parts T c ds
  unfolding vars_parts
  vars_same c [] = refl
  vars_same c (d ∷ ds) = below d.site (ap (λ z. declares c d.variable ∷ z) (joined (option_same c d.value) (vars_same c ds)))

  init_same : (c : ℕ) (x : ForInit) → init_parts Other c x ≡ init_parts T c x
  unfolding init_parts
  init_same c no_init = refl
  init_same c (init_value e) = expr_same c e
  init_same c (init_vars ds) = vars_same c ds

  names_same : (c : ℕ) (u : ForTarget) → name_parts Other c u ≡ name_parts T c u
  unfolding name_parts
  names_same c (in_target u) = target_same c u
  names_same c (in_declared d) = vars_same c (d ∷ [])

  mutual
    unfolding stmt_parts

    stmt_same : (c : ℕ) (s : Stmt) → stmt_parts Other c s ≡ stmt_parts T c s
    stmt_same c (simple i e) = below i (expr_same c e)
    stmt_same c (vars i ds) = below i (vars_same c ds)
    stmt_same c (fun_decl i r f) = refl
    stmt_same c (if i e a b) = below i (joined (joined (expr_same c e) (stmts_same c a)) (stmts_same c b))
    stmt_same c (while i e b) = below i (joined (expr_same c e) (stmts_same c b))
    stmt_same c (do_while i b e) = below i (joined (stmts_same c b) (expr_same c e))
    stmt_same c (for i x e n b) = below i (joined (joined (joined (init_same c x) (option_same c e)) (option_same c n)) (stmts_same c b))
    stmt_same c (for_in i u e b) = below i (joined (joined (names_same c u) (expr_same c e)) (stmts_same c b))
    stmt_same c (return i e) = below i (option_same c e)
    stmt_same c (throw i e) = below i (expr_same c e)
    stmt_same c (break i l) = refl
    stmt_same c (continue i l) = refl
    stmt_same c (label i l b) = below i (stmts_same c b)
    stmt_same c (switch i e cs) = below i (joined (expr_same c e) (cases_same c cs))
    stmt_same c (try i b k f) = below i (joined (joined (stmts_same c b) (maybe_same (suc c) k)) (maybe_same c f))
    stmt_same c (pay_stmt i n) = refl

    pub stmts_same : (c : ℕ) (ss : Stmts) → stmts_parts Other c ss ≡ stmts_parts T c ss
    stmts_same c no_stmts = refl
    stmts_same c (more_stmts s ss) = joined (stmt_same c s) (stmts_same c ss)

    maybe_same : (c : ℕ) (b : MaybeStmts) → maybe_parts Other c b ≡ maybe_parts T c b
    maybe_same c absent = refl
    maybe_same c (present ss) = stmts_same c ss

    cases_same : (c : ℕ) (cs : Cases) → cases_parts Other c cs ≡ cases_parts T c cs
    cases_same c no_cases = refl
    cases_same c (more_cases o b cs) = joined (joined (option_same c o) (stmts_same c b)) (cases_same c cs)

  pub functions_same : (ss : List Scope) → all_functions Other ss ≡ all_functions T ss
  unfolding all_functions
  functions_same [] = refl
  functions_same (s ∷ ss) = joined (ap functions_in (stmts_same 0 s.body)) (functions_same ss)

  -- ---- what is well

  read_same : (r : Ref) → may_read Other r ≡ may_read T r
  unfolding may_read global_kind
  read_same (Ref.Frame up n) = refl
  read_same (Ref.Global n) = refl

  write_same : (r : Ref) → may_write Other r ≡ may_write T r
  unfolding may_write global_kind
  write_same (Ref.Frame up n) = refl
  write_same (Ref.Global n) = refl

  callee_same : (f : Expr) → built_callee Other f ≡ built_callee T f
  unfolding built_callee is_use global_at global_kind name_of
  callee_same (var i (Ref.Frame up n)) = refl
  callee_same (var i (Ref.Global n)) = refl
  callee_same (member i e p) = refl
  callee_same f = refl

  mutual
    unfolding expr_well

    well_same : (e : Expr) → expr_well Other e ≡ expr_well T e
    well_same (lit i p) = refl
    well_same (var i r) = read_same r
    well_same (this i) = refl
    well_same (fun i f) = refl
    well_same (list i es) = all_well es
    well_same (object i fs) = each_well fs
    well_same (unary i op e) = ap (λ z. takes_operand op e && z) (well_same e)
    well_same (binary i op a b) = both (well_same a) (well_same b)
    well_same (and i a b) = both (well_same a) (well_same b)
    well_same (or i a b) = both (well_same a) (well_same b)
    well_same (cond i e a b) = both (both (well_same e) (well_same a)) (well_same b)
    well_same (assign i op u e) = both (ap (λ z. assigns op && z) (to_well u)) (well_same e)
    well_same (step i up prefix u) = to_well u
    well_same (member i e p) = well_same e
    well_same (index i e k) = both (well_same e) (well_same k)
    well_same (call i f es) = both (ap (λ z. z || expr_well Other f) (callee_same f) ∙ ap (λ z. built_callee T f || z) (well_same f)) (all_well es)
    well_same (new i f es) = both (well_same f) (all_well es)
    well_same (comma i a b) = both (well_same a) (well_same b)
    well_same (cast i d e) = well_same e
    well_same (tick i n e) = well_same e

    to_well : (u : Target) → target_well Other u ≡ target_well T u
    to_well (to_var i r) = write_same r
    to_well (to_member i e p) = well_same e
    to_well (to_index i e k) = both (well_same e) (well_same k)

    all_well : (es : Exprs) → exprs_well Other es ≡ exprs_well T es
    all_well no_exprs = refl
    all_well (more_exprs e es) = both (well_same e) (all_well es)

    each_well : (fs : Fields) → fields_well Other fs ≡ fields_well T fs
    each_well no_fields = refl
    each_well (more_fields k e fs) = both (well_same e) (each_well fs)

  option_alike : (o : Option Expr) → option_well Other o ≡ option_well T o
  unfolding option_well
  option_alike None = refl
  option_alike (Some e) = well_same e

  vars_alike : (ds : List Declarator) → vars_well Other ds ≡ vars_well T ds
  unfolding vars_well
  vars_alike [] = refl
  vars_alike (d ∷ ds) = both (option_alike d.value) (vars_alike ds)

  some_alike : (ds : List Declarator) → some_vars Other ds ≡ some_vars T ds
  unfolding some_vars
  some_alike [] = refl
  some_alike (d ∷ ds) = vars_alike (d ∷ ds)

  init_alike : (x : ForInit) → init_well Other x ≡ init_well T x
  unfolding init_well
  init_alike no_init = refl
  init_alike (init_value e) = well_same e
  init_alike (init_vars ds) = some_alike ds

  names_alike : (u : ForTarget) → name_well Other u ≡ name_well T u
  unfolding name_well
  names_alike (in_target u) = to_well u
  names_alike (in_declared d) = option_alike d.value

  mutual
    unfolding stmt_well

    stmt_alike : (o : Open) (ls : List (List ℕ)) (s : Stmt) → stmt_well Other o ls s ≡ stmt_well T o ls s
    stmt_alike o ls (simple i e) = well_same e
    stmt_alike o ls (vars i ds) = some_alike ds
    stmt_alike o ls (fun_decl i r f) = refl
    stmt_alike o ls (if i e a b) = both (both (well_same e) (stmts_alike (nested o) [] a)) (stmts_alike (nested o) [] b)
    stmt_alike o ls (while i e b) = both (well_same e) (stmts_alike (in_loop o ls) [] b)
    stmt_alike o ls (do_while i b e) = both (well_same e) (stmts_alike (in_loop o ls) [] b)
    stmt_alike o ls (for i x e n b) = both (both (both (init_alike x) (option_alike e)) (option_alike n)) (stmts_alike (in_loop o ls) [] b)
    stmt_alike o ls (for_in i u e b) = both (both (names_alike u) (well_same e)) (stmts_alike (in_loop o ls) [] b)
    stmt_alike o ls (return i e) = ap (λ z. o.returns && z) (option_alike e)
    stmt_alike o ls (throw i e) = well_same e
    stmt_alike o ls (break i l) = refl
    stmt_alike o ls (continue i l) = refl
    stmt_alike o ls (label i l b) = ap (λ z. not (is_in l o.labels) && z) (stmts_alike (record o { labels = l ∷ o.labels; own = false }) (labels_for (l ∷ ls) b) b)
    stmt_alike o ls (switch i e cs) = both (ap (λ z. z && nat_lt (defaults cs) 2) (well_same e)) (cases_alike (record o { breaks = true; own = false }) cs)
    stmt_alike o ls (try i b k f) = both (both (ap (λ z. (is_there k || is_there f) && z) (stmts_alike (nested o) [] b)) (maybe_alike (nested o) k)) (maybe_alike (nested o) f)
    stmt_alike o ls (pay_stmt i n) = refl

    pub stmts_alike : (o : Open) (ls : List (List ℕ)) (ss : Stmts) → stmts_well Other o ls ss ≡ stmts_well T o ls ss
    stmts_alike o ls no_stmts = refl
    stmts_alike o ls (more_stmts s ss) = both (stmt_alike o ls s) (stmts_alike o ls ss)

    maybe_alike : (o : Open) (b : MaybeStmts) → maybe_well Other o b ≡ maybe_well T o b
    maybe_alike o absent = refl
    maybe_alike o (present ss) = stmts_alike o [] ss

    cases_alike : (o : Open) (cs : Cases) → cases_well Other o cs ≡ cases_well T o cs
    cases_alike o no_cases = refl
    cases_alike o (more_cases e b cs) = both (both (option_alike e) (stmts_alike o [] b)) (cases_alike o cs)
