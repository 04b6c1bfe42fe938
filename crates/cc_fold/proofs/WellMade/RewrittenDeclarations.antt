-- A rewriting of whole statements keeps what they declare.
use Rattle.std.proofs.Common.{◌≡◌, ◌⊎◌, inl, inr, ℕ, suc, Bool, true, false, List, [], ◌∷◌, ◌++◌, Option, Some, None, refl, sym, ap, subst, ◌∙◌}
use Rattle.cc_ast.specs.Syntax.{Expr, lit, var, this, fun, list, object, unary, binary, and, or, cond, assign, step as step_of, member, index, call, new, comma, cast, tick, Target, to_var, to_member, to_index, Exprs, no_exprs, more_exprs, Fields, no_fields, more_fields, Declarator, ForInit, no_init, init_value, init_vars, ForTarget, in_target, in_declared, Stmt, simple, vars, fun_decl, if, while, do_while, for, for_in, return, throw, break, continue, label, switch, try, pay_stmt, Stmts, no_stmts, more_stmts, MaybeStmts, absent, present, Cases, no_cases, more_cases}
use Rattle.cc_ast.specs.declared.tree.Key.{Key}
use Rattle.cc_ast.specs.declared.tree.Ref.{Ref}
use Rattle.cc_meaning.specs.State.{Path, Tables}
use Rattle.cc_meaning.specs.Monad.{pick}
use Rattle.cc_meaning.specs.Alike.{In, here, there}
use Rattle.cc_meaning.specs.Shapes.{path_of, is_named}
use Rattle.cc_meaning.specs.Names.{name_prototype}
use Rattle.cc_meaning.specs.Parts.{Part, has_site, uses_prop, uses_doc, mentions, declares, makes, method_by, method_on_prototype, method_to, method_in, key_parts, expr_parts, target_parts, exprs_parts, fields_parts, option_parts, vars_parts, init_parts, name_parts, stmt_parts, stmts_parts, maybe_parts, cases_parts}
use Rattle.cc_tied.specs.Rewrites.{re_target, re_value, re_option, re_declarators, re_init, re_names, re_stmt, re_stmts, re_maybe, re_cases, whole, whole_in}

-- ---- the declarations among parts

declared : List Part → List (ℕ × Ref)
declared [] = []
declared (declares c r ∷ xs) = (c, r) ∷ declared xs
declared (_ ∷ xs) = declared xs

declared_both : (xs ys : List Part) → declared (xs ++ ys) ≡ declared xs ++ declared ys
unfolding declared
declared_both [] ys = refl
declared_both (declares c r ∷ xs) ys = ap (λ z. (c, r) ∷ z) (declared_both xs ys)
declared_both (_ ∷ xs) ys = declared_both xs ys

listed : {c : ℕ} {r : Ref} (xs : List Part) → In (declares c r) xs → In (c, r) (declared xs)
unfolding declared
listed _ here = here
listed (declares d s ∷ xs) (there i) = there (listed xs i)
listed (_ ∷ xs) (there i) = listed xs i

in_first : {A : Type 0} {x y : A} {xs : List A} → In x (y ∷ xs) → (x ≡ y) ⊎ In x xs
in_first here = inl refl
in_first (there i) = inr i

unlisted : {c : ℕ} {r : Ref} (xs : List Part) → In (c, r) (declared xs) → In (declares c r) xs
unfolding declared
unlisted [] i = elim i [ ]
unlisted {c = c} {r = r} (declares d s ∷ xs) i = elim (in_first i) [
  | inl e ↦ subst (λ z. In (declares c r) (declares z.0 z.1 ∷ xs)) e here
  | inr j ↦ there (unlisted xs j)
]
unlisted (_ ∷ xs) i = there (unlisted xs i)

-- the same is declared, in the same order
record SameDeclared (xs us : List Part) : Type 0 where
  pub same : declared xs ≡ declared us

-- nothing is declared
record Silent (xs : List Part) : Type 0 where
  pub none : declared xs ≡ []

same_parts : (xs : List Part) → SameDeclared xs xs
same_parts xs = record { same = refl }

same_both : {xs us ys vs : List Part} → SameDeclared xs us → SameDeclared ys vs → SameDeclared (xs ++ ys) (us ++ vs)
same_both {xs = xs} {us = us} {ys = ys} {vs = vs} h k = record { same = declared_both xs ys ∙ ap (λ z. z ++ declared ys) h.same ∙ ap (λ z. declared us ++ z) k.same ∙ sym (declared_both us vs) }

declared_kept : (x : Part) (xs us : List Part) → declared xs ≡ declared us → declared (x ∷ xs) ≡ declared (x ∷ us)
unfolding declared
declared_kept (declares c r) xs us h = ap (λ z. (c, r) ∷ z) h
declared_kept _ xs us h = h

same_kept : (x : Part) {xs us : List Part} → SameDeclared xs us → SameDeclared (x ∷ xs) (x ∷ us)
same_kept x {xs = xs} {us = us} h = record { same = declared_kept x xs us h.same }

same_silent : {xs us : List Part} → Silent xs → Silent us → SameDeclared xs us
same_silent h k = record { same = h.none ∙ sym k.none }

nothing : Silent []
unfolding declared
nothing = record { none = refl }

silent_both : {xs ys : List Part} → Silent xs → Silent ys → Silent (xs ++ ys)
silent_both {xs = xs} {ys = ys} h k = record { none = declared_both xs ys ∙ ap (λ z. z ++ declared ys) h.none ∙ k.none }

-- a part that is no declaration
silent_more : (x : Part) {xs : List Part} → Silent (x ∷ []) → Silent xs → Silent (x ∷ xs)
silent_more x h k = silent_both h k

site : (i : ℕ) {xs : List Part} → Silent xs → Silent (has_site i ∷ xs)
unfolding declared
site i h = silent_both {xs = has_site i ∷ []} (record { none = refl }) h

-- ---- expressions declare nothing

module _ (T : Tables) where
  silent_picked : (b : Bool) {xs : List Part} → Silent xs → Silent (pick b xs [])
  silent_picked true h = h
  silent_picked false h = nothing

  silent_by : (o : Option Path) (p f : ℕ) → Silent (method_by o p f)
  unfolding declared method_by
  silent_by None p f = nothing
  silent_by (Some w) p f = record { none = refl }

  silent_prototype : (e : Expr) (p f : ℕ) → Silent (method_on_prototype T e p f)
  unfolding method_on_prototype
  silent_prototype (member i e q) p f = silent_picked (is_named T q name_prototype) (silent_by (path_of e) p f)
  silent_prototype e p f = nothing

  silent_to : (u : Target) (f : ℕ) → Silent (method_to T u f)
  unfolding method_to
  silent_to (to_member i e p) f = silent_prototype e p f
  silent_to u f = nothing

  silent_method : (u : Target) (e : Expr) → Silent (method_in T u e)
  unfolding method_in
  silent_method u (fun i f) = silent_to u f
  silent_method u e = nothing

  silent_key : (k : Key) → Silent (key_parts k)
  unfolding declared key_parts
  silent_key (Key.Dotted p) = record { none = refl }
  silent_key (Key.Quoted t) = nothing

  silent_prop : (p : ℕ) → Silent (uses_prop p ∷ [])
  unfolding declared
  silent_prop p = record { none = refl }

  silent_doc : (d : ℕ) → Silent (uses_doc d ∷ [])
  unfolding declared
  silent_doc d = record { none = refl }

  silent_mention : (c : ℕ) (r : Ref) → Silent (mentions c r ∷ [])
  unfolding declared
  silent_mention c r = record { none = refl }

  silent_function : (c f : ℕ) (d : Bool) → Silent (makes c f d ∷ [])
  unfolding declared
  silent_function c f d = record { none = refl }

  module _ (c : ℕ) where
    mutual
      unfolding expr_parts

      silent_expr : (e : Expr) → Silent (expr_parts T c e)
      silent_expr (lit i p) = site i nothing
      silent_expr (var i r) = site i (silent_mention c r)
      silent_expr (this i) = site i nothing
      silent_expr (fun i f) = site i (silent_function c f false)
      silent_expr (list i es) = site i (silent_all es)
      silent_expr (object i fs) = site i (silent_fields fs)
      silent_expr (unary i op e) = site i (silent_expr e)
      silent_expr (binary i op a b) = site i (silent_both (silent_expr a) (silent_expr b))
      silent_expr (and i a b) = site i (silent_both (silent_expr a) (silent_expr b))
      silent_expr (or i a b) = site i (silent_both (silent_expr a) (silent_expr b))
      silent_expr (cond i e a b) = site i (silent_both (silent_both (silent_expr e) (silent_expr a)) (silent_expr b))
      silent_expr (assign i op u e) = site i (silent_both (silent_both (silent_method u e) (silent_target u)) (silent_expr e))
      silent_expr (step_of i up prefix u) = site i (silent_target u)
      silent_expr (member i e p) = site i (silent_more (uses_prop p) (silent_prop p) (silent_expr e))
      silent_expr (index i e k) = site i (silent_both (silent_expr e) (silent_expr k))
      silent_expr (call i f es) = site i (silent_both (silent_expr f) (silent_all es))
      silent_expr (new i f es) = site i (silent_both (silent_expr f) (silent_all es))
      silent_expr (comma i a b) = site i (silent_both (silent_expr a) (silent_expr b))
      silent_expr (cast i d e) = site i (silent_more (uses_doc d) (silent_doc d) (silent_expr e))
      silent_expr (tick i n e) = site i (silent_expr e)

      silent_target : (u : Target) → Silent (target_parts T c u)
      silent_target (to_var i r) = site i (silent_mention c r)
      silent_target (to_member i e p) = site i (silent_more (uses_prop p) (silent_prop p) (silent_expr e))
      silent_target (to_index i e k) = site i (silent_both (silent_expr e) (silent_expr k))

      silent_all : (es : Exprs) → Silent (exprs_parts T c es)
      silent_all no_exprs = nothing
      silent_all (more_exprs e es) = silent_both (silent_expr e) (silent_all es)

      silent_fields : (fs : Fields) → Silent (fields_parts T c fs)
      silent_fields no_fields = nothing
      silent_fields (more_fields k e fs) = silent_both (silent_both (silent_key k) (silent_expr e)) (silent_fields fs)

  -- ---- statements

  module _ (built : Ref → Bool) (step : Expr → Expr) (step_call : ℕ → Expr → Exprs → Expr) where
    abbrev VS : Expr → Expr
    VS e = re_value built step step_call e

    abbrev SS : Stmts → Stmts
    SS ss = re_stmts built step step_call whole whole_in more_stmts ss

    same_value : (c : ℕ) (e : Expr) → SameDeclared (expr_parts T c (VS e)) (expr_parts T c e)
    same_value c e = same_silent (silent_expr c (VS e)) (silent_expr c e)

    same_option : (c : ℕ) (o : Option Expr) → SameDeclared (option_parts T c (re_option built step step_call o)) (option_parts T c o)
    unfolding option_parts re_option
    same_option c None = same_parts []
    same_option c (Some e) = same_value c e

    same_vars : (c : ℕ) (ds : List Declarator) → SameDeclared (vars_parts T c (re_declarators built step step_call whole whole_in ds)) (vars_parts T c ds)
    unfolding vars_parts re_declarators
    same_vars c [] = same_parts []
    same_vars c (d ∷ ds) = same_kept (has_site d.site) (same_kept (declares c d.variable) (same_both (same_option c d.value) (same_vars c ds)))

    same_init : (c : ℕ) (h : ForInit) → SameDeclared (init_parts T c (re_init built step step_call whole whole_in h)) (init_parts T c h)
    unfolding init_parts re_init vars_parts
    same_init c no_init = same_parts []
    same_init c (init_value e) = same_value c e
    same_init c (init_vars []) = same_parts []
    same_init c (init_vars (d ∷ ds)) = same_vars c (d ∷ ds)

    same_names : (c : ℕ) (u : ForTarget) → SameDeclared (name_parts T c (re_names built step step_call whole whole_in u)) (name_parts T c u)
    unfolding name_parts re_names vars_parts re_declarators
    same_names c (in_target u) = same_silent (silent_target c (re_target built step step_call u)) (silent_target c u)
    same_names c (in_declared d) = same_vars c (d ∷ [])

    mutual
      unfolding re_stmt stmt_parts

      same_stmt : (c : ℕ) (s : Stmt) → SameDeclared (stmt_parts T c (re_stmt built step step_call whole whole_in more_stmts s)) (stmt_parts T c s)
      same_stmt c (simple i e) = same_kept (has_site i) (same_value c e)
      same_stmt c (vars i ds) = same_kept (has_site i) (same_vars c ds)
      same_stmt c (fun_decl i r f) = same_parts _
      same_stmt c (if i e a b) = same_kept (has_site i) (same_both (same_both (same_value c e) (same_stmts c a)) (same_stmts c b))
      same_stmt c (while i e b) = same_kept (has_site i) (same_both (same_value c e) (same_stmts c b))
      same_stmt c (do_while i b e) = same_kept (has_site i) (same_both (same_stmts c b) (same_value c e))
      same_stmt c (for i h e o b) = same_kept (has_site i) (same_both (same_both (same_both (same_init c h) (same_option c e)) (same_option c o)) (same_stmts c b))
      same_stmt c (for_in i u e b) = same_kept (has_site i) (same_both (same_both (same_names c u) (same_value c e)) (same_stmts c b))
      same_stmt c (return i o) = same_kept (has_site i) (same_option c o)
      same_stmt c (throw i e) = same_kept (has_site i) (same_value c e)
      same_stmt c (break i l) = same_parts _
      same_stmt c (continue i l) = same_parts _
      same_stmt c (label i l b) = same_kept (has_site i) (same_stmts c b)
      same_stmt c (switch i e cs) = same_kept (has_site i) (same_both (same_value c e) (same_cases c cs))
      same_stmt c (try i b k f) = same_kept (has_site i) (same_both (same_both (same_stmts c b) (same_maybe (suc c) k)) (same_maybe c f))
      same_stmt c (pay_stmt i n) = same_parts _

      same_stmts : (c : ℕ) (ss : Stmts) → SameDeclared (stmts_parts T c (SS ss)) (stmts_parts T c ss)
      same_stmts c no_stmts = same_parts []
      same_stmts c (more_stmts s ss) = same_both (same_stmt c s) (same_stmts c ss)

      same_maybe : (c : ℕ) (b : MaybeStmts) → SameDeclared (maybe_parts T c (re_maybe built step step_call whole whole_in more_stmts b)) (maybe_parts T c b)
      same_maybe c absent = same_parts []
      same_maybe c (present ss) = same_stmts c ss

      same_cases : (c : ℕ) (cs : Cases) → SameDeclared (cases_parts T c (re_cases built step step_call whole whole_in more_stmts cs)) (cases_parts T c cs)
      same_cases c no_cases = same_parts []
      same_cases c (more_cases o b cs) = same_both (same_both (same_option c o) (same_stmts c b)) (same_cases c cs)

    -- what was declared still is
    pub declares_kept : (k : ℕ) (ss : Stmts) (c : ℕ) (r : Ref) → In (declares c r) (stmts_parts T k ss) → In (declares c r) (stmts_parts T k (SS ss))
    declares_kept k ss c r i = unlisted (stmts_parts T k (SS ss)) (subst (λ z. In (c, r) z) (sym (same_stmts k ss).same) (listed (stmts_parts T k ss) i))
