-- The properties that a flattened tree names stood in the old one.
use Rattle.std.proofs.Common.{◌≡◌, ◌⊎◌, inl, inr, ℕ, Bool, true, false, List, [], ◌∷◌, ◌++◌, map, Option, Some, None, subst, sym}
use Rattle.cc_ast.specs.Syntax.{Expr, lit, var, this, fun, list, object, unary, binary, and, or, cond, assign, step, member, index, call, new, comma, cast, tick, Target, to_var, to_member, to_index, Exprs, no_exprs, more_exprs, Fields, no_fields, more_fields, Declarator, ForInit, no_init, init_value, init_vars, ForTarget, in_target, in_declared, Stmt, simple, vars, fun_decl, if, while, do_while, for, for_in, return, throw, break, continue, label, switch, try, pay_stmt, Stmts, no_stmts, more_stmts, MaybeStmts, absent, present, Cases, no_cases, more_cases}
use Rattle.cc_ast.specs.declared.tree.Ref.{Ref}
use Rattle.cc_meaning.specs.State.{Path, Tables}
use Rattle.cc_meaning.specs.Monad.{pick}
use Rattle.cc_meaning.specs.Shapes.{longer, path_of}
use Rattle.cc_meaning.specs.Alike.{In, here, there}
use Rattle.cc_meaning.specs.Parts.{Part, has_site, uses_prop, uses_doc, mentions, declares, sets_method, method_by, method_on_prototype, method_to, method_in, expr_parts, target_parts, exprs_parts, fields_parts, option_parts, vars_parts, init_parts, name_parts, stmt_parts, stmts_parts, maybe_parts, cases_parts}
use Rattle.cc_tied.proofs.Injection.Table.{in_cases}
use Rattle.cc_collapse.specs.Flattening.{access_or, target_or, flat_expr, flat_target, flat_all, flat_fields, flat_option, flat_declarator, flat_init, flat_each, flat_stmt, flat_stmts, flat_maybe, flat_cases}

-- the properties of the first list are among those of the second
pub record Sub (xs ys : List Part) : Type 0 where
  pub by : (n : ℕ) → In (uses_prop n) xs → In (uses_prop n) ys

pub in_front : {A : Type 0} {x : A} (xs ys : List A) → In x xs → In x (xs ++ ys)
in_front _ ys here = here
in_front (y ∷ xs) ys (there i) = there (in_front xs ys i)

pub in_back : {A : Type 0} {x : A} (xs ys : List A) → In x ys → In x (xs ++ ys)
in_back [] ys i = i
in_back (y ∷ xs) ys i = there (in_back xs ys i)

pub in_parts : {A : Type 0} {x : A} (xs ys : List A) → In x (xs ++ ys) → In x xs ⊎ In x ys
in_parts [] ys i = inr i
in_parts (y ∷ xs) ys here = inl here
in_parts {x = x} (y ∷ xs) ys (there i) = on (in_parts xs ys i)
  where
    on : In x xs ⊎ In x ys → In x (y ∷ xs) ⊎ In x ys
    on (inl j) = inl (there j)
    on (inr j) = inr j

pub sub_nil : {ys : List Part} → Sub [] ys
sub_nil = record { by = λ n i. elim i [ ] }

pub sub_refl : {xs : List Part} → Sub xs xs
sub_refl = record { by = λ n i. i }

pub sub_on : {xs ys zs : List Part} → Sub xs ys → Sub ys zs → Sub xs zs
sub_on h k = record { by = λ n i. k.by n (h.by n i) }

pub sub_tail : {xs ys : List Part} (y : Part) → Sub xs ys → Sub xs (y ∷ ys)
sub_tail y h = record { by = λ n i. there (h.by n i) }

pub sub_cons : (x : Part) {xs ys : List Part} → Sub xs ys → Sub (x ∷ xs) (x ∷ ys)
sub_cons x {xs = xs} {ys = ys} h = record { by = λ n i. by_place n (in_cases i) }
  where
    by_place : (n : ℕ) → (uses_prop n ≡ x) ⊎ In (uses_prop n) xs → In (uses_prop n) (x ∷ ys)
    by_place n (inl e) = subst (λ z. In z (x ∷ ys)) (sym e) here
    by_place n (inr i) = there (h.by n i)

-- a part that is no property is left out
pub sub_site : (j : ℕ) {xs ys : List Part} → Sub xs ys → Sub (has_site j ∷ xs) ys
sub_site j {xs = xs} {ys = ys} h = record { by = λ n i. by_place n i }
  where
    by_place : (n : ℕ) → In (uses_prop n) (has_site j ∷ xs) → In (uses_prop n) ys
    by_place n (there i) = h.by n i

pub sub_mention : (c : ℕ) (r : Ref) {xs ys : List Part} → Sub xs ys → Sub (mentions c r ∷ xs) ys
sub_mention c r {xs = xs} {ys = ys} h = record { by = λ n i. by_place n i }
  where
    by_place : (n : ℕ) → In (uses_prop n) (mentions c r ∷ xs) → In (uses_prop n) ys
    by_place n (there i) = h.by n i

pub sub_declares : (c : ℕ) (r : Ref) {xs ys : List Part} → Sub xs ys → Sub (declares c r ∷ xs) ys
sub_declares c r {xs = xs} {ys = ys} h = record { by = λ n i. by_place n i }
  where
    by_place : (n : ℕ) → In (uses_prop n) (declares c r ∷ xs) → In (uses_prop n) ys
    by_place n (there i) = h.by n i

sub_method : (w : Path) (p f : ℕ) {ys : List Part} → Sub (sets_method w p f ∷ []) ys
sub_method w p f {ys = ys} = record { by = λ n i. by_place n i }
  where
    by_place : (n : ℕ) → In (uses_prop n) (sets_method w p f ∷ []) → In (uses_prop n) ys
    by_place n (there i) = elim i [ ]

pub sub_append : {a b c d : List Part} → Sub a b → Sub c d → Sub (a ++ c) (b ++ d)
sub_append {a = a} {b = b} {c = c} {d = d} h k = record { by = λ n i. by_part n (in_parts a c i) }
  where
    by_part : (n : ℕ) → In (uses_prop n) a ⊎ In (uses_prop n) c → In (uses_prop n) (b ++ d)
    by_part n (inl i) = in_front b d (h.by n i)
    by_part n (inr i) = in_back b d (k.by n i)

pub sub_back : {xs ys : List Part} (zs : List Part) → Sub xs ys → Sub xs (zs ++ ys)
sub_back {ys = ys} zs h = record { by = λ n i. in_back zs ys (h.by n i) }

pub sub_front : {xs ys : List Part} (zs : List Part) → Sub xs ys → Sub xs (ys ++ zs)
sub_front {ys = ys} zs h = record { by = λ n i. in_front ys zs (h.by n i) }

pub sub_join : {xs ys zs : List Part} → Sub xs zs → Sub ys zs → Sub (xs ++ ys) zs
sub_join {xs = xs} {ys = ys} {zs = zs} h k = record { by = λ n i. by_part n (in_parts xs ys i) }
  where
    by_part : (n : ℕ) → In (uses_prop n) xs ⊎ In (uses_prop n) ys → In (uses_prop n) zs
    by_part n (inl i) = h.by n i
    by_part n (inr i) = k.by n i

-- methods are no properties
no_method_by : (w : Option Path) (p f : ℕ) {ys : List Part} → Sub (method_by w p f) ys
unfolding method_by
no_method_by None p f = sub_nil
no_method_by (Some w) p f = sub_method w p f

picked : (b : Bool) {xs ys : List Part} → Sub xs ys → Sub (pick b xs []) ys
picked true h = h
picked false h = sub_nil

no_method_on : (T : Tables) (e : Expr) (p f : ℕ) {ys : List Part} → Sub (method_on_prototype T e p f) ys
unfolding method_on_prototype
no_method_on T (member i e q) p f = picked _ (no_method_by _ p f)
no_method_on T _ p f = sub_nil

no_method_to : (T : Tables) (t : Target) (f : ℕ) {ys : List Part} → Sub (method_to T t f) ys
unfolding method_to
no_method_to T (to_member i e p) f = no_method_on T e p f
no_method_to T _ f = sub_nil

pub no_methods : (T : Tables) (t : Target) (e : Expr) {ys : List Part} → Sub (method_in T t e) ys
unfolding method_in
no_methods T t (fun i f) = no_method_to T t f
no_methods T t _ = sub_nil

module _ (T U : Tables) (global : Option Path → Option ℕ) where
  access_sub : (c : ℕ) (o : Option ℕ) (i : ℕ) (e : Expr) {ys : List Part} → Sub (expr_parts U c e) ys → Sub (expr_parts U c (access_or global o i e)) ys
  unfolding access_or expr_parts
  access_sub c None i e h = h
  access_sub c (Some n) i e h = sub_site i (sub_mention c (Ref.Global n) sub_nil)

  target_sub : (c : ℕ) (o : Option ℕ) (i : ℕ) (t : Target) {ys : List Part} → Sub (target_parts U c t) ys → Sub (target_parts U c (target_or global o i t)) ys
  unfolding target_or expr_parts
  target_sub c None i t h = h
  target_sub c (Some n) i t h = sub_site i (sub_mention c (Ref.Global n) sub_nil)

  mutual
    unfolding flat_expr expr_parts

    pub expr_sub : (c : ℕ) (e : Expr) → Sub (expr_parts U c (flat_expr global e)) (expr_parts T c e)
    expr_sub c (lit i p) = sub_refl
    expr_sub c (var i r) = sub_refl
    expr_sub c (this i) = sub_refl
    expr_sub c (fun i f) = sub_refl
    expr_sub c (list i es) = sub_cons (has_site i) (all_sub c es)
    expr_sub c (object i fs) = sub_cons (has_site i) (fields_sub c fs)
    expr_sub c (unary i op e) = sub_cons (has_site i) (expr_sub c e)
    expr_sub c (binary i op a b) = sub_cons (has_site i) (sub_append (expr_sub c a) (expr_sub c b))
    expr_sub c (and i a b) = sub_cons (has_site i) (sub_append (expr_sub c a) (expr_sub c b))
    expr_sub c (or i a b) = sub_cons (has_site i) (sub_append (expr_sub c a) (expr_sub c b))
    expr_sub c (cond i t a b) = sub_cons (has_site i) (sub_append (sub_append (expr_sub c t) (expr_sub c a)) (expr_sub c b))
    expr_sub c (assign i op t e) = sub_cons (has_site i) (sub_append (sub_append (no_methods U (flat_target global t) (flat_expr global e)) (written_sub c t)) (expr_sub c e))
    expr_sub c (step i up prefix t) = sub_cons (has_site i) (written_sub c t)
    expr_sub c (member i e p) = access_sub c (global (longer (path_of e) p)) i (member i (flat_expr global e) p) (sub_cons (has_site i) (sub_cons (uses_prop p) (expr_sub c e)))
    expr_sub c (index i e k) = sub_cons (has_site i) (sub_append (expr_sub c e) (expr_sub c k))
    expr_sub c (call i f es) = sub_cons (has_site i) (sub_append (expr_sub c f) (all_sub c es))
    expr_sub c (new i f es) = sub_cons (has_site i) (sub_append (expr_sub c f) (all_sub c es))
    expr_sub c (comma i a b) = sub_cons (has_site i) (sub_append (expr_sub c a) (expr_sub c b))
    expr_sub c (cast i d e) = sub_cons (has_site i) (sub_cons (uses_doc d) (expr_sub c e))
    expr_sub c (tick i n e) = sub_cons (has_site i) (expr_sub c e)

    pub written_sub : (c : ℕ) (t : Target) → Sub (target_parts U c (flat_target global t)) (target_parts T c t)
    written_sub c (to_var i r) = sub_refl
    written_sub c (to_member i e p) = target_sub c (global (longer (path_of e) p)) i (to_member i (flat_expr global e) p) (sub_cons (has_site i) (sub_cons (uses_prop p) (expr_sub c e)))
    written_sub c (to_index i e k) = sub_cons (has_site i) (sub_append (expr_sub c e) (expr_sub c k))

    pub all_sub : (c : ℕ) (es : Exprs) → Sub (exprs_parts U c (flat_all global es)) (exprs_parts T c es)
    all_sub c no_exprs = sub_nil
    all_sub c (more_exprs e es) = sub_append (expr_sub c e) (all_sub c es)

    pub fields_sub : (c : ℕ) (fs : Fields) → Sub (fields_parts U c (flat_fields global fs)) (fields_parts T c fs)
    fields_sub c no_fields = sub_nil
    fields_sub c (more_fields k e fs) = sub_append (sub_append sub_refl (expr_sub c e)) (fields_sub c fs)

  pub option_sub : (c : ℕ) (o : Option Expr) → Sub (option_parts U c (flat_option global o)) (option_parts T c o)
  unfolding flat_option option_parts
  option_sub c None = sub_nil
  option_sub c (Some e) = expr_sub c e

  pub vars_sub : (c : ℕ) (ds : List Declarator) → Sub (vars_parts U c (map (flat_declarator global) ds)) (vars_parts T c ds)
  unfolding vars_parts flat_declarator
  vars_sub c [] = sub_nil
  vars_sub c (d ∷ ds) = sub_cons (has_site d.site) (sub_cons (declares c d.variable) (sub_append (option_sub c d.value) (vars_sub c ds)))

  init_sub : (c : ℕ) (h : ForInit) → Sub (init_parts U c (flat_init global h)) (init_parts T c h)
  unfolding flat_init init_parts
  init_sub c no_init = sub_nil
  init_sub c (init_value e) = expr_sub c e
  init_sub c (init_vars ds) = vars_sub c ds

  each_sub : (c : ℕ) (t : ForTarget) → Sub (name_parts U c (flat_each global t)) (name_parts T c t)
  unfolding flat_each name_parts
  each_sub c (in_target t) = written_sub c t
  each_sub c (in_declared d) = vars_sub c (d ∷ [])

  mutual
    unfolding flat_stmt stmt_parts

    pub stmt_sub : (c : ℕ) (s : Stmt) → Sub (stmt_parts U c (flat_stmt global s)) (stmt_parts T c s)
    stmt_sub c (simple i e) = sub_cons (has_site i) (expr_sub c e)
    stmt_sub c (vars i ds) = sub_cons (has_site i) (vars_sub c ds)
    stmt_sub c (fun_decl i r f) = sub_refl
    stmt_sub c (if i t a b) = sub_cons (has_site i) (sub_append (sub_append (expr_sub c t) (stmts_sub c a)) (stmts_sub c b))
    stmt_sub c (while i t b) = sub_cons (has_site i) (sub_append (expr_sub c t) (stmts_sub c b))
    stmt_sub c (do_while i b t) = sub_cons (has_site i) (sub_append (stmts_sub c b) (expr_sub c t))
    stmt_sub c (for i h t e b) = sub_cons (has_site i) (sub_append (sub_append (sub_append (init_sub c h) (option_sub c t)) (option_sub c e)) (stmts_sub c b))
    stmt_sub c (for_in i t e b) = sub_cons (has_site i) (sub_append (sub_append (each_sub c t) (expr_sub c e)) (stmts_sub c b))
    stmt_sub c (return i e) = sub_cons (has_site i) (option_sub c e)
    stmt_sub c (throw i e) = sub_cons (has_site i) (expr_sub c e)
    stmt_sub c (break i l) = sub_refl
    stmt_sub c (continue i l) = sub_refl
    stmt_sub c (label i l b) = sub_cons (has_site i) (stmts_sub c b)
    stmt_sub c (switch i e cs) = sub_cons (has_site i) (sub_append (expr_sub c e) (cases_sub c cs))
    stmt_sub c (try i b k f) = sub_cons (has_site i) (sub_append (sub_append (stmts_sub c b) (maybe_sub _ k)) (maybe_sub c f))
    stmt_sub c (pay_stmt i n) = sub_refl

    pub stmts_sub : (c : ℕ) (ss : Stmts) → Sub (stmts_parts U c (flat_stmts global ss)) (stmts_parts T c ss)
    stmts_sub c no_stmts = sub_nil
    stmts_sub c (more_stmts s ss) = sub_append (stmt_sub c s) (stmts_sub c ss)

    maybe_sub : (c : ℕ) (m : MaybeStmts) → Sub (maybe_parts U c (flat_maybe global m)) (maybe_parts T c m)
    maybe_sub c absent = sub_nil
    maybe_sub c (present ss) = stmts_sub c ss

    cases_sub : (c : ℕ) (cs : Cases) → Sub (cases_parts U c (flat_cases global cs)) (cases_parts T c cs)
    cases_sub c no_cases = sub_nil
    cases_sub c (more_cases t b cs) = sub_append (sub_append (option_sub c t) (stmts_sub c b)) (cases_sub c cs)
