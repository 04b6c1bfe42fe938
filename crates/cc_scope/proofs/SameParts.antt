-- The parts of trees rest on the names of properties alone, of all tables.
use Rattle.std.proofs.Common.{◌≡◌, refl, ap, ℕ, suc, List, [], ◌∷◌, Option, Some, None}
use Rattle.std.specs.Prelude.{slice_get}
use Rattle.cc_ast.specs.Syntax.{Expr, Target, Exprs, Fields, Declarator, ForInit, ForTarget, Stmt, Stmts, MaybeStmts, Cases}
use Rattle.cc_ast.specs.Syntax as p
use Rattle.cc_meaning.specs.Operators.{list_eq}
use Rattle.cc_meaning.specs.Names.{name_prototype}
use Rattle.cc_meaning.specs.State.{Tables}
use Rattle.cc_meaning.specs.Monad.{pick}
use Rattle.cc_meaning.specs.Store.{name_of, prop_name}
use Rattle.cc_meaning.specs.Shapes.{is_named, path_of}
use Rattle.cc_meaning.specs.Parts.{method_by, method_on_prototype, method_to, method_in, expr_parts, target_parts, exprs_parts, fields_parts, option_parts, vars_parts, init_parts, name_parts, stmt_parts, stmts_parts, maybe_parts, cases_parts}

module _ (T U : Tables) (h : T.props ≡ U.props) where
  on_prototype_same : (e : Expr) (q f : ℕ) → method_on_prototype T e q f ≡ method_on_prototype U e q f
  unfolding method_on_prototype is_named name_of
  on_prototype_same (p.member i e r) q f = ap (λ ps. pick (list_eq (prop_name (slice_get ps r)) name_prototype) (method_by (path_of e) q f) []) h
  on_prototype_same (p.lit i x) q f = refl
  on_prototype_same (p.var i r) q f = refl
  on_prototype_same (p.this i) q f = refl
  on_prototype_same (p.fun i g) q f = refl
  on_prototype_same (p.list i es) q f = refl
  on_prototype_same (p.object i fs) q f = refl
  on_prototype_same (p.unary i op e) q f = refl
  on_prototype_same (p.binary i op a b) q f = refl
  on_prototype_same (p.and i a b) q f = refl
  on_prototype_same (p.or i a b) q f = refl
  on_prototype_same (p.cond i t a b) q f = refl
  on_prototype_same (p.assign i op t e) q f = refl
  on_prototype_same (p.step i up before t) q f = refl
  on_prototype_same (p.index i e k) q f = refl
  on_prototype_same (p.call i g es) q f = refl
  on_prototype_same (p.new i g es) q f = refl
  on_prototype_same (p.comma i a b) q f = refl
  on_prototype_same (p.cast i d e) q f = refl
  on_prototype_same (p.tick i n e) q f = refl

  to_same : (t : Target) (f : ℕ) → method_to T t f ≡ method_to U t f
  unfolding method_to
  to_same (p.to_var i r) f = refl
  to_same (p.to_member i e q) f = on_prototype_same e q f
  to_same (p.to_index i e k) f = refl

  method_same : (t : Target) (e : Expr) → method_in T t e ≡ method_in U t e
  unfolding method_in
  method_same t (p.fun i f) = to_same t f
  method_same t (p.lit i x) = refl
  method_same t (p.var i r) = refl
  method_same t (p.this i) = refl
  method_same t (p.list i es) = refl
  method_same t (p.object i fs) = refl
  method_same t (p.unary i op e) = refl
  method_same t (p.binary i op a b) = refl
  method_same t (p.and i a b) = refl
  method_same t (p.or i a b) = refl
  method_same t (p.cond i u a b) = refl
  method_same t (p.assign i op u e) = refl
  method_same t (p.step i up before u) = refl
  method_same t (p.member i e q) = refl
  method_same t (p.index i e k) = refl
  method_same t (p.call i g es) = refl
  method_same t (p.new i g es) = refl
  method_same t (p.comma i a b) = refl
  method_same t (p.cast i d e) = refl
  method_same t (p.tick i n e) = refl

  mutual
    unfolding expr_parts

    pub expr_same : (c : ℕ) (t : Expr) → expr_parts T c t ≡ expr_parts U c t
    expr_same c (p.lit i x) = refl
    expr_same c (p.var i r) = refl
    expr_same c (p.this i) = refl
    expr_same c (p.fun i f) = refl
    expr_same c (p.list i es) = rw (exprs_same c es) refl
    expr_same c (p.object i fs) = rw (fields_same c fs) refl
    expr_same c (p.unary i op e) = rw (expr_same c e) refl
    expr_same c (p.binary i op a b) = rw (expr_same c a) (rw (expr_same c b) refl)
    expr_same c (p.and i a b) = rw (expr_same c a) (rw (expr_same c b) refl)
    expr_same c (p.or i a b) = rw (expr_same c a) (rw (expr_same c b) refl)
    expr_same c (p.cond i t a b) = rw (expr_same c t) (rw (expr_same c a) (rw (expr_same c b) refl))
    expr_same c (p.assign i op t e) = rw (method_same t e) (rw (target_same c t) (rw (expr_same c e) refl))
    expr_same c (p.step i up before t) = rw (target_same c t) refl
    expr_same c (p.member i e q) = rw (expr_same c e) refl
    expr_same c (p.index i e k) = rw (expr_same c e) (rw (expr_same c k) refl)
    expr_same c (p.call i f es) = rw (expr_same c f) (rw (exprs_same c es) refl)
    expr_same c (p.new i f es) = rw (expr_same c f) (rw (exprs_same c es) refl)
    expr_same c (p.comma i a b) = rw (expr_same c a) (rw (expr_same c b) refl)
    expr_same c (p.cast i d e) = rw (expr_same c e) refl
    expr_same c (p.tick i n e) = rw (expr_same c e) refl

    pub target_same : (c : ℕ) (t : Target) → target_parts T c t ≡ target_parts U c t
    target_same c (p.to_var i r) = refl
    target_same c (p.to_member i e q) = rw (expr_same c e) refl
    target_same c (p.to_index i e k) = rw (expr_same c e) (rw (expr_same c k) refl)

    pub exprs_same : (c : ℕ) (t : Exprs) → exprs_parts T c t ≡ exprs_parts U c t
    exprs_same c p.no_exprs = refl
    exprs_same c (p.more_exprs e es) = rw (expr_same c e) (rw (exprs_same c es) refl)

    pub fields_same : (c : ℕ) (t : Fields) → fields_parts T c t ≡ fields_parts U c t
    fields_same c p.no_fields = refl
    fields_same c (p.more_fields k e fs) = rw (expr_same c e) (rw (fields_same c fs) refl)

  pub option_same : (c : ℕ) (t : Option Expr) → option_parts T c t ≡ option_parts U c t
  unfolding option_parts
  option_same c None = refl
  option_same c (Some e) = rw (expr_same c e) refl

  pub vars_same : (c : ℕ) (t : List Declarator) → vars_parts T c t ≡ vars_parts U c t
  unfolding vars_parts
  vars_same c [] = refl
  vars_same c (d ∷ ds) = rw (option_same c d.value) (rw (vars_same c ds) refl)

  pub init_same : (c : ℕ) (t : ForInit) → init_parts T c t ≡ init_parts U c t
  unfolding init_parts
  init_same c p.no_init = refl
  init_same c (p.init_value e) = rw (expr_same c e) refl
  init_same c (p.init_vars ds) = rw (vars_same c ds) refl

  pub name_same : (c : ℕ) (t : ForTarget) → name_parts T c t ≡ name_parts U c t
  unfolding name_parts
  name_same c (p.in_target t) = rw (target_same c t) refl
  name_same c (p.in_declared d) = rw (vars_same c (d ∷ [])) refl

  mutual
    unfolding stmt_parts

    pub stmt_same : (c : ℕ) (t : Stmt) → stmt_parts T c t ≡ stmt_parts U c t
    stmt_same c (p.simple i e) = rw (expr_same c e) refl
    stmt_same c (p.vars i ds) = rw (vars_same c ds) refl
    stmt_same c (p.fun_decl i r f) = refl
    stmt_same c (p.if i t a b) = rw (expr_same c t) (rw (stmts_same c a) (rw (stmts_same c b) refl))
    stmt_same c (p.while i t b) = rw (expr_same c t) (rw (stmts_same c b) refl)
    stmt_same c (p.do_while i b t) = rw (stmts_same c b) (rw (expr_same c t) refl)
    stmt_same c (p.for i h t e b) = rw (init_same c h) (rw (option_same c t) (rw (option_same c e) (rw (stmts_same c b) refl)))
    stmt_same c (p.for_in i t e b) = rw (name_same c t) (rw (expr_same c e) (rw (stmts_same c b) refl))
    stmt_same c (p.return i e) = rw (option_same c e) refl
    stmt_same c (p.throw i e) = rw (expr_same c e) refl
    stmt_same c (p.break i l) = refl
    stmt_same c (p.continue i l) = refl
    stmt_same c (p.label i l b) = rw (stmts_same c b) refl
    stmt_same c (p.switch i e cs) = rw (expr_same c e) (rw (cases_same c cs) refl)
    stmt_same c (p.try i b k f) = rw (stmts_same c b) (rw (maybe_same (suc c) k) (rw (maybe_same c f) refl))
    stmt_same c (p.pay_stmt i n) = refl

    pub stmts_same : (c : ℕ) (t : Stmts) → stmts_parts T c t ≡ stmts_parts U c t
    stmts_same c p.no_stmts = refl
    stmts_same c (p.more_stmts s ss) = rw (stmt_same c s) (rw (stmts_same c ss) refl)

    pub maybe_same : (c : ℕ) (t : MaybeStmts) → maybe_parts T c t ≡ maybe_parts U c t
    maybe_same c p.absent = refl
    maybe_same c (p.present ss) = rw (stmts_same c ss) refl

    pub cases_same : (c : ℕ) (t : Cases) → cases_parts T c t ≡ cases_parts U c t
    cases_same c p.no_cases = refl
    cases_same c (p.more_cases t b cs) = rw (option_same c t) (rw (stmts_same c b) (rw (cases_same c cs) refl))
