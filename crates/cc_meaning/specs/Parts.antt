-- What stands in the trees: each part of a scope's own statements, with the number of catch clauses
-- that are open there; and whether jumps and constructs stand where they may.
use Rattle.std.specs.Prelude.{ℕ, suc, Bool, true, false, not, ◌&&◌, ◌||◌, List, [], ◌∷◌, ◌++◌, Option, Some, None, is_some}
use Rattle.cc_ast.specs.Syntax.{Prim, whole, Expr, lit, var, this, fun, list, object, unary, binary, and, or, cond, assign, step, member, index, call, new, comma, cast, tick, Target, to_var, to_member, to_index, Exprs, no_exprs, more_exprs, Fields, no_fields, more_fields, Declarator, ForInit, no_init, init_value, init_vars, ForTarget, in_target, in_declared, Stmt, simple, vars, fun_decl, if, while, do_while, for, for_in, return, throw, break, continue, label, switch, try, pay_stmt, Stmts, no_stmts, more_stmts, MaybeStmts, absent, present, Cases, no_cases, more_cases}
use Rattle.cc_ast.specs.declared.operator.BinOp.{BinOp}
use Rattle.cc_ast.specs.declared.operator.BinOp.TheVariants.{Less, Greater, LessEq, GreaterEq, Equal, NotEqual, Strict, NotStrict, Instance, Has}
use Rattle.cc_ast.specs.declared.operator.UnOp.{UnOp}
use Rattle.cc_ast.specs.declared.operator.UnOp.TheVariants.{Delete}
use Rattle.cc_ast.specs.declared.tree.Ref.{Ref}
use Rattle.cc_ast.specs.declared.tree.Key.{Key}
use Rattle.cc_meaning.specs.Operators.{is_exact}
use Rattle.cc_meaning.specs.State.{Path, Tables}
use Rattle.cc_meaning.specs.Monad.{pick}
use Rattle.cc_meaning.specs.Store.{dotted, name_of, object_global, math_global, string_global, Global, extern, built_in, of_chunk, global_kind}
use Rattle.cc_meaning.specs.Shapes.{is_named, path_of}
use Rattle.cc_meaning.specs.Names.{name_prototype}
use Rattle.cc_meaning.specs.Calls.{member_use}

-- ---- parts

pub data Part : Type 0 where
  has_site : ℕ → Part
  uses_prop : ℕ → Part
  uses_doc : ℕ → Part
  mentions : (catches : ℕ) → Ref → Part
  declares : (catches : ℕ) → Ref → Part
  makes : (catches : ℕ) → (function : ℕ) → (declared : Bool) → Part
  sets_method : Path → (prop function : ℕ) → Part

unfoldable pub method_by : Option Path → (prop function : ℕ) → List Part
method_by None p f = []
method_by (Some w) p f = sets_method w p f ∷ []

-- `F.prototype.m=` a function, at any place
unfoldable pub method_on_prototype : Tables → Expr → (prop function : ℕ) → List Part
unfolding is_named method_by path_of
method_on_prototype T (member i e q) p f = pick (is_named T q name_prototype) (method_by (path_of e) p f) []
method_on_prototype T _ p f = []

unfoldable pub method_to : Tables → Target → ℕ → List Part
unfolding method_on_prototype
method_to T (to_member i e p) f = method_on_prototype T e p f
method_to T _ f = []

unfoldable pub method_in : Tables → Target → Expr → List Part
unfolding method_to
method_in T t (fun i f) = method_to T t f
method_in T t _ = []

unfoldable pub key_parts : Key → List Part
key_parts (Key.Dotted p) = uses_prop p ∷ []
key_parts (Key.Quoted t) = []

unfoldable mutual
  unfolding method_in key_parts

  pub expr_parts : Tables → (catches : ℕ) → Expr → List Part
  expr_parts T c (lit i p) = has_site i ∷ []
  expr_parts T c (var i r) = has_site i ∷ mentions c r ∷ []
  expr_parts T c (this i) = has_site i ∷ []
  expr_parts T c (fun i f) = has_site i ∷ makes c f false ∷ []
  expr_parts T c (list i es) = has_site i ∷ exprs_parts T c es
  expr_parts T c (object i fs) = has_site i ∷ fields_parts T c fs
  expr_parts T c (unary i op e) = has_site i ∷ expr_parts T c e
  expr_parts T c (binary i op a b) = has_site i ∷ (expr_parts T c a ++ expr_parts T c b)
  expr_parts T c (and i a b) = has_site i ∷ (expr_parts T c a ++ expr_parts T c b)
  expr_parts T c (or i a b) = has_site i ∷ (expr_parts T c a ++ expr_parts T c b)
  expr_parts T c (cond i t a b) = has_site i ∷ (expr_parts T c t ++ expr_parts T c a ++ expr_parts T c b)
  expr_parts T c (assign i op t e) = has_site i ∷ (method_in T t e ++ target_parts T c t ++ expr_parts T c e)
  expr_parts T c (step i up before t) = has_site i ∷ target_parts T c t
  expr_parts T c (member i e p) = has_site i ∷ uses_prop p ∷ expr_parts T c e
  expr_parts T c (index i e k) = has_site i ∷ (expr_parts T c e ++ expr_parts T c k)
  expr_parts T c (call i f es) = has_site i ∷ (expr_parts T c f ++ exprs_parts T c es)
  expr_parts T c (new i f es) = has_site i ∷ (expr_parts T c f ++ exprs_parts T c es)
  expr_parts T c (comma i a b) = has_site i ∷ (expr_parts T c a ++ expr_parts T c b)
  expr_parts T c (cast i d e) = has_site i ∷ uses_doc d ∷ expr_parts T c e
  expr_parts T c (tick i p e) = has_site i ∷ expr_parts T c e

  pub target_parts : Tables → (catches : ℕ) → Target → List Part
  target_parts T c (to_var i r) = has_site i ∷ mentions c r ∷ []
  target_parts T c (to_member i e p) = has_site i ∷ uses_prop p ∷ expr_parts T c e
  target_parts T c (to_index i e k) = has_site i ∷ (expr_parts T c e ++ expr_parts T c k)

  pub exprs_parts : Tables → (catches : ℕ) → Exprs → List Part
  exprs_parts T c no_exprs = []
  exprs_parts T c (more_exprs e es) = expr_parts T c e ++ exprs_parts T c es

  pub fields_parts : Tables → (catches : ℕ) → Fields → List Part
  fields_parts T c no_fields = []
  fields_parts T c (more_fields k e fs) = key_parts k ++ expr_parts T c e ++ fields_parts T c fs

unfoldable pub option_parts : Tables → (catches : ℕ) → Option Expr → List Part
unfolding expr_parts
option_parts T c None = []
option_parts T c (Some e) = expr_parts T c e

unfoldable pub vars_parts : Tables → (catches : ℕ) → List Declarator → List Part
unfolding option_parts
vars_parts T c [] = []
vars_parts T c (d ∷ ds) = has_site d.site ∷ declares c d.variable ∷ (option_parts T c d.value ++ vars_parts T c ds)

unfoldable pub init_parts : Tables → (catches : ℕ) → ForInit → List Part
unfolding expr_parts vars_parts
init_parts T c no_init = []
init_parts T c (init_value e) = expr_parts T c e
init_parts T c (init_vars ds) = vars_parts T c ds

unfoldable pub name_parts : Tables → (catches : ℕ) → ForTarget → List Part
unfolding target_parts vars_parts
name_parts T c (in_target t) = target_parts T c t
name_parts T c (in_declared d) = vars_parts T c (d ∷ [])

unfoldable mutual
  unfolding expr_parts option_parts vars_parts init_parts name_parts

  pub stmt_parts : Tables → (catches : ℕ) → Stmt → List Part
  stmt_parts T c (simple i e) = has_site i ∷ expr_parts T c e
  stmt_parts T c (vars i ds) = has_site i ∷ vars_parts T c ds
  stmt_parts T c (fun_decl i r f) = has_site i ∷ declares c r ∷ makes c f true ∷ []
  stmt_parts T c (if i t a b) = has_site i ∷ (expr_parts T c t ++ stmts_parts T c a ++ stmts_parts T c b)
  stmt_parts T c (while i t b) = has_site i ∷ (expr_parts T c t ++ stmts_parts T c b)
  stmt_parts T c (do_while i b t) = has_site i ∷ (stmts_parts T c b ++ expr_parts T c t)
  stmt_parts T c (for i h t e b) = has_site i ∷ (init_parts T c h ++ option_parts T c t ++ option_parts T c e ++ stmts_parts T c b)
  stmt_parts T c (for_in i t e b) = has_site i ∷ (name_parts T c t ++ expr_parts T c e ++ stmts_parts T c b)
  stmt_parts T c (return i e) = has_site i ∷ option_parts T c e
  stmt_parts T c (throw i e) = has_site i ∷ expr_parts T c e
  stmt_parts T c (break i l) = has_site i ∷ []
  stmt_parts T c (continue i l) = has_site i ∷ []
  stmt_parts T c (label i l b) = has_site i ∷ stmts_parts T c b
  stmt_parts T c (switch i e cs) = has_site i ∷ (expr_parts T c e ++ cases_parts T c cs)
  stmt_parts T c (try i b k f) = has_site i ∷ (stmts_parts T c b ++ maybe_parts T (suc c) k ++ maybe_parts T c f)
  stmt_parts T c (pay_stmt i p) = has_site i ∷ []

  pub stmts_parts : Tables → (catches : ℕ) → Stmts → List Part
  stmts_parts T c no_stmts = []
  stmts_parts T c (more_stmts s ss) = stmt_parts T c s ++ stmts_parts T c ss

  pub maybe_parts : Tables → (catches : ℕ) → MaybeStmts → List Part
  maybe_parts T c absent = []
  maybe_parts T c (present ss) = stmts_parts T c ss

  pub cases_parts : Tables → (catches : ℕ) → Cases → List Part
  cases_parts T c no_cases = []
  cases_parts T c (more_cases t b cs) = option_parts T c t ++ stmts_parts T c b ++ cases_parts T c cs

-- ---- expressions of the language

-- an operator that `=` takes
unfoldable pub assigns : Option BinOp → Bool
assigns None = true
assigns (Some Less) = false
assigns (Some Greater) = false
assigns (Some LessEq) = false
assigns (Some GreaterEq) = false
assigns (Some Equal) = false
assigns (Some NotEqual) = false
assigns (Some Strict) = false
assigns (Some NotStrict) = false
assigns (Some Instance) = false
assigns (Some Has) = false
assigns (Some _) = true

-- a global of the chunks, or a place of a frame: what may be written to
unfoldable pub is_own_global : Global → Bool
is_own_global (of_chunk c) = true
is_own_global extern = false
is_own_global (built_in b) = false

unfoldable pub may_write : Tables → Ref → Bool
unfolding is_own_global global_kind
may_write T (Ref.Frame up n) = true
may_write T (Ref.Global n) = is_own_global (global_kind T n)

-- a built-in global stands only in its uses
unfoldable pub is_no_built : Global → Bool
is_no_built (of_chunk c) = true
is_no_built extern = true
is_no_built (built_in b) = false

unfoldable pub may_read : Tables → Ref → Bool
unfolding is_no_built global_kind
may_read T (Ref.Frame up n) = true
may_read T (Ref.Global n) = is_no_built (global_kind T n)

unfoldable pub is_string : Global → Bool
is_string (built_in string_global) = true
is_string (built_in object_global) = false
is_string (built_in math_global) = false
is_string (of_chunk c) = false
is_string extern = false

unfoldable pub has_use : Global → List ℕ → Bool
unfolding member_use
has_use (built_in b) n = is_some (member_use b n)
has_use (of_chunk c) n = false
has_use extern n = false

unfoldable pub global_at : Tables → Option Path → Option Global
unfolding global_kind
global_at T (Some (n, [])) = Some (global_kind T n)
global_at T _ = None

unfoldable pub is_use : Option Global → List ℕ → Bool
unfolding has_use
is_use None n = false
is_use (Some g) n = has_use g n

unfoldable pub built_callee : Tables → Expr → Bool
unfolding is_string global_kind is_use global_at path_of name_of
built_callee T (var i (Ref.Global n)) = is_string (global_kind T n)
built_callee T (member i e p) = is_use (global_at T (path_of e)) (name_of T (dotted p))
built_callee T _ = false

unfoldable pub exact_prim : Prim → Bool
exact_prim (whole z) = is_exact z
exact_prim _ = true

-- a variable, also under casts and price marks, which `delete` doesn't take
unfoldable pub is_variable : Expr → Bool
is_variable (var i r) = true
is_variable (cast i d e) = is_variable e
is_variable (tick i p e) = is_variable e
is_variable _ = false

unfoldable pub takes_operand : UnOp → Expr → Bool
unfolding is_variable
takes_operand Delete e = not (is_variable e)
takes_operand op e = true

unfoldable mutual
  unfolding assigns may_write may_read built_callee exact_prim takes_operand

  pub expr_well : Tables → Expr → Bool
  expr_well T (lit i p) = exact_prim p
  expr_well T (var i r) = may_read T r
  expr_well T (this i) = true
  expr_well T (fun i f) = true
  expr_well T (list i es) = exprs_well T es
  expr_well T (object i fs) = fields_well T fs
  expr_well T (unary i op e) = takes_operand op e && expr_well T e
  expr_well T (binary i op a b) = expr_well T a && expr_well T b
  expr_well T (and i a b) = expr_well T a && expr_well T b
  expr_well T (or i a b) = expr_well T a && expr_well T b
  expr_well T (cond i t a b) = expr_well T t && expr_well T a && expr_well T b
  expr_well T (assign i op t e) = assigns op && target_well T t && expr_well T e
  expr_well T (step i up before t) = target_well T t
  expr_well T (member i e p) = expr_well T e
  expr_well T (index i e k) = expr_well T e && expr_well T k
  expr_well T (call i f es) = (built_callee T f || expr_well T f) && exprs_well T es
  expr_well T (new i f es) = expr_well T f && exprs_well T es
  expr_well T (comma i a b) = expr_well T a && expr_well T b
  expr_well T (cast i d e) = expr_well T e
  expr_well T (tick i p e) = expr_well T e

  pub target_well : Tables → Target → Bool
  target_well T (to_var i r) = may_write T r
  target_well T (to_member i e p) = expr_well T e
  target_well T (to_index i e k) = expr_well T e && expr_well T k

  pub exprs_well : Tables → Exprs → Bool
  exprs_well T no_exprs = true
  exprs_well T (more_exprs e es) = expr_well T e && exprs_well T es

  pub fields_well : Tables → Fields → Bool
  fields_well T no_fields = true
  fields_well T (more_fields k e fs) = expr_well T e && fields_well T fs
