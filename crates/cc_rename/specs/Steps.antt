-- What the statements of one scope have that takes part in naming, in their order: the steps by which a program's names are counted.
use Rattle.std.specs.Prelude.{ℕ, suc, List, [], ◌∷◌, ◌++◌, Option, Some, None}
use Rattle.cc_ast.specs.Syntax as S
use Rattle.cc_rename.specs.declared.met.Met.{Met}
use Rattle.cc_rename.specs.declared.met.Met.TheVariants.{Variable, Function, Clause}

unfoldable mutual
  -- an expression, behind so many `catch` clauses
  pub met_expr : ℕ → S.Expr → List Met
  met_expr c (S.lit i x) = []
  met_expr c (S.var i r) = Variable c r ∷ []
  met_expr c (S.this i) = []
  met_expr c (S.fun i f) = Function c f ∷ []
  met_expr c (S.list i es) = met_exprs c es
  met_expr c (S.object i fs) = met_fields c fs
  met_expr c (S.unary i o e) = met_expr c e
  met_expr c (S.binary i o a b) = met_expr c a ++ met_expr c b
  met_expr c (S.and i a b) = met_expr c a ++ met_expr c b
  met_expr c (S.or i a b) = met_expr c a ++ met_expr c b
  met_expr c (S.cond i t a b) = met_expr c t ++ met_expr c a ++ met_expr c b
  met_expr c (S.assign i o t e) = met_target c t ++ met_expr c e
  met_expr c (S.step i up before t) = met_target c t
  met_expr c (S.member i e p) = met_expr c e
  met_expr c (S.index i a b) = met_expr c a ++ met_expr c b
  met_expr c (S.call i f es) = met_expr c f ++ met_exprs c es
  met_expr c (S.new i f es) = met_expr c f ++ met_exprs c es
  met_expr c (S.comma i a b) = met_expr c a ++ met_expr c b
  met_expr c (S.cast i d e) = met_expr c e
  met_expr c (S.tick i p e) = met_expr c e

  -- what is written to
  pub met_target : ℕ → S.Target → List Met
  met_target c (S.to_var i r) = Variable c r ∷ []
  met_target c (S.to_member i e p) = met_expr c e
  met_target c (S.to_index i a b) = met_expr c a ++ met_expr c b

  -- arguments or elements
  pub met_exprs : ℕ → S.Exprs → List Met
  met_exprs c S.no_exprs = []
  met_exprs c (S.more_exprs e es) = met_expr c e ++ met_exprs c es

  -- properties
  pub met_fields : ℕ → S.Fields → List Met
  met_fields c S.no_fields = []
  met_fields c (S.more_fields k e fs) = met_expr c e ++ met_fields c fs

-- an expression that may be absent
unfoldable pub met_option : ℕ → Option S.Expr → List Met
unfolding met_expr
met_option c None = []
met_option c (Some e) = met_expr c e

-- a variable that is declared, with its value
unfoldable pub met_declarator : ℕ → S.Declarator → List Met
unfolding met_option
met_declarator c d = Variable c d.variable ∷ met_option c d.value

-- variable declarations
unfoldable pub met_vars : ℕ → List S.Declarator → List Met
unfolding met_declarator
met_vars c [] = []
met_vars c (d ∷ ds) = met_declarator c d ++ met_vars c ds

-- what a `for` begins with
unfoldable pub met_init : ℕ → S.ForInit → List Met
unfolding met_expr met_vars
met_init c S.no_init = []
met_init c (S.init_value e) = met_expr c e
met_init c (S.init_vars ds) = met_vars c ds

-- what a `for` with `in` writes each name to
unfoldable pub met_heading : ℕ → S.ForTarget → List Met
unfolding met_target met_declarator
met_heading c (S.in_target t) = met_target c t
met_heading c (S.in_declared d) = met_declarator c d

unfoldable mutual
  unfolding met_expr met_option met_vars met_init met_heading

  -- a statement
  pub met_stmt : ℕ → S.Stmt → List Met
  met_stmt c (S.simple i e) = met_expr c e
  met_stmt c (S.vars i ds) = met_vars c ds
  met_stmt c (S.fun_decl i r f) = Variable c r ∷ Function c f ∷ []
  met_stmt c (S.if i t a b) = met_expr c t ++ met_stmts c a ++ met_stmts c b
  met_stmt c (S.while i t b) = met_expr c t ++ met_stmts c b
  met_stmt c (S.do_while i b t) = met_stmts c b ++ met_expr c t
  met_stmt c (S.for i h t e b) = met_init c h ++ met_option c t ++ met_option c e ++ met_stmts c b
  met_stmt c (S.for_in i t e b) = met_heading c t ++ met_expr c e ++ met_stmts c b
  met_stmt c (S.return i e) = met_option c e
  met_stmt c (S.throw i e) = met_expr c e
  met_stmt c (S.break i l) = []
  met_stmt c (S.continue i l) = []
  met_stmt c (S.label i l b) = met_stmts c b
  met_stmt c (S.switch i e cs) = met_expr c e ++ met_cases c cs
  met_stmt c (S.try i b k f) = met_stmts c b ++ met_catch c k ++ met_finally c f
  met_stmt c (S.pay_stmt i p) = []

  -- a list of statements
  pub met_stmts : ℕ → S.Stmts → List Met
  met_stmts c S.no_stmts = []
  met_stmts c (S.more_stmts s ss) = met_stmt c s ++ met_stmts c ss

  -- a `catch` clause
  pub met_catch : ℕ → S.MaybeStmts → List Met
  met_catch c S.absent = []
  met_catch c (S.present ss) = Clause c ∷ met_stmts (suc c) ss

  -- a `finally` clause
  pub met_finally : ℕ → S.MaybeStmts → List Met
  met_finally c S.absent = []
  met_finally c (S.present ss) = met_stmts c ss

  -- the clauses of a `switch`
  pub met_cases : ℕ → S.Cases → List Met
  met_cases c S.no_cases = []
  met_cases c (S.more_cases t b cs) = met_option c t ++ met_stmts c b ++ met_cases c cs

-- the clauses of a `try`
unfoldable pub catch_of : S.Stmt → S.MaybeStmts
catch_of (S.try i b k f) = k
catch_of _ = S.absent

unfoldable pub finally_of : S.Stmt → S.MaybeStmts
finally_of (S.try i b k f) = f
finally_of _ = S.absent
