-- The functions of the trees, in reading order, which is that of their numbers; where annotation comments
-- stand that are on them; and the last names of their declarations. The comment on a declarator, a property
-- or an assignment statement is also on the function which is its value, and no other comment is on a
-- function that is an expression.
use Rattle.std.specs.Prelude.{List, [], ◌∷◌, ◌++◌, Option, Some, None, unwrap_or}
use Rattle.cc_ast.specs.declared.place.Place.{Place}
use Rattle.cc_grammar.specs.RawTree.{Named, RawKey, RawExpr, RawTarget, RawExprs, MaybeExpr, RawFields, RawDeclarators, RawInit, RawForTarget, RawStmt, RawStmts, RawCatch, RawFinally, RawCases}
use Rattle.cc_grammar.specs.RawTree as raw

-- a function: at which places a comment is on it, the last name of its declaration, or else where it
-- stands itself, its parameters and its body
pub record Function : Type 0 where
  pub at : List Place
  pub name : Place
  pub params : List Named
  pub body : RawStmts

-- what has an expression as its value: where comments are on it, and its last name
pub record Bearer : Type 0 where
  pub at : List Place
  pub name : Option Place

abbrev pub nobody : Bearer
nobody = record { at = []; name = None }

unfoldable pub borne : List Place → Place → Bearer
borne qs q = record { at = qs; name = Some q }

unfoldable pub function_of : Bearer → Place → List Named → RawStmts → Function
function_of h q ps b = record { at = h.at; name = unwrap_or h.name q; params = ps; body = b }

-- the last name of what is written to; what stands in brackets has none
unfoldable pub last_name : Place → RawTarget → Place
last_name q (raw.to_var r m) = r
last_name q (raw.to_member p e r m) = r
last_name q (raw.to_index p e k) = q

unfoldable mutual
  unfolding function_of borne last_name

  -- what bears an expression is handed to a function that stands there itself
  pub expr_functions : Bearer → RawExpr → List Function
  expr_functions h (raw.lit q x) = []
  expr_functions h (raw.var q m) = []
  expr_functions h (raw.this q) = []
  expr_functions h (raw.fun q own ps b) = function_of h q ps b ∷ stmts_functions b
  expr_functions h (raw.list q es) = exprs_functions es
  expr_functions h (raw.object q fs) = fields_functions fs
  expr_functions h (raw.unary q op e) = expr_functions nobody e
  expr_functions h (raw.binary q op a b) = expr_functions nobody a ++ expr_functions nobody b
  expr_functions h (raw.and q a b) = expr_functions nobody a ++ expr_functions nobody b
  expr_functions h (raw.or q a b) = expr_functions nobody a ++ expr_functions nobody b
  expr_functions h (raw.cond q t a b) = expr_functions nobody t ++ (expr_functions nobody a ++ expr_functions nobody b)
  expr_functions h (raw.assign q op t e) = target_functions t ++ expr_functions nobody e
  expr_functions h (raw.step q up before t) = target_functions t
  expr_functions h (raw.member q e r m) = expr_functions nobody e
  expr_functions h (raw.index q e k) = expr_functions nobody e ++ expr_functions nobody k
  expr_functions h (raw.call q f es) = expr_functions nobody f ++ exprs_functions es
  expr_functions h (raw.new q f es) = expr_functions nobody f ++ exprs_functions es
  expr_functions h (raw.comma q a b) = expr_functions nobody a ++ expr_functions nobody b
  expr_functions h (raw.cast q e) = expr_functions nobody e

  pub target_functions : RawTarget → List Function
  target_functions (raw.to_var q m) = []
  target_functions (raw.to_member q e r m) = expr_functions nobody e
  target_functions (raw.to_index q e k) = expr_functions nobody e ++ expr_functions nobody k

  pub exprs_functions : RawExprs → List Function
  exprs_functions raw.no_exprs = []
  exprs_functions (raw.more_exprs e es) = expr_functions nobody e ++ exprs_functions es

  pub maybe_functions : Bearer → MaybeExpr → List Function
  maybe_functions h raw.no_expr = []
  maybe_functions h (raw.one_expr e) = expr_functions h e

  -- a property
  pub fields_functions : RawFields → List Function
  fields_functions raw.no_fields = []
  fields_functions (raw.more_fields q k e fs) = expr_functions (borne (q ∷ []) q) e ++ fields_functions fs

  -- a declarator
  pub vars_functions : RawDeclarators → List Function
  vars_functions raw.no_declarators = []
  vars_functions (raw.more_declarators v e ds) = maybe_functions (borne (v.place ∷ []) v.place) e ++ vars_functions ds

  -- a comment before a `var` statement is on its first declarator too
  pub first_functions : Place → RawDeclarators → List Function
  first_functions q raw.no_declarators = []
  first_functions q (raw.more_declarators v e ds) = maybe_functions (borne (q ∷ v.place ∷ []) v.place) e ++ vars_functions ds

  pub init_functions : RawInit → List Function
  init_functions raw.no_init = []
  init_functions (raw.init_value e) = expr_functions nobody e
  init_functions (raw.init_vars ds) = vars_functions ds

  pub heading_functions : RawForTarget → List Function
  heading_functions (raw.in_target t) = target_functions t
  heading_functions (raw.in_declared v e) = maybe_functions (borne (v.place ∷ []) v.place) e

  pub stmt_functions : RawStmt → List Function
  stmt_functions (raw.simple q (raw.assign p None t e)) = target_functions t ++ expr_functions (borne (q ∷ []) (last_name q t)) e
  stmt_functions (raw.simple q e) = expr_functions nobody e
  stmt_functions (raw.vars q ds) = first_functions q ds
  stmt_functions (raw.fun_decl q v ps b) = function_of (borne (q ∷ []) v.place) q ps b ∷ stmts_functions b
  stmt_functions (raw.if q t a b) = expr_functions nobody t ++ (stmts_functions a ++ stmts_functions b)
  stmt_functions (raw.while q t b) = expr_functions nobody t ++ stmts_functions b
  stmt_functions (raw.do_while q b t) = stmts_functions b ++ expr_functions nobody t
  stmt_functions (raw.for q h t e b) = init_functions h ++ (maybe_functions nobody t ++ (maybe_functions nobody e ++ stmts_functions b))
  stmt_functions (raw.for_in q t e b) = heading_functions t ++ (expr_functions nobody e ++ stmts_functions b)
  stmt_functions (raw.return q e) = maybe_functions nobody e
  stmt_functions (raw.throw q e) = expr_functions nobody e
  stmt_functions (raw.break q l) = []
  stmt_functions (raw.continue q l) = []
  stmt_functions (raw.label q l b) = stmts_functions b
  stmt_functions (raw.switch q e cs) = expr_functions nobody e ++ cases_functions cs
  stmt_functions (raw.try q b k f) = stmts_functions b ++ (catch_functions k ++ finally_functions f)

  pub stmts_functions : RawStmts → List Function
  stmts_functions raw.no_stmts = []
  stmts_functions (raw.more_stmts s ss) = stmt_functions s ++ stmts_functions ss

  pub catch_functions : RawCatch → List Function
  catch_functions raw.no_catch = []
  catch_functions (raw.caught v b) = stmts_functions b

  pub finally_functions : RawFinally → List Function
  finally_functions raw.no_finally = []
  finally_functions (raw.finally b) = stmts_functions b

  pub cases_functions : RawCases → List Function
  cases_functions raw.no_cases = []
  cases_functions (raw.more_cases t b cs) = maybe_functions nobody t ++ (stmts_functions b ++ cases_functions cs)

-- the functions of all trees
unfoldable pub all_functions : List RawStmts → List Function
unfolding stmts_functions
all_functions [] = []
all_functions (t ∷ ts) = stmts_functions t ++ all_functions ts
