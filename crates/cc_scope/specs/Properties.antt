-- The property names of the trees in reading order: those behind dots, and the keys of object literals
-- (ECMA-262 5.1, 11.1.5 and 11.2.1); and where annotation comments stand that are on them.
use Rattle.std.specs.Prelude.{List, [], ◌∷◌, ◌++◌, None}
use Rattle.cc_ast.specs.declared.place.Place.{Place}
use Rattle.cc_meaning.specs.Operators.{decimal}
use Rattle.cc_grammar.specs.RawTree.{Named, RawKey, RawExpr, RawTarget, RawExprs, MaybeExpr, RawFields, RawDeclarators, RawInit, RawForTarget, RawStmt, RawStmts, RawCatch, RawFinally, RawCases}
use Rattle.cc_grammar.specs.RawTree as raw
use Rattle.cc_scope.specs.Lists.{Name}

-- A property's name where it stands. A comment is on a key, and on the property that a statement
-- `h.name=e;` or `h.name;` names.
pub record Property : Type 0 where
  pub name : Name
  pub at : List Place

unfoldable pub behind_dot : Name → Property
behind_dot n = record { name = n; at = [] }

unfoldable pub stated : Place → Name → Property
stated q n = record { name = n; at = q ∷ [] }

-- the name that a key is; of a number it is its decimal
unfoldable pub key_name : RawKey → Name
unfolding decimal
key_name (raw.dotted n) = n
key_name (raw.quoted t) = t
key_name (raw.numbered z) = decimal z

unfoldable mutual
  unfolding behind_dot stated key_name

  pub expr_properties : RawExpr → List Property
  expr_properties (raw.lit q x) = []
  expr_properties (raw.var q m) = []
  expr_properties (raw.this q) = []
  expr_properties (raw.fun q own ps b) = stmts_properties b
  expr_properties (raw.list q es) = exprs_properties es
  expr_properties (raw.object q fs) = fields_properties fs
  expr_properties (raw.unary q op e) = expr_properties e
  expr_properties (raw.binary q op a b) = expr_properties a ++ expr_properties b
  expr_properties (raw.and q a b) = expr_properties a ++ expr_properties b
  expr_properties (raw.or q a b) = expr_properties a ++ expr_properties b
  expr_properties (raw.cond q t a b) = expr_properties t ++ (expr_properties a ++ expr_properties b)
  expr_properties (raw.assign q op t e) = target_properties t ++ expr_properties e
  expr_properties (raw.step q up before t) = target_properties t
  expr_properties (raw.member q e r m) = expr_properties e ++ behind_dot m ∷ []
  expr_properties (raw.index q e k) = expr_properties e ++ expr_properties k
  expr_properties (raw.call q f es) = expr_properties f ++ exprs_properties es
  expr_properties (raw.new q f es) = expr_properties f ++ exprs_properties es
  expr_properties (raw.comma q a b) = expr_properties a ++ expr_properties b
  expr_properties (raw.cast q e) = expr_properties e

  pub target_properties : RawTarget → List Property
  target_properties (raw.to_var q m) = []
  target_properties (raw.to_member q e r m) = expr_properties e ++ behind_dot m ∷ []
  target_properties (raw.to_index q e k) = expr_properties e ++ expr_properties k

  pub exprs_properties : RawExprs → List Property
  exprs_properties raw.no_exprs = []
  exprs_properties (raw.more_exprs e es) = expr_properties e ++ exprs_properties es

  pub maybe_properties : MaybeExpr → List Property
  maybe_properties raw.no_expr = []
  maybe_properties (raw.one_expr e) = expr_properties e

  pub fields_properties : RawFields → List Property
  fields_properties raw.no_fields = []
  fields_properties (raw.more_fields q k e fs) = record { name = key_name k; at = q ∷ [] } ∷ (expr_properties e ++ fields_properties fs)

  pub vars_properties : RawDeclarators → List Property
  vars_properties raw.no_declarators = []
  vars_properties (raw.more_declarators v e ds) = maybe_properties e ++ vars_properties ds

  pub init_properties : RawInit → List Property
  init_properties raw.no_init = []
  init_properties (raw.init_value e) = expr_properties e
  init_properties (raw.init_vars ds) = vars_properties ds

  pub heading_properties : RawForTarget → List Property
  heading_properties (raw.in_target t) = target_properties t
  heading_properties (raw.in_declared v e) = maybe_properties e

  -- `h.name=e;` and `h.name;`
  pub stmt_properties : RawStmt → List Property
  stmt_properties (raw.simple q (raw.assign p None (raw.to_member o e r m) v)) = expr_properties e ++ (stated q m ∷ expr_properties v)
  stmt_properties (raw.simple q (raw.member o e r m)) = expr_properties e ++ stated q m ∷ []
  stmt_properties (raw.simple q e) = expr_properties e
  stmt_properties (raw.vars q ds) = vars_properties ds
  stmt_properties (raw.fun_decl q v ps b) = stmts_properties b
  stmt_properties (raw.if q t a b) = expr_properties t ++ (stmts_properties a ++ stmts_properties b)
  stmt_properties (raw.while q t b) = expr_properties t ++ stmts_properties b
  stmt_properties (raw.do_while q b t) = stmts_properties b ++ expr_properties t
  stmt_properties (raw.for q h t e b) = init_properties h ++ (maybe_properties t ++ (maybe_properties e ++ stmts_properties b))
  stmt_properties (raw.for_in q t e b) = heading_properties t ++ (expr_properties e ++ stmts_properties b)
  stmt_properties (raw.return q e) = maybe_properties e
  stmt_properties (raw.throw q e) = expr_properties e
  stmt_properties (raw.break q l) = []
  stmt_properties (raw.continue q l) = []
  stmt_properties (raw.label q l b) = stmts_properties b
  stmt_properties (raw.switch q e cs) = expr_properties e ++ cases_properties cs
  stmt_properties (raw.try q b k f) = stmts_properties b ++ (catch_properties k ++ finally_properties f)

  pub stmts_properties : RawStmts → List Property
  stmts_properties raw.no_stmts = []
  stmts_properties (raw.more_stmts s ss) = stmt_properties s ++ stmts_properties ss

  pub catch_properties : RawCatch → List Property
  catch_properties raw.no_catch = []
  catch_properties (raw.caught v b) = stmts_properties b

  pub finally_properties : RawFinally → List Property
  finally_properties raw.no_finally = []
  finally_properties (raw.finally b) = stmts_properties b

  pub cases_properties : RawCases → List Property
  cases_properties raw.no_cases = []
  cases_properties (raw.more_cases t b cs) = maybe_properties t ++ (stmts_properties b ++ cases_properties cs)

-- those of all trees
unfoldable pub all_properties : List RawStmts → List Property
unfolding stmts_properties
all_properties [] = []
all_properties (t ∷ ts) = stmts_properties t ++ all_properties ts
