-- Parentheses behind a comment: the comment is on what stands in them alone, which is a cast where the
-- comment has a type, and else what it is without them.
use Rattle.std.specs.Prelude.{Bool, List, [], ◌∷◌, ◌++◌, map, is_some}
use Rattle.std.specs.Option.{option_and_then}
use Rattle.std.specs.List.{list_any}
use Rattle.cc_ast.specs.declared.place.Place.{Place}
use Rattle.cc_meaning.specs.Monad.{pick}
use Rattle.cc_grammar.specs.RawTree.{RawExpr, RawTarget, RawExprs, MaybeExpr, RawFields, RawDeclarators, RawInit, RawForTarget, RawStmt, RawStmts, RawCatch, RawFinally, RawCases}
use Rattle.cc_grammar.specs.RawTree as raw
use Rattle.cc_scope.specs.Annotations.{Comment, is_at, said_at, value_said}

-- the comment on these parentheses has a type
unfoldable pub has_type : List Comment → Place → Bool
unfolding value_said said_at
has_type cs q = is_some (option_and_then value_said (said_at (q ∷ []) cs))

-- ---- where such parentheses stand

unfoldable mutual
  pub expr_parens : RawExpr → List Place
  expr_parens (raw.lit q x) = []
  expr_parens (raw.var q m) = []
  expr_parens (raw.this q) = []
  expr_parens (raw.fun q own ps b) = stmts_parens b
  expr_parens (raw.list q es) = exprs_parens es
  expr_parens (raw.object q fs) = fields_parens fs
  expr_parens (raw.unary q op e) = expr_parens e
  expr_parens (raw.binary q op a b) = expr_parens a ++ expr_parens b
  expr_parens (raw.and q a b) = expr_parens a ++ expr_parens b
  expr_parens (raw.or q a b) = expr_parens a ++ expr_parens b
  expr_parens (raw.cond q t a b) = expr_parens t ++ (expr_parens a ++ expr_parens b)
  expr_parens (raw.assign q op t e) = target_parens t ++ expr_parens e
  expr_parens (raw.step q up before t) = target_parens t
  expr_parens (raw.member q e r m) = expr_parens e
  expr_parens (raw.index q e k) = expr_parens e ++ expr_parens k
  expr_parens (raw.call q f es) = expr_parens f ++ exprs_parens es
  expr_parens (raw.new q f es) = expr_parens f ++ exprs_parens es
  expr_parens (raw.comma q a b) = expr_parens a ++ expr_parens b
  expr_parens (raw.cast q e) = q ∷ expr_parens e

  pub target_parens : RawTarget → List Place
  target_parens (raw.to_var q m) = []
  target_parens (raw.to_member q e r m) = expr_parens e
  target_parens (raw.to_index q e k) = expr_parens e ++ expr_parens k

  pub exprs_parens : RawExprs → List Place
  exprs_parens raw.no_exprs = []
  exprs_parens (raw.more_exprs e es) = expr_parens e ++ exprs_parens es

  pub maybe_parens : MaybeExpr → List Place
  maybe_parens raw.no_expr = []
  maybe_parens (raw.one_expr e) = expr_parens e

  pub fields_parens : RawFields → List Place
  fields_parens raw.no_fields = []
  fields_parens (raw.more_fields q k e fs) = expr_parens e ++ fields_parens fs

  pub vars_parens : RawDeclarators → List Place
  vars_parens raw.no_declarators = []
  vars_parens (raw.more_declarators v e ds) = maybe_parens e ++ vars_parens ds

  pub init_parens : RawInit → List Place
  init_parens raw.no_init = []
  init_parens (raw.init_value e) = expr_parens e
  init_parens (raw.init_vars ds) = vars_parens ds

  pub heading_parens : RawForTarget → List Place
  heading_parens (raw.in_target t) = target_parens t
  heading_parens (raw.in_declared v e) = maybe_parens e

  pub stmt_parens : RawStmt → List Place
  stmt_parens (raw.simple q e) = expr_parens e
  stmt_parens (raw.vars q ds) = vars_parens ds
  stmt_parens (raw.fun_decl q v ps b) = stmts_parens b
  stmt_parens (raw.if q t a b) = expr_parens t ++ (stmts_parens a ++ stmts_parens b)
  stmt_parens (raw.while q t b) = expr_parens t ++ stmts_parens b
  stmt_parens (raw.do_while q b t) = stmts_parens b ++ expr_parens t
  stmt_parens (raw.for q h t e b) = init_parens h ++ (maybe_parens t ++ (maybe_parens e ++ stmts_parens b))
  stmt_parens (raw.for_in q t e b) = heading_parens t ++ (expr_parens e ++ stmts_parens b)
  stmt_parens (raw.return q e) = maybe_parens e
  stmt_parens (raw.throw q e) = expr_parens e
  stmt_parens (raw.break q l) = []
  stmt_parens (raw.continue q l) = []
  stmt_parens (raw.label q l b) = stmts_parens b
  stmt_parens (raw.switch q e cs) = expr_parens e ++ cases_parens cs
  stmt_parens (raw.try q b k f) = stmts_parens b ++ (catch_parens k ++ finally_parens f)

  pub stmts_parens : RawStmts → List Place
  stmts_parens raw.no_stmts = []
  stmts_parens (raw.more_stmts s ss) = stmt_parens s ++ stmts_parens ss

  pub catch_parens : RawCatch → List Place
  catch_parens raw.no_catch = []
  catch_parens (raw.caught v b) = stmts_parens b

  pub finally_parens : RawFinally → List Place
  finally_parens raw.no_finally = []
  finally_parens (raw.finally b) = stmts_parens b

  pub cases_parens : RawCases → List Place
  cases_parens raw.no_cases = []
  cases_parens (raw.more_cases t b cs) = maybe_parens t ++ (stmts_parens b ++ cases_parens cs)

unfoldable pub all_parens : List RawStmts → List Place
unfolding stmts_parens
all_parens [] = []
all_parens (t ∷ ts) = stmts_parens t ++ all_parens ts

-- A comment on parentheses is on no statement that begins with them: its own place is that of no token.
unfoldable pub aside : List Place → Comment → Comment
unfolding is_at
aside qs c = pick (list_any (λ q. is_at q c.next) qs) (record c { next = c.place }) c

-- the comments, where all but casts look for them
unfoldable pub beside : List Place → List Comment → List Comment
unfolding aside
beside qs cs = map (aside qs) cs

-- ---- the trees with those of them that are casts

unfoldable mutual
  pub expr_cast : (Place → Bool) → RawExpr → RawExpr
  expr_cast casts (raw.lit q x) = raw.lit q x
  expr_cast casts (raw.var q m) = raw.var q m
  expr_cast casts (raw.this q) = raw.this q
  expr_cast casts (raw.fun q own ps b) = raw.fun q own ps (stmts_cast casts b)
  expr_cast casts (raw.list q es) = raw.list q (exprs_cast casts es)
  expr_cast casts (raw.object q fs) = raw.object q (fields_cast casts fs)
  expr_cast casts (raw.unary q op e) = raw.unary q op (expr_cast casts e)
  expr_cast casts (raw.binary q op a b) = raw.binary q op (expr_cast casts a) (expr_cast casts b)
  expr_cast casts (raw.and q a b) = raw.and q (expr_cast casts a) (expr_cast casts b)
  expr_cast casts (raw.or q a b) = raw.or q (expr_cast casts a) (expr_cast casts b)
  expr_cast casts (raw.cond q t a b) = raw.cond q (expr_cast casts t) (expr_cast casts a) (expr_cast casts b)
  expr_cast casts (raw.assign q op t e) = raw.assign q op (target_cast casts t) (expr_cast casts e)
  expr_cast casts (raw.step q up before t) = raw.step q up before (target_cast casts t)
  expr_cast casts (raw.member q e r m) = raw.member q (expr_cast casts e) r m
  expr_cast casts (raw.index q e k) = raw.index q (expr_cast casts e) (expr_cast casts k)
  expr_cast casts (raw.call q f es) = raw.call q (expr_cast casts f) (exprs_cast casts es)
  expr_cast casts (raw.new q f es) = raw.new q (expr_cast casts f) (exprs_cast casts es)
  expr_cast casts (raw.comma q a b) = raw.comma q (expr_cast casts a) (expr_cast casts b)
  expr_cast casts (raw.cast q e) = pick (casts q) (raw.cast q (expr_cast casts e)) (expr_cast casts e)

  pub target_cast : (Place → Bool) → RawTarget → RawTarget
  target_cast casts (raw.to_var q m) = raw.to_var q m
  target_cast casts (raw.to_member q e r m) = raw.to_member q (expr_cast casts e) r m
  target_cast casts (raw.to_index q e k) = raw.to_index q (expr_cast casts e) (expr_cast casts k)

  pub exprs_cast : (Place → Bool) → RawExprs → RawExprs
  exprs_cast casts raw.no_exprs = raw.no_exprs
  exprs_cast casts (raw.more_exprs e es) = raw.more_exprs (expr_cast casts e) (exprs_cast casts es)

  pub maybe_cast : (Place → Bool) → MaybeExpr → MaybeExpr
  maybe_cast casts raw.no_expr = raw.no_expr
  maybe_cast casts (raw.one_expr e) = raw.one_expr (expr_cast casts e)

  pub fields_cast : (Place → Bool) → RawFields → RawFields
  fields_cast casts raw.no_fields = raw.no_fields
  fields_cast casts (raw.more_fields q k e fs) = raw.more_fields q k (expr_cast casts e) (fields_cast casts fs)

  pub vars_cast : (Place → Bool) → RawDeclarators → RawDeclarators
  vars_cast casts raw.no_declarators = raw.no_declarators
  vars_cast casts (raw.more_declarators v e ds) = raw.more_declarators v (maybe_cast casts e) (vars_cast casts ds)

  pub init_cast : (Place → Bool) → RawInit → RawInit
  init_cast casts raw.no_init = raw.no_init
  init_cast casts (raw.init_value e) = raw.init_value (expr_cast casts e)
  init_cast casts (raw.init_vars ds) = raw.init_vars (vars_cast casts ds)

  pub heading_cast : (Place → Bool) → RawForTarget → RawForTarget
  heading_cast casts (raw.in_target t) = raw.in_target (target_cast casts t)
  heading_cast casts (raw.in_declared v e) = raw.in_declared v (maybe_cast casts e)

  pub stmt_cast : (Place → Bool) → RawStmt → RawStmt
  stmt_cast casts (raw.simple q e) = raw.simple q (expr_cast casts e)
  stmt_cast casts (raw.vars q ds) = raw.vars q (vars_cast casts ds)
  stmt_cast casts (raw.fun_decl q v ps b) = raw.fun_decl q v ps (stmts_cast casts b)
  stmt_cast casts (raw.if q t a b) = raw.if q (expr_cast casts t) (stmts_cast casts a) (stmts_cast casts b)
  stmt_cast casts (raw.while q t b) = raw.while q (expr_cast casts t) (stmts_cast casts b)
  stmt_cast casts (raw.do_while q b t) = raw.do_while q (stmts_cast casts b) (expr_cast casts t)
  stmt_cast casts (raw.for q h t e b) = raw.for q (init_cast casts h) (maybe_cast casts t) (maybe_cast casts e) (stmts_cast casts b)
  stmt_cast casts (raw.for_in q t e b) = raw.for_in q (heading_cast casts t) (expr_cast casts e) (stmts_cast casts b)
  stmt_cast casts (raw.return q e) = raw.return q (maybe_cast casts e)
  stmt_cast casts (raw.throw q e) = raw.throw q (expr_cast casts e)
  stmt_cast casts (raw.break q l) = raw.break q l
  stmt_cast casts (raw.continue q l) = raw.continue q l
  stmt_cast casts (raw.label q l b) = raw.label q l (stmts_cast casts b)
  stmt_cast casts (raw.switch q e cs) = raw.switch q (expr_cast casts e) (cases_cast casts cs)
  stmt_cast casts (raw.try q b k f) = raw.try q (stmts_cast casts b) (catch_cast casts k) (finally_cast casts f)

  pub stmts_cast : (Place → Bool) → RawStmts → RawStmts
  stmts_cast casts raw.no_stmts = raw.no_stmts
  stmts_cast casts (raw.more_stmts s ss) = raw.more_stmts (stmt_cast casts s) (stmts_cast casts ss)

  pub catch_cast : (Place → Bool) → RawCatch → RawCatch
  catch_cast casts raw.no_catch = raw.no_catch
  catch_cast casts (raw.caught v b) = raw.caught v (stmts_cast casts b)

  pub finally_cast : (Place → Bool) → RawFinally → RawFinally
  finally_cast casts raw.no_finally = raw.no_finally
  finally_cast casts (raw.finally b) = raw.finally (stmts_cast casts b)

  pub cases_cast : (Place → Bool) → RawCases → RawCases
  cases_cast casts raw.no_cases = raw.no_cases
  cases_cast casts (raw.more_cases t b cs) = raw.more_cases (maybe_cast casts t) (stmts_cast casts b) (cases_cast casts cs)
