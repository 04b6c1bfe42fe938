-- How many expressions, statements and declarators a tree has.
use Rattle.std.specs.Prelude.{ℕ, ◌+◌}
use Rattle.cc_grammar.specs.RawTree.{RawExpr, RawTarget, RawExprs, MaybeExpr, RawFields, RawDeclarators, RawInit, RawForTarget, RawStmt, RawStmts, RawCatch, RawFinally, RawCases}
use Rattle.cc_grammar.specs.RawTree as raw

abbrev mutual
  pub of_expr : RawExpr → ℕ
  of_expr (raw.lit p v) = 1
  of_expr (raw.var p n) = 1
  of_expr (raw.this p) = 1
  of_expr (raw.fun p o ps b) = of_stmts b + 1
  of_expr (raw.list p es) = of_exprs es + 1
  of_expr (raw.object p fs) = of_fields fs + 1
  of_expr (raw.unary p o e) = of_expr e + 1
  of_expr (raw.binary p o e f) = of_expr e + of_expr f + 1
  of_expr (raw.and p e f) = of_expr e + of_expr f + 1
  of_expr (raw.or p e f) = of_expr e + of_expr f + 1
  of_expr (raw.cond p e f g) = of_expr e + of_expr f + of_expr g + 1
  of_expr (raw.assign p o t e) = of_target t + of_expr e + 1
  of_expr (raw.step p u x t) = of_target t + 1
  of_expr (raw.member p e q n) = of_expr e + 1
  of_expr (raw.index p e f) = of_expr e + of_expr f + 1
  of_expr (raw.call p e es) = of_expr e + of_exprs es + 1
  of_expr (raw.new p e es) = of_expr e + of_exprs es + 1
  of_expr (raw.comma p e f) = of_expr e + of_expr f + 1
  of_expr (raw.cast p e) = of_expr e + 1

  pub of_target : RawTarget → ℕ
  of_target (raw.to_var p n) = 1
  of_target (raw.to_member p e q n) = of_expr e + 1
  of_target (raw.to_index p e f) = of_expr e + of_expr f + 1

  pub of_exprs : RawExprs → ℕ
  of_exprs raw.no_exprs = 0
  of_exprs (raw.more_exprs e es) = of_expr e + of_exprs es

  pub of_maybe : MaybeExpr → ℕ
  of_maybe raw.no_expr = 0
  of_maybe (raw.one_expr e) = of_expr e

  pub of_fields : RawFields → ℕ
  of_fields raw.no_fields = 0
  of_fields (raw.more_fields p k e fs) = of_expr e + of_fields fs

  pub of_declarators : RawDeclarators → ℕ
  of_declarators raw.no_declarators = 0
  of_declarators (raw.more_declarators v e ds) = of_maybe e + of_declarators ds + 1

  pub of_init : RawInit → ℕ
  of_init raw.no_init = 0
  of_init (raw.init_value e) = of_expr e
  of_init (raw.init_vars ds) = of_declarators ds

  pub of_for_target : RawForTarget → ℕ
  of_for_target (raw.in_target t) = of_target t
  of_for_target (raw.in_declared v e) = of_maybe e + 1

  pub of_stmt : RawStmt → ℕ
  of_stmt (raw.simple p e) = of_expr e + 1
  of_stmt (raw.vars p ds) = of_declarators ds + 1
  of_stmt (raw.fun_decl p v ps b) = of_stmts b + 1
  of_stmt (raw.if p e a b) = of_expr e + of_stmts a + of_stmts b + 1
  of_stmt (raw.while p e b) = of_expr e + of_stmts b + 1
  of_stmt (raw.do_while p b e) = of_stmts b + of_expr e + 1
  of_stmt (raw.for p i t s b) = of_init i + of_maybe t + of_maybe s + of_stmts b + 1
  of_stmt (raw.for_in p t e b) = of_for_target t + of_expr e + of_stmts b + 1
  of_stmt (raw.return p e) = of_maybe e + 1
  of_stmt (raw.throw p e) = of_expr e + 1
  of_stmt (raw.break p l) = 1
  of_stmt (raw.continue p l) = 1
  of_stmt (raw.label p n b) = of_stmts b + 1
  of_stmt (raw.switch p e cs) = of_expr e + of_cases cs + 1
  of_stmt (raw.try p b c f) = of_stmts b + of_catch c + of_finally f + 1

  pub of_stmts : RawStmts → ℕ
  of_stmts raw.no_stmts = 0
  of_stmts (raw.more_stmts s ss) = of_stmt s + of_stmts ss

  pub of_catch : RawCatch → ℕ
  of_catch raw.no_catch = 0
  of_catch (raw.caught v b) = of_stmts b

  pub of_finally : RawFinally → ℕ
  of_finally raw.no_finally = 0
  of_finally (raw.finally b) = of_stmts b

  pub of_cases : RawCases → ℕ
  of_cases raw.no_cases = 0
  of_cases (raw.more_cases e b cs) = of_maybe e + of_stmts b + of_cases cs
