-- The heights of what is printed, as the grammar counts them: an expression has 1 more than its highest part, and so have
-- parentheses and braces, where they are written; a name, `this` and a literal have 0.
use Rattle.std.specs.Prelude.{ℕ, negsuc, max, ◌+◌, [], Bool, true, false, not, if◌then◌else◌}
use Rattle.cc_ast.specs.Syntax.{Prim, undefined, whole}
use Rattle.cc_grammar.specs.RawTree.{RawExpr, RawTarget, RawExprs, MaybeExpr, RawFields, RawDeclarators, RawInit, RawForTarget, RawStmt, RawStmts, RawCatch, RawFinally, RawCases}
use Rattle.cc_grammar.specs.RawTree as raw
use Rattle.cc_grammar.specs.Signs as sign
use Rattle.cc_printer.specs.Printing.{needs, needs_before_dot, is_bare, is_bare_label, is_bare_else, first_opens, expr}

-- in parentheses, or as it stands
abbrev pub enclosed_height : Bool → (Bool → ℕ) → Bool → ℕ
enclosed_height v f n = if v then f true + 1 else f n

-- a body in braces, or as it stands
abbrev pub body_height : Bool → ℕ → ℕ
body_height v h = if v then h + 1 else h

-- `void 0` and a negative whole are unary expressions
abbrev pub literal_height : Prim → ℕ
literal_height undefined = 1
literal_height (whole (negsuc n)) = 1
literal_height _ = 0

abbrev mutual
  -- an expression; the flag tells whether `in` may stand bare
  pub height : RawExpr → Bool → ℕ
  height (raw.lit p v) n = literal_height v
  height (raw.var p v) n = 0
  height (raw.this p) n = 0
  height (raw.fun p o ps body) n = height_stmts body + 1
  height (raw.list p es) n = height_exprs es + 1
  height (raw.object p fs) n = height_fields fs + 1
  height (raw.unary p o e) n = enclosed_height (needs 13 n e) (height e) n + 1
  height (raw.binary p o e f) n = max (enclosed_height (needs (sign.level_of o) n e) (height e) n) (enclosed_height (needs (sign.level_of o + 1) n f) (height f) n) + 1
  height (raw.and p e f) n = max (enclosed_height (needs 4 n e) (height e) n) (enclosed_height (needs 5 n f) (height f) n) + 1
  height (raw.or p e f) n = max (enclosed_height (needs 3 n e) (height e) n) (enclosed_height (needs 4 n f) (height f) n) + 1
  height (raw.cond p e f g) n = max (enclosed_height (needs 3 n e) (height e) n) (max (enclosed_height (needs 1 true f) (height f) true) (enclosed_height (needs 1 n g) (height g) n)) + 1
  height (raw.assign p o t e) n = max (height_target t n) (enclosed_height (needs 1 n e) (height e) n) + 1
  height (raw.step p up x t) n = height_target t n + 1
  height (raw.member p e q v) n = enclosed_height (needs_before_dot n e) (height e) n + 1
  height (raw.index p e f) n = max (enclosed_height (needs 16 n e) (height e) n) (height f true) + 1
  height (raw.call p e es) n = max (enclosed_height (needs 16 n e) (height e) n) (height_exprs es) + 1
  height (raw.new p e es) n = max (enclosed_height (needs 18 n e) (height e) n) (height_exprs es) + 1
  height (raw.comma p e f) n = max (enclosed_height (needs 0 n e) (height e) n) (enclosed_height (needs 1 n f) (height f) n) + 1
  height (raw.cast p e) n = height e n

  -- what is written to
  pub height_target : RawTarget → Bool → ℕ
  height_target (raw.to_var p v) n = 0
  height_target (raw.to_member p e q v) n = enclosed_height (needs_before_dot n e) (height e) n + 1
  height_target (raw.to_index p e f) n = max (enclosed_height (needs 16 n e) (height e) n) (height f true) + 1

  -- arguments or elements
  pub height_exprs : RawExprs → ℕ
  height_exprs raw.no_exprs = 0
  height_exprs (raw.more_exprs e es) = max (enclosed_height (needs 1 true e) (height e) true) (height_exprs es)

  -- an expression that may be absent
  pub height_maybe : MaybeExpr → ℕ
  height_maybe raw.no_expr = 0
  height_maybe (raw.one_expr e) = height e true

  -- properties
  pub height_fields : RawFields → ℕ
  height_fields raw.no_fields = 0
  height_fields (raw.more_fields p x e fs) = max (enclosed_height (needs 1 true e) (height e) true) (height_fields fs)

  -- the first value of a variable
  pub height_initial : MaybeExpr → Bool → ℕ
  height_initial raw.no_expr n = 0
  height_initial (raw.one_expr e) n = enclosed_height (needs 1 n e) (height e) n

  -- variable declarations
  pub height_declarators : RawDeclarators → Bool → ℕ
  height_declarators raw.no_declarators n = 0
  height_declarators (raw.more_declarators v e ds) n = max (height_initial e n) (height_declarators ds n)

  -- what a `for` begins with
  pub height_init : RawInit → ℕ
  height_init raw.no_init = 0
  height_init (raw.init_value e) = enclosed_height (needs 0 false e) (height e) false
  height_init (raw.init_vars ds) = height_declarators ds false

  -- what a `for` with `in` writes each name to
  pub height_for_target : RawForTarget → ℕ
  height_for_target (raw.in_target t) = height_target t false
  height_for_target (raw.in_declared v e) = height_initial e false

  -- a statement
  pub height_stmt : RawStmt → ℕ
  height_stmt (raw.simple p e) = enclosed_height (first_opens (expr e true [])) (height e) true
  height_stmt (raw.vars p ds) = height_declarators ds true
  height_stmt (raw.fun_decl p v ps body) = height_stmts body + 1
  height_stmt (raw.if p e a b) = max (height e true) (max (body_height (not (is_bare a)) (height_stmts a)) (height_else b)) + 1
  height_stmt (raw.while p e body) = max (height e true) (body_height (not (is_bare body)) (height_stmts body)) + 1
  height_stmt (raw.do_while p body e) = max (height e true) (body_height (not (is_bare body)) (height_stmts body)) + 1
  height_stmt (raw.for p i t s body) = max (height_init i) (max (height_maybe t) (max (height_maybe s) (body_height (not (is_bare body)) (height_stmts body)))) + 1
  height_stmt (raw.for_in p t e body) = max (height_for_target t) (max (height e true) (body_height (not (is_bare body)) (height_stmts body))) + 1
  height_stmt (raw.return p e) = height_maybe e
  height_stmt (raw.throw p e) = height e true
  height_stmt (raw.break p l) = 0
  height_stmt (raw.continue p l) = 0
  height_stmt (raw.label p n body) = body_height (not (is_bare_label body)) (height_stmts body) + 1
  height_stmt (raw.switch p e cs) = max (height e true) (height_cases cs) + 1
  height_stmt (raw.try p body c f) = max (height_stmts body + 1) (max (height_catch c) (height_finally f)) + 1

  -- a list of statements
  pub height_stmts : RawStmts → ℕ
  height_stmts raw.no_stmts = 0
  height_stmts (raw.more_stmts s ss) = max (height_stmt s) (height_stmts ss)

  -- the body of an `else`, which isn't written where it is empty
  pub height_else : RawStmts → ℕ
  height_else raw.no_stmts = 0
  height_else (raw.more_stmts s ss) = body_height (not (is_bare_else (raw.more_stmts s ss))) (max (height_stmt s) (height_stmts ss))

  -- a `catch` clause
  pub height_catch : RawCatch → ℕ
  height_catch raw.no_catch = 0
  height_catch (raw.caught v body) = height_stmts body + 1

  -- a `finally` clause
  pub height_finally : RawFinally → ℕ
  height_finally raw.no_finally = 0
  height_finally (raw.finally body) = height_stmts body + 1

  -- the clauses of a `switch`
  pub height_cases : RawCases → ℕ
  height_cases raw.no_cases = 0
  height_cases (raw.more_cases e body cs) = max (height_maybe e) (max (height_stmts body) (height_cases cs))
