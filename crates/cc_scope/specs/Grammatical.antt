-- Trees of the language, as they are read: what the grammar and the refused constructs leave (ECMA-262
-- 5.1, 11 to 13). The reader answers no other tree.
use Rattle.std.specs.Prelude.{ℕ, suc, Bool, true, false, not, ◌&&◌, ◌||◌, nat_eq, nat_lt, List, [], ◌∷◌}
use Rattle.cc_ast.specs.declared.operator.UnOp.{UnOp}
use Rattle.cc_ast.specs.declared.operator.UnOp.TheVariants.{Delete}
use Rattle.cc_meaning.specs.Operators.{is_in}
use Rattle.cc_meaning.specs.Monad.{pick}
use Rattle.cc_meaning.specs.Parts.{exact_prim, assigns}
use Rattle.cc_meaning.specs.WellMade.{Open, nested, in_loop, may_break, may_continue}
use Rattle.cc_grammar.specs.RawTree.{RawExpr, RawTarget, RawExprs, MaybeExpr, RawFields, RawDeclarators, RawInit, RawForTarget, RawStmt, RawStmts, RawCatch, RawFinally, RawCases}
use Rattle.cc_grammar.specs.RawTree as raw

-- a variable, also under casts
unfoldable pub names_variable : RawExpr → Bool
names_variable (raw.var q n) = true
names_variable (raw.cast q e) = names_variable e
names_variable _ = false

-- 11.4.1: `delete` of a variable is refused
unfoldable pub operand_fits : UnOp → RawExpr → Bool
unfolding names_variable
operand_fits Delete e = not (names_variable e)
operand_fits op e = true

-- how many statements stand in a list
unfoldable pub statements : RawStmts → ℕ
statements raw.no_stmts = 0
statements (raw.more_stmts s ss) = suc (statements ss)

-- 12.12: the labels before a statement are a loop's where it stands alone behind them
unfoldable pub loop_labels : List (List ℕ) → RawStmts → List (List ℕ)
unfolding statements
loop_labels ls ss = pick (nat_eq (statements ss) 1) ls []

-- 12.11: how many `default` clauses a `switch` has
unfoldable pub default_clauses : RawCases → ℕ
default_clauses raw.no_cases = 0
default_clauses (raw.more_cases raw.no_expr b cs) = suc (default_clauses cs)
default_clauses (raw.more_cases (raw.one_expr e) b cs) = default_clauses cs

-- 12.14: a `try` has a `catch` or a `finally`
unfoldable pub has_catch : RawCatch → Bool
has_catch raw.no_catch = false
has_catch (raw.caught v b) = true

unfoldable pub has_finally : RawFinally → Bool
has_finally raw.no_finally = false
has_finally (raw.finally b) = true

-- what is open at the head of a chunk's own statements (false), and of a function's (true)
abbrev pub at_head : (returns : Bool) → Open
at_head returns = record { labels = []; loops = []; breaks = false; continues = false; returns = returns; own = true }

unfoldable mutual
  unfolding exact_prim operand_fits assigns may_break may_continue loop_labels default_clauses has_catch has_finally is_in

  -- 11: expressions
  pub expr_fits : RawExpr → Bool
  expr_fits (raw.lit q x) = exact_prim x
  expr_fits (raw.var q n) = true
  expr_fits (raw.this q) = true
  expr_fits (raw.fun q own ps b) = stmts_fit (at_head true) [] b
  expr_fits (raw.list q es) = exprs_fit es
  expr_fits (raw.object q fs) = fields_fit fs
  expr_fits (raw.unary q op e) = operand_fits op e && expr_fits e
  expr_fits (raw.binary q op a b) = expr_fits a && expr_fits b
  expr_fits (raw.and q a b) = expr_fits a && expr_fits b
  expr_fits (raw.or q a b) = expr_fits a && expr_fits b
  expr_fits (raw.cond q t a b) = expr_fits t && (expr_fits a && expr_fits b)
  expr_fits (raw.assign q op t e) = assigns op && (target_fits t && expr_fits e)
  expr_fits (raw.step q up before t) = target_fits t
  expr_fits (raw.member q e r n) = expr_fits e
  expr_fits (raw.index q e k) = expr_fits e && expr_fits k
  expr_fits (raw.call q f es) = expr_fits f && exprs_fit es
  expr_fits (raw.new q f es) = expr_fits f && exprs_fit es
  expr_fits (raw.comma q a b) = expr_fits a && expr_fits b
  expr_fits (raw.cast q e) = expr_fits e

  pub target_fits : RawTarget → Bool
  target_fits (raw.to_var q n) = true
  target_fits (raw.to_member q e r n) = expr_fits e
  target_fits (raw.to_index q e k) = expr_fits e && expr_fits k

  pub exprs_fit : RawExprs → Bool
  exprs_fit raw.no_exprs = true
  exprs_fit (raw.more_exprs e es) = expr_fits e && exprs_fit es

  pub maybe_fits : MaybeExpr → Bool
  maybe_fits raw.no_expr = true
  maybe_fits (raw.one_expr e) = expr_fits e

  pub fields_fit : RawFields → Bool
  fields_fit raw.no_fields = true
  fields_fit (raw.more_fields q k e fs) = expr_fits e && fields_fit fs

  pub vars_fit : RawDeclarators → Bool
  vars_fit raw.no_declarators = true
  vars_fit (raw.more_declarators v e ds) = maybe_fits e && vars_fit ds

  -- 12.2: a `var` has a declarator at least
  pub some_vars_fit : RawDeclarators → Bool
  some_vars_fit raw.no_declarators = false
  some_vars_fit (raw.more_declarators v e ds) = maybe_fits e && vars_fit ds

  pub init_fits : RawInit → Bool
  init_fits raw.no_init = true
  init_fits (raw.init_value e) = expr_fits e
  init_fits (raw.init_vars ds) = some_vars_fit ds

  pub heading_fits : RawForTarget → Bool
  heading_fits (raw.in_target t) = target_fits t
  heading_fits (raw.in_declared v e) = maybe_fits e

  -- 12 and 13: statements, under what is open and the labels right before
  pub stmt_fits : Open → (ls : List (List ℕ)) → RawStmt → Bool
  stmt_fits o ls (raw.simple q e) = expr_fits e
  stmt_fits o ls (raw.vars q ds) = some_vars_fit ds
  stmt_fits o ls (raw.fun_decl q v ps b) = o.own && stmts_fit (at_head true) [] b
  stmt_fits o ls (raw.if q t a b) = expr_fits t && (stmts_fit (nested o) [] a && stmts_fit (nested o) [] b)
  stmt_fits o ls (raw.while q t b) = expr_fits t && stmts_fit (in_loop o ls) [] b
  stmt_fits o ls (raw.do_while q b t) = stmts_fit (in_loop o ls) [] b && expr_fits t
  stmt_fits o ls (raw.for q h t e b) = init_fits h && (maybe_fits t && (maybe_fits e && stmts_fit (in_loop o ls) [] b))
  stmt_fits o ls (raw.for_in q t e b) = heading_fits t && (expr_fits e && stmts_fit (in_loop o ls) [] b)
  stmt_fits o ls (raw.return q e) = o.returns && maybe_fits e
  stmt_fits o ls (raw.throw q e) = expr_fits e
  stmt_fits o ls (raw.break q l) = may_break o l
  stmt_fits o ls (raw.continue q l) = may_continue o l
  stmt_fits o ls (raw.label q l b) = not (is_in l o.labels) && stmts_fit (record o { labels = l ∷ o.labels; own = false }) (loop_labels (l ∷ ls) b) b
  stmt_fits o ls (raw.switch q e cs) = nat_lt (default_clauses cs) 2 && (expr_fits e && cases_fit (record o { breaks = true; own = false }) cs)
  stmt_fits o ls (raw.try q b k f) = (has_catch k || has_finally f) && (stmts_fit (nested o) [] b && (catch_fits (nested o) k && finally_fits (nested o) f))

  pub stmts_fit : Open → (ls : List (List ℕ)) → RawStmts → Bool
  stmts_fit o ls raw.no_stmts = true
  stmts_fit o ls (raw.more_stmts s ss) = stmt_fits o ls s && stmts_fit o ls ss

  pub catch_fits : Open → RawCatch → Bool
  catch_fits o raw.no_catch = true
  catch_fits o (raw.caught v b) = stmts_fit o [] b

  pub finally_fits : Open → RawFinally → Bool
  finally_fits o raw.no_finally = true
  finally_fits o (raw.finally b) = stmts_fit o [] b

  pub cases_fit : Open → RawCases → Bool
  cases_fit o raw.no_cases = true
  cases_fit o (raw.more_cases t b cs) = maybe_fits t && (stmts_fit o [] b && cases_fit o cs)
