-- What stands in a raw tree, in reading order: what carries a place in the program's table, the names
-- behind dots, and functions. Numbers are given by it: the k-th function of the trees has number k behind
-- the chunks, the k-th place number k. And the names that statements declare.
use Rattle.std.specs.Prelude.{ℕ, suc, ◌+◌, List, [], ◌∷◌, ◌++◌}
use Rattle.cc_ast.specs.declared.place.Place.{Place}
use Rattle.cc_grammar.specs.RawTree.{Named, RawKey, RawExpr, RawTarget, RawExprs, MaybeExpr, RawFields, RawDeclarators, RawInit, RawForTarget, RawStmt, RawStmts, RawCatch, RawFinally, RawCases}
use Rattle.cc_grammar.specs.RawTree as raw
use Rattle.cc_scope.specs.Lists.{Name}

-- what takes a number: a place of an expression, statement or declarator, a property's name, a function
pub data Mark : Type 0 where
  a_site : Place → Mark
  a_name : Name → Mark
  a_function : Mark

-- how many functions stand in a part
unfoldable pub functions : List Mark → ℕ
functions [] = 0
functions (a_function ∷ ms) = suc (functions ms)
functions (a_site q ∷ ms) = functions ms
functions (a_name n ∷ ms) = functions ms

-- how many places a part has
unfoldable pub sites : List Mark → ℕ
sites [] = 0
sites (a_site q ∷ ms) = suc (sites ms)
sites (a_function ∷ ms) = sites ms
sites (a_name n ∷ ms) = sites ms

-- the property names of a part, in order
unfoldable pub names : List Mark → List Name
names [] = []
names (a_name n ∷ ms) = n ∷ names ms
names (a_site q ∷ ms) = names ms
names (a_function ∷ ms) = names ms

-- the places of a part, in order
unfoldable pub places : List Mark → List Place
places [] = []
places (a_site q ∷ ms) = q ∷ places ms
places (a_name n ∷ ms) = places ms
places (a_function ∷ ms) = places ms

-- the numbers that the next function and the next place get
pub record Counters : Type 0 where
  pub function : ℕ
  pub site : ℕ

-- behind a place
abbrev pub next : Counters → Counters
next n = record { function = n.function; site = suc n.site }

-- behind a part
abbrev pub past : Counters → List Mark → Counters
past n ms = record { function = n.function + functions ms; site = n.site + sites ms }

-- a key that is a name or word is a property (11.1.5); one that is a text or number is quoted
unfoldable pub key_marks : RawKey → List Mark
key_marks (raw.dotted n) = a_name n ∷ []
key_marks (raw.quoted t) = []
key_marks (raw.numbered z) = []

unfoldable mutual
  unfolding key_marks

  pub expr_marks : RawExpr → List Mark
  expr_marks (raw.lit q x) = a_site q ∷ []
  expr_marks (raw.var q n) = a_site q ∷ []
  expr_marks (raw.this q) = a_site q ∷ []
  expr_marks (raw.fun q own ps b) = a_site q ∷ a_function ∷ stmts_marks b
  expr_marks (raw.list q es) = a_site q ∷ exprs_marks es
  expr_marks (raw.object q fs) = a_site q ∷ fields_marks fs
  expr_marks (raw.unary q op e) = a_site q ∷ expr_marks e
  expr_marks (raw.binary q op a b) = a_site q ∷ (expr_marks a ++ expr_marks b)
  expr_marks (raw.and q a b) = a_site q ∷ (expr_marks a ++ expr_marks b)
  expr_marks (raw.or q a b) = a_site q ∷ (expr_marks a ++ expr_marks b)
  expr_marks (raw.cond q t a b) = a_site q ∷ (expr_marks t ++ (expr_marks a ++ expr_marks b))
  expr_marks (raw.assign q op t e) = a_site q ∷ (target_marks t ++ expr_marks e)
  expr_marks (raw.step q up before t) = a_site q ∷ target_marks t
  expr_marks (raw.member q e r n) = a_site q ∷ (expr_marks e ++ a_name n ∷ [])
  expr_marks (raw.index q e k) = a_site q ∷ (expr_marks e ++ expr_marks k)
  expr_marks (raw.call q f es) = a_site q ∷ (expr_marks f ++ exprs_marks es)
  expr_marks (raw.new q f es) = a_site q ∷ (expr_marks f ++ exprs_marks es)
  expr_marks (raw.comma q a b) = a_site q ∷ (expr_marks a ++ expr_marks b)
  expr_marks (raw.cast q e) = a_site q ∷ expr_marks e

  pub target_marks : RawTarget → List Mark
  target_marks (raw.to_var q n) = a_site q ∷ []
  target_marks (raw.to_member q e r n) = a_site q ∷ (expr_marks e ++ a_name n ∷ [])
  target_marks (raw.to_index q e k) = a_site q ∷ (expr_marks e ++ expr_marks k)

  pub exprs_marks : RawExprs → List Mark
  exprs_marks raw.no_exprs = []
  exprs_marks (raw.more_exprs e es) = expr_marks e ++ exprs_marks es

  pub maybe_marks : MaybeExpr → List Mark
  maybe_marks raw.no_expr = []
  maybe_marks (raw.one_expr e) = expr_marks e

  pub fields_marks : RawFields → List Mark
  fields_marks raw.no_fields = []
  fields_marks (raw.more_fields q k e fs) = key_marks k ++ (expr_marks e ++ fields_marks fs)

  pub vars_marks : RawDeclarators → List Mark
  vars_marks raw.no_declarators = []
  vars_marks (raw.more_declarators v e ds) = a_site v.place ∷ (maybe_marks e ++ vars_marks ds)

  pub init_marks : RawInit → List Mark
  init_marks raw.no_init = []
  init_marks (raw.init_value e) = expr_marks e
  init_marks (raw.init_vars ds) = vars_marks ds

  pub heading_marks : RawForTarget → List Mark
  heading_marks (raw.in_target t) = target_marks t
  heading_marks (raw.in_declared v e) = a_site v.place ∷ maybe_marks e

  pub stmt_marks : RawStmt → List Mark
  stmt_marks (raw.simple q e) = a_site q ∷ expr_marks e
  stmt_marks (raw.vars q ds) = a_site q ∷ vars_marks ds
  stmt_marks (raw.fun_decl q v ps b) = a_site q ∷ a_function ∷ stmts_marks b
  stmt_marks (raw.if q t a b) = a_site q ∷ (expr_marks t ++ (stmts_marks a ++ stmts_marks b))
  stmt_marks (raw.while q t b) = a_site q ∷ (expr_marks t ++ stmts_marks b)
  stmt_marks (raw.do_while q b t) = a_site q ∷ (stmts_marks b ++ expr_marks t)
  stmt_marks (raw.for q h t e b) = a_site q ∷ (init_marks h ++ (maybe_marks t ++ (maybe_marks e ++ stmts_marks b)))
  stmt_marks (raw.for_in q t e b) = a_site q ∷ (heading_marks t ++ (expr_marks e ++ stmts_marks b))
  stmt_marks (raw.return q e) = a_site q ∷ maybe_marks e
  stmt_marks (raw.throw q e) = a_site q ∷ expr_marks e
  stmt_marks (raw.break q l) = a_site q ∷ []
  stmt_marks (raw.continue q l) = a_site q ∷ []
  stmt_marks (raw.label q l b) = a_site q ∷ stmts_marks b
  stmt_marks (raw.switch q e cs) = a_site q ∷ (expr_marks e ++ cases_marks cs)
  stmt_marks (raw.try q b k f) = a_site q ∷ (stmts_marks b ++ (catch_marks k ++ finally_marks f))

  pub stmts_marks : RawStmts → List Mark
  stmts_marks raw.no_stmts = []
  stmts_marks (raw.more_stmts s ss) = stmt_marks s ++ stmts_marks ss

  pub catch_marks : RawCatch → List Mark
  catch_marks raw.no_catch = []
  catch_marks (raw.caught v b) = stmts_marks b

  pub finally_marks : RawFinally → List Mark
  finally_marks raw.no_finally = []
  finally_marks (raw.finally b) = stmts_marks b

  pub cases_marks : RawCases → List Mark
  cases_marks raw.no_cases = []
  cases_marks (raw.more_cases t b cs) = maybe_marks t ++ (stmts_marks b ++ cases_marks cs)

-- ---- the names that statements declare, in reading order, functions not entered (ECMA-262 5.1, 10.5,
-- steps 5 and 8): those of variable statements (12.2), also in the head of a `for` or `for-in` (12.6), and
-- of function declarations (13); a block, a loop or a clause has no variables of its own

unfoldable pub vars_declare : RawDeclarators → List Name
vars_declare raw.no_declarators = []
vars_declare (raw.more_declarators v e ds) = v.name ∷ vars_declare ds

unfoldable pub init_declares : RawInit → List Name
unfolding vars_declare
init_declares raw.no_init = []
init_declares (raw.init_value e) = []
init_declares (raw.init_vars ds) = vars_declare ds

unfoldable pub heading_declares : RawForTarget → List Name
heading_declares (raw.in_target t) = []
heading_declares (raw.in_declared v e) = v.name ∷ []

unfoldable mutual
  unfolding vars_declare init_declares heading_declares

  pub stmt_declares : RawStmt → List Name
  stmt_declares (raw.simple q e) = []
  stmt_declares (raw.vars q ds) = vars_declare ds
  stmt_declares (raw.fun_decl q v ps b) = v.name ∷ []
  stmt_declares (raw.if q t a b) = stmts_declare a ++ stmts_declare b
  stmt_declares (raw.while q t b) = stmts_declare b
  stmt_declares (raw.do_while q b t) = stmts_declare b
  stmt_declares (raw.for q h t e b) = init_declares h ++ stmts_declare b
  stmt_declares (raw.for_in q t e b) = heading_declares t ++ stmts_declare b
  stmt_declares (raw.return q e) = []
  stmt_declares (raw.throw q e) = []
  stmt_declares (raw.break q l) = []
  stmt_declares (raw.continue q l) = []
  stmt_declares (raw.label q l b) = stmts_declare b
  stmt_declares (raw.switch q e cs) = cases_declare cs
  stmt_declares (raw.try q b k f) = stmts_declare b ++ (catch_declares k ++ finally_declares f)

  pub stmts_declare : RawStmts → List Name
  stmts_declare raw.no_stmts = []
  stmts_declare (raw.more_stmts s ss) = stmt_declares s ++ stmts_declare ss

  pub catch_declares : RawCatch → List Name
  catch_declares raw.no_catch = []
  catch_declares (raw.caught v b) = stmts_declare b

  pub finally_declares : RawFinally → List Name
  finally_declares raw.no_finally = []
  finally_declares (raw.finally b) = stmts_declare b

  pub cases_declare : RawCases → List Name
  cases_declare raw.no_cases = []
  cases_declare (raw.more_cases t b cs) = stmts_declare b ++ cases_declare cs
