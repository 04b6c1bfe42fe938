-- The functions of the trees are as many as take a number.
use Rattle.std.proofs.Common.{◌≡◌, refl, ap, arith, suc, List, [], ◌∷◌, ◌++◌, length, Some, None, length-append}
use Rattle.cc_ast.specs.declared.place.Place.{Place}
use Rattle.cc_grammar.specs.RawTree.{RawKey, RawExpr, RawTarget, RawExprs, MaybeExpr, RawFields, RawDeclarators, RawInit, RawForTarget, RawStmt, RawStmts, RawCatch, RawFinally, RawCases}
use Rattle.cc_grammar.specs.RawTree as raw
use Rattle.cc_scope.specs.Lists.{Name}
use Rattle.cc_scope.specs.Marks.{Mark, a_site, a_name, a_function, functions, key_marks, expr_marks, target_marks, exprs_marks, maybe_marks, fields_marks, vars_marks, init_marks, heading_marks, stmt_marks, stmts_marks, catch_marks, finally_marks, cases_marks}
use Rattle.cc_scope.specs.Resolve.{all_marks}
use Rattle.cc_scope.specs.Functions.{Function, Bearer, nobody, borne, function_of, last_name, first_functions, all_functions, expr_functions, target_functions, exprs_functions, maybe_functions, fields_functions, vars_functions, init_functions, heading_functions, stmt_functions, stmts_functions, catch_functions, finally_functions, cases_functions}
use Rattle.cc_scope.proofs.Law.{functions_append}

record Same (xs : List Function) (ms : List Mark) : Type 0 where
  is : length xs ≡ functions ms

none : Same [] []
unfolding functions
none = record { is = refl }

sited : {xs : List Function} {q : Place} {ms : List Mark} → Same xs ms → Same xs (a_site q ∷ ms)
unfolding functions
sited a = record { is = a.is }

one_more : {g : Function} {xs : List Function} {ms : List Mark} → Same xs ms → Same (g ∷ xs) (a_function ∷ ms)
unfolding functions
one_more a = record { is = ap suc a.is }

joined : {xs ys : List Function} {ms ns : List Mark} → Same xs ms → Same ys ns → Same (xs ++ ys) (ms ++ ns)
joined {xs} {ys} {ms} {ns} a b = record { is = omega (arith, length-append xs ys, functions_append ms ns, a.is, b.is) }

name_none : (n : Name) → functions (a_name n ∷ []) ≡ 0
unfolding functions
name_none n = refl

named : {xs : List Function} {ms : List Mark} (n : Name) → Same xs ms → Same xs (ms ++ a_name n ∷ [])
named {xs} {ms} n a = record { is = by } where
  by : length xs ≡ functions (ms ++ a_name n ∷ [])
  by = omega (arith, functions_append ms (a_name n ∷ []), a.is, name_none n)

keyed : (k : RawKey) {xs : List Function} {ms : List Mark} → Same xs ms → Same xs (key_marks k ++ ms)
unfolding key_marks functions
keyed (raw.dotted n) a = record { is = a.is }
keyed (raw.quoted t) a = a
keyed (raw.numbered z) a = a

mutual
  unfolding expr_functions expr_marks function_of key_marks

  expr_counted : (h : Bearer) (t : RawExpr) → Same (expr_functions h t) (expr_marks t)
  expr_counted h (raw.lit q x) = sited (none)
  expr_counted h (raw.var q m) = sited (none)
  expr_counted h (raw.this q) = sited (none)
  expr_counted h (raw.fun q own ps b) = sited (one_more (stmts_counted b))
  expr_counted h (raw.list q es) = sited (exprs_counted es)
  expr_counted h (raw.object q fs) = sited (fields_counted fs)
  expr_counted h (raw.unary q op e) = sited (expr_counted nobody e)
  expr_counted h (raw.binary q op a b) = sited (joined (expr_counted nobody a) (expr_counted nobody b))
  expr_counted h (raw.and q a b) = sited (joined (expr_counted nobody a) (expr_counted nobody b))
  expr_counted h (raw.or q a b) = sited (joined (expr_counted nobody a) (expr_counted nobody b))
  expr_counted h (raw.cond q t a b) = sited (joined (expr_counted nobody t) (joined (expr_counted nobody a) (expr_counted nobody b)))
  expr_counted h (raw.assign q op t e) = sited (joined (target_counted t) (expr_counted nobody e))
  expr_counted h (raw.step q up before t) = sited (target_counted t)
  expr_counted h (raw.member q e r m) = sited (named m (expr_counted nobody e))
  expr_counted h (raw.index q e k) = sited (joined (expr_counted nobody e) (expr_counted nobody k))
  expr_counted h (raw.call q f es) = sited (joined (expr_counted nobody f) (exprs_counted es))
  expr_counted h (raw.new q f es) = sited (joined (expr_counted nobody f) (exprs_counted es))
  expr_counted h (raw.comma q a b) = sited (joined (expr_counted nobody a) (expr_counted nobody b))
  expr_counted h (raw.cast q e) = sited (expr_counted nobody e)

  target_counted : (t : RawTarget) → Same (target_functions t) (target_marks t)
  target_counted (raw.to_var q m) = sited (none)
  target_counted (raw.to_member q e r m) = sited (named m (expr_counted nobody e))
  target_counted (raw.to_index q e k) = sited (joined (expr_counted nobody e) (expr_counted nobody k))

  exprs_counted : (t : RawExprs) → Same (exprs_functions t) (exprs_marks t)
  exprs_counted raw.no_exprs = none
  exprs_counted (raw.more_exprs e es) = joined (expr_counted nobody e) (exprs_counted es)

  maybe_counted : (h : Bearer) (t : MaybeExpr) → Same (maybe_functions h t) (maybe_marks t)
  maybe_counted h raw.no_expr = none
  maybe_counted h (raw.one_expr e) = expr_counted h e

  fields_counted : (t : RawFields) → Same (fields_functions t) (fields_marks t)
  fields_counted raw.no_fields = none
  fields_counted (raw.more_fields q k e fs) = keyed k (joined (expr_counted (borne (q ∷ []) q) e) (fields_counted fs))

  vars_counted : (t : RawDeclarators) → Same (vars_functions t) (vars_marks t)
  vars_counted raw.no_declarators = none
  vars_counted (raw.more_declarators v e ds) = sited (joined (maybe_counted (borne (v.place ∷ []) v.place) e) (vars_counted ds))

  first_counted : (q : Place) (t : RawDeclarators) → Same (first_functions q t) (vars_marks t)
  first_counted q raw.no_declarators = none
  first_counted q (raw.more_declarators v e ds) = sited (joined (maybe_counted (borne (q ∷ v.place ∷ []) v.place) e) (vars_counted ds))

  init_counted : (t : RawInit) → Same (init_functions t) (init_marks t)
  init_counted raw.no_init = none
  init_counted (raw.init_value e) = expr_counted nobody e
  init_counted (raw.init_vars ds) = vars_counted ds

  heading_counted : (t : RawForTarget) → Same (heading_functions t) (heading_marks t)
  heading_counted (raw.in_target t) = target_counted t
  heading_counted (raw.in_declared v e) = sited (maybe_counted (borne (v.place ∷ []) v.place) e)

  stmt_counted : (t : RawStmt) → Same (stmt_functions t) (stmt_marks t)
  stmt_counted (raw.simple q (raw.lit p x)) = sited (expr_counted nobody (raw.lit p x))
  stmt_counted (raw.simple q (raw.var p m)) = sited (expr_counted nobody (raw.var p m))
  stmt_counted (raw.simple q (raw.this p)) = sited (expr_counted nobody (raw.this p))
  stmt_counted (raw.simple q (raw.fun p own ps b)) = sited (expr_counted nobody (raw.fun p own ps b))
  stmt_counted (raw.simple q (raw.list p es)) = sited (expr_counted nobody (raw.list p es))
  stmt_counted (raw.simple q (raw.object p fs)) = sited (expr_counted nobody (raw.object p fs))
  stmt_counted (raw.simple q (raw.unary p op e)) = sited (expr_counted nobody (raw.unary p op e))
  stmt_counted (raw.simple q (raw.binary p op a b)) = sited (expr_counted nobody (raw.binary p op a b))
  stmt_counted (raw.simple q (raw.and p a b)) = sited (expr_counted nobody (raw.and p a b))
  stmt_counted (raw.simple q (raw.or p a b)) = sited (expr_counted nobody (raw.or p a b))
  stmt_counted (raw.simple q (raw.cond p t a b)) = sited (expr_counted nobody (raw.cond p t a b))
  stmt_counted (raw.simple q (raw.assign p None t e)) = sited (sited (joined (target_counted t) (expr_counted (borne (q ∷ []) (last_name q t)) e)))
  stmt_counted (raw.simple q (raw.assign p (Some op) t e)) = sited (sited (joined (target_counted t) (expr_counted nobody e)))
  stmt_counted (raw.simple q (raw.step p up before t)) = sited (expr_counted nobody (raw.step p up before t))
  stmt_counted (raw.simple q (raw.member p e r m)) = sited (expr_counted nobody (raw.member p e r m))
  stmt_counted (raw.simple q (raw.index p e k)) = sited (expr_counted nobody (raw.index p e k))
  stmt_counted (raw.simple q (raw.call p f es)) = sited (expr_counted nobody (raw.call p f es))
  stmt_counted (raw.simple q (raw.new p f es)) = sited (expr_counted nobody (raw.new p f es))
  stmt_counted (raw.simple q (raw.comma p a b)) = sited (expr_counted nobody (raw.comma p a b))
  stmt_counted (raw.simple q (raw.cast p e)) = sited (expr_counted nobody (raw.cast p e))
  stmt_counted (raw.vars q ds) = sited (first_counted q ds)
  stmt_counted (raw.fun_decl q v ps b) = sited (one_more (stmts_counted b))
  stmt_counted (raw.if q t a b) = sited (joined (expr_counted nobody t) (joined (stmts_counted a) (stmts_counted b)))
  stmt_counted (raw.while q t b) = sited (joined (expr_counted nobody t) (stmts_counted b))
  stmt_counted (raw.do_while q b t) = sited (joined (stmts_counted b) (expr_counted nobody t))
  stmt_counted (raw.for q h t e b) = sited (joined (init_counted h) (joined (maybe_counted nobody t) (joined (maybe_counted nobody e) (stmts_counted b))))
  stmt_counted (raw.for_in q t e b) = sited (joined (heading_counted t) (joined (expr_counted nobody e) (stmts_counted b)))
  stmt_counted (raw.return q e) = sited (maybe_counted nobody e)
  stmt_counted (raw.throw q e) = sited (expr_counted nobody e)
  stmt_counted (raw.break q l) = sited (none)
  stmt_counted (raw.continue q l) = sited (none)
  stmt_counted (raw.label q l b) = sited (stmts_counted b)
  stmt_counted (raw.switch q e cs) = sited (joined (expr_counted nobody e) (cases_counted cs))
  stmt_counted (raw.try q b k f) = sited (joined (stmts_counted b) (joined (catch_counted k) (finally_counted f)))

  stmts_counted : (t : RawStmts) → Same (stmts_functions t) (stmts_marks t)
  stmts_counted raw.no_stmts = none
  stmts_counted (raw.more_stmts s ss) = joined (stmt_counted s) (stmts_counted ss)

  catch_counted : (t : RawCatch) → Same (catch_functions t) (catch_marks t)
  catch_counted raw.no_catch = none
  catch_counted (raw.caught v b) = stmts_counted b

  finally_counted : (t : RawFinally) → Same (finally_functions t) (finally_marks t)
  finally_counted raw.no_finally = none
  finally_counted (raw.finally b) = stmts_counted b

  cases_counted : (t : RawCases) → Same (cases_functions t) (cases_marks t)
  cases_counted raw.no_cases = none
  cases_counted (raw.more_cases t b cs) = joined (maybe_counted nobody t) (joined (stmts_counted b) (cases_counted cs))

all_same : (ts : List RawStmts) → Same (all_functions ts) (all_marks ts)
unfolding all_functions all_marks
all_same [] = none
all_same (t ∷ ts) = joined (stmts_counted t) (all_same ts)

pub all_counted : (ts : List RawStmts) → length (all_functions ts) ≡ functions (all_marks ts)
all_counted ts = (all_same ts).is
