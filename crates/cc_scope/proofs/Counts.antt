-- How many scopes a tree has, and where refusals come.
use Rattle.std.proofs.Common.{◌≡◌, refl, sym, ap, ◌∙◌, arith, ◌↔◌, None, ℕ, suc, ◌+◌, List, [], ◌∷◌, ◌++◌, length, length-append}
use Rattle.cc_ast.specs.Syntax.{Scope, Program}
use Rattle.cc_grammar.specs.RawTree.{Named, RawKey, RawExpr, RawTarget, RawExprs, MaybeExpr, RawFields, RawDeclarators, RawInit, RawForTarget, RawStmt, RawStmts, RawCatch, RawFinally, RawCases}
use Rattle.cc_grammar.specs.RawTree as raw
use Rattle.cc_scope.specs.Lists.{Name}
use Rattle.cc_scope.specs.Marks.{Mark, a_site, a_name, a_function, functions, sites, places, Counters, next, past, expr_marks, target_marks, exprs_marks, maybe_marks, fields_marks, vars_marks, init_marks, heading_marks, stmt_marks, stmts_marks, catch_marks, finally_marks, cases_marks, key_marks}
use Rattle.cc_scope.specs.Resolve.{Source, Outer, Frames, inner, behind, expr_scopes, target_scopes, exprs_scopes, maybe_scopes, fields_scopes, vars_scopes, init_scopes, heading_scopes, stmt_scopes, stmts_scopes, catch_scopes, finally_scopes, cases_scopes, all_marks, chunk_scopes, inner_scopes, outer_of, begin, program_of}
use Rattle.cc_scope.specs.Refusals.{Refusal, Answer, answered, refused, refusals_of, answer_by, resolve}
use Rattle.cc_scope.proofs.Law.{functions_append}
use Rattle.cc_scope.proofs.Whole.{length_chunks}

two : (V U : List Scope) (ms ns : List Mark) → length V ≡ functions ms → length U ≡ functions ns → length (V ++ U) ≡ functions (ms ++ ns)
two V U ms ns e d = length-append V U ∙ ap (λ i. i + length U) e ∙ ap (λ i. functions ms + i) d ∙ sym (functions_append ms ns)

last : (V : List Scope) (ms : List Mark) (x : Name) → length V ≡ functions ms → length V ≡ functions (ms ++ a_name x ∷ [])
unfolding functions
last V ms x e = e ∙ (let d = functions_append ms (a_name x ∷ []) in omega arith)

keyed : (V : List Scope) (ms : List Mark) (k : RawKey) → length V ≡ functions ms → length V ≡ functions (key_marks k ++ ms)
unfolding key_marks functions
keyed V ms (raw.dotted x) e = e
keyed V ms (raw.quoted t) e = e
keyed V ms (raw.numbered z) e = e

mutual
  unfolding expr_marks expr_scopes functions

  pub expr_counts : (W : Outer) (E : Frames) (f : ℕ) (n : Counters) (t : RawExpr) → length (expr_scopes W E f n t) ≡ functions (expr_marks t)
  expr_counts W E f n (raw.lit q x) = refl
  expr_counts W E f n (raw.var q m) = refl
  expr_counts W E f n (raw.this q) = refl
  expr_counts W E f n (raw.fun q own ps b) = ap suc (stmts_counts W (inner own ps b E) n.function (behind n) b)
  expr_counts W E f n (raw.list q es) = exprs_counts W E f (next n) es
  expr_counts W E f n (raw.object q fs) = fields_counts W E f (next n) fs
  expr_counts W E f n (raw.unary q op e) = expr_counts W E f (next n) e
  expr_counts W E f n (raw.binary q op a b) = two (expr_scopes W E f (next n) a) (expr_scopes W E f (past (next n) (expr_marks a)) b) (expr_marks a) (expr_marks b) (expr_counts W E f (next n) a) (expr_counts W E f (past (next n) (expr_marks a)) b)
  expr_counts W E f n (raw.and q a b) = two (expr_scopes W E f (next n) a) (expr_scopes W E f (past (next n) (expr_marks a)) b) (expr_marks a) (expr_marks b) (expr_counts W E f (next n) a) (expr_counts W E f (past (next n) (expr_marks a)) b)
  expr_counts W E f n (raw.or q a b) = two (expr_scopes W E f (next n) a) (expr_scopes W E f (past (next n) (expr_marks a)) b) (expr_marks a) (expr_marks b) (expr_counts W E f (next n) a) (expr_counts W E f (past (next n) (expr_marks a)) b)
  expr_counts W E f n (raw.cond q t a b) = two (expr_scopes W E f (next n) t) (expr_scopes W E f (past (next n) (expr_marks t)) a ++ (expr_scopes W E f (past (past (next n) (expr_marks t)) (expr_marks a)) b)) (expr_marks t) (expr_marks a ++ (expr_marks b)) (expr_counts W E f (next n) t) (two (expr_scopes W E f (past (next n) (expr_marks t)) a) (expr_scopes W E f (past (past (next n) (expr_marks t)) (expr_marks a)) b) (expr_marks a) (expr_marks b) (expr_counts W E f (past (next n) (expr_marks t)) a) (expr_counts W E f (past (past (next n) (expr_marks t)) (expr_marks a)) b))
  expr_counts W E f n (raw.assign q op t e) = two (target_scopes W E f (next n) t) (expr_scopes W E f (past (next n) (target_marks t)) e) (target_marks t) (expr_marks e) (target_counts W E f (next n) t) (expr_counts W E f (past (next n) (target_marks t)) e)
  expr_counts W E f n (raw.step q up before t) = target_counts W E f (next n) t
  expr_counts W E f n (raw.member q e r m) = last (expr_scopes W E f (next n) e) (expr_marks e) m (expr_counts W E f (next n) e)
  expr_counts W E f n (raw.index q e k) = two (expr_scopes W E f (next n) e) (expr_scopes W E f (past (next n) (expr_marks e)) k) (expr_marks e) (expr_marks k) (expr_counts W E f (next n) e) (expr_counts W E f (past (next n) (expr_marks e)) k)
  expr_counts W E f n (raw.call q c es) = two (expr_scopes W E f (next n) c) (exprs_scopes W E f (past (next n) (expr_marks c)) es) (expr_marks c) (exprs_marks es) (expr_counts W E f (next n) c) (exprs_counts W E f (past (next n) (expr_marks c)) es)
  expr_counts W E f n (raw.new q c es) = two (expr_scopes W E f (next n) c) (exprs_scopes W E f (past (next n) (expr_marks c)) es) (expr_marks c) (exprs_marks es) (expr_counts W E f (next n) c) (exprs_counts W E f (past (next n) (expr_marks c)) es)
  expr_counts W E f n (raw.comma q a b) = two (expr_scopes W E f (next n) a) (expr_scopes W E f (past (next n) (expr_marks a)) b) (expr_marks a) (expr_marks b) (expr_counts W E f (next n) a) (expr_counts W E f (past (next n) (expr_marks a)) b)
  expr_counts W E f n (raw.cast q e) = expr_counts W E f (next n) e

  pub target_counts : (W : Outer) (E : Frames) (f : ℕ) (n : Counters) (t : RawTarget) → length (target_scopes W E f n t) ≡ functions (target_marks t)
  target_counts W E f n (raw.to_var q m) = refl
  target_counts W E f n (raw.to_member q e r m) = last (expr_scopes W E f (next n) e) (expr_marks e) m (expr_counts W E f (next n) e)
  target_counts W E f n (raw.to_index q e k) = two (expr_scopes W E f (next n) e) (expr_scopes W E f (past (next n) (expr_marks e)) k) (expr_marks e) (expr_marks k) (expr_counts W E f (next n) e) (expr_counts W E f (past (next n) (expr_marks e)) k)

  pub exprs_counts : (W : Outer) (E : Frames) (f : ℕ) (n : Counters) (t : RawExprs) → length (exprs_scopes W E f n t) ≡ functions (exprs_marks t)
  exprs_counts W E f n raw.no_exprs = refl
  exprs_counts W E f n (raw.more_exprs e es) = two (expr_scopes W E f n e) (exprs_scopes W E f (past n (expr_marks e)) es) (expr_marks e) (exprs_marks es) (expr_counts W E f n e) (exprs_counts W E f (past n (expr_marks e)) es)

  pub maybe_counts : (W : Outer) (E : Frames) (f : ℕ) (n : Counters) (t : MaybeExpr) → length (maybe_scopes W E f n t) ≡ functions (maybe_marks t)
  maybe_counts W E f n raw.no_expr = refl
  maybe_counts W E f n (raw.one_expr e) = expr_counts W E f n e

  pub fields_counts : (W : Outer) (E : Frames) (f : ℕ) (n : Counters) (t : RawFields) → length (fields_scopes W E f n t) ≡ functions (fields_marks t)
  fields_counts W E f n raw.no_fields = refl
  fields_counts W E f n (raw.more_fields q k e fs) = keyed (expr_scopes W E f (past n (key_marks k)) e ++ (fields_scopes W E f (past (past n (key_marks k)) (expr_marks e)) fs)) (expr_marks e ++ (fields_marks fs)) k (two (expr_scopes W E f (past n (key_marks k)) e) (fields_scopes W E f (past (past n (key_marks k)) (expr_marks e)) fs) (expr_marks e) (fields_marks fs) (expr_counts W E f (past n (key_marks k)) e) (fields_counts W E f (past (past n (key_marks k)) (expr_marks e)) fs))

  pub vars_counts : (W : Outer) (E : Frames) (f : ℕ) (n : Counters) (t : RawDeclarators) → length (vars_scopes W E f n t) ≡ functions (vars_marks t)
  vars_counts W E f n raw.no_declarators = refl
  vars_counts W E f n (raw.more_declarators v e ds) = two (maybe_scopes W E f (next n) e) (vars_scopes W E f (past (next n) (maybe_marks e)) ds) (maybe_marks e) (vars_marks ds) (maybe_counts W E f (next n) e) (vars_counts W E f (past (next n) (maybe_marks e)) ds)

  pub init_counts : (W : Outer) (E : Frames) (f : ℕ) (n : Counters) (t : RawInit) → length (init_scopes W E f n t) ≡ functions (init_marks t)
  init_counts W E f n raw.no_init = refl
  init_counts W E f n (raw.init_value e) = expr_counts W E f n e
  init_counts W E f n (raw.init_vars ds) = vars_counts W E f n ds

  pub heading_counts : (W : Outer) (E : Frames) (f : ℕ) (n : Counters) (t : RawForTarget) → length (heading_scopes W E f n t) ≡ functions (heading_marks t)
  heading_counts W E f n (raw.in_target t) = target_counts W E f n t
  heading_counts W E f n (raw.in_declared v e) = maybe_counts W E f (next n) e

  pub stmt_counts : (W : Outer) (E : Frames) (f : ℕ) (n : Counters) (t : RawStmt) → length (stmt_scopes W E f n t) ≡ functions (stmt_marks t)
  stmt_counts W E f n (raw.simple q e) = expr_counts W E f (next n) e
  stmt_counts W E f n (raw.vars q ds) = vars_counts W E f (next n) ds
  stmt_counts W E f n (raw.fun_decl q v ps b) = ap suc (stmts_counts W (inner None ps b E) n.function (behind n) b)
  stmt_counts W E f n (raw.if q t a b) = two (expr_scopes W E f (next n) t) (stmts_scopes W E f (past (next n) (expr_marks t)) a ++ (stmts_scopes W E f (past (past (next n) (expr_marks t)) (stmts_marks a)) b)) (expr_marks t) (stmts_marks a ++ (stmts_marks b)) (expr_counts W E f (next n) t) (two (stmts_scopes W E f (past (next n) (expr_marks t)) a) (stmts_scopes W E f (past (past (next n) (expr_marks t)) (stmts_marks a)) b) (stmts_marks a) (stmts_marks b) (stmts_counts W E f (past (next n) (expr_marks t)) a) (stmts_counts W E f (past (past (next n) (expr_marks t)) (stmts_marks a)) b))
  stmt_counts W E f n (raw.while q t b) = two (expr_scopes W E f (next n) t) (stmts_scopes W E f (past (next n) (expr_marks t)) b) (expr_marks t) (stmts_marks b) (expr_counts W E f (next n) t) (stmts_counts W E f (past (next n) (expr_marks t)) b)
  stmt_counts W E f n (raw.do_while q b t) = two (stmts_scopes W E f (next n) b) (expr_scopes W E f (past (next n) (stmts_marks b)) t) (stmts_marks b) (expr_marks t) (stmts_counts W E f (next n) b) (expr_counts W E f (past (next n) (stmts_marks b)) t)
  stmt_counts W E f n (raw.for q h t e b) = two (init_scopes W E f (next n) h) (maybe_scopes W E f (past (next n) (init_marks h)) t ++ (maybe_scopes W E f (past (past (next n) (init_marks h)) (maybe_marks t)) e ++ (stmts_scopes W E f (past (past (past (next n) (init_marks h)) (maybe_marks t)) (maybe_marks e)) b))) (init_marks h) (maybe_marks t ++ (maybe_marks e ++ (stmts_marks b))) (init_counts W E f (next n) h) (two (maybe_scopes W E f (past (next n) (init_marks h)) t) (maybe_scopes W E f (past (past (next n) (init_marks h)) (maybe_marks t)) e ++ (stmts_scopes W E f (past (past (past (next n) (init_marks h)) (maybe_marks t)) (maybe_marks e)) b)) (maybe_marks t) (maybe_marks e ++ (stmts_marks b)) (maybe_counts W E f (past (next n) (init_marks h)) t) (two (maybe_scopes W E f (past (past (next n) (init_marks h)) (maybe_marks t)) e) (stmts_scopes W E f (past (past (past (next n) (init_marks h)) (maybe_marks t)) (maybe_marks e)) b) (maybe_marks e) (stmts_marks b) (maybe_counts W E f (past (past (next n) (init_marks h)) (maybe_marks t)) e) (stmts_counts W E f (past (past (past (next n) (init_marks h)) (maybe_marks t)) (maybe_marks e)) b)))
  stmt_counts W E f n (raw.for_in q t e b) = two (heading_scopes W E f (next n) t) (expr_scopes W E f (past (next n) (heading_marks t)) e ++ (stmts_scopes W E f (past (past (next n) (heading_marks t)) (expr_marks e)) b)) (heading_marks t) (expr_marks e ++ (stmts_marks b)) (heading_counts W E f (next n) t) (two (expr_scopes W E f (past (next n) (heading_marks t)) e) (stmts_scopes W E f (past (past (next n) (heading_marks t)) (expr_marks e)) b) (expr_marks e) (stmts_marks b) (expr_counts W E f (past (next n) (heading_marks t)) e) (stmts_counts W E f (past (past (next n) (heading_marks t)) (expr_marks e)) b))
  stmt_counts W E f n (raw.return q e) = maybe_counts W E f (next n) e
  stmt_counts W E f n (raw.throw q e) = expr_counts W E f (next n) e
  stmt_counts W E f n (raw.break q l) = refl
  stmt_counts W E f n (raw.continue q l) = refl
  stmt_counts W E f n (raw.label q l b) = stmts_counts W E f (next n) b
  stmt_counts W E f n (raw.switch q e cs) = two (expr_scopes W E f (next n) e) (cases_scopes W E f (past (next n) (expr_marks e)) cs) (expr_marks e) (cases_marks cs) (expr_counts W E f (next n) e) (cases_counts W E f (past (next n) (expr_marks e)) cs)
  stmt_counts W E f n (raw.try q b k g) = two (stmts_scopes W E f (next n) b) (catch_scopes W E f (past (next n) (stmts_marks b)) k ++ (finally_scopes W E f (past (past (next n) (stmts_marks b)) (catch_marks k)) g)) (stmts_marks b) (catch_marks k ++ (finally_marks g)) (stmts_counts W E f (next n) b) (two (catch_scopes W E f (past (next n) (stmts_marks b)) k) (finally_scopes W E f (past (past (next n) (stmts_marks b)) (catch_marks k)) g) (catch_marks k) (finally_marks g) (catch_counts W E f (past (next n) (stmts_marks b)) k) (finally_counts W E f (past (past (next n) (stmts_marks b)) (catch_marks k)) g))

  pub stmts_counts : (W : Outer) (E : Frames) (f : ℕ) (n : Counters) (t : RawStmts) → length (stmts_scopes W E f n t) ≡ functions (stmts_marks t)
  stmts_counts W E f n raw.no_stmts = refl
  stmts_counts W E f n (raw.more_stmts s ss) = two (stmt_scopes W E f n s) (stmts_scopes W E f (past n (stmt_marks s)) ss) (stmt_marks s) (stmts_marks ss) (stmt_counts W E f n s) (stmts_counts W E f (past n (stmt_marks s)) ss)

  pub catch_counts : (W : Outer) (E : Frames) (f : ℕ) (n : Counters) (t : RawCatch) → length (catch_scopes W E f n t) ≡ functions (catch_marks t)
  catch_counts W E f n raw.no_catch = refl
  catch_counts W E f n (raw.caught v b) = stmts_counts W ((v.name ∷ []) ∷ E) f n b

  pub finally_counts : (W : Outer) (E : Frames) (f : ℕ) (n : Counters) (t : RawFinally) → length (finally_scopes W E f n t) ≡ functions (finally_marks t)
  finally_counts W E f n raw.no_finally = refl
  finally_counts W E f n (raw.finally b) = stmts_counts W E f n b

  pub cases_counts : (W : Outer) (E : Frames) (f : ℕ) (n : Counters) (t : RawCases) → length (cases_scopes W E f n t) ≡ functions (cases_marks t)
  cases_counts W E f n raw.no_cases = refl
  cases_counts W E f n (raw.more_cases t b cs) = two (maybe_scopes W E f n t) (stmts_scopes W E f (past n (maybe_marks t)) b ++ (cases_scopes W E f (past (past n (maybe_marks t)) (stmts_marks b)) cs)) (maybe_marks t) (stmts_marks b ++ (cases_marks cs)) (maybe_counts W E f n t) (two (stmts_scopes W E f (past n (maybe_marks t)) b) (cases_scopes W E f (past (past n (maybe_marks t)) (stmts_marks b)) cs) (stmts_marks b) (cases_marks cs) (stmts_counts W E f (past n (maybe_marks t)) b) (cases_counts W E f (past (past n (maybe_marks t)) (stmts_marks b)) cs))

inner_counts : (W : Outer) (c : ℕ) (n : Counters) (ts : List RawStmts) → length (inner_scopes W c n ts) ≡ functions (all_marks ts)
unfolding inner_scopes all_marks functions
inner_counts W c n [] = refl
inner_counts W c n (t ∷ ts) = two (stmts_scopes W [] c n t) (inner_scopes W (suc c) (past n (stmts_marks t)) ts) (stmts_marks t) (all_marks ts) (stmts_counts W [] c n t) (inner_counts W (suc c) (past n (stmts_marks t)) ts)

-- one scope for each chunk and for each function
pub scopes_counted : (S : Source) → length (program_of S).scopes ≡ length S.trees + functions (all_marks S.trees)
unfolding program_of
scopes_counted S = length-append (chunk_scopes (outer_of S) (begin S) S.trees) (inner_scopes (outer_of S) 0 (begin S) S.trees) ∙ ap (λ i. i + length (inner_scopes (outer_of S) 0 (begin S) S.trees)) (length_chunks (outer_of S) (begin S) S.trees) ∙ ap (λ i. length S.trees + i) (inner_counts (outer_of S) 0 (begin S) S.trees)

length_places : (ms : List Mark) → length (places ms) ≡ sites ms
unfolding places sites
length_places [] = refl
length_places (a_site q ∷ ms) = ap suc (length_places ms)
length_places (a_name x ∷ ms) = length_places ms
length_places (a_function ∷ ms) = length_places ms

-- one place for each number of a site
pub places_counted : (S : Source) → length (program_of S).places ≡ sites (all_marks S.trees)
unfolding program_of
places_counted S = length_places (all_marks S.trees)

-- a program exactly where nothing is refused
pub exact : (S : Source) (Q : Program) → (resolve S ≡ answered Q) ↔ ((refusals_of S ≡ []) × (program_of S ≡ Q))
unfolding resolve answer_by
exact S Q = by (refusals_of S) where
  program : Answer → Program → Program
  program (answered P) D = P
  program (refused r) D = D

  by : (rs : List Refusal) → (answer_by (program_of S) rs ≡ answered Q) ↔ ((rs ≡ []) × (program_of S ≡ Q))
  by [] = (λ e. (refl, ap (λ a. program a Q) e), λ d. ap answered d.1)
  by (r ∷ rs) = (λ e. absurd (cc), λ d. absurd (let h = d.0 in cc))
