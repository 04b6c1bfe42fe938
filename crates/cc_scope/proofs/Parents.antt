-- A function's parent has a lesser number, so no chain of parents comes back to its start.
use Rattle.std.proofs.Common.{◌≡◌, refl, sym, ap, ◌∙◌, arith, ◌<◌, ◌≤◌, inl, inr, false, Option, Some, None, is_some, ℕ, zero, suc, ◌+◌, List, [], ◌∷◌, ◌++◌, length}
use Rattle.cc_ast.specs.Syntax.{Scope}
use Rattle.cc_grammar.specs.RawTree.{Named, RawKey, RawExpr, RawTarget, RawExprs, MaybeExpr, RawFields, RawDeclarators, RawInit, RawForTarget, RawStmt, RawStmts, RawCatch, RawFinally, RawCases}
use Rattle.cc_grammar.specs.RawTree as raw
use Rattle.cc_scope.specs.Marks.{Mark, functions, Counters, next, past, expr_marks, target_marks, maybe_marks, init_marks, heading_marks, stmt_marks, stmts_marks, catch_marks, key_marks}
use Rattle.cc_scope.specs.Resolve.{Source, Outer, Frames, inner, behind, scope_of, expr_scopes, target_scopes, exprs_scopes, maybe_scopes, fields_scopes, vars_scopes, init_scopes, heading_scopes, stmt_scopes, stmts_scopes, catch_scopes, finally_scopes, cases_scopes, chunk_scopes, inner_scopes, outer_of, begin, program_of, chunk_scope}
use Rattle.cc_scope.proofs.Whole.{length_chunks}
use Rattle.cc_scope.proofs.Tables.{split_at}
use Rattle.cc_meaning.specs.WellMade.{Encloses, directly, further}
use Rattle.std.specs.Prelude.{slice_get}
use Rattle.cc_scope.specs.Lists.{or_zero}
use Rattle.cc_scope.proofs.Counts.{expr_counts, target_counts, maybe_counts, init_counts, heading_counts, stmt_counts, stmts_counts, catch_counts}

abbrev Below : ℕ → List Scope → Type 0
Below k V = (i g : ℕ) (z : Scope) → slice_get V i ≡ Some z → z.parent ≡ Some g → g < k + i

empty : (k : ℕ) → Below k []
empty k i g z e d = absurd (cc)

same_number : {x y : ℕ} → Some x ≡ Some y → x ≡ y
unfolding or_zero
same_number e = ap or_zero e

scope_or : Scope → Option Scope → Scope
scope_or z None = z
scope_or z (Some y) = y

same_scope : {x y : Scope} → Some x ≡ Some y → x ≡ y
unfolding scope_or
same_scope {x} e = ap (scope_or x) e

join : (k : ℕ) (V U : List Scope) (ms : List Mark) → length V ≡ functions ms → Below k V → Below (k + functions ms) U → Below k (V ++ U)
join k V U ms c h j i g z e d = elim (split_at V U i z e) [ inl a ↦ h i g z a d | inr b ↦ (let l = j b.0 g z b.1 d in omega (arith, b.2)) ]

first_below : (k f : ℕ) (y : Scope) (V : List Scope) → y.parent ≡ Some f → f < k → Below (suc k) V → Below k (y ∷ V)
first_below k f y V p l h zero g z e d = let a : f ≡ g = same_number (sym p ∙ ap (λ x. x.parent) (same_scope e) ∙ d) in omega arith
first_below k f y V p l h (suc i) g z e d = let b = h i g z e d in omega arith

no_functions : (k : RawKey) → functions (key_marks k) ≡ 0
unfolding functions key_marks
no_functions (raw.dotted x) = refl
no_functions (raw.quoted t) = refl
no_functions (raw.numbered z) = refl

at_key : (k : ℕ) (y : RawKey) (V : List Scope) → Below (k + functions (key_marks y)) V → Below k V
at_key k y V h i g z e d = let b = h i g z e d in let c = no_functions y in omega arith

mutual
  unfolding expr_marks expr_scopes scope_of functions

  pub expr_below : (W : Outer) (E : Frames) (f : ℕ) (n : Counters) (t : RawExpr) → f < n.function → Below n.function (expr_scopes W E f n t)
  expr_below W E f n (raw.lit q x) h = empty n.function
  expr_below W E f n (raw.var q m) h = empty n.function
  expr_below W E f n (raw.this q) h = empty n.function
  expr_below W E f n (raw.fun q own ps b) h = first_below n.function f (scope_of W (inner own ps b E) f n (is_some own) ps b q) (stmts_scopes W (inner own ps b E) n.function (behind n) b) refl h (stmts_below W (inner own ps b E) n.function (behind n) b (omega arith))
  expr_below W E f n (raw.list q es) h = exprs_below W E f (next n) es (omega arith)
  expr_below W E f n (raw.object q fs) h = fields_below W E f (next n) fs (omega arith)
  expr_below W E f n (raw.unary q op e) h = expr_below W E f (next n) e (omega arith)
  expr_below W E f n (raw.binary q op a b) h = join ((next n).function) (expr_scopes W E f (next n) a) (expr_scopes W E f (past (next n) (expr_marks a)) b) (expr_marks a) (expr_counts W E f (next n) a) (expr_below W E f (next n) a (omega arith)) (expr_below W E f (past (next n) (expr_marks a)) b (omega arith))
  expr_below W E f n (raw.and q a b) h = join ((next n).function) (expr_scopes W E f (next n) a) (expr_scopes W E f (past (next n) (expr_marks a)) b) (expr_marks a) (expr_counts W E f (next n) a) (expr_below W E f (next n) a (omega arith)) (expr_below W E f (past (next n) (expr_marks a)) b (omega arith))
  expr_below W E f n (raw.or q a b) h = join ((next n).function) (expr_scopes W E f (next n) a) (expr_scopes W E f (past (next n) (expr_marks a)) b) (expr_marks a) (expr_counts W E f (next n) a) (expr_below W E f (next n) a (omega arith)) (expr_below W E f (past (next n) (expr_marks a)) b (omega arith))
  expr_below W E f n (raw.cond q t a b) h = join ((next n).function) (expr_scopes W E f (next n) t) (expr_scopes W E f (past (next n) (expr_marks t)) a ++ (expr_scopes W E f (past (past (next n) (expr_marks t)) (expr_marks a)) b)) (expr_marks t) (expr_counts W E f (next n) t) (expr_below W E f (next n) t (omega arith)) (join ((past (next n) (expr_marks t)).function) (expr_scopes W E f (past (next n) (expr_marks t)) a) (expr_scopes W E f (past (past (next n) (expr_marks t)) (expr_marks a)) b) (expr_marks a) (expr_counts W E f (past (next n) (expr_marks t)) a) (expr_below W E f (past (next n) (expr_marks t)) a (omega arith)) (expr_below W E f (past (past (next n) (expr_marks t)) (expr_marks a)) b (omega arith)))
  expr_below W E f n (raw.assign q op t e) h = join ((next n).function) (target_scopes W E f (next n) t) (expr_scopes W E f (past (next n) (target_marks t)) e) (target_marks t) (target_counts W E f (next n) t) (target_below W E f (next n) t (omega arith)) (expr_below W E f (past (next n) (target_marks t)) e (omega arith))
  expr_below W E f n (raw.step q up before t) h = target_below W E f (next n) t (omega arith)
  expr_below W E f n (raw.member q e r m) h = expr_below W E f (next n) e (omega arith)
  expr_below W E f n (raw.index q e k) h = join ((next n).function) (expr_scopes W E f (next n) e) (expr_scopes W E f (past (next n) (expr_marks e)) k) (expr_marks e) (expr_counts W E f (next n) e) (expr_below W E f (next n) e (omega arith)) (expr_below W E f (past (next n) (expr_marks e)) k (omega arith))
  expr_below W E f n (raw.call q c es) h = join ((next n).function) (expr_scopes W E f (next n) c) (exprs_scopes W E f (past (next n) (expr_marks c)) es) (expr_marks c) (expr_counts W E f (next n) c) (expr_below W E f (next n) c (omega arith)) (exprs_below W E f (past (next n) (expr_marks c)) es (omega arith))
  expr_below W E f n (raw.new q c es) h = join ((next n).function) (expr_scopes W E f (next n) c) (exprs_scopes W E f (past (next n) (expr_marks c)) es) (expr_marks c) (expr_counts W E f (next n) c) (expr_below W E f (next n) c (omega arith)) (exprs_below W E f (past (next n) (expr_marks c)) es (omega arith))
  expr_below W E f n (raw.comma q a b) h = join ((next n).function) (expr_scopes W E f (next n) a) (expr_scopes W E f (past (next n) (expr_marks a)) b) (expr_marks a) (expr_counts W E f (next n) a) (expr_below W E f (next n) a (omega arith)) (expr_below W E f (past (next n) (expr_marks a)) b (omega arith))
  expr_below W E f n (raw.cast q e) h = expr_below W E f (next n) e (omega arith)

  pub target_below : (W : Outer) (E : Frames) (f : ℕ) (n : Counters) (t : RawTarget) → f < n.function → Below n.function (target_scopes W E f n t)
  target_below W E f n (raw.to_var q m) h = empty n.function
  target_below W E f n (raw.to_member q e r m) h = expr_below W E f (next n) e (omega arith)
  target_below W E f n (raw.to_index q e k) h = join ((next n).function) (expr_scopes W E f (next n) e) (expr_scopes W E f (past (next n) (expr_marks e)) k) (expr_marks e) (expr_counts W E f (next n) e) (expr_below W E f (next n) e (omega arith)) (expr_below W E f (past (next n) (expr_marks e)) k (omega arith))

  pub exprs_below : (W : Outer) (E : Frames) (f : ℕ) (n : Counters) (t : RawExprs) → f < n.function → Below n.function (exprs_scopes W E f n t)
  exprs_below W E f n raw.no_exprs h = empty n.function
  exprs_below W E f n (raw.more_exprs e es) h = join (n.function) (expr_scopes W E f n e) (exprs_scopes W E f (past n (expr_marks e)) es) (expr_marks e) (expr_counts W E f n e) (expr_below W E f n e (omega arith)) (exprs_below W E f (past n (expr_marks e)) es (omega arith))

  pub maybe_below : (W : Outer) (E : Frames) (f : ℕ) (n : Counters) (t : MaybeExpr) → f < n.function → Below n.function (maybe_scopes W E f n t)
  maybe_below W E f n raw.no_expr h = empty n.function
  maybe_below W E f n (raw.one_expr e) h = expr_below W E f n e (omega arith)

  pub fields_below : (W : Outer) (E : Frames) (f : ℕ) (n : Counters) (t : RawFields) → f < n.function → Below n.function (fields_scopes W E f n t)
  fields_below W E f n raw.no_fields h = empty n.function
  fields_below W E f n (raw.more_fields q k e fs) h = at_key n.function k _ (join ((past n (key_marks k)).function) (expr_scopes W E f (past n (key_marks k)) e) (fields_scopes W E f (past (past n (key_marks k)) (expr_marks e)) fs) (expr_marks e) (expr_counts W E f (past n (key_marks k)) e) (expr_below W E f (past n (key_marks k)) e (omega arith)) (fields_below W E f (past (past n (key_marks k)) (expr_marks e)) fs (omega arith)))

  pub vars_below : (W : Outer) (E : Frames) (f : ℕ) (n : Counters) (t : RawDeclarators) → f < n.function → Below n.function (vars_scopes W E f n t)
  vars_below W E f n raw.no_declarators h = empty n.function
  vars_below W E f n (raw.more_declarators v e ds) h = join ((next n).function) (maybe_scopes W E f (next n) e) (vars_scopes W E f (past (next n) (maybe_marks e)) ds) (maybe_marks e) (maybe_counts W E f (next n) e) (maybe_below W E f (next n) e (omega arith)) (vars_below W E f (past (next n) (maybe_marks e)) ds (omega arith))

  pub init_below : (W : Outer) (E : Frames) (f : ℕ) (n : Counters) (t : RawInit) → f < n.function → Below n.function (init_scopes W E f n t)
  init_below W E f n raw.no_init h = empty n.function
  init_below W E f n (raw.init_value e) h = expr_below W E f n e (omega arith)
  init_below W E f n (raw.init_vars ds) h = vars_below W E f n ds (omega arith)

  pub heading_below : (W : Outer) (E : Frames) (f : ℕ) (n : Counters) (t : RawForTarget) → f < n.function → Below n.function (heading_scopes W E f n t)
  heading_below W E f n (raw.in_target t) h = target_below W E f n t (omega arith)
  heading_below W E f n (raw.in_declared v e) h = maybe_below W E f (next n) e (omega arith)

  pub stmt_below : (W : Outer) (E : Frames) (f : ℕ) (n : Counters) (t : RawStmt) → f < n.function → Below n.function (stmt_scopes W E f n t)
  stmt_below W E f n (raw.simple q e) h = expr_below W E f (next n) e (omega arith)
  stmt_below W E f n (raw.vars q ds) h = vars_below W E f (next n) ds (omega arith)
  stmt_below W E f n (raw.fun_decl q v ps b) h = first_below n.function f (scope_of W (inner None ps b E) f n false ps b q) (stmts_scopes W (inner None ps b E) n.function (behind n) b) refl h (stmts_below W (inner None ps b E) n.function (behind n) b (omega arith))
  stmt_below W E f n (raw.if q t a b) h = join ((next n).function) (expr_scopes W E f (next n) t) (stmts_scopes W E f (past (next n) (expr_marks t)) a ++ (stmts_scopes W E f (past (past (next n) (expr_marks t)) (stmts_marks a)) b)) (expr_marks t) (expr_counts W E f (next n) t) (expr_below W E f (next n) t (omega arith)) (join ((past (next n) (expr_marks t)).function) (stmts_scopes W E f (past (next n) (expr_marks t)) a) (stmts_scopes W E f (past (past (next n) (expr_marks t)) (stmts_marks a)) b) (stmts_marks a) (stmts_counts W E f (past (next n) (expr_marks t)) a) (stmts_below W E f (past (next n) (expr_marks t)) a (omega arith)) (stmts_below W E f (past (past (next n) (expr_marks t)) (stmts_marks a)) b (omega arith)))
  stmt_below W E f n (raw.while q t b) h = join ((next n).function) (expr_scopes W E f (next n) t) (stmts_scopes W E f (past (next n) (expr_marks t)) b) (expr_marks t) (expr_counts W E f (next n) t) (expr_below W E f (next n) t (omega arith)) (stmts_below W E f (past (next n) (expr_marks t)) b (omega arith))
  stmt_below W E f n (raw.do_while q b t) h = join ((next n).function) (stmts_scopes W E f (next n) b) (expr_scopes W E f (past (next n) (stmts_marks b)) t) (stmts_marks b) (stmts_counts W E f (next n) b) (stmts_below W E f (next n) b (omega arith)) (expr_below W E f (past (next n) (stmts_marks b)) t (omega arith))
  stmt_below W E f n (raw.for q hd t e b) h = join ((next n).function) (init_scopes W E f (next n) hd) (maybe_scopes W E f (past (next n) (init_marks hd)) t ++ (maybe_scopes W E f (past (past (next n) (init_marks hd)) (maybe_marks t)) e ++ (stmts_scopes W E f (past (past (past (next n) (init_marks hd)) (maybe_marks t)) (maybe_marks e)) b))) (init_marks hd) (init_counts W E f (next n) hd) (init_below W E f (next n) hd (omega arith)) (join ((past (next n) (init_marks hd)).function) (maybe_scopes W E f (past (next n) (init_marks hd)) t) (maybe_scopes W E f (past (past (next n) (init_marks hd)) (maybe_marks t)) e ++ (stmts_scopes W E f (past (past (past (next n) (init_marks hd)) (maybe_marks t)) (maybe_marks e)) b)) (maybe_marks t) (maybe_counts W E f (past (next n) (init_marks hd)) t) (maybe_below W E f (past (next n) (init_marks hd)) t (omega arith)) (join ((past (past (next n) (init_marks hd)) (maybe_marks t)).function) (maybe_scopes W E f (past (past (next n) (init_marks hd)) (maybe_marks t)) e) (stmts_scopes W E f (past (past (past (next n) (init_marks hd)) (maybe_marks t)) (maybe_marks e)) b) (maybe_marks e) (maybe_counts W E f (past (past (next n) (init_marks hd)) (maybe_marks t)) e) (maybe_below W E f (past (past (next n) (init_marks hd)) (maybe_marks t)) e (omega arith)) (stmts_below W E f (past (past (past (next n) (init_marks hd)) (maybe_marks t)) (maybe_marks e)) b (omega arith))))
  stmt_below W E f n (raw.for_in q t e b) h = join ((next n).function) (heading_scopes W E f (next n) t) (expr_scopes W E f (past (next n) (heading_marks t)) e ++ (stmts_scopes W E f (past (past (next n) (heading_marks t)) (expr_marks e)) b)) (heading_marks t) (heading_counts W E f (next n) t) (heading_below W E f (next n) t (omega arith)) (join ((past (next n) (heading_marks t)).function) (expr_scopes W E f (past (next n) (heading_marks t)) e) (stmts_scopes W E f (past (past (next n) (heading_marks t)) (expr_marks e)) b) (expr_marks e) (expr_counts W E f (past (next n) (heading_marks t)) e) (expr_below W E f (past (next n) (heading_marks t)) e (omega arith)) (stmts_below W E f (past (past (next n) (heading_marks t)) (expr_marks e)) b (omega arith)))
  stmt_below W E f n (raw.return q e) h = maybe_below W E f (next n) e (omega arith)
  stmt_below W E f n (raw.throw q e) h = expr_below W E f (next n) e (omega arith)
  stmt_below W E f n (raw.break q l) h = empty n.function
  stmt_below W E f n (raw.continue q l) h = empty n.function
  stmt_below W E f n (raw.label q l b) h = stmts_below W E f (next n) b (omega arith)
  stmt_below W E f n (raw.switch q e cs) h = join ((next n).function) (expr_scopes W E f (next n) e) (cases_scopes W E f (past (next n) (expr_marks e)) cs) (expr_marks e) (expr_counts W E f (next n) e) (expr_below W E f (next n) e (omega arith)) (cases_below W E f (past (next n) (expr_marks e)) cs (omega arith))
  stmt_below W E f n (raw.try q b k g) h = join ((next n).function) (stmts_scopes W E f (next n) b) (catch_scopes W E f (past (next n) (stmts_marks b)) k ++ (finally_scopes W E f (past (past (next n) (stmts_marks b)) (catch_marks k)) g)) (stmts_marks b) (stmts_counts W E f (next n) b) (stmts_below W E f (next n) b (omega arith)) (join ((past (next n) (stmts_marks b)).function) (catch_scopes W E f (past (next n) (stmts_marks b)) k) (finally_scopes W E f (past (past (next n) (stmts_marks b)) (catch_marks k)) g) (catch_marks k) (catch_counts W E f (past (next n) (stmts_marks b)) k) (catch_below W E f (past (next n) (stmts_marks b)) k (omega arith)) (finally_below W E f (past (past (next n) (stmts_marks b)) (catch_marks k)) g (omega arith)))

  pub stmts_below : (W : Outer) (E : Frames) (f : ℕ) (n : Counters) (t : RawStmts) → f < n.function → Below n.function (stmts_scopes W E f n t)
  stmts_below W E f n raw.no_stmts h = empty n.function
  stmts_below W E f n (raw.more_stmts s ss) h = join (n.function) (stmt_scopes W E f n s) (stmts_scopes W E f (past n (stmt_marks s)) ss) (stmt_marks s) (stmt_counts W E f n s) (stmt_below W E f n s (omega arith)) (stmts_below W E f (past n (stmt_marks s)) ss (omega arith))

  pub catch_below : (W : Outer) (E : Frames) (f : ℕ) (n : Counters) (t : RawCatch) → f < n.function → Below n.function (catch_scopes W E f n t)
  catch_below W E f n raw.no_catch h = empty n.function
  catch_below W E f n (raw.caught v b) h = stmts_below W ((v.name ∷ []) ∷ E) f n b (omega arith)

  pub finally_below : (W : Outer) (E : Frames) (f : ℕ) (n : Counters) (t : RawFinally) → f < n.function → Below n.function (finally_scopes W E f n t)
  finally_below W E f n raw.no_finally h = empty n.function
  finally_below W E f n (raw.finally b) h = stmts_below W E f n b (omega arith)

  pub cases_below : (W : Outer) (E : Frames) (f : ℕ) (n : Counters) (t : RawCases) → f < n.function → Below n.function (cases_scopes W E f n t)
  cases_below W E f n raw.no_cases h = empty n.function
  cases_below W E f n (raw.more_cases t b cs) h = join (n.function) (maybe_scopes W E f n t) (stmts_scopes W E f (past n (maybe_marks t)) b ++ (cases_scopes W E f (past (past n (maybe_marks t)) (stmts_marks b)) cs)) (maybe_marks t) (maybe_counts W E f n t) (maybe_below W E f n t (omega arith)) (join ((past n (maybe_marks t)).function) (stmts_scopes W E f (past n (maybe_marks t)) b) (cases_scopes W E f (past (past n (maybe_marks t)) (stmts_marks b)) cs) (stmts_marks b) (stmts_counts W E f (past n (maybe_marks t)) b) (stmts_below W E f (past n (maybe_marks t)) b (omega arith)) (cases_below W E f (past (past n (maybe_marks t)) (stmts_marks b)) cs (omega arith)))

inner_below : (W : Outer) (c : ℕ) (n : Counters) (ts : List RawStmts) → c + length ts ≤ n.function → Below n.function (inner_scopes W c n ts)
unfolding inner_scopes
inner_below W c n [] h = empty n.function
inner_below W c n (t ∷ ts) h = join n.function (stmts_scopes W [] c n t) (inner_scopes W (suc c) (past n (stmts_marks t)) ts) (stmts_marks t) (stmts_counts W [] c n t) (stmts_below W [] c n t (omega arith)) (inner_below W (suc c) (past n (stmts_marks t)) ts (omega arith))

chunks_below : (W : Outer) (n : Counters) (ts : List RawStmts) (k : ℕ) → Below k (chunk_scopes W n ts)
unfolding chunk_scopes chunk_scope
chunks_below W n [] k i g z e d = absurd (cc)
chunks_below W n (t ∷ ts) k zero g z e d = absurd (let a : None ≡ Some g = ap (λ x. x.parent) (same_scope e) ∙ d in cc)
chunks_below W n (t ∷ ts) k (suc i) g z e d = let b = chunks_below W (past n (stmts_marks t)) ts k i g z e d in omega arith

pub lesser_parent : (S : Source) (i g : ℕ) (z : Scope) → slice_get (program_of S).scopes i ≡ Some z → z.parent ≡ Some g → g < i
unfolding program_of begin
lesser_parent S i g z e d = elim (split_at (chunk_scopes (outer_of S) (begin S) S.trees) (inner_scopes (outer_of S) 0 (begin S) S.trees) i z e) [
  | inl a ↦ (let h = chunks_below (outer_of S) (begin S) S.trees 0 i g z a d in omega arith)
  | inr b ↦ (let h = inner_below (outer_of S) 0 (begin S) S.trees (omega arith) b.0 g z b.1 d in let c = length_chunks (outer_of S) (begin S) S.trees in omega (arith, b.2))
]

lesser : (S : Source) (f g : ℕ) → Encloses (program_of S) f g → g < f
lesser S f g (directly _ _ s e d) = lesser_parent S f g s e d
lesser S f g (further _ h _ a b) = let p = lesser S f h a in let q = lesser S h g b in omega arith

-- no chain of parents comes back to its start
pub no_loop : (S : Source) (f : ℕ) → Encloses (program_of S) f f → ⊥
no_loop S f h = let p = lesser S f f h in omega arith
