-- Resolution: from trees with names to a program (ECMA-262 5.1, 10.2 to 10.5, 12.2, 12.14 and 13). Each
-- call of a function, each catch clause and each own name of a function expression makes an environment
-- record, here a frame with its list of names; a name is the innermost variable that has it.
use Rattle.std.specs.Prelude.{ℕ, suc, ◌+◌, Bool, false, List, [], ◌∷◌, ◌++◌, length, map, Option, Some, None, is_some}
use Rattle.cc_ast.specs.declared.place.Place.{Place}
use Rattle.cc_ast.specs.declared.tree.Ref.{Ref}
use Rattle.cc_ast.specs.declared.tree.Key.{Key}
use Rattle.cc_ast.specs.declared.tables.ChunkInfo.{ChunkInfo}
use Rattle.cc_ast.specs.declared.tables.GlobalInfo.{GlobalInfo}
use Rattle.cc_ast.specs.declared.tables.PropInfo.{PropInfo}
use Rattle.cc_ast.specs.declared.tables.SiteDoc.{SiteDoc}
use Rattle.cc_ast.specs.declared.tables.FlatPath.{FlatPath}
use Rattle.cc_ast.specs.declared.tables.Class.{Class}
use Rattle.cc_ast.specs.Syntax.{Prim, Expr, Target, Exprs, Fields, Declarator, ForInit, ForTarget, Stmt, Stmts, MaybeStmts, Cases, Scope, Program}
use Rattle.cc_ast.specs.Syntax as p
use Rattle.cc_meaning.specs.Operators.{decimal, is_in}
use Rattle.cc_meaning.specs.Names.{builtin_globals, always_kept}
use Rattle.cc_grammar.specs.RawTree.{Named, RawKey, RawExpr, RawTarget, RawExprs, MaybeExpr, RawFields, RawDeclarators, RawInit, RawForTarget, RawStmt, RawStmts, RawCatch, RawFinally, RawCases}
use Rattle.cc_grammar.specs.RawTree as raw
use Rattle.cc_scope.specs.Lists.{Name, index_of, new_names, distinct, or_zero, or_else}
use Rattle.cc_meaning.specs.Monad.{pick}
use Rattle.cc_scope.specs.Marks.{Mark, Counters, next, past, expr_marks, target_marks, maybe_marks, init_marks, heading_marks, stmt_marks, stmts_marks, catch_marks, key_marks, stmts_declare, names, places}

-- ---- what a name means (10.2.2.1, 10.3.1)

-- The global environment (10.2.3): the names of the externs, of the chunks' globals and of the
-- properties, each list in the order of their numbers; and the numbers of the docs of the cast at a
-- place, and of a function.
pub record Outer : Type 0 where
  pub externs : List Name
  pub globals : List Name
  pub props : List Name
  pub doc_at : Place → ℕ
  pub function_doc : ℕ → ℕ

-- the frames around a place, from the innermost on, each with its names (10.2: the lexical environment)
abbrev pub Frames : Type 0
Frames = List (List Name)

-- the global that stands so far behind the number k
unfoldable pub global_from : ℕ → Option ℕ → Option Ref
global_from k None = None
global_from k (Some n) = Some (Ref.Global (k + n))

-- the externs stand first, then the built-in globals, then those of the chunks; a built-in global's
-- name means it, also where an extern has this name
unfoldable pub global_named : Outer → Name → Option Ref
unfolding global_from index_of or_else
global_named W n = or_else (global_from (length W.externs) (index_of n builtin_globals))
    (or_else (global_from 0 (index_of n W.externs)) (global_from (length W.externs + 3) (index_of n W.globals)))

-- the same variable, seen from one frame further in
unfoldable pub outwards : Option Ref → Option Ref
outwards None = None
outwards (Some (Ref.Frame up n)) = Some (Ref.Frame (suc up) n)
outwards (Some (Ref.Global n)) = Some (Ref.Global n)

-- a frame has the name, or else what is around it (10.2.2.1)
unfoldable pub in_frame : Option ℕ → Option Ref → Option Ref
unfolding outwards
in_frame (Some n) r = Some (Ref.Frame 0 n)
in_frame None r = outwards r

-- Identifier resolution (10.3.1): none where the name is free and no global has it.
unfoldable pub lookup : Outer → Frames → Name → Option Ref
unfolding global_named in_frame index_of
lookup W [] n = global_named W n
lookup W (ns ∷ E) n = in_frame (index_of n ns) (lookup W E n)

-- a name that means nothing is refused, and any number serves
unfoldable pub ref_by : Option Ref → Ref
ref_by None = Ref.Global 0
ref_by (Some r) = r

-- the variable of a name that is declared or written to (11.1.2)
unfoldable pub ref_of : Outer → Frames → Name → Ref
unfolding ref_by lookup
ref_of W E n = ref_by (lookup W E n)

-- a variable that is read (11.1.2); the free name `undefined` is undefined (15.1.1.3)
unfoldable pub var_by : ℕ → Option Ref → Expr
var_by i (Some r) = p.var i r
var_by i None = p.lit i p.undefined

-- the number of a property's name
unfoldable pub prop_of : Outer → Name → ℕ
unfolding index_of or_zero
prop_of W n = or_zero (index_of n W.props)

-- a key of an object literal: a number is the text of its decimal (11.1.5)
unfoldable pub key_of : Outer → RawKey → Key
unfolding prop_of decimal
key_of W (raw.dotted n) = Key.Dotted (prop_of W n)
key_of W (raw.quoted t) = Key.Quoted t
key_of W (raw.numbered z) = Key.Quoted (decimal z)

-- ---- functions (10.4.3, 10.5, 13)

-- the names of the parameters (10.5, step 4)
unfoldable pub named : List Named → List Name
named ps = map (λ v. v.name) ps

-- the declared names besides the parameters, each once (10.5, steps 5 and 8)
unfoldable pub locals : List Named → RawStmts → List Name
unfolding named new_names stmts_declare
locals ps b = new_names (named ps) (stmts_declare b)

-- the own name of a function expression has a frame of its own (13)
unfoldable pub with_own : Option Named → Frames → Frames
with_own None E = E
with_own (Some v) E = (v.name ∷ []) ∷ E

-- the frames in the body of a function
unfoldable pub inner : Option Named → List Named → RawStmts → Frames → Frames
unfolding named locals with_own
inner own ps b E = (named ps ++ locals ps b) ∷ with_own own E

-- the numbers in the body of a function
abbrev pub behind : Counters → Counters
behind n = record { function = suc n.function; site = suc n.site }

-- ---- trees, with the frames around them and the numbers that are due

unfoldable mutual
  unfolding lookup ref_of var_by prop_of key_of inner expr_marks

  pub expr_of : Outer → Frames → Counters → RawExpr → Expr
  expr_of W E n (raw.lit q x) = p.lit n.site x
  expr_of W E n (raw.var q m) = var_by n.site (lookup W E m)
  expr_of W E n (raw.this q) = p.this n.site
  expr_of W E n (raw.fun q own ps b) = p.fun n.site n.function
  expr_of W E n (raw.list q es) = p.list n.site (exprs_of W E (next n) es)
  expr_of W E n (raw.object q fs) = p.object n.site (fields_of W E (next n) fs)
  expr_of W E n (raw.unary q op e) = p.unary n.site op (expr_of W E (next n) e)
  expr_of W E n (raw.binary q op a b) = p.binary n.site op (expr_of W E (next n) a) (expr_of W E (past (next n) (expr_marks a)) b)
  expr_of W E n (raw.and q a b) = p.and n.site (expr_of W E (next n) a) (expr_of W E (past (next n) (expr_marks a)) b)
  expr_of W E n (raw.or q a b) = p.or n.site (expr_of W E (next n) a) (expr_of W E (past (next n) (expr_marks a)) b)
  expr_of W E n (raw.cond q t a b) = p.cond n.site (expr_of W E (next n) t) (expr_of W E (past (next n) (expr_marks t)) a) (expr_of W E (past (past (next n) (expr_marks t)) (expr_marks a)) b)
  expr_of W E n (raw.assign q op t e) = p.assign n.site op (target_of W E (next n) t) (expr_of W E (past (next n) (target_marks t)) e)
  expr_of W E n (raw.step q up before t) = p.step n.site up before (target_of W E (next n) t)
  expr_of W E n (raw.member q e r m) = p.member n.site (expr_of W E (next n) e) (prop_of W m)
  expr_of W E n (raw.index q e k) = p.index n.site (expr_of W E (next n) e) (expr_of W E (past (next n) (expr_marks e)) k)
  expr_of W E n (raw.call q f es) = p.call n.site (expr_of W E (next n) f) (exprs_of W E (past (next n) (expr_marks f)) es)
  expr_of W E n (raw.new q f es) = p.new n.site (expr_of W E (next n) f) (exprs_of W E (past (next n) (expr_marks f)) es)
  expr_of W E n (raw.comma q a b) = p.comma n.site (expr_of W E (next n) a) (expr_of W E (past (next n) (expr_marks a)) b)
  expr_of W E n (raw.cast q e) = p.cast n.site (W.doc_at q) (expr_of W E (next n) e)

  pub target_of : Outer → Frames → Counters → RawTarget → Target
  target_of W E n (raw.to_var q m) = p.to_var n.site (ref_of W E m)
  target_of W E n (raw.to_member q e r m) = p.to_member n.site (expr_of W E (next n) e) (prop_of W m)
  target_of W E n (raw.to_index q e k) = p.to_index n.site (expr_of W E (next n) e) (expr_of W E (past (next n) (expr_marks e)) k)

  pub exprs_of : Outer → Frames → Counters → RawExprs → Exprs
  exprs_of W E n raw.no_exprs = p.no_exprs
  exprs_of W E n (raw.more_exprs e es) = p.more_exprs (expr_of W E n e) (exprs_of W E (past n (expr_marks e)) es)

  pub maybe_of : Outer → Frames → Counters → MaybeExpr → Option Expr
  maybe_of W E n raw.no_expr = None
  maybe_of W E n (raw.one_expr e) = Some (expr_of W E n e)

  pub fields_of : Outer → Frames → Counters → RawFields → Fields
  fields_of W E n raw.no_fields = p.no_fields
  fields_of W E n (raw.more_fields q k e fs) = p.more_fields (key_of W k) (expr_of W E (past n (key_marks k)) e) (fields_of W E (past (past n (key_marks k)) (expr_marks e)) fs)

  pub vars_of : Outer → Frames → Counters → RawDeclarators → List Declarator
  vars_of W E n raw.no_declarators = []
  vars_of W E n (raw.more_declarators v e ds) = (record { site = n.site; variable = ref_of W E v.name; value = maybe_of W E (next n) e }) ∷ vars_of W E (past (next n) (maybe_marks e)) ds

  pub init_of : Outer → Frames → Counters → RawInit → ForInit
  init_of W E n raw.no_init = p.no_init
  init_of W E n (raw.init_value e) = p.init_value (expr_of W E n e)
  init_of W E n (raw.init_vars ds) = p.init_vars (vars_of W E n ds)

  pub heading_of : Outer → Frames → Counters → RawForTarget → ForTarget
  heading_of W E n (raw.in_target t) = p.in_target (target_of W E n t)
  heading_of W E n (raw.in_declared v e) = p.in_declared (record { site = n.site; variable = ref_of W E v.name; value = maybe_of W E (next n) e })

  pub stmt_of : Outer → Frames → Counters → RawStmt → Stmt
  stmt_of W E n (raw.simple q e) = p.simple n.site (expr_of W E (next n) e)
  stmt_of W E n (raw.vars q ds) = p.vars n.site (vars_of W E (next n) ds)
  stmt_of W E n (raw.fun_decl q v ps b) = p.fun_decl n.site (ref_of W E v.name) n.function
  stmt_of W E n (raw.if q t a b) = p.if n.site (expr_of W E (next n) t) (stmts_of W E (past (next n) (expr_marks t)) a) (stmts_of W E (past (past (next n) (expr_marks t)) (stmts_marks a)) b)
  stmt_of W E n (raw.while q t b) = p.while n.site (expr_of W E (next n) t) (stmts_of W E (past (next n) (expr_marks t)) b)
  stmt_of W E n (raw.do_while q b t) = p.do_while n.site (stmts_of W E (next n) b) (expr_of W E (past (next n) (stmts_marks b)) t)
  stmt_of W E n (raw.for q h t e b) = p.for n.site (init_of W E (next n) h) (maybe_of W E (past (next n) (init_marks h)) t) (maybe_of W E (past (past (next n) (init_marks h)) (maybe_marks t)) e) (stmts_of W E (past (past (past (next n) (init_marks h)) (maybe_marks t)) (maybe_marks e)) b)
  stmt_of W E n (raw.for_in q t e b) = p.for_in n.site (heading_of W E (next n) t) (expr_of W E (past (next n) (heading_marks t)) e) (stmts_of W E (past (past (next n) (heading_marks t)) (expr_marks e)) b)
  stmt_of W E n (raw.return q e) = p.return n.site (maybe_of W E (next n) e)
  stmt_of W E n (raw.throw q e) = p.throw n.site (expr_of W E (next n) e)
  stmt_of W E n (raw.break q l) = p.break n.site l
  stmt_of W E n (raw.continue q l) = p.continue n.site l
  stmt_of W E n (raw.label q l b) = p.label n.site l (stmts_of W E (next n) b)
  stmt_of W E n (raw.switch q e cs) = p.switch n.site (expr_of W E (next n) e) (cases_of W E (past (next n) (expr_marks e)) cs)
  stmt_of W E n (raw.try q b k f) = p.try n.site (stmts_of W E (next n) b) (catch_of W E (past (next n) (stmts_marks b)) k) (finally_of W E (past (past (next n) (stmts_marks b)) (catch_marks k)) f)

  pub stmts_of : Outer → Frames → Counters → RawStmts → Stmts
  stmts_of W E n raw.no_stmts = p.no_stmts
  stmts_of W E n (raw.more_stmts s ss) = p.more_stmts (stmt_of W E n s) (stmts_of W E (past n (stmt_marks s)) ss)

  -- a catch clause has a frame of its own, with its parameter alone (12.14)
  pub catch_of : Outer → Frames → Counters → RawCatch → MaybeStmts
  catch_of W E n raw.no_catch = p.absent
  catch_of W E n (raw.caught v b) = p.present (stmts_of W ((v.name ∷ []) ∷ E) n b)

  pub finally_of : Outer → Frames → Counters → RawFinally → MaybeStmts
  finally_of W E n raw.no_finally = p.absent
  finally_of W E n (raw.finally b) = p.present (stmts_of W E n b)

  pub cases_of : Outer → Frames → Counters → RawCases → Cases
  cases_of W E n raw.no_cases = p.no_cases
  cases_of W E n (raw.more_cases t b cs) = p.more_cases (maybe_of W E n t) (stmts_of W E (past n (maybe_marks t)) b) (cases_of W E (past (past n (maybe_marks t)) (stmts_marks b)) cs)

-- ---- the functions that stand in a tree, in reading order: a function comes before those in its body

-- the scope of a function (13.2)

unfoldable pub scope_of : Outer → Frames → (parent : ℕ) → Counters → (own : Bool) → List Named → RawStmts → Place → Scope
unfolding stmts_of locals
scope_of W E parent n own ps b q = record {
  params = length ps;
  names = length (locals ps b);
  own = own;
  body = stmts_of W E (behind n) b;
  parent = Some parent;
  doc = W.function_doc n.function;
}

unfoldable mutual
  unfolding inner scope_of expr_marks key_marks

  pub expr_scopes : Outer → Frames → (parent : ℕ) → Counters → RawExpr → List Scope
  expr_scopes W E f n (raw.lit q x) = []
  expr_scopes W E f n (raw.var q m) = []
  expr_scopes W E f n (raw.this q) = []
  expr_scopes W E f n (raw.fun q own ps b) = scope_of W (inner own ps b E) f n (is_some own) ps b q ∷ stmts_scopes W (inner own ps b E) n.function (behind n) b
  expr_scopes W E f n (raw.list q es) = exprs_scopes W E f (next n) es
  expr_scopes W E f n (raw.object q fs) = fields_scopes W E f (next n) fs
  expr_scopes W E f n (raw.unary q op e) = expr_scopes W E f (next n) e
  expr_scopes W E f n (raw.binary q op a b) = expr_scopes W E f (next n) a ++ expr_scopes W E f (past (next n) (expr_marks a)) b
  expr_scopes W E f n (raw.and q a b) = expr_scopes W E f (next n) a ++ expr_scopes W E f (past (next n) (expr_marks a)) b
  expr_scopes W E f n (raw.or q a b) = expr_scopes W E f (next n) a ++ expr_scopes W E f (past (next n) (expr_marks a)) b
  expr_scopes W E f n (raw.cond q t a b) = expr_scopes W E f (next n) t ++ (expr_scopes W E f (past (next n) (expr_marks t)) a ++ expr_scopes W E f (past (past (next n) (expr_marks t)) (expr_marks a)) b)
  expr_scopes W E f n (raw.assign q op t e) = target_scopes W E f (next n) t ++ expr_scopes W E f (past (next n) (target_marks t)) e
  expr_scopes W E f n (raw.step q up before t) = target_scopes W E f (next n) t
  expr_scopes W E f n (raw.member q e r m) = expr_scopes W E f (next n) e
  expr_scopes W E f n (raw.index q e k) = expr_scopes W E f (next n) e ++ expr_scopes W E f (past (next n) (expr_marks e)) k
  expr_scopes W E f n (raw.call q c es) = expr_scopes W E f (next n) c ++ exprs_scopes W E f (past (next n) (expr_marks c)) es
  expr_scopes W E f n (raw.new q c es) = expr_scopes W E f (next n) c ++ exprs_scopes W E f (past (next n) (expr_marks c)) es
  expr_scopes W E f n (raw.comma q a b) = expr_scopes W E f (next n) a ++ expr_scopes W E f (past (next n) (expr_marks a)) b
  expr_scopes W E f n (raw.cast q e) = expr_scopes W E f (next n) e

  pub target_scopes : Outer → Frames → (parent : ℕ) → Counters → RawTarget → List Scope
  target_scopes W E f n (raw.to_var q m) = []
  target_scopes W E f n (raw.to_member q e r m) = expr_scopes W E f (next n) e
  target_scopes W E f n (raw.to_index q e k) = expr_scopes W E f (next n) e ++ expr_scopes W E f (past (next n) (expr_marks e)) k

  pub exprs_scopes : Outer → Frames → (parent : ℕ) → Counters → RawExprs → List Scope
  exprs_scopes W E f n raw.no_exprs = []
  exprs_scopes W E f n (raw.more_exprs e es) = expr_scopes W E f n e ++ exprs_scopes W E f (past n (expr_marks e)) es

  pub maybe_scopes : Outer → Frames → (parent : ℕ) → Counters → MaybeExpr → List Scope
  maybe_scopes W E f n raw.no_expr = []
  maybe_scopes W E f n (raw.one_expr e) = expr_scopes W E f n e

  pub fields_scopes : Outer → Frames → (parent : ℕ) → Counters → RawFields → List Scope
  fields_scopes W E f n raw.no_fields = []
  fields_scopes W E f n (raw.more_fields q k e fs) = expr_scopes W E f (past n (key_marks k)) e ++ fields_scopes W E f (past (past n (key_marks k)) (expr_marks e)) fs

  pub vars_scopes : Outer → Frames → (parent : ℕ) → Counters → RawDeclarators → List Scope
  vars_scopes W E f n raw.no_declarators = []
  vars_scopes W E f n (raw.more_declarators v e ds) = maybe_scopes W E f (next n) e ++ vars_scopes W E f (past (next n) (maybe_marks e)) ds

  pub init_scopes : Outer → Frames → (parent : ℕ) → Counters → RawInit → List Scope
  init_scopes W E f n raw.no_init = []
  init_scopes W E f n (raw.init_value e) = expr_scopes W E f n e
  init_scopes W E f n (raw.init_vars ds) = vars_scopes W E f n ds

  pub heading_scopes : Outer → Frames → (parent : ℕ) → Counters → RawForTarget → List Scope
  heading_scopes W E f n (raw.in_target t) = target_scopes W E f n t
  heading_scopes W E f n (raw.in_declared v e) = maybe_scopes W E f (next n) e

  pub stmt_scopes : Outer → Frames → (parent : ℕ) → Counters → RawStmt → List Scope
  stmt_scopes W E f n (raw.simple q e) = expr_scopes W E f (next n) e
  stmt_scopes W E f n (raw.vars q ds) = vars_scopes W E f (next n) ds
  stmt_scopes W E f n (raw.fun_decl q v ps b) = scope_of W (inner None ps b E) f n false ps b q ∷ stmts_scopes W (inner None ps b E) n.function (behind n) b
  stmt_scopes W E f n (raw.if q t a b) = expr_scopes W E f (next n) t ++ (stmts_scopes W E f (past (next n) (expr_marks t)) a ++ stmts_scopes W E f (past (past (next n) (expr_marks t)) (stmts_marks a)) b)
  stmt_scopes W E f n (raw.while q t b) = expr_scopes W E f (next n) t ++ stmts_scopes W E f (past (next n) (expr_marks t)) b
  stmt_scopes W E f n (raw.do_while q b t) = stmts_scopes W E f (next n) b ++ expr_scopes W E f (past (next n) (stmts_marks b)) t
  stmt_scopes W E f n (raw.for q h t e b) = init_scopes W E f (next n) h ++ (maybe_scopes W E f (past (next n) (init_marks h)) t ++ (maybe_scopes W E f (past (past (next n) (init_marks h)) (maybe_marks t)) e ++ stmts_scopes W E f (past (past (past (next n) (init_marks h)) (maybe_marks t)) (maybe_marks e)) b))
  stmt_scopes W E f n (raw.for_in q t e b) = heading_scopes W E f (next n) t ++ (expr_scopes W E f (past (next n) (heading_marks t)) e ++ stmts_scopes W E f (past (past (next n) (heading_marks t)) (expr_marks e)) b)
  stmt_scopes W E f n (raw.return q e) = maybe_scopes W E f (next n) e
  stmt_scopes W E f n (raw.throw q e) = expr_scopes W E f (next n) e
  stmt_scopes W E f n (raw.break q l) = []
  stmt_scopes W E f n (raw.continue q l) = []
  stmt_scopes W E f n (raw.label q l b) = stmts_scopes W E f (next n) b
  stmt_scopes W E f n (raw.switch q e cs) = expr_scopes W E f (next n) e ++ cases_scopes W E f (past (next n) (expr_marks e)) cs
  stmt_scopes W E f n (raw.try q b k g) = stmts_scopes W E f (next n) b ++ (catch_scopes W E f (past (next n) (stmts_marks b)) k ++ finally_scopes W E f (past (past (next n) (stmts_marks b)) (catch_marks k)) g)

  pub stmts_scopes : Outer → Frames → (parent : ℕ) → Counters → RawStmts → List Scope
  stmts_scopes W E f n raw.no_stmts = []
  stmts_scopes W E f n (raw.more_stmts s ss) = stmt_scopes W E f n s ++ stmts_scopes W E f (past n (stmt_marks s)) ss

  pub catch_scopes : Outer → Frames → (parent : ℕ) → Counters → RawCatch → List Scope
  catch_scopes W E f n raw.no_catch = []
  catch_scopes W E f n (raw.caught v b) = stmts_scopes W ((v.name ∷ []) ∷ E) f n b

  pub finally_scopes : Outer → Frames → (parent : ℕ) → Counters → RawFinally → List Scope
  finally_scopes W E f n raw.no_finally = []
  finally_scopes W E f n (raw.finally b) = stmts_scopes W E f n b

  pub cases_scopes : Outer → Frames → (parent : ℕ) → Counters → RawCases → List Scope
  cases_scopes W E f n raw.no_cases = []
  cases_scopes W E f n (raw.more_cases t b cs) = maybe_scopes W E f n t ++ (stmts_scopes W E f (past n (maybe_marks t)) b ++ cases_scopes W E f (past (past n (maybe_marks t)) (stmts_marks b)) cs)

-- ---- programs

-- What annotations add: the numbers of the docs of casts, by place, of functions and of the chunks'
-- globals; the flat paths of these globals; and the tables of classes and docs.
pub record Added : Type 0 where
  pub cast_doc : Place → ℕ
  pub function_doc : ℕ → ℕ
  pub global_doc : Name → ℕ
  pub flat : Name → List FlatPath
  pub classes : List Class
  pub docs : List SiteDoc

-- what is read: the chunks, a list of statements for each, the names of the externs, the property names
-- that are kept besides those of the language, and what annotations add
pub record Source : Type 0 where
  pub chunks : List ChunkInfo
  pub trees : List RawStmts
  pub externs : List Name
  pub kept : List Name
  pub added : Added

-- what stands in all trees
unfoldable pub all_marks : List RawStmts → List Mark
unfolding stmts_marks
all_marks [] = []
all_marks (t ∷ ts) = stmts_marks t ++ all_marks ts

-- the names that the chunks declare
unfoldable pub all_declared : List RawStmts → List Name
unfolding stmts_declare
all_declared [] = []
all_declared (t ∷ ts) = stmts_declare t ++ all_declared ts

-- the global environment of a source
unfoldable pub outer_of : Source → Outer
unfolding distinct all_declared all_marks names
outer_of S = record {
  externs = S.externs;
  globals = distinct (all_declared S.trees);
  props = distinct (names (all_marks S.trees));
  doc_at = S.added.cast_doc;
  function_doc = S.added.function_doc;
}

-- the scope of a chunk, which has no frame: its variables are globals (10.4.1)
unfoldable pub chunk_scope : Outer → Counters → RawStmts → Scope
unfolding stmts_of
chunk_scope W n t = record { params = 0; names = 0; own = false; body = stmts_of W [] n t; parent = None; doc = 0 }

-- the chunks' scopes, in order
unfoldable pub chunk_scopes : Outer → Counters → List RawStmts → List Scope
unfolding chunk_scope stmts_marks
chunk_scopes W n [] = []
chunk_scopes W n (t ∷ ts) = chunk_scope W n t ∷ chunk_scopes W (past n (stmts_marks t)) ts

-- the functions' scopes, in order
unfoldable pub inner_scopes : Outer → (chunk : ℕ) → Counters → List RawStmts → List Scope
unfolding stmts_scopes stmts_marks
inner_scopes W c n [] = []
inner_scopes W c n (t ∷ ts) = stmts_scopes W [] c n t ++ inner_scopes W (suc c) (past n (stmts_marks t)) ts

-- the chunks' scopes come first
unfoldable pub begin : Source → Counters
begin S = record { function = length S.trees; site = 0 }

-- the least chunk whose own statements declare a name
unfoldable pub chunk_by : ℕ → Name → List RawStmts → ℕ
unfolding is_in stmts_declare
chunk_by c n [] = c
chunk_by c n (t ∷ ts) = pick (is_in n (stmts_declare t)) c (chunk_by (suc c) n ts)

-- an extern or built-in global
abbrev pub outer_info : Name → GlobalInfo
outer_info n = record { name = n; chunk = None; doc = 0; flat = [] }

-- a global of a chunk
unfoldable pub chunk_info : Added → List RawStmts → Name → GlobalInfo
unfolding chunk_by
chunk_info A ts n = record { name = n; chunk = Some (chunk_by 0 n ts); doc = A.global_doc n; flat = A.flat n }

-- the globals: externs, built-in ones, and those of the chunks by first declaration
unfoldable pub globals_of : Source → List GlobalInfo
unfolding chunk_info distinct all_declared
globals_of S = map outer_info (S.externs ++ builtin_globals) ++ map (chunk_info S.added S.trees) (distinct (all_declared S.trees))

-- the property names that no phase renames
unfoldable pub kept_of : Source → List Name
unfolding distinct
kept_of S = distinct (S.kept ++ always_kept)

-- a property, with whether its name is kept
unfoldable pub prop_info : List Name → Name → PropInfo
unfolding is_in
prop_info ks n = record { name = n; kept = is_in n ks }

-- the doc of what is not annotated
abbrev pub says_nothing : SiteDoc
says_nothing = record { params = []; result = None; value = None; receiver = None; vars = []; constant = false; define = false; nocollapse = false; export = false }

-- where nothing is annotated
abbrev pub nothing_added : Added
nothing_added = record { cast_doc = λ q. 0; function_doc = λ f. 0; global_doc = λ x. 0; flat = λ x. []; classes = []; docs = says_nothing ∷ [] }

-- The program of a source. Where a name means nothing it has any number there, and the source is refused.
unfoldable pub program_of : Source → Program
unfolding outer_of begin chunk_scopes inner_scopes globals_of prop_info kept_of distinct all_marks names places
program_of S = record {
  scopes = chunk_scopes (outer_of S) (begin S) S.trees ++ inner_scopes (outer_of S) 0 (begin S) S.trees;
  chunks = S.chunks;
  globals = globals_of S;
  props = map (prop_info (kept_of S)) (distinct (names (all_marks S.trees)));
  kept = kept_of S;
  classes = S.added.classes;
  places = places (all_marks S.trees);
  docs = S.added.docs;
}
