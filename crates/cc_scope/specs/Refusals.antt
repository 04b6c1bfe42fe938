-- What resolution refuses, in reading order; the least place is answered. In the language a free name that
-- nothing declares is an error when it runs (ECMA-262 5.1, 8.7.1), and a second declaration of a name is none;
-- here both are refused, as is what would change or hide what the host and the language have.
use Rattle.std.specs.Prelude.{ℕ, ◌+◌, Bool, true, false, ◌&&◌, ◌||◌, nat_eq, nat_lt, List, [], ◌∷◌, ◌++◌, length, Option, Some, None, codes}
use Rattle.cc_ast.specs.declared.place.Place.{Place}
use Rattle.cc_ast.specs.declared.tree.Ref.{Ref}
use Rattle.cc_ast.specs.Syntax.{Program}
use Rattle.cc_meaning.specs.Operators.{is_in}
use Rattle.cc_meaning.specs.Names.{builtin_globals}
use Rattle.cc_meaning.specs.Monad.{pick}
use Rattle.cc_meaning.specs.Store.{Global, of_chunk, outer_global}
use Rattle.cc_meaning.specs.Parts.{is_no_built, is_own_global, is_string, has_use}
use Rattle.cc_grammar.specs.RawTree.{Named, RawKey, RawExpr, RawTarget, RawExprs, MaybeExpr, RawFields, RawDeclarators, RawInit, RawForTarget, RawStmt, RawStmts, RawCatch, RawFinally, RawCases}
use Rattle.cc_grammar.specs.RawTree as raw
use Rattle.cc_scope.specs.Lists.{Name}
use Rattle.cc_scope.specs.Resolve.{Outer, Frames, lookup, inner, Source, outer_of, program_of}

-- a free name that nothing declares; a second declaration; a built-in global in any other use than the
-- language's; a write to an extern or built-in global
pub data Cause : Type 0 where
  undeclared : Name → Cause
  redeclared built_in_used host_written : Cause

pub record Refusal : Type 0 where
  pub cause : Cause
  pub place : Place

abbrev pub at : Cause → Place → List Refusal
at c q = (record { cause = c; place = q }) ∷ []

abbrev pub none : List Refusal
none = []

-- where a part stands: the frames around it, the variables of the catch clauses that are open there
-- in the same function, and whether it is of a chunk's own statements
pub record Spot : Type 0 where
  pub frames : Frames
  pub caught : List Name
  pub top : Bool

-- what a global's number stands for
unfoldable pub global_of : Outer → ℕ → Global
unfolding outer_global
global_of W n = pick (nat_lt n (length W.externs + 3)) (outer_global (length W.externs) n) (of_chunk 0)

-- a name that is read
unfoldable pub read_by : Outer → Name → Place → Option Ref → List Refusal
unfolding global_of is_no_built is_in
read_by W n q None = pick (is_in n (codes "undefined" ∷ [])) none (at (undeclared n) q)
read_by W n q (Some (Ref.Frame up k)) = none
read_by W n q (Some (Ref.Global k)) = pick (is_no_built (global_of W k)) none (at built_in_used q)

-- a name that is written to
unfoldable pub write_by : Outer → Name → Place → Option Ref → List Refusal
unfolding global_of is_own_global
write_by W n q None = at (undeclared n) q
write_by W n q (Some (Ref.Frame up k)) = none
write_by W n q (Some (Ref.Global k)) = pick (is_own_global (global_of W k)) none (at host_written q)

-- the global that a name means
unfoldable pub global_meant : Outer → Option Ref → Option Global
unfolding global_of
global_meant W None = None
global_meant W (Some (Ref.Frame up k)) = None
global_meant W (Some (Ref.Global k)) = Some (global_of W k)

-- `String`
unfoldable pub is_string_use : Option Global → Bool
unfolding is_string
is_string_use None = false
is_string_use (Some g) = is_string g

-- a member that the language has of a built-in global
unfoldable pub is_member_use : Option Global → Name → Bool
unfolding has_use
is_member_use None n = false
is_member_use (Some g) n = has_use g n

-- the global that an expression is
unfoldable pub variable_meant : Outer → Frames → RawExpr → Option Global
unfolding global_meant lookup
variable_meant W E (raw.var q n) = global_meant W (lookup W E n)
variable_meant W E _ = None

-- the callee of `String(..)`, or of a member of a built-in global that the language has, as `Math.max(..)`
unfoldable pub is_built_callee : Outer → Frames → RawExpr → Bool
unfolding is_string_use is_member_use variable_meant global_meant lookup
is_built_callee W E (raw.var q n) = is_string_use (global_meant W (lookup W E n))
is_built_callee W E (raw.member q e r n) = is_member_use (variable_meant W E e) n
is_built_callee W E _ = false

-- a declared variable: none of the outside in a chunk's own statements, and none that is caught
unfoldable pub declared_by : Outer → Spot → Named → List Refusal
unfolding is_in
declared_by W X v = pick ((X.top && (is_in v.name W.externs || is_in v.name builtin_globals)) || is_in v.name X.caught) (at redeclared v.place) none

-- a second equal parameter
unfoldable pub repeated : List Name → List Named → List Refusal
unfolding is_in
repeated ns [] = []
repeated ns (v ∷ vs) = pick (is_in v.name ns) (at redeclared v.place) none ++ repeated (v.name ∷ ns) vs

-- in the body of a function
unfoldable pub within : Option Named → List Named → RawStmts → Spot → Spot
unfolding inner
within own ps b X = record { frames = inner own ps b X.frames; caught = []; top = false }

-- in a catch clause
abbrev pub behind_catch : Name → Spot → Spot
behind_catch n X = record { frames = (n ∷ []) ∷ X.frames; caught = n ∷ X.caught; top = X.top }

unfoldable mutual
  unfolding read_by write_by lookup is_built_callee declared_by repeated within

  pub expr_refused : Outer → Spot → RawExpr → List Refusal
  expr_refused W X (raw.lit q x) = []
  expr_refused W X (raw.var q n) = read_by W n q (lookup W X.frames n)
  expr_refused W X (raw.this q) = []
  expr_refused W X (raw.fun q own ps b) = repeated [] ps ++ stmts_refused W (within own ps b X) b
  expr_refused W X (raw.list q es) = exprs_refused W X es
  expr_refused W X (raw.object q fs) = fields_refused W X fs
  expr_refused W X (raw.unary q op e) = expr_refused W X e
  expr_refused W X (raw.binary q op a b) = expr_refused W X a ++ expr_refused W X b
  expr_refused W X (raw.and q a b) = expr_refused W X a ++ expr_refused W X b
  expr_refused W X (raw.or q a b) = expr_refused W X a ++ expr_refused W X b
  expr_refused W X (raw.cond q t a b) = expr_refused W X t ++ (expr_refused W X a ++ expr_refused W X b)
  expr_refused W X (raw.assign q op t e) = target_refused W X t ++ expr_refused W X e
  expr_refused W X (raw.step q up before t) = target_refused W X t
  expr_refused W X (raw.member q e r n) = expr_refused W X e
  expr_refused W X (raw.index q e k) = expr_refused W X e ++ expr_refused W X k
  expr_refused W X (raw.call q f es) = pick (is_built_callee W X.frames f) none (expr_refused W X f) ++ exprs_refused W X es
  expr_refused W X (raw.new q f es) = expr_refused W X f ++ exprs_refused W X es
  expr_refused W X (raw.comma q a b) = expr_refused W X a ++ expr_refused W X b
  expr_refused W X (raw.cast q e) = expr_refused W X e

  pub target_refused : Outer → Spot → RawTarget → List Refusal
  target_refused W X (raw.to_var q n) = write_by W n q (lookup W X.frames n)
  target_refused W X (raw.to_member q e r n) = expr_refused W X e
  target_refused W X (raw.to_index q e k) = expr_refused W X e ++ expr_refused W X k

  pub exprs_refused : Outer → Spot → RawExprs → List Refusal
  exprs_refused W X raw.no_exprs = []
  exprs_refused W X (raw.more_exprs e es) = expr_refused W X e ++ exprs_refused W X es

  pub maybe_refused : Outer → Spot → MaybeExpr → List Refusal
  maybe_refused W X raw.no_expr = []
  maybe_refused W X (raw.one_expr e) = expr_refused W X e

  pub fields_refused : Outer → Spot → RawFields → List Refusal
  fields_refused W X raw.no_fields = []
  fields_refused W X (raw.more_fields q k e fs) = expr_refused W X e ++ fields_refused W X fs

  pub vars_refused : Outer → Spot → RawDeclarators → List Refusal
  vars_refused W X raw.no_declarators = []
  vars_refused W X (raw.more_declarators v e ds) = declared_by W X v ++ (maybe_refused W X e ++ vars_refused W X ds)

  pub init_refused : Outer → Spot → RawInit → List Refusal
  init_refused W X raw.no_init = []
  init_refused W X (raw.init_value e) = expr_refused W X e
  init_refused W X (raw.init_vars ds) = vars_refused W X ds

  pub heading_refused : Outer → Spot → RawForTarget → List Refusal
  heading_refused W X (raw.in_target t) = target_refused W X t
  heading_refused W X (raw.in_declared v e) = declared_by W X v ++ maybe_refused W X e

  pub stmt_refused : Outer → Spot → RawStmt → List Refusal
  stmt_refused W X (raw.simple q e) = expr_refused W X e
  stmt_refused W X (raw.vars q ds) = vars_refused W X ds
  stmt_refused W X (raw.fun_decl q v ps b) = declared_by W X v ++ (repeated [] ps ++ stmts_refused W (within None ps b X) b)
  stmt_refused W X (raw.if q t a b) = expr_refused W X t ++ (stmts_refused W X a ++ stmts_refused W X b)
  stmt_refused W X (raw.while q t b) = expr_refused W X t ++ stmts_refused W X b
  stmt_refused W X (raw.do_while q b t) = stmts_refused W X b ++ expr_refused W X t
  stmt_refused W X (raw.for q h t e b) = init_refused W X h ++ (maybe_refused W X t ++ (maybe_refused W X e ++ stmts_refused W X b))
  stmt_refused W X (raw.for_in q t e b) = heading_refused W X t ++ (expr_refused W X e ++ stmts_refused W X b)
  stmt_refused W X (raw.return q e) = maybe_refused W X e
  stmt_refused W X (raw.throw q e) = expr_refused W X e
  stmt_refused W X (raw.break q l) = []
  stmt_refused W X (raw.continue q l) = []
  stmt_refused W X (raw.label q l b) = stmts_refused W X b
  stmt_refused W X (raw.switch q e cs) = expr_refused W X e ++ cases_refused W X cs
  stmt_refused W X (raw.try q b k f) = stmts_refused W X b ++ (catch_refused W X k ++ finally_refused W X f)

  pub stmts_refused : Outer → Spot → RawStmts → List Refusal
  stmts_refused W X raw.no_stmts = []
  stmts_refused W X (raw.more_stmts s ss) = stmt_refused W X s ++ stmts_refused W X ss

  pub catch_refused : Outer → Spot → RawCatch → List Refusal
  catch_refused W X raw.no_catch = []
  catch_refused W X (raw.caught v b) = stmts_refused W (behind_catch v.name X) b

  pub finally_refused : Outer → Spot → RawFinally → List Refusal
  finally_refused W X raw.no_finally = []
  finally_refused W X (raw.finally b) = stmts_refused W X b

  pub cases_refused : Outer → Spot → RawCases → List Refusal
  cases_refused W X raw.no_cases = []
  cases_refused W X (raw.more_cases t b cs) = maybe_refused W X t ++ (stmts_refused W X b ++ cases_refused W X cs)

-- in a chunk's own statements
abbrev pub outside : Spot
outside = record { frames = []; caught = []; top = true }

-- what is refused in all trees
unfoldable pub all_refused : Outer → List RawStmts → List Refusal
unfolding stmts_refused
all_refused W [] = []
all_refused W (t ∷ ts) = stmts_refused W outside t ++ all_refused W ts

unfoldable pub refusals_of : Source → List Refusal
unfolding all_refused outer_of
refusals_of S = all_refused (outer_of S) S.trees

-- files stand in their order, and in a file the lesser offset comes first
unfoldable pub before : Place → Place → Bool
before a b = nat_lt a.file b.file || (nat_eq a.file b.file && nat_lt a.offset b.offset)

-- the refusal at the least place
unfoldable pub least_from : Refusal → List Refusal → Refusal
unfolding before
least_from r [] = r
least_from r (s ∷ ss) = pick (before s.place r.place) (least_from s ss) (least_from r ss)

pub data Answer : Type 0 where
  answered : Program → Answer
  refused : Refusal → Answer

unfoldable pub answer_by : Program → List Refusal → Answer
unfolding least_from
answer_by P [] = answered P
answer_by P (r ∷ rs) = refused (least_from r rs)

-- resolution: the program, or the refusal at the least place
unfoldable pub resolve : Source → Answer
unfolding answer_by program_of refusals_of
resolve S = answer_by (program_of S) (refusals_of S)
