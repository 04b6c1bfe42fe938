-- Which annotation comments annotate what. A comment belongs to what begins at the next token that is no
-- comment; of several that annotate one thing, the last in reading order counts.
use Rattle.std.specs.Prelude.{ℕ, suc, Bool, true, false, ◌&&◌, nat_eq, List, [], ◌∷◌, ◌++◌, slice_get, Option, Some, None}
use Rattle.std.specs.List.{list_any}
use Rattle.cc_ast.specs.declared.place.Place.{Place}
use Rattle.cc_meaning.specs.Operators.{list_eq}
use Rattle.cc_meaning.specs.Monad.{pick}
use Rattle.cc_jsdoc.specs.declared.doc.Doc.{Doc}
use Rattle.cc_jsdoc.specs.declared.doc.DocKind.{DocKind}
use Rattle.cc_jsdoc.specs.declared.doc.DocKind.TheVariants as kind
use Rattle.cc_jsdoc.specs.declared.types.TypeExpr.{TypeExpr}
use Rattle.cc_grammar.specs.RawTree.{RawDeclarators, RawInit, RawForTarget, RawStmt, RawStmts, RawCatch, RawFinally, RawCases}
use Rattle.cc_grammar.specs.RawTree as raw
use Rattle.cc_scope.specs.Lists.{Name, or_zero, or_else}

-- an annotation comment: where it stands, the place of the next token, and what it says
pub record Comment : Type 0 where
  pub place : Place
  pub next : Place
  pub says : Doc

-- one place: at one offset of one file
unfoldable pub is_at : Place → Place → Bool
is_at p q = nat_eq p.file q.file && nat_eq p.offset q.offset

-- the comment is on what begins at one of these places
unfoldable pub is_on : List Place → Comment → Bool
unfolding is_at
is_on qs c = list_any (λ q. is_at q c.next) qs

-- the number of the last comment, counted from k, that is on what begins at one of these places
unfoldable pub last_from : ℕ → List Place → List Comment → Option ℕ
unfolding is_on or_else
last_from k qs [] = None
last_from k qs (c ∷ cs) = or_else (last_from (suc k) qs cs) (pick (is_on qs c) (Some k) None)

-- The number of the doc of what begins at one of these places: the comments are counted from 1, and 0
-- is that of what has none.
unfoldable pub doc_number : List Place → List Comment → ℕ
unfolding last_from or_zero
doc_number qs cs = or_zero (last_from 1 qs cs)

unfoldable pub said : Option Comment → Option Doc
said None = None
said (Some c) = Some c.says

unfoldable pub comment_numbered : Option ℕ → List Comment → Option Comment
comment_numbered None cs = None
comment_numbered (Some k) cs = slice_get cs k

-- the comment on what begins at one of these places
unfoldable pub comment_at : List Place → List Comment → Option Comment
unfolding comment_numbered last_from
comment_at qs cs = comment_numbered (last_from 0 qs cs) cs

-- what is said there
unfoldable pub said_at : List Place → List Comment → Option Doc
unfolding said comment_at
said_at qs cs = said (comment_at qs cs)

-- ---- types

unfoldable pub type_kind : DocKind → Bool
type_kind kind.Enum = true
type_kind kind.Typedef = true
type_kind _ = false

-- the type of a variable, path, field or cast; that of an enum or typedef is none of these
unfoldable pub value_said : Doc → Option TypeExpr
unfolding type_kind
value_said d = pick (type_kind d.kind) None d.value

-- ---- variables

-- a declaration of a variable, and a place at which a comment annotates it
pub record Declaration : Type 0 where
  pub variable : Name
  pub place : Place

abbrev pub declared_at : Name → Place → Declaration
declared_at x q = record { variable = x; place = q }

-- a declarator is annotated where its name stands
unfoldable pub declarators_at : RawDeclarators → List Declaration
declarators_at raw.no_declarators = []
declarators_at (raw.more_declarators v e ds) = declared_at v.name v.place ∷ declarators_at ds

-- a comment before a `var` statement annotates the first declarator (ECMA-262 5.1, 12.2)
unfoldable pub var_at : Place → RawDeclarators → List Declaration
unfolding declarators_at
var_at q raw.no_declarators = []
var_at q (raw.more_declarators v e ds) = declared_at v.name q ∷ declared_at v.name v.place ∷ declarators_at ds

unfoldable pub init_at : RawInit → List Declaration
unfolding declarators_at
init_at raw.no_init = []
init_at (raw.init_value e) = []
init_at (raw.init_vars ds) = declarators_at ds

unfoldable pub heading_at : RawForTarget → List Declaration
heading_at (raw.in_target t) = []
heading_at (raw.in_declared v e) = declared_at v.name v.place ∷ []

-- the declarations that statements make, in reading order, functions not entered (10.5, 13)
unfoldable mutual
  unfolding var_at init_at heading_at

  pub stmt_at : RawStmt → List Declaration
  stmt_at (raw.simple q e) = []
  stmt_at (raw.vars q ds) = var_at q ds
  stmt_at (raw.fun_decl q v ps b) = declared_at v.name q ∷ []
  stmt_at (raw.if q t a b) = stmts_at a ++ stmts_at b
  stmt_at (raw.while q t b) = stmts_at b
  stmt_at (raw.do_while q b t) = stmts_at b
  stmt_at (raw.for q h t e b) = init_at h ++ stmts_at b
  stmt_at (raw.for_in q t e b) = heading_at t ++ stmts_at b
  stmt_at (raw.return q e) = []
  stmt_at (raw.throw q e) = []
  stmt_at (raw.break q l) = []
  stmt_at (raw.continue q l) = []
  stmt_at (raw.label q l b) = stmts_at b
  stmt_at (raw.switch q e cs) = cases_at cs
  stmt_at (raw.try q b k f) = stmts_at b ++ (catch_at k ++ finally_at f)

  pub stmts_at : RawStmts → List Declaration
  stmts_at raw.no_stmts = []
  stmts_at (raw.more_stmts s ss) = stmt_at s ++ stmts_at ss

  pub catch_at : RawCatch → List Declaration
  catch_at raw.no_catch = []
  catch_at (raw.caught v b) = stmts_at b

  pub finally_at : RawFinally → List Declaration
  finally_at raw.no_finally = []
  finally_at (raw.finally b) = stmts_at b

  pub cases_at : RawCases → List Declaration
  cases_at raw.no_cases = []
  cases_at (raw.more_cases t b cs) = stmts_at b ++ cases_at cs

-- where comments are on a variable, of these declarations
unfoldable pub places_of : Name → List Declaration → List Place
unfolding list_eq
places_of x [] = []
places_of x (d ∷ ds) = pick (list_eq x d.variable) (d.place ∷ places_of x ds) (places_of x ds)

-- the declarations of the chunks' own statements
unfoldable pub all_at : List RawStmts → List Declaration
unfolding stmts_at
all_at [] = []
all_at (t ∷ ts) = stmts_at t ++ all_at ts
