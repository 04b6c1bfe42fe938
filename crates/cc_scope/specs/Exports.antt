-- `--generate_exports` (Closure Compiler, "Understanding exports"): after the statement in which a comment
-- marks a global with `@export` comes `window["name"]=name;`, for a declaration in the head of a loop after
-- the loop with its labels; and the names of properties that are so marked are kept.
use Rattle.std.specs.Prelude.{Bool, true, false, List, [], ◌∷◌, ◌++◌, map, Option, Some, None, codes}
use Rattle.cc_ast.specs.declared.place.Place.{Place}
use Rattle.cc_ast.specs.Syntax.{text}
use Rattle.cc_meaning.specs.Operators.{is_in}
use Rattle.cc_meaning.specs.Monad.{pick}
use Rattle.cc_grammar.specs.RawTree.{RawExpr, RawDeclarators, RawInit, RawForTarget, RawStmt, RawStmts, RawCatch, RawFinally, RawCases}
use Rattle.cc_grammar.specs.RawTree as raw
use Rattle.cc_scope.specs.Lists.{Name}
use Rattle.cc_scope.specs.Annotations.{Comment, comment_at}
use Rattle.cc_scope.specs.Properties.{Property, all_properties}
use Rattle.cc_scope.specs.Refusals.{Refusal, undeclared, at}

-- a global that is exported, and where the comment stands that says so
pub record Export : Type 0 where
  pub name : Name
  pub place : Place

unfoldable pub export_by : Name → Option Comment → List Export
export_by x None = []
export_by x (Some c) = pick c.says.export ((record { name = x; place = c.place }) ∷ []) []

unfoldable pub export_at : List Comment → Name → List Place → List Export
unfolding export_by comment_at
export_at cs x qs = export_by x (comment_at qs cs)

unfoldable pub declared_exports : List Comment → RawDeclarators → List Export
unfolding export_at
declared_exports cs raw.no_declarators = []
declared_exports cs (raw.more_declarators v e ds) = export_at cs v.name (v.place ∷ []) ++ declared_exports cs ds

-- of a `var` statement or a function declaration
unfoldable pub own_exports : List Comment → RawStmt → List Export
unfolding export_at declared_exports
own_exports cs (raw.vars q (raw.more_declarators v e ds)) = export_at cs v.name (q ∷ v.place ∷ []) ++ declared_exports cs ds
own_exports cs (raw.fun_decl q v ps b) = export_at cs v.name (q ∷ [])
own_exports cs _ = []

unfoldable pub init_exports : List Comment → RawInit → List Export
unfolding declared_exports
init_exports cs (raw.init_vars ds) = declared_exports cs ds
init_exports cs _ = []

unfoldable pub heading_exports : List Comment → RawForTarget → List Export
unfolding export_at
heading_exports cs (raw.in_declared v e) = export_at cs v.name (v.place ∷ [])
heading_exports cs (raw.in_target t) = []

-- of the head of a loop, also behind labels
unfoldable mutual
  unfolding init_exports heading_exports

  pub loop_exports : List Comment → RawStmt → List Export
  loop_exports cs (raw.for q h t e b) = init_exports cs h
  loop_exports cs (raw.for_in q t e b) = heading_exports cs t
  loop_exports cs (raw.label q l b) = labelled_exports cs b
  loop_exports cs _ = []

  pub labelled_exports : List Comment → RawStmts → List Export
  labelled_exports cs (raw.more_stmts s raw.no_stmts) = loop_exports cs s
  labelled_exports cs _ = []

-- `window["name"]=name;`, at the place of the comment
unfoldable pub export_stmt : Export → RawStmt
export_stmt x = raw.simple x.place (raw.assign x.place None (raw.to_index x.place (raw.var x.place (codes "window")) (raw.lit x.place (text x.name))) (raw.var x.place x.name))

unfoldable pub followed_by : RawStmts → List Export → RawStmts
unfolding export_stmt
followed_by ss [] = ss
followed_by ss (x ∷ xs) = raw.more_stmts (export_stmt x) (followed_by ss xs)

-- a loop that stands alone behind a label: what its head exports comes after the label
unfoldable pub unlabelled : (labelled : Bool) → RawStmts → List Export → List Export
unlabelled true raw.no_stmts xs = []
unlabelled labelled ss xs = xs

-- statements with those that export, behind a label or not; functions have no globals of their own, and
-- aren't entered
unfoldable mutual
  unfolding own_exports loop_exports followed_by unlabelled

  pub stmt_exporting : List Comment → RawStmt → RawStmt
  stmt_exporting cs (raw.if q t a b) = raw.if q t (stmts_exporting false cs a) (stmts_exporting false cs b)
  stmt_exporting cs (raw.while q t b) = raw.while q t (stmts_exporting false cs b)
  stmt_exporting cs (raw.do_while q b t) = raw.do_while q (stmts_exporting false cs b) t
  stmt_exporting cs (raw.for q h t e b) = raw.for q h t e (stmts_exporting false cs b)
  stmt_exporting cs (raw.for_in q t e b) = raw.for_in q t e (stmts_exporting false cs b)
  stmt_exporting cs (raw.label q l b) = raw.label q l (stmts_exporting true cs b)
  stmt_exporting cs (raw.switch q e ks) = raw.switch q e (cases_exporting cs ks)
  stmt_exporting cs (raw.try q b k f) = raw.try q (stmts_exporting false cs b) (catch_exporting cs k) (finally_exporting cs f)
  stmt_exporting cs s = s

  pub stmts_exporting : (labelled : Bool) → List Comment → RawStmts → RawStmts
  stmts_exporting labelled cs raw.no_stmts = raw.no_stmts
  stmts_exporting labelled cs (raw.more_stmts s ss) = raw.more_stmts (stmt_exporting cs s) (followed_by (stmts_exporting false cs ss) (own_exports cs s ++ unlabelled labelled ss (loop_exports cs s)))

  pub catch_exporting : List Comment → RawCatch → RawCatch
  catch_exporting cs raw.no_catch = raw.no_catch
  catch_exporting cs (raw.caught v b) = raw.caught v (stmts_exporting false cs b)

  pub finally_exporting : List Comment → RawFinally → RawFinally
  finally_exporting cs raw.no_finally = raw.no_finally
  finally_exporting cs (raw.finally b) = raw.finally (stmts_exporting false cs b)

  pub cases_exporting : List Comment → RawCases → RawCases
  cases_exporting cs raw.no_cases = raw.no_cases
  cases_exporting cs (raw.more_cases t b ks) = raw.more_cases t (stmts_exporting false cs b) (cases_exporting cs ks)

unfoldable pub trees_exporting : (generate : Bool) → List Comment → List RawStmts → List RawStmts
unfolding stmts_exporting
trees_exporting false cs ts = ts
trees_exporting true cs ts = map (stmts_exporting false cs) ts

-- ---- `window` must be a global of the externs

-- all that is exported
unfoldable mutual
  unfolding own_exports loop_exports unlabelled

  pub stmt_exports : List Comment → RawStmt → List Export
  stmt_exports cs (raw.if q t a b) = stmts_exports false cs a ++ stmts_exports false cs b
  stmt_exports cs (raw.while q t b) = stmts_exports false cs b
  stmt_exports cs (raw.do_while q b t) = stmts_exports false cs b
  stmt_exports cs (raw.for q h t e b) = stmts_exports false cs b
  stmt_exports cs (raw.for_in q t e b) = stmts_exports false cs b
  stmt_exports cs (raw.label q l b) = stmts_exports true cs b
  stmt_exports cs (raw.switch q e ks) = cases_exports cs ks
  stmt_exports cs (raw.try q b k f) = stmts_exports false cs b ++ (catch_exports cs k ++ finally_exports cs f)
  stmt_exports cs s = []

  pub stmts_exports : (labelled : Bool) → List Comment → RawStmts → List Export
  stmts_exports labelled cs raw.no_stmts = []
  stmts_exports labelled cs (raw.more_stmts s ss) = stmt_exports cs s ++ ((own_exports cs s ++ unlabelled labelled ss (loop_exports cs s)) ++ stmts_exports false cs ss)

  pub catch_exports : List Comment → RawCatch → List Export
  catch_exports cs raw.no_catch = []
  catch_exports cs (raw.caught v b) = stmts_exports false cs b

  pub finally_exports : List Comment → RawFinally → List Export
  finally_exports cs raw.no_finally = []
  finally_exports cs (raw.finally b) = stmts_exports false cs b

  pub cases_exports : List Comment → RawCases → List Export
  cases_exports cs raw.no_cases = []
  cases_exports cs (raw.more_cases t b ks) = stmts_exports false cs b ++ cases_exports cs ks

unfoldable pub all_exports : List Comment → List RawStmts → List Export
unfolding stmts_exports
all_exports cs [] = []
all_exports cs (t ∷ ts) = stmts_exports false cs t ++ all_exports cs ts

unfoldable pub unexported : List Export → List Refusal
unexported [] = []
unexported (x ∷ xs) = at (undeclared (codes "window")) x.place ++ unexported xs

-- where `window` is none, each export is refused at its comment
unfoldable pub exports_refused : (generate : Bool) → List Name → List Comment → List RawStmts → List Refusal
unfolding is_in unexported all_exports
exports_refused false externs cs ts = []
exports_refused true externs cs ts = pick (is_in (codes "window") externs) [] (unexported (all_exports cs ts))

-- ---- properties that are exported

unfoldable pub says_export : Option Comment → Bool
says_export None = false
says_export (Some c) = c.says.export

unfoldable pub exported_props : List Comment → List Property → List Name
unfolding says_export comment_at
exported_props cs [] = []
exported_props cs (p ∷ ps) = pick (says_export (comment_at p.at cs)) (p.name ∷ []) [] ++ exported_props cs ps

unfoldable pub kept_exports : (generate : Bool) → List Comment → List RawStmts → List Name
unfolding exported_props all_properties
kept_exports false cs ts = []
kept_exports true cs ts = exported_props cs (all_properties ts)
