-- What the parts of statements show.
use Rattle.std.specs.Prelude.{ℕ, List, [], ◌∷◌, Option, Some, None, map}
use Rattle.cc_ast.specs.declared.place.Place.{Place}
use Rattle.cc_grammar.specs.Reading as r
use Rattle.cc_grammar.specs.RawTree as S
use Rattle.cc_raw.specs.declared.tree.RawExpr.{RawExpr}
use Rattle.cc_raw.specs.declared.tree.RawStmt.{RawStmt}
use Rattle.cc_raw.specs.declared.tree.RawInit.{RawInit}
use Rattle.cc_raw.specs.declared.tree.RawDeclarator.{RawDeclarator}
use Rattle.cc_raw.specs.declared.tree.RawCase.{RawCase}
use Rattle.cc_raw.specs.declared.tree.RawCatch.{RawCatch}
use Rattle.cc_raw.specs.Bridge.{named, raw_expr, raw_stmt, raw_init, raw_declarator, raw_case, raw_catch}
use Rattle.cc_trees.specs.declared.statement_trees.Jump.{Jump}
use Rattle.cc_trees.specs.declared.statement_trees.Jump.TheVariants as J
use Rattle.cc_trees.specs.declared.function.Function.{Function}

-- ---- expressions

abbrev pub optional : Option RawExpr → S.MaybeExpr
optional None = S.no_expr
optional (Some e) = S.one_expr (raw_expr e)

abbrev pub sized_optional : Option RawExpr × ℕ → r.Sized S.MaybeExpr
sized_optional x = (optional x.0, x.1)

-- ---- variables

abbrev pub declarator : RawDeclarator → S.RawDeclarator
declarator d = record { variable = (raw_declarator d).0; value = (raw_declarator d).1 }

abbrev pub declarators : List RawDeclarator → List S.RawDeclarator
declarators ds = map declarator ds

abbrev pub sized_declarator : RawDeclarator × ℕ → r.Sized S.RawDeclarator
sized_declarator x = (declarator x.0, x.1)

abbrev pub sized_init : RawInit × ℕ → r.Sized S.RawInit
sized_init x = (raw_init x.0, x.1)

-- ---- functions

abbrev pub function : Function → List S.Named × List S.RawStmt
function f = (map named f.params, map raw_stmt f.body)

abbrev pub sized_function : Function × ℕ → r.Sized (List S.Named × List S.RawStmt)
sized_function x = (function x.0, x.1)

-- ---- statements

abbrev pub body : List RawStmt → S.RawStmts
body ss = S.stmts (map raw_stmt ss)

-- the statements of a body
abbrev pub listed : S.RawStmts → List S.RawStmt
listed S.no_stmts = []
listed (S.more_stmts s ss) = s ∷ listed ss

abbrev pub clause : RawCase → S.RawCase
clause c = record { test = (raw_case c).0; body = listed (raw_case c).1 }

abbrev pub clauses : List RawCase → List S.RawCase
clauses cs = map clause cs

abbrev pub sized_clause : RawCase × ℕ → r.Sized S.RawCase
sized_clause x = (clause x.0, x.1)

abbrev pub catch : Option RawCatch → S.RawCatch
catch None = S.no_catch
catch (Some c) = S.caught (raw_catch c).0 (raw_catch c).1

abbrev pub sized_catch : RawCatch × ℕ → r.Sized S.RawCatch
sized_catch x = (catch (Some x.0), x.1)

abbrev pub finally : Option (List RawStmt) → S.RawFinally
finally None = S.no_finally
finally (Some ss) = S.finally (body ss)

abbrev pub sized_finally : List RawStmt × ℕ → r.Sized S.RawFinally
sized_finally x = (finally (Some x.0), x.1)

abbrev pub jump : Jump → Place → Option (List ℕ) → S.RawStmt
jump J.Continue p l = S.continue p l
jump J.Break p l = S.break p l
