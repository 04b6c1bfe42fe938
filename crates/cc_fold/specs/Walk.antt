-- What folding makes of each kind of tree in a scope.
use Rattle.std.specs.Prelude.{Bool, Option}
use Rattle.cc_ast.specs.Syntax.{Expr, Target, Exprs, Fields, Declarator, ForInit, ForTarget, Stmt, Stmts, MaybeStmts, Cases}
use Rattle.cc_ast.specs.declared.tree.Key.{Key}
use Rattle.cc_ast.specs.declared.tree.Ref.{Ref}
use Rattle.cc_tied.specs.Placed.{Place, a_value}
use Rattle.cc_tied.specs.Rewrites.{re, re_target, re_all, re_fields, re_value, re_option, re_declarator, re_init, re_names, re_stmt, re_stmts, re_maybe, re_cases}
use Rattle.cc_fold.specs.Fold.{fold, same_call, same_declarator, same_name, same_stmt}

module _ (built : Ref → Bool) where
  unfoldable pub fold_expr : (in_target : Bool) → Place → Expr → Expr
  unfolding re fold same_call
  fold_expr t q e = re built fold same_call t q e

  unfoldable pub fold_target : Target → Target
  unfolding re_target fold same_call
  fold_target u = re_target built fold same_call u

  unfoldable pub fold_all : (in_target : Bool) → Exprs → Exprs
  unfolding re_all fold same_call
  fold_all t es = re_all built fold same_call t es

  unfoldable pub fold_fields : (in_target : Bool) → Fields → Fields
  unfolding re_fields fold same_call
  fold_fields t fs = re_fields built fold same_call t fs

  abbrev pub fold_field : (in_target : Bool) → Key × Expr → Key × Expr
  fold_field t x = (x.0, fold_expr t a_value x.1)

  unfoldable pub fold_value : Expr → Expr
  unfolding re_value fold same_call
  fold_value e = re_value built fold same_call e

  unfoldable pub fold_option : Option Expr → Option Expr
  unfolding re_option fold same_call
  fold_option o = re_option built fold same_call o

  unfoldable pub fold_declarator : Declarator → Declarator
  unfolding re_declarator fold same_call
  fold_declarator d = re_declarator built fold same_call d

  unfoldable pub fold_init : ForInit → ForInit
  unfolding re_init fold same_call same_declarator same_name
  fold_init h = re_init built fold same_call same_declarator same_name h

  unfoldable pub fold_names : ForTarget → ForTarget
  unfolding re_names fold same_call same_declarator same_name
  fold_names u = re_names built fold same_call same_declarator same_name u

  unfoldable pub fold_stmt : Stmt → Stmt
  unfolding re_stmt fold same_call same_declarator same_name same_stmt
  fold_stmt s = re_stmt built fold same_call same_declarator same_name same_stmt s

  unfoldable pub fold_stmts : Stmts → Stmts
  unfolding re_stmts fold same_call same_declarator same_name same_stmt
  fold_stmts ss = re_stmts built fold same_call same_declarator same_name same_stmt ss

  unfoldable pub fold_maybe : MaybeStmts → MaybeStmts
  unfolding re_maybe fold same_call same_declarator same_name same_stmt
  fold_maybe b = re_maybe built fold same_call same_declarator same_name same_stmt b

  unfoldable pub fold_cases : Cases → Cases
  unfolding re_cases fold same_call same_declarator same_name same_stmt
  fold_cases cs = re_cases built fold same_call same_declarator same_name same_stmt cs

  -- a clause of a `switch`
  abbrev pub fold_case : Option Expr × Stmts → Option Expr × Stmts
  fold_case c = (fold_option c.0, fold_stmts c.1)
