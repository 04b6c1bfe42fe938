-- Whether folding keeps each node of a scope. The test of a node looks at the node alone, and may say no
-- where folding keeps the node too.
use Rattle.std.specs.Prelude.{◌≡◌, Bool, true, ◌&&◌, not, is_some, List, Option}
use Rattle.cc_ast.specs.Syntax.{Expr, unary, binary, and, or, cond, Target, Exprs, Fields, Declarator, ForInit, ForTarget, Stmt, Stmts, MaybeStmts, Cases, Scope}
use Rattle.cc_ast.specs.declared.operator.BinOp.{BinOp}
use Rattle.cc_ast.specs.declared.operator.BinOp.TheVariants.{Instance, Has}
use Rattle.cc_ast.specs.declared.operator.UnOp.{UnOp}
use Rattle.cc_ast.specs.declared.operator.UnOp.TheVariants.{Void, Delete}
use Rattle.cc_ast.specs.declared.tree.Ref.{Ref}
use Rattle.cc_tied.specs.EachNode.{each_expr, each_target, each_exprs, each_fields, each_option, each_declarator, each_declarators, each_init, each_names, each_stmt, each_stmts, each_maybe, each_cases}
use Rattle.cc_fold.specs.Fold.{literal, fold_scope}

unfoldable pub is_literal : Expr → Bool
unfolding literal
is_literal e = is_some (literal e)

-- ---- the test of a node

-- `void` and `delete` stay, and every other operator whose operand is no literal
unfoldable pub unary_stays : UnOp → Expr → Bool
unfolding is_literal
unary_stays Void e = true
unary_stays Delete e = true
unary_stays op e = not (is_literal e)

-- so do `instanceof` and `in`, and every other operator with an operand that is no literal
unfoldable pub binary_stays : BinOp → Expr → Expr → Bool
unfolding is_literal
binary_stays Instance a b = true
binary_stays Has a b = true
binary_stays op a b = not (is_literal a && is_literal b)

unfoldable pub stays : Expr → Bool
unfolding unary_stays binary_stays is_literal
stays (unary i op e) = unary_stays op e
stays (binary i op a b) = binary_stays op a b
stays (and i a b) = not (is_literal a)
stays (or i a b) = not (is_literal a)
stays (cond i t a b) = not (is_literal t)
stays e = true

-- ---- the same of each node of a tree

unfoldable pub keeps_expr : Expr → Bool
unfolding each_expr stays
keeps_expr e = each_expr stays e

unfoldable pub keeps_target : Target → Bool
unfolding each_target stays
keeps_target u = each_target stays u

unfoldable pub keeps_all : Exprs → Bool
unfolding each_exprs stays
keeps_all es = each_exprs stays es

unfoldable pub keeps_fields : Fields → Bool
unfolding each_fields stays
keeps_fields fs = each_fields stays fs

unfoldable pub keeps_option : Option Expr → Bool
unfolding each_option stays
keeps_option o = each_option stays o

unfoldable pub keeps_declarator : Declarator → Bool
unfolding each_declarator stays
keeps_declarator d = each_declarator stays d

unfoldable pub keeps_declarators : List Declarator → Bool
unfolding each_declarators stays
keeps_declarators ds = each_declarators stays ds

unfoldable pub keeps_init : ForInit → Bool
unfolding each_init stays
keeps_init h = each_init stays h

unfoldable pub keeps_names : ForTarget → Bool
unfolding each_names stays
keeps_names u = each_names stays u

unfoldable pub keeps_stmt : Stmt → Bool
unfolding each_stmt stays
keeps_stmt s = each_stmt stays s

unfoldable pub keeps_stmts : Stmts → Bool
unfolding each_stmts stays
keeps_stmts ss = each_stmts stays ss

unfoldable pub keeps_maybe : MaybeStmts → Bool
unfolding each_maybe stays
keeps_maybe b = each_maybe stays b

unfoldable pub keeps_cases : Cases → Bool
unfolding each_cases stays
keeps_cases cs = each_cases stays cs

-- a clause of a `switch`
abbrev pub keeps_case : Option Expr × Stmts → Bool
keeps_case c = keeps_option c.0 && keeps_stmts c.1

unfoldable pub keeps_scope : Scope → Bool
unfolding keeps_stmts
keeps_scope s = keeps_stmts s.body

-- a scope each of whose nodes stays is folded to itself, whatever is built in
abbrev pub KeptScopeStays : Type 0
KeptScopeStays = (built : Ref → Bool) (s : Scope) → keeps_scope s ≡ true → fold_scope built s ≡ s
