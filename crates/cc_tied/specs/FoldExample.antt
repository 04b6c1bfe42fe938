-- A small phase: sums of literals become literals, and `&&` with a literal on the left the operand that it chooses.
use Rattle.std.specs.Prelude.{ℕ, Bool, Option, Some, None, is_some}
use Rattle.cc_ast.specs.Syntax.{Prim, Expr, lit, binary, and, Stmts, more_stmts, Program}
use Rattle.cc_ast.specs.declared.operator.BinOp.{BinOp}
use Rattle.cc_ast.specs.declared.operator.BinOp.TheVariants.{Add}
use Rattle.cc_meaning.specs.Values.{prim}
use Rattle.cc_meaning.specs.Operators.{Outcome, gives, binary_of, truthy}
use Rattle.cc_ast.specs.declared.tree.Ref.{Ref}
use Rattle.cc_meaning.specs.Monad.{pick}
use Rattle.cc_meaning.specs.Shapes.{tables_of}
use Rattle.cc_meaning.specs.Same.{Same}
use Rattle.cc_meaning.specs.WellMade.{WellMade}
use Rattle.cc_tied.specs.Tied.{built_of}
use Rattle.cc_tied.specs.Rewrites.{re_stmts, stay_call, whole, whole_in}
use Rattle.cc_tied.specs.Promises.{HasNoPaths}
use Rattle.cc_tied.specs.Mixed.{IsMixed}

unfoldable pub literal : Expr → Option Prim
literal (lit i p) = Some p
literal _ = None

unfoldable pub given : Outcome → Option Prim
given (gives (prim p)) = Some p
given _ = None

-- the sum where the operator table gives one
unfoldable pub sum_of : Option Prim → Option Prim → Option Prim
unfolding given binary_of
sum_of (Some p) (Some q) = given (binary_of Add (prim p) (prim q))
sum_of _ _ = None

unfoldable pub literal_or : ℕ → Option Prim → Expr → Expr
literal_or i (Some p) e = lit i p
literal_or i None e = e

unfoldable pub chosen : Option Prim → (left right otherwise : Expr) → Expr
unfolding truthy
chosen (Some p) a b e = pick (truthy (prim p)) b a
chosen None a b e = e

unfoldable pub fold_binary : ℕ → BinOp → Expr → Expr → Expr
unfolding literal_or sum_of literal
fold_binary i Add a b = literal_or i (sum_of (literal a) (literal b)) (binary i Add a b)
fold_binary i op a b = binary i op a b

unfoldable pub fold : Expr → Expr
unfolding fold_binary chosen literal
fold (binary i op a b) = fold_binary i op a b
fold (and i a b) = chosen (literal a) a b (and i a b)
fold e = e

-- whether a reference stands for what is built in
abbrev pub is_built_in : Program → Ref → Bool
is_built_in P r = is_some (built_of (tables_of P) r)

-- the statements of a scope of the program, folded
abbrev pub fold_stmts : Program → (scope : ℕ) → Stmts → Stmts
fold_stmts P f ss = re_stmts (is_built_in P) fold stay_call whole whole_in more_stmts ss

-- whichever scopes are folded, the program does the same
abbrev pub FoldingKeeps : Type 0
FoldingKeeps = (P Q : Program) → WellMade P → HasNoPaths P → IsMixed (fold_stmts P) P Q → Same P Q
