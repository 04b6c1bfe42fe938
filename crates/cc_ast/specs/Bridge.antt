-- The plain tree that a tree of src/ stands for, level by level.
use Rattle.std.specs.Prelude.{List, [], ◌∷◌, Option, map}
use Rattle.std.specs.Option.{option_map}
use Rattle.cc_ast.specs.declared.tree.Expr as Tree
use Rattle.cc_ast.specs.declared.tree.Target as TargetTree
use Rattle.cc_ast.specs.declared.tree.Expr.TheOpen.{Expr-F, Target-F}
use Rattle.cc_ast.specs.declared.tree.Expr.TheFolds.{fold-Expr, fold-Target}
use Rattle.cc_ast.specs.declared.tree.Key.{Key}
use Rattle.cc_ast.specs.Syntax as S

unfoldable pub exprs : List S.Expr → S.Exprs
exprs [] = S.no_exprs
exprs (e ∷ es) = S.more_exprs e (exprs es)

unfoldable pub fields : List (Key × S.Expr) → S.Fields
fields [] = S.no_fields
fields (x ∷ xs) = S.more_fields x.0 x.1 (fields xs)

unfoldable pub expr_layer : Expr-F S.Expr S.Target → S.Expr
expr_layer (Expr-F.Undefined s) = S.lit s S.undefined
expr_layer (Expr-F.Null s) = S.lit s S.null
expr_layer (Expr-F.Truth s b) = S.lit s (S.truth b)
expr_layer (Expr-F.Whole s n) = S.lit s (S.whole n)
expr_layer (Expr-F.Text s t) = S.lit s (S.text t)
expr_layer (Expr-F.Var s r) = S.var s r
expr_layer (Expr-F.This s) = S.this s
expr_layer (Expr-F.Fun s f) = S.fun s f
expr_layer (Expr-F.List s es) = S.list s (exprs es)
expr_layer (Expr-F.Object s fs) = S.object s (fields fs)
expr_layer (Expr-F.Unary s op a) = S.unary s op a
expr_layer (Expr-F.Binary s op a b) = S.binary s op a b
expr_layer (Expr-F.And s a b) = S.and s a b
expr_layer (Expr-F.Or s a b) = S.or s a b
expr_layer (Expr-F.Cond s t a b) = S.cond s t a b
expr_layer (Expr-F.Assign s op t a) = S.assign s op t a
expr_layer (Expr-F.Step s up prefix t) = S.step s up prefix t
expr_layer (Expr-F.Member s a p) = S.member s a p
expr_layer (Expr-F.Index s a b) = S.index s a b
expr_layer (Expr-F.Call s f es) = S.call s f (exprs es)
expr_layer (Expr-F.New s f es) = S.new s f (exprs es)
expr_layer (Expr-F.Comma s a b) = S.comma s a b
expr_layer (Expr-F.Cast s d a) = S.cast s d a
expr_layer (Expr-F.Tick s p a) = S.tick s p a

unfoldable pub target_layer : Target-F S.Expr S.Target → S.Target
target_layer (Target-F.Variable s r) = S.to_var s r
target_layer (Target-F.Dotted s a p) = S.to_member s a p
target_layer (Target-F.Bracketed s a b) = S.to_index s a b

unfoldable pub term : Tree.Expr → S.Expr
term = fold-Expr S.Expr S.Target expr_layer target_layer

unfoldable pub target : TargetTree.Target → S.Target
target = fold-Target S.Expr S.Target expr_layer target_layer

unfoldable pub terms : List Tree.Expr → S.Exprs
terms es = exprs (map term es)

abbrev pub field : Key × Tree.Expr → Key × S.Expr
field x = (x.0, term x.1)

unfoldable pub term_fields : List (Key × Tree.Expr) → S.Fields
term_fields fs = fields (map field fs)

unfoldable pub option_term : Option Tree.Expr → Option S.Expr
option_term = option_map term
