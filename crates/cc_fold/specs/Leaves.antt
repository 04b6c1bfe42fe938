-- Expressions without parts, which folding leaves as they are.
use Rattle.std.specs.Prelude.{Bool, true, false}
use Rattle.cc_ast.specs.Syntax.{Expr, lit, var, this, fun}

unfoldable pub is_leaf : Expr → Bool
is_leaf (lit i p) = true
is_leaf (var i r) = true
is_leaf (this i) = true
is_leaf (fun i f) = true
is_leaf _ = false
