-- Whether two lists of scopes are the same, by the codes by which scopes are told apart.
use Rattle.std.specs.Prelude.{Bool, true, false, ◌&&◌, nat_eq, List}
use Rattle.std.specs.Coded.{coded_list}
use base.Stored.{Gv, gnil, gnum, gcons}
use Rattle.cc_ast.specs.Syntax.{Scope}
use Rattle.cc_ast.specs.Codes.{coded_scope}

unfoldable pub same_code : Gv → Gv → Bool
same_code gnil gnil = true
same_code gnil (gnum n) = false
same_code gnil (gcons a b) = false
same_code (gnum m) gnil = false
same_code (gnum m) (gnum n) = nat_eq m n
same_code (gnum m) (gcons a b) = false
same_code (gcons a b) gnil = false
same_code (gcons a b) (gnum n) = false
same_code (gcons a b) (gcons c d) = same_code a c && same_code b d

unfoldable pub are_same : List Scope → List Scope → Bool
unfolding same_code
are_same xs ys = same_code ((coded_list coded_scope).code xs) ((coded_list coded_scope).code ys)
