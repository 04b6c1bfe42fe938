-- Bodies of scopes, which are known by the plain statements that they stand for.
use Rattle.std.specs.Prelude.{◌≡◌, ◌↔◌, Bool, IsTrue, List}
use Rattle.std.proofs.Common.{refl, ap}
use Rattle.cc_ast.specs.declared.tree.Stmt.{Stmt}
use Rattle.cc_ast.specs.StmtBridge.{term_stmts}
use Rattle.cc_equal.proofs.OneStmt.{one_stmts}

pub body_known : (r : Bool) (xs ys : List Stmt) → IsTrue r ↔ (xs ≡ ys) → IsTrue r ↔ (term_stmts xs ≡ term_stmts ys)
body_known r xs ys h = (λ t. ap term_stmts (h.0 t), λ e. h.1 (one_stmts (term_stmts ys) xs ys e refl))
