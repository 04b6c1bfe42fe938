-- A scope is folded where its statements are.
use Rattle.std.proofs.Common.{◌≡◌, refl, sym, ap, ◌∙◌, Bool, List, map}
use Rattle.cc_ast.specs.Syntax.{Scope, Stmts}
use Rattle.cc_ast.specs.declared.tree.Ref.{Ref}
use Rattle.cc_ast.specs.declared.tree.Stmt.{Stmt}
use Rattle.cc_ast.specs.StmtBridge.{term_stmt, term_stmts}
use Rattle.cc_fold.specs.Fold.{fold_scope}
use Rattle.cc_fold.specs.Walk.{fold_stmt, fold_stmts}
use Rattle.cc_fold.proofs.StmtEquations.{at-stmts}

scope_with : (built : Ref → Bool) (s : Scope) → record s { body = fold_stmts built s.body } ≡ fold_scope built s
unfolding fold_scope fold_stmts
scope_with built s = refl

pub scope_folded : (built : Ref → Bool) (s : Scope) (b d : List Stmt) → s.body ≡ term_stmts b → map term_stmt d ≡ map (fold_stmt built) (map term_stmt b) → record s { body = term_stmts d } ≡ fold_scope built s
scope_folded built s b d h k = ap (λ (z : Stmts). record s { body = z }) (at-stmts built b d k ∙ ap (fold_stmts built) (sym h)) ∙ scope_with built s
