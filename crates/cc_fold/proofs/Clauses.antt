-- The clause of a `switch`, and the bodies of a `try`, folded.
use Rattle.std.proofs.Common.{◌≡◌, sym, ap, ◌∙◌, ℕ, Bool, List, map, Option, Some}
use Rattle.cc_ast.specs.declared.tree.Case.{Case, out-Case, roll-Case, roll-out-Case}
use Rattle.cc_ast.specs.declared.tree.Expr.{Expr}
use Rattle.cc_ast.specs.declared.tree.Ref.{Ref}
use Rattle.cc_ast.specs.declared.tree.Stmt.{Stmt, Stmt-F, out-Stmt, roll-Stmt, out-roll-Stmt}
use Rattle.cc_ast.specs.declared.tree.Stmt.TheFolds.{fold-roll-Case}
use Rattle.cc_ast.specs.declared.tree.Stmt.TheVariants as V
use Rattle.cc_ast.specs.Syntax as S
use Rattle.cc_ast.specs.Bridge.{option_term}
use Rattle.cc_ast.specs.StmtBridge.{CaseTerm, case_layer, stmt_layer, term_stmt, term_stmts, term_case, maybe_stmts}
use Rattle.cc_ast.specs.StmtTerms.{term_stmt-Try, maybe_stmts-Some}
use Rattle.cc_fold.specs.Walk.{fold_option, fold_stmt, fold_stmts, fold_maybe, fold_case}
use Rattle.cc_fold.proofs.StmtEquations.{at-try, at-stmts, maybe-present}

case_made : (t : Option Expr) (b : List Stmt) → term_case (roll-Case (record { test = t; body = b })) ≡ (option_term t, term_stmts b)
unfolding term_case term_stmt term_stmts case_layer
case_made t b = fold-roll-Case S.Stmt CaseTerm stmt_layer case_layer _

pub case_at : (c : Case) → term_case c ≡ (option_term (out-Case c).test, term_stmts (out-Case c).body)
case_at c = ap term_case (sym (roll-out-Case c)) ∙ case_made (out-Case c).test (out-Case c).body

-- two `try` that are one have the same bodies
pub tries : (i j : ℕ) (b d : List Stmt) (k m f g : Option (List Stmt)) → V.Try i b k f ≡ V.Try j d m g → (b ≡ d) × (k ≡ m) × (f ≡ g)
tries i j b d k m f g h =
    let e : roll-Stmt (Stmt-F.Try i b k f) ≡ roll-Stmt (Stmt-F.Try j d m g) = V.rolls-Try i b k f ∙ h ∙ sym (V.rolls-Try j d m g) in
    let o : Stmt-F.Try i b k f ≡ Stmt-F.Try j d m g = sym (out-roll-Stmt (Stmt-F.Try i b k f)) ∙ ap out-Stmt e ∙ out-roll-Stmt (Stmt-F.Try j d m g) in
    (cc, cc, cc)

module _ (built : Ref → Bool) where
  pub case_folded : (c : Case) (t : Option Expr) (b : List Stmt) → option_term t ≡ fold_option built (option_term (out-Case c).test) → map term_stmt b ≡ map (fold_stmt built) (map term_stmt (out-Case c).body) → term_case (roll-Case (record { test = t; body = b })) ≡ fold_case built (term_case c)
  case_folded c t b h k = case_made t b ∙ ap (λ (z : Option S.Expr). (z, term_stmts b)) h ∙ ap (λ (z : S.Stmts). (fold_option built (option_term (out-Case c).test), z)) (at-stmts built (out-Case c).body b k) ∙ ap (fold_case built) (sym (case_at c))

  pub maybe_some : (k r : Option (List Stmt)) (b d : List Stmt) → r ≡ Some d → k ≡ Some b → map term_stmt d ≡ map (fold_stmt built) (map term_stmt b) → maybe_stmts r ≡ fold_maybe built (maybe_stmts k)
  maybe_some k r b d h q e =
      ap maybe_stmts h ∙ maybe_stmts-Some d ∙ ap S.present (at-stmts built b d e) ∙ sym (maybe-present built (term_stmts b))
      ∙ sym (ap (λ (z : Option (List Stmt)). fold_maybe built (maybe_stmts z)) q ∙ ap (fold_maybe built) (maybe_stmts-Some b))

  pub try_folded : (s : Stmt) (i : ℕ) (b d : List Stmt) (k m f g : Option (List Stmt)) → s ≡ V.Try i b k f → map term_stmt d ≡ map (fold_stmt built) (map term_stmt b) → maybe_stmts m ≡ fold_maybe built (maybe_stmts k) → maybe_stmts g ≡ fold_maybe built (maybe_stmts f) → term_stmt (V.Try i d m g) ≡ fold_stmt built (term_stmt s)
  try_folded s i b d k m f g e h p q =
      term_stmt-Try i d m g
      ∙ ap (λ z. S.try i z (maybe_stmts m) (maybe_stmts g)) (at-stmts built b d h)
      ∙ ap (λ z. S.try i (fold_stmts built (term_stmts b)) z (maybe_stmts g)) p
      ∙ ap (λ z. S.try i (fold_stmts built (term_stmts b)) (fold_maybe built (maybe_stmts k)) z) q
      ∙ sym (ap (λ (z : Stmt). fold_stmt built (term_stmt z)) e ∙ ap (fold_stmt built) (term_stmt-Try i b k f) ∙ at-try built i (term_stmts b) (maybe_stmts k) (maybe_stmts f))
