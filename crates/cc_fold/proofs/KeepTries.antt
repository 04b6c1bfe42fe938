-- Whether folding keeps each node of a `try`, by the bodies that it has.
use Rattle.std.proofs.Common.{◌≡◌, refl, sym, ap, ◌∙◌, ℕ, Bool, true, false, ◌&&◌, List, Option, Some, None}
use Rattle.cc_ast.specs.declared.tree.Stmt.{Stmt}
use Rattle.cc_ast.specs.declared.tree.Stmt.TheVariants as V
use Rattle.cc_ast.specs.StmtBridge.{term_stmt, term_stmts, maybe_stmts}
use Rattle.cc_ast.specs.StmtTerms.{term_stmt-Try, maybe_stmts-None, maybe_stmts-Some}
use Rattle.cc_fold.specs.Keeps.{keeps_stmt, keeps_stmts, keeps_maybe}
use Rattle.cc_fold.proofs.KeepStmts.{at-try, maybe-absent, maybe-present}

none_keeps : (k : Option (List Stmt)) → k ≡ None → keeps_maybe (maybe_stmts k) ≡ true
none_keeps k h = ap (λ (z : Option (List Stmt)). keeps_maybe (maybe_stmts z)) h ∙ ap keeps_maybe maybe_stmts-None ∙ maybe-absent

some_keeps : (k : Option (List Stmt)) (d : List Stmt) → k ≡ Some d → keeps_maybe (maybe_stmts k) ≡ keeps_stmts (term_stmts d)
some_keeps k d h = ap (λ (z : Option (List Stmt)). keeps_maybe (maybe_stmts z)) h ∙ ap keeps_maybe (maybe_stmts-Some d) ∙ maybe-present (term_stmts d)

last_alone : (a : Bool) → (a && true) ≡ a
last_alone true = refl
last_alone false = refl

module _ (s : Stmt) (i : ℕ) (b : List Stmt) (k f : Option (List Stmt)) (is : s ≡ V.Try i b k f) (body : keeps_stmts (term_stmts b) ≡ true) where
  -- where the body stays
  rest : keeps_stmt (term_stmt s) ≡ (keeps_maybe (maybe_stmts k) && keeps_maybe (maybe_stmts f))
  rest = ap (λ (z : Stmt). keeps_stmt (term_stmt z)) is ∙ ap keeps_stmt (term_stmt-Try i b k f) ∙ at-try i (term_stmts b) (maybe_stmts k) (maybe_stmts f) ∙ ap (λ z. z && (keeps_maybe (maybe_stmts k) && keeps_maybe (maybe_stmts f))) body

  pub only_catch : (d : List Stmt) → k ≡ Some d → f ≡ None → keeps_stmts (term_stmts d) ≡ keeps_stmt (term_stmt s)
  only_catch d h q = sym (rest ∙ ap (λ z. keeps_maybe (maybe_stmts k) && z) (none_keeps f q) ∙ last_alone (keeps_maybe (maybe_stmts k)) ∙ some_keeps k d h)

  pub only_finally : (d : List Stmt) → k ≡ None → f ≡ Some d → keeps_stmts (term_stmts d) ≡ keeps_stmt (term_stmt s)
  only_finally d h q = sym (rest ∙ ap (λ z. z && keeps_maybe (maybe_stmts f)) (none_keeps k h) ∙ some_keeps f d q)

  pub both_bodies : (d e : List Stmt) → k ≡ Some d → f ≡ Some e → keeps_stmts (term_stmts d) ≡ true → keeps_stmts (term_stmts e) ≡ keeps_stmt (term_stmt s)
  both_bodies d e h q y = sym (rest ∙ ap (λ z. z && keeps_maybe (maybe_stmts f)) (some_keeps k d h ∙ y) ∙ some_keeps f e q)
