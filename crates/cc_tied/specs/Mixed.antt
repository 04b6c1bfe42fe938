-- A program some of whose scopes have other statements.
use Rattle.std.specs.Prelude.{◌≡◌, ℕ, suc, List, [], ◌∷◌}
use Rattle.cc_ast.specs.Syntax.{Stmts, Scope, Program}

-- each scope is as it was, or its statements are rewritten; the first has number k
pub data MixedScopes (rewrite : (scope : ℕ) → Stmts → Stmts) : ℕ → List Scope → List Scope → Type 0 where
  no_scopes : {k : ℕ} → MixedScopes rewrite k [] []
  as_it_was : {k : ℕ} {s : Scope} {ss ts : List Scope} → MixedScopes rewrite (suc k) ss ts → MixedScopes rewrite k (s ∷ ss) (s ∷ ts)
  with_other : {k : ℕ} {s t : Scope} {ss ts : List Scope} → t ≡ record s { body = rewrite k s.body } → MixedScopes rewrite (suc k) ss ts → MixedScopes rewrite k (s ∷ ss) (t ∷ ts)

-- Q is P with the statements of some scopes rewritten
pub record IsMixed (rewrite : (scope : ℕ) → Stmts → Stmts) (P Q : Program) : Type 0 where
  pub scopes : MixedScopes rewrite 0 P.scopes Q.scopes
  pub others : Q ≡ record P { scopes = Q.scopes }
