-- Whichever scopes of a program are rewritten, its bodies and chunks keep the relation.
use Rattle.std.proofs.Common.{◌≡◌, sym, ℕ, ◌≤◌, Bool, List, [], subst, ◌⊎◌, inl, inr}
use Rattle.cc_ast.specs.Syntax.{Expr, Exprs, Declarator, Stmt, Stmts, Program}
use Rattle.cc_ast.specs.declared.tree.Ref.{Ref}
use Rattle.cc_meaning.specs.Shapes.{declared_by, body_of}
use Rattle.cc_meaning.specs.Meaning.{bodies}
use Rattle.cc_tied.specs.Rewrites.{re_stmts}
use Rattle.cc_tied.specs.Fine.{FineStmts}
use Rattle.cc_tied.proofs.Kit.{Kit}
use Rattle.cc_tied.proofs.Parts.{Below, BodiesT}
use Rattle.cc_tied.proofs.Statements.{FollowsBody, FollowsHoist}
use Rattle.cc_tied.proofs.Turns.{AllBodiesT, below_of, ProgramT, ChunkT, ChunksT, FollowsChunk}
use Rattle.cc_tied.proofs.Nodes.{SameTables}
use Rattle.cc_tied.proofs.Rewriting.{Standing, allowed, StepRules}
use Rattle.cc_tied.proofs.RewritingBodies.{Rules, re_like_hoist, re_like_body, re_like_chunk}
use Rattle.cc_tied.proofs.Unchanged.{like_hoist, like_body, like_chunk}

-- what a pass does in each scope
pub record Pass : Type 0 where
  pub step : (scope : ℕ) → Expr → Expr
  pub step_call : (scope : ℕ) → ℕ → Expr → Exprs → Expr
  pub trim : (scope : ℕ) → Declarator → List Declarator
  pub trim_in : (scope : ℕ) → Declarator → Declarator
  pub cut : (scope : ℕ) → Stmt → Stmts → Stmts

module _ (built : Ref → Bool) (A : Pass) where
  -- the rewrite of a scope's own statements
  unfoldable pub rewritten : (scope : ℕ) → Stmts → Stmts
  rewritten f ss = re_stmts built (A.step f) (A.step_call f) (A.trim f) (A.trim_in f) (A.cut f) ss

  -- each scope as it was, or rewritten
  abbrev pub Rewrites : Program → Program → Type 0
  Rewrites P Q = (f : ℕ) → (body_of Q f ≡ body_of P f) ⊎ (body_of Q f ≡ rewritten f (body_of P f))

module _ (K : Kit) (P Q : Program) (built : Ref → Bool) (A : Pass) (Here : ℕ → K.Ctx → Type 0) (Stands : Standing K.Ctx) where
  open K use {J, J', tables, tables', World, bound, bound', Ctx, inside, outer, FunT, BindT, bind_inside, DeclaresT}

  -- what a pass owes in one scope, over whatever its calls do
  pub record ScopeRules (f : ℕ) (X : Below K) : Type 0 where
    pub steps : StepRules K X built (Here f) Stands (A.step f) (A.step_call f)
    pub cuts : Rules K X built (Here f) Stands (A.step f) (A.step_call f) (A.trim f) (A.trim_in f) (A.cut f)

  pub record PassT : Type 0 where
    pub same : (X : Below K) → SameTables K X built
    pub one_number : (f f' : ℕ) → FunT f f' → f ≡ f'
    pub fine : (f : ℕ) → FunT f f → FineStmts Ctx (allowed K Stands) (inside f f) [] (body_of P f)
    pub here : (f : ℕ) → FunT f f → Here f (inside f f)
    pub rules : (f d d' : ℕ) → FunT f f → (w : World) → bound w ≤ d → bound' w ≤ d' → AllBodiesT K P Q w → (tied : BodiesT K w (bodies J P d) (bodies J' Q d')) → ScopeRules f (below_of K P Q d d' w tied)

  -- and in the chunks that may be loaded
  pub record PassChunksT (C : ℕ → Type 0) : Type 0 where
    pub fine : (c : ℕ) → C c → FineStmts Ctx (allowed K Stands) (outer c) [] (body_of P c)
    pub here : (c : ℕ) → C c → Here c (outer c)
    pub declares : (c : ℕ) → C c → (s : Stmt) → Stands.of_stmt (outer c) [] s → DeclaresT (declared_by tables s) (declared_by tables' s)
    pub rules : (c d d' : ℕ) → C c → (w : World) → bound w ≤ d → bound' w ≤ d' → AllBodiesT K P Q w → (tied : BodiesT K w (bodies J P d) (bodies J' Q d')) → ScopeRules c (below_of K P Q d d' w tied)

  module _ (T : PassT) (chosen : Rewrites built A P Q) where
    one_body : (f : ℕ) (X : Below K) → FunT f f → ScopeRules f X → FollowsBody K X (inside f f) (body_of P f) (body_of Q f)
    unfolding rewritten
    one_body f X ft r = elim (chosen f) [
      | inl e ↦ subst (λ z. FollowsBody K X (inside f f) (body_of P f) z) (sym e) (like_body K X built (T.same X) Stands (inside f f) (λ r g h. bind_inside h) (body_of P f) (T.fine f ft))
      | inr e ↦ subst (λ z. FollowsBody K X (inside f f) (body_of P f) z) (sym e) (re_like_body K X built (Here f) Stands (A.step f) (A.step_call f) (A.trim f) (A.trim_in f) (A.cut f) (T.same X) r.steps r.cuts (inside f f) (T.here f ft) (λ r g h. bind_inside h) (body_of P f) (T.fine f ft))
    ]

    same_number : (f f' : ℕ) → f ≡ f' → (X : Below K) → FunT f f' → ((h : FunT f f) → ScopeRules f X) → FollowsBody K X (inside f f') (body_of P f) (body_of Q f')
    same_number f f' e X ft r = subst (λ z. (h : FunT f z) → FollowsBody K X (inside f z) (body_of P f) (body_of Q z)) e (λ h. one_body f X h (r h)) ft

    pub pass_program : ProgramT K P Q
    pass_program = record { parts = λ f f' d d' ft w ld ld' all tied. same_number f f' (T.one_number f f' ft) (below_of K P Q d d' w tied) ft (λ h. T.rules f d d' h w ld ld' all tied) }

    module _ (C : ℕ → Type 0) (D : PassChunksT C) where
      one_runs : (c : ℕ) (X : Below K) → C c → ScopeRules c X → FollowsChunk K X c (body_of P c) (body_of Q c)
      unfolding rewritten
      one_runs c X q r = elim (chosen c) [
        | inl e ↦ subst (λ z. FollowsChunk K X c (body_of P c) z) (sym e) (like_chunk K X built (T.same X) Stands c (D.declares c q) (body_of P c) (D.fine c q))
        | inr e ↦ subst (λ z. FollowsChunk K X c (body_of P c) z) (sym e) (re_like_chunk K X built (Here c) Stands (A.step c) (A.step_call c) (A.trim c) (A.trim_in c) (A.cut c) (T.same X) r.steps r.cuts c (D.here c q) (body_of P c) (D.fine c q))
      ]

      -- the statements of a chunk's own list, after its functions are bound
      pub pass_runs : (c d d' : ℕ) → C c → (w : World) → bound w ≤ d → bound' w ≤ d' → AllBodiesT K P Q w → (tied : BodiesT K w (bodies J P d) (bodies J' Q d')) → FollowsChunk K (below_of K P Q d d' w tied) c (body_of P c) (body_of Q c)
      pass_runs c d d' q w ld ld' all tied = one_runs c (below_of K P Q d d' w tied) q (D.rules c d d' q w ld ld' all tied)

      -- where no function is bound but by a write
      module _ (written : (c : ℕ) → C c → (r : Ref) (f : ℕ) → BindT (outer c) r f → ⊥) where
        one_hoist : (c : ℕ) (X : Below K) → C c → ScopeRules c X → FollowsHoist K X (outer c) (body_of P c) (body_of Q c)
        unfolding rewritten
        one_hoist c X q r = elim (chosen c) [
          | inl e ↦ subst (λ z. FollowsHoist K X (outer c) (body_of P c) z) (sym e) (like_hoist K X built (T.same X) Stands (outer c) (written c q) (body_of P c) (D.fine c q))
          | inr e ↦ subst (λ z. FollowsHoist K X (outer c) (body_of P c) z) (sym e) (re_like_hoist K X built (Here c) Stands (A.step c) (A.step_call c) (A.trim c) (A.trim_in c) (A.cut c) (T.same X) r.steps r.cuts (outer c) (D.here c q) (written c q) (body_of P c) (D.fine c q))
        ]

        one_chunk : (c : ℕ) (X : Below K) → C c → ScopeRules c X → ChunkT K X P Q c
        one_chunk c X q r = record { hoist = one_hoist c X q r; runs = one_runs c X q r }

        pub pass_chunks : ChunksT K P Q C
        pass_chunks = record { lists = λ c d d' q w ld ld' all tied. one_chunk c (below_of K P Q d d' w tied) q (D.rules c d d' q w ld ld' all tied) }
