-- A pass whose steps keep the injection, where functions are bound to known globals.
use Rattle.std.proofs.Common.{◌≡◌, ℕ, ◌≤◌, Bool, false, [], None, subst}
use Rattle.cc_ast.specs.Syntax.{Program, Stmt}
use Rattle.cc_ast.specs.declared.tree.Ref.{Ref}
use Rattle.cc_meaning.specs.Shapes.{declared_by, tables_of, body_of}
use Rattle.cc_meaning.specs.Meaning.{hoist, bodies}
use Rattle.cc_meaning.specs.Script.{graph_of, checked, top}
use Rattle.cc_meaning.specs.Same.{Same}
use Rattle.cc_meaning.specs.WellMade.{Reached, chunk_reached}
use Rattle.cc_tied.specs.Tied.{built_of}
use Rattle.cc_tied.specs.Promises.{HasNoPaths}
use Rattle.cc_tied.specs.Fine.{FineStmts}
use Rattle.cc_tied.specs.Facts.{Facts}
use Rattle.cc_tied.specs.PlainFacts.{owner, IsReached}
use Rattle.cc_tied.proofs.Kit.{Kit}
use Rattle.cc_tied.proofs.Parts.{BodiesT}
use Rattle.cc_tied.proofs.Turns.{AllBodiesT, below_of, IsChunk}
use Rattle.cc_tied.proofs.Rewriting.{Standing, allowed}
use Rattle.cc_tied.proofs.Subsets.{Pass, Rewrites, ScopeRules, PassT, PassChunksT, pass_program, pass_runs}
use Rattle.cc_tied.proofs.Injection.Tie.{Ctx, at, DeclaresI}
use Rattle.cc_tied.proofs.Injection.Ends.{SameButSet}
use Rattle.cc_tied.proofs.Injection.Runs.{same_by_bound}
use Rattle.cc_tied.proofs.Injection.Facts.{owner_function, owner_chunk}
use Rattle.cc_tied.proofs.Injection.Pass.{pass_kit, same_tables}
use Rattle.cc_tied.proofs.Injection.Rewrites.{is_chunk_of}

module _ (F : Facts) (P Q : Program) (none : HasNoPaths P) (same : SameButSet P Q) (built : Ref → Bool) (builts : (r : Ref) → built r ≡ false → built_of (tables_of P) r ≡ None) (A : Pass) (Here : ℕ → Ctx → Type 0) (Stands : Standing Ctx) where
  abbrev K : Kit
  K = pass_kit F P Q none built builts

  -- what the pass owes of the program and in each scope
  pub record BoundPass : Type 0 where
    pub reached : (f : ℕ) → F.Reached f → IsReached P f
    pub fine : (f : ℕ) → Reached P f → FineStmts Ctx (allowed K Stands) (at (owner P f) 0) [] (body_of P f)
    pub here : (f : ℕ) → Here f (at (owner P f) 0)
    pub rules : (f d d' : ℕ) (w : K.World) → K.bound w ≤ d → K.bound' w ≤ d' → AllBodiesT K P Q w → (tied : BodiesT K w (bodies checked P d) (bodies checked Q d')) → ScopeRules K P Q built A Here Stands f (below_of K P Q d d' w tied)
    -- a chunk binds the functions that it bound, and a statement of its own list that stays declares what it declared
    pub hoists : (c : ℕ) → hoist checked top (body_of Q c) ≡ hoist checked top (body_of P c)
    pub declares : (s : Stmt) → DeclaresI (declared_by K.tables s) (declared_by K.tables' s)

  module _ (pass : BoundPass) (chosen : Rewrites built A P Q) where
    functions : PassT K P Q built A Here Stands
    functions = record {
      same = λ X. same_tables F P Q none built builts X;
      one_number = λ f f' h. h.same;
      fine = λ f h. let r = pass.reached f h.reached in subst (λ z. FineStmts Ctx (allowed K Stands) (at z 0) [] (body_of P f)) (owner_function P f r.function) (pass.fine f r.reached);
      here = λ f h. subst (λ z. Here f (at z 0)) (owner_function P f (pass.reached f h.reached).function) (pass.here f);
      rules = λ f d d' h w le le' all tied. pass.rules f d d' w le le' all tied;
    }

    chunk_fine : (c : ℕ) → IsChunk (graph_of P) c → FineStmts Ctx (allowed K Stands) (at None 0) [] (body_of P c)
    chunk_fine c h = let r = is_chunk_of P c h in subst (λ z. FineStmts Ctx (allowed K Stands) (at z 0) [] (body_of P c)) (owner_chunk P c r) (pass.fine c (chunk_reached c r))

    chunks : PassChunksT K P Q built A Here Stands (IsChunk (graph_of P))
    chunks = record {
      fine = chunk_fine;
      here = λ c h. subst (λ z. Here c (at z 0)) (owner_chunk P c (is_chunk_of P c h)) (pass.here c);
      declares = λ c h s k. pass.declares s;
      rules = λ c d d' h w le le' all tied. pass.rules c d d' w le le' all tied;
    }

    -- whichever scopes are rewritten
    pub bound_pass_same : Same P Q
    bound_pass_same = same_by_bound F P Q same Stands (record {
      functions = pass_program K P Q built A Here Stands functions chosen;
      fine = chunk_fine;
      hoists = λ c h. pass.hoists c;
      runs = λ c d d' h w le le' all tied. pass_runs K P Q built A Here Stands functions chosen (IsChunk (graph_of P)) chunks c d d' h w le le' all tied;
    })
