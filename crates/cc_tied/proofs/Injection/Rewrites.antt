-- A pass whose steps keep the injection: whichever scopes of a program are rewritten, it does the same.
use Rattle.std.proofs.Common.{◌≡◌, ℕ, zero, suc, Bool, true, false, List, [], ◌∷◌, length, map, Some, None, subst, arith}
use Rattle.std.specs.Prelude.{slice_get, nat_lt, IsTrue}
use Rattle.std.proofs.lemmas.Bool.Decides.{nat_tests}
use Rattle.cc_ast.specs.Syntax.{Program, Stmt}
use Rattle.cc_ast.specs.declared.tree.Ref.{Ref}
use Rattle.cc_ast.specs.declared.tables.ChunkInfo.{ChunkInfo}
use Rattle.cc_meaning.specs.Shapes.{declared_by, tables_of, body_of}
use Rattle.cc_meaning.specs.Script.{graph_of}
use Rattle.cc_meaning.specs.Same.{Same}
use Rattle.cc_meaning.specs.WellMade.{is_chunk, Reached, chunk_reached, WellMade}
use Rattle.cc_tied.specs.Tied.{built_of}
use Rattle.cc_tied.specs.Promises.{HasNoPaths}
use Rattle.cc_tied.specs.Fine.{FineStmts}
use Rattle.cc_tied.specs.Facts.{holds_function, Facts}
use Rattle.cc_tied.specs.PlainFacts.{owner, IsReached, plain_facts}
use Rattle.cc_tied.proofs.Kit.{Kit}
use Rattle.cc_tied.proofs.Parts.{Below}
use Rattle.cc_tied.proofs.Turns.{below_of, IsChunk}
use Rattle.cc_tied.proofs.Rewriting.{Standing, anything, allowed, StepRules}
use Rattle.cc_tied.proofs.RewritingBodies.{Rules}
use Rattle.cc_tied.proofs.Subsets.{Pass, Rewrites, ScopeRules, PassT, PassChunksT, pass_program, pass_chunks}
use Rattle.cc_tied.proofs.Injection.Tie.{Ctx, at, DeclaresI, BindI, binds_known}
use Rattle.cc_tied.proofs.Injection.Ends.{SameButSet, same_by_inject}
use Rattle.cc_tied.proofs.Injection.Facts.{owner_function, owner_chunk}
use Rattle.cc_tied.proofs.Injection.Pass.{pass_kit, same_tables, fine_scope}

in_range : (cs : List ChunkInfo) (c : ℕ) (ds : List ℕ) → slice_get (map (λ (c : ChunkInfo). c.deps) cs) c ≡ Some ds → nat_lt c (length cs) ≡ true
in_range [] c ds e = absurd (cc)
in_range (x ∷ cs) zero ds e = grind (arith, nat_tests)
in_range (x ∷ cs) (suc c) ds e = let h = in_range cs c ds e in grind (arith, nat_tests)

pub is_chunk_of : (P : Program) (c : ℕ) → IsChunk (graph_of P) c → IsTrue (is_chunk P c)
unfolding is_chunk graph_of
is_chunk_of P c h = in_range P.chunks c h.deps h.found

-- ---- a pass under facts of the program, which rewrites where Here says and asks what Stands says

module _ (F : Facts) (P Q : Program) (none : HasNoPaths P) (same : SameButSet P Q) (built : Ref → Bool) (builts : (r : Ref) → built r ≡ false → built_of (tables_of P) r ≡ None) (A : Pass) (Here : ℕ → Ctx → Type 0) (Stands : Standing Ctx) where
  abbrev K : Kit
  K = pass_kit F P Q none built builts

  -- what the pass owes of the program and in each scope, over whatever its calls do
  pub record FactsPass : Type 0 where
    pub reached : (f : ℕ) → F.Reached f → IsReached P f
    pub fine : (f : ℕ) → Reached P f → FineStmts Ctx (allowed K Stands) (at (owner P f) 0) [] (body_of P f)
    pub unbound : (n f : ℕ) → F.Known n (holds_function f) → ⊥
    pub here : (f : ℕ) → Here f (at (owner P f) 0)
    pub steps : (f : ℕ) (X : Below K) → StepRules K X built (Here f) Stands (A.step f) (A.step_call f)
    pub cuts : (f : ℕ) (X : Below K) → Rules K X built (Here f) Stands (A.step f) (A.step_call f) (A.trim f) (A.trim_in f) (A.cut f)
    -- a statement of a chunk's own list that stays declares what it declared
    pub declares : (s : Stmt) → DeclaresI (declared_by K.tables s) (declared_by K.tables' s)

  module _ (pass : FactsPass) (chosen : Rewrites built A P Q) where
    not_bound : {c : Ctx} {r : Ref} {f : ℕ} → BindI F K.tables (λ n. ⊥) c r f → ⊥
    not_bound (binds_known k u f) = pass.unbound _ _ k

    rules : (f : ℕ) (X : Below K) → ScopeRules K P Q built A Here Stands f X
    rules f X = record { steps = pass.steps f X; cuts = pass.cuts f X }

    functions : PassT K P Q built A Here Stands
    functions = record {
      same = λ X. same_tables F P Q none built builts X;
      one_number = λ f f' h. h.same;
      fine = λ f h. let r = pass.reached f h.reached in subst (λ z. FineStmts Ctx (allowed K Stands) (at z 0) [] (body_of P f)) (owner_function P f r.function) (pass.fine f r.reached);
      here = λ f h. subst (λ z. Here f (at z 0)) (owner_function P f (pass.reached f h.reached).function) (pass.here f);
      rules = λ f d d' h w le le' all tied. rules f (below_of K P Q d d' w tied);
    }

    chunks : PassChunksT K P Q built A Here Stands (IsChunk (graph_of P))
    chunks = record {
      fine = λ c h. let r = is_chunk_of P c h in subst (λ z. FineStmts Ctx (allowed K Stands) (at z 0) [] (body_of P c)) (owner_chunk P c r) (pass.fine c (chunk_reached c r));
      here = λ c h. subst (λ z. Here c (at z 0)) (owner_chunk P c (is_chunk_of P c h)) (pass.here c);
      declares = λ c h s k. pass.declares s;
      rules = λ c d d' h w le le' all tied. rules c (below_of K P Q d d' w tied);
    }

    -- whichever scopes are rewritten
    pub facts_pass_same : Same P Q
    facts_pass_same = same_by_inject F P Q same (record {
      bodies = pass_program K P Q built A Here Stands functions chosen;
      chunks = pass_chunks K P Q built A Here Stands functions chosen (IsChunk (graph_of P)) chunks (λ c h r f b. not_bound b);
    })

-- ---- a pass that knows no more of a program than that it is well made

module _ (P Q : Program) (W : WellMade P) (none : HasNoPaths P) (same : SameButSet P Q) (built : Ref → Bool) (builts : (r : Ref) → built r ≡ false → built_of (tables_of P) r ≡ None) (A : Pass) where
  abbrev Anywhere : Ctx → Type 0
  Anywhere c = Unit {0}

  abbrev PlainKit : Kit
  PlainKit = pass_kit (plain_facts P) P Q none built builts

  -- what the pass owes in each scope
  pub record PlainPass : Type 0 where
    pub steps : (f : ℕ) (X : Below PlainKit) → StepRules PlainKit X built Anywhere anything (A.step f) (A.step_call f)
    pub cuts : (f : ℕ) (X : Below PlainKit) → Rules PlainKit X built Anywhere anything (A.step f) (A.step_call f) (A.trim f) (A.trim_in f) (A.cut f)
    pub declares : (s : Stmt) → DeclaresI (declared_by PlainKit.tables s) (declared_by PlainKit.tables' s)

  facts_of : PlainPass → FactsPass (plain_facts P) P Q none same built builts A (λ f c. Unit {0}) anything
  facts_of pass = record {
    reached = λ f h. h;
    fine = λ f h. fine_scope P W (tables_of Q).set anything (record { of_stmt = λ c ls s. tt; of_declared = λ f k r p. tt }) f h;
    unbound = λ n f k. k;
    here = λ f. tt;
    steps = pass.steps;
    cuts = pass.cuts;
    declares = pass.declares;
  }

  pub pass_same : PlainPass → Rewrites built A P Q → Same P Q
  pass_same pass chosen = facts_pass_same (plain_facts P) P Q none same built builts A (λ f c. Unit {0}) anything (facts_of pass) chosen
