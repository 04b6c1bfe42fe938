-- Two programs whose bodies and chunks keep the injection do the same, where functions are bound to known globals.
use Rattle.std.proofs.Common.{◌≡◌, sym, subst, ℕ, ◌≤◌, [], None}
use Rattle.cc_ast.specs.Syntax.{Program}
use Rattle.cc_meaning.specs.Shapes.{tables_of, body_of}
use Rattle.cc_meaning.specs.Meaning.{hoist, bodies}
use Rattle.cc_meaning.specs.Script.{graph_of, checked, top}
use Rattle.cc_meaning.specs.Same.{Same}
use Rattle.cc_meaning.specs.Alike.{In}
use Rattle.cc_tied.specs.Facts.{Facts}
use Rattle.cc_tied.specs.Fine.{FineStmts}
use Rattle.cc_tied.proofs.Kit.{Kit}
use Rattle.cc_tied.proofs.Parts.{BodiesT}
use Rattle.cc_tied.proofs.Turns.{AllBodiesT, below_of, ProgramT, FollowsChunk, IsChunk}
use Rattle.cc_tied.proofs.Rewriting.{Standing, allowed}
use Rattle.cc_tied.proofs.Sim.{World}
use Rattle.cc_tied.proofs.Whole.{Whole, Nothing, WholeChunksT, whole_run}
use Rattle.cc_tied.proofs.Injection.Tie.{same_right, Ctx, at}
use Rattle.cc_tied.proofs.Injection.Upkeep.{upkeep, inject_kit}
use Rattle.cc_tied.proofs.Injection.Ends.{SameButSet, pair_tie, no_tabs, same_graph, starts, exact}
use Rattle.cc_tied.proofs.Injection.Binds.{list_bound}

module _ (F : Facts) (P Q : Program) (same : SameButSet P Q) (Stands : Standing Ctx) where
  abbrev pub bound_kit : Kit
  bound_kit = inject_kit F (tables_of P) (same_right (tables_of P) (tables_of Q).set)

  -- what the two programs owe
  pub record BoundT : Type 0 where
    pub functions : ProgramT bound_kit P Q
    -- each chunk binds the functions that it bound
    pub fine : (c : ℕ) → IsChunk (graph_of P) c → FineStmts Ctx (allowed bound_kit Stands) (at None 0) [] (body_of P c)
    pub hoists : (c : ℕ) → IsChunk (graph_of P) c → hoist checked top (body_of Q c) ≡ hoist checked top (body_of P c)
    pub runs : (c d d' : ℕ) → IsChunk (graph_of P) c → (w : World (pair_tie F P Q same)) → w.l ≤ d → w.r ≤ d' → AllBodiesT bound_kit P Q w → (tied : BodiesT bound_kit w (bodies checked P d) (bodies checked Q d')) → FollowsChunk bound_kit (below_of bound_kit P Q d d' w tied) c (body_of P c) (body_of Q c)

  whole_chunks : BoundT → WholeChunksT (pair_tie F P Q same) (exact F P Q same) (upkeep F (tables_of P) (same_right (tables_of P) (tables_of Q).set)) P Q (IsChunk (graph_of P))
  whole_chunks h = record {
    binds = λ c q w l. subst (λ z. Whole (pair_tie F P Q same) (λ v. In c v.w.begun) (Nothing (pair_tie F P Q same)) w (hoist checked top (body_of P c)) z) (sym (h.hoists c q)) (list_bound F (tables_of P) (same_right (tables_of P) (tables_of Q).set) (exact F P Q same) c Stands l (body_of P c) (h.fine c q));
    runs = h.runs;
  }

  -- what a phase gets for its bodies and chunks
  pub same_by_bound : BoundT → Same P Q
  same_by_bound h = record { graph = same_graph F P Q same; runs = λ sc f n. whole_run (pair_tie F P Q same) (exact F P Q same) (upkeep F (tables_of P) (same_right (tables_of P) (tables_of Q).set)) P Q h.functions (whole_chunks h) sc f n no_tabs (starts F P Q same sc.replies n) }
