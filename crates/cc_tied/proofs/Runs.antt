-- Whole runs of two programs under one script, from tied starts.
use Rattle.std.proofs.Common.{◌≡◌, ap, ℕ, List, arith, ◌⊎◌, inl, inr}
use Rattle.cc_ast.specs.Syntax.{Program}
use Rattle.cc_meaning.specs.Values.{Event}
use Rattle.cc_meaning.specs.Monad.{End, Res}
use Rattle.cc_meaning.specs.Script.{Script, IsFollowing, graph_of, Finish, finished, stopped, Run, finish, start, raw, run}
use Rattle.cc_meaning.specs.Same.{IsBroken, is_broken}
use Rattle.cc_tied.proofs.Kit.{Kit}
use Rattle.cc_tied.proofs.Sim.{Tie, World, ResT, ok_t, threw_t, broken_t, short_t, ahead_t, over_t}
use Rattle.cc_tied.proofs.Upkeep.{Upkeep, kit}
use Rattle.cc_tied.proofs.Turns.{ProgramT, ChunksT, IsChunk, loads_chunks, rel_run}

-- What two programs owe a kit
pub record RunsT (K : Kit) (P Q : Program) : Type 0 where
  pub bodies : ProgramT K P Q
  pub chunks : ChunksT K P Q (IsChunk (graph_of P))

-- neither run ends for want of budget before the other, and tied ends are equal
pub record IsExact (T : Tie) : Type 0 where
  pub never_short : {w : T.W} {p : ℕ} → T.Short w p → ⊥
  pub never_ahead : T.Ahead → ⊥
  pub one_end : {e e' : End} → T.EndT e e' → IsBroken (stopped e) ⊎ (e ≡ e')

-- the left run breaks a rule, or both do the same
abbrev pub BrokenOrSame : Run → Run → Type 0
BrokenOrSame x y = IsBroken x.end ⊎ (x ≡ y)

abbrev pub ran : List Event → Finish → Run
ran u e = record { events = u; end = e }

pub same_end : {u u' : List Event} {e e' : End} → u ≡ u' → IsBroken (stopped e) ⊎ (e ≡ e') → BrokenOrSame (ran u (stopped e)) (ran u' (stopped e'))
same_end d (inl b) = inl b
same_end d (inr e) = inr (λ i. ran (d i) (stopped (e i)))

module _ (T : Tie) where
  pub broken_or_same : IsExact T → {R : World T → Unit {0} → Unit {0} → Type 0} {w : World T} {x y : Res (Unit {0})} → ResT T R w x y → BrokenOrSame (finish x) (finish y)
  unfolding finish
  broken_or_same h (ok_t d v e st q t le le') = inr (ap (λ z. ran z finished) d)
  broken_or_same h (threw_t d v e st q t le le') = inr (ap (λ z. ran z finished) d)
  broken_or_same h (broken_t x) = inl is_broken
  broken_or_same h (short_t u x d e q) = absurd (h.never_short q)
  broken_or_same h (ahead_t u x d e q) = absurd (h.never_ahead q)
  broken_or_same h (over_t d e) = same_end d (h.one_end e)

  module _ (U : Upkeep T) (P Q : Program) (h : RunsT (kit T U) P Q) (sc : Script) (f : IsFollowing P sc) where
    -- the results of two runs with these budgets are tied
    pub raw_tied : (n n' : ℕ) (w : T.W) → T.Tied w (start T.J P sc.replies n) (start T.J' Q sc.replies n') → ResT T (λ v a b. Unit {0}) (record { l = n; r = n'; w = w }) (raw T.J P sc n) (raw T.J' Q sc n')
    unfolding raw start Rattle.cc_meaning.specs.Script.follows
    raw_tied n n' w ti = rel_run (kit T U) P Q h.bodies (IsChunk (graph_of P)) h.chunks (record { l = n; r = n'; w = w }) n n' (omega arith) (omega arith) (loads_chunks (graph_of P) _ sc.turns f) (start T.J P sc.replies n) (start T.J' Q sc.replies n') ti (omega arith) (omega arith)

    -- at one budget the left run breaks a rule, or both runs do the same
    pub run_tied : IsExact T → (n : ℕ) (w : T.W) → T.Tied w (start T.J P sc.replies n) (start T.J' Q sc.replies n) → BrokenOrSame (run T.J P sc n) (run T.J' Q sc n)
    unfolding run
    run_tied x n w ti = broken_or_same x (raw_tied n n w ti)
