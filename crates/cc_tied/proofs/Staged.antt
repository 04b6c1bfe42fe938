-- Runs turn by turn, where what is known of the two states goes with the chunks that were loaded: each
-- chunk is loaded at most once, after all that it depends on, and its two lists need only be tied as a whole.
use Rattle.std.proofs.Common.{refl, ℕ, suc, ◌≤◌, Bool, true, false, List, [], ◌∷◌, arith, inl, inr}
use Rattle.std.specs.Prelude.{slice_get, IsTrue, ◌&&◌}
use Rattle.cc_ast.specs.Syntax.{Program}
use Rattle.cc_meaning.specs.Values.{at_turn}
use Rattle.cc_meaning.specs.Monad.{Res, M}
use Rattle.cc_meaning.specs.Meaning.{bodies}
use Rattle.cc_meaning.specs.Script.{Script, IsFollowing, graph_of, follows, may_load, follows_from, Turn, load, call, get, set, run_chunk, load_chunk, turn, turns_from, finish, start, raw, run}
use Rattle.cc_meaning.specs.Same.{is_broken}
use Rattle.cc_tied.specs.Tied.{ValT, WayT}
use Rattle.cc_tied.proofs.Kit.{Kit}
use Rattle.cc_tied.proofs.Parts.{Below, rel_tell_end}
use Rattle.cc_tied.proofs.Sim.{Tie, World, Later, now}
use Rattle.cc_tied.proofs.Upkeep.{Upkeep, kit}
use Rattle.cc_tied.proofs.Turns.{AllBodiesT, below_of, ProgramT, bodies_tied, end_later, rel_call_handle, rel_get_handle, rel_set_handle}
use Rattle.cc_tied.proofs.Runs.{IsExact, BrokenOrSame}
use Rattle.cc_tied.proofs.Whole.{WholeT, ok_w, threw_w, broken_w, over_w, Whole, whole_of, whole_attempt, whole_bind}

both_parts : (a b : Bool) → IsTrue (a && b) → IsTrue a × IsTrue b
both_parts true b h = (refl, h)
both_parts false b h = absurd (cc)

module _ (T : Tie) where
  -- what holds in the world of a good end is given with it
  kept_t : {A B : Type 0} {I : World T → Type 0} {R : World T → A → B → Type 0} {w : World T} {x : Res A} {y : Res B} → WholeT T I R w x y → WholeT T (λ v. Unit {0}) (λ v a b. I v × R v a b) w x y
  kept_t (ok_w d v l i h ti le le') = ok_w d v l tt (i, h) ti le le'
  kept_t (threw_w d v l i h ti le le') = threw_w d v l tt h ti le le'
  kept_t (broken_w x) = broken_w x
  kept_t (over_w d h) = over_w d h

  pub kept : {A B : Type 0} {I : World T → Type 0} {R : World T → A → B → Type 0} {w : World T} {m : M A} {m' : M B} → Whole T I R w m m' → Whole T (λ v. Unit {0}) (λ v a b. I v × R v a b) w m m'
  kept h s t ti le le' = kept_t (h s t ti le le')

  module _ (exact : IsExact T) (U : Upkeep T) (P Q : Program) (At : (loaded : List ℕ) → World T → Type 0) where
    abbrev K : Kit
    K = kit T U

    abbrev Any : World T → Type 0
    Any v = Unit {0}

    abbrev Done : World T → Unit {0} → Unit {0} → Type 0
    Done v a b = Unit {0}

    -- What two programs owe: what is known at a stage stays known in later worlds, and a chunk that is
    -- loaded leads to the next stage, however it ends. Its two lists need not be like one another.
    pub record StagedT : Type 0 where
      pub functions : ProgramT K P Q
      pub stays : (l : List ℕ) (v w : World T) → At l v → Later T v w → At l w
      pub chunks : (l : List ℕ) (c : ℕ) → IsTrue (may_load l c (slice_get (graph_of P) c)) → (d d' : ℕ) (w : World T) → w.l ≤ d → w.r ≤ d' → At l w → T.LoadedT w.w c → ((u : World T) → AllBodiesT K P Q u) → Whole T (λ v. At (c ∷ l) v × T.LoadedT v.w c) (λ v. ValT (T.O v.w)) w (run_chunk T.J P (bodies T.J P d) c) (run_chunk T.J' Q (bodies T.J' Q d') c)

    module _ (h : StagedT) (d d' : ℕ) where
      all_bodies : (w : World T) → AllBodiesT K P Q w
      all_bodies w = λ u e e' ub ue ue'. bodies_tied K P Q h.functions e u e e' ue ue ue'

      abbrev below_at : (w : World T) → w.l ≤ d → w.r ≤ d' → Below K
      below_at w le le' = below_of K P Q d d' w (all_bodies w w d d' (omega arith) le le')

      staged_load : (l : List ℕ) (c : ℕ) → IsTrue (may_load l c (slice_get (graph_of P) c)) → (w : World T) → w.l ≤ d → w.r ≤ d' → At l w → (n : ℕ) → Whole T Any (λ v a b. At (c ∷ l) v × Unit {0}) w (load_chunk T.J P (bodies T.J P d) (at_turn n) c) (load_chunk T.J' Q (bodies T.J' Q d') (at_turn n) c)
      unfolding load_chunk
      staged_load l c q w le le' at n =
          whole_bind T {I = Any} {R = λ v a b. At l v × T.LoadedT v.w c} (kept (whole_of T {I = At l} {R = λ v a b. T.LoadedT v.w c} exact (λ v k. h.stays l w v at k) (U.up_loading (T.spot_turn n) c))) (λ v less _ _ _ x.
          whole_bind T {I = Any} {R = λ u a b. (At (c ∷ l) u × T.LoadedT u.w c) × WayT (ValT (T.O u.w)) (ValT (T.O u.w)) a b} (kept (whole_attempt T {I = λ u. At (c ∷ l) u × T.LoadedT u.w c} {R = λ u. ValT (T.O u.w)} (h.chunks l c q d d' v (omega arith) (omega arith) x.0 x.1 all_bodies))) (λ u less2 _ a b y.
          kept (whole_of T {I = At (c ∷ l)} {R = Done} exact (λ z k. h.stays (c ∷ l) u z y.0.0 k) (K.rel_bind (K.rel_note_end y.0.1 y.1) (λ z m _ _ _. rel_tell_end K (end_later K m y.1))))))

      at_kept : {l : List ℕ} {w : World T} {m m' : M (Unit {0})} → At l w → K.Rel Done w m m' → Whole T Any (λ v a b. At l v × Unit {0}) w m m'
      at_kept {l = l} {w = w} at r = kept (whole_of T {I = At l} {R = Done} exact (λ v k. h.stays l w v at k) r)

      staged_turns : (l : List ℕ) (n : ℕ) (ts : List Turn) → IsTrue (follows_from (graph_of P) l ts) → (w : World T) → w.l ≤ d → w.r ≤ d' → At l w → Whole T Any Done w (turns_from T.J P (bodies T.J P d) n ts) (turns_from T.J' Q (bodies T.J' Q d') n ts)
      unfolding turns_from turn follows_from
      staged_turns l n [] f w le le' at = whole_of T exact (λ v k. tt) (K.rel_ret tt tt tt)
      staged_turns l n (load c ∷ ts) f w le le' at =
          let q = both_parts _ _ f in
          whole_bind T {I = Any} {R = λ v a b. At (c ∷ l) v × Unit {0}} (staged_load l c q.0 w le le' at n) (λ v less _ _ _ x. staged_turns (c ∷ l) (suc n) ts q.1 v (omega arith) (omega arith) x.0)
      staged_turns l n (call c ∷ ts) f w le le' at = whole_bind T {I = Any} {R = λ v a b. At l v × Unit {0}} (at_kept at (rel_call_handle K (below_at w le le') (now T w) (T.spot_turn n) c)) (λ v less _ _ _ x. staged_turns l (suc n) ts f v (omega arith) (omega arith) x.0)
      staged_turns l n (get a t ∷ ts) f w le le' at = whole_bind T {I = Any} {R = λ v a b. At l v × Unit {0}} (at_kept at (rel_get_handle K (below_at w le le') (now T w) (T.spot_turn n) a t)) (λ v less _ _ _ x. staged_turns l (suc n) ts f v (omega arith) (omega arith) x.0)
      staged_turns l n (set a t z ∷ ts) f w le le' at = whole_bind T {I = Any} {R = λ v a b. At l v × Unit {0}} (at_kept at (rel_set_handle K (below_at w le le') (now T w) (T.spot_turn n) a t z)) (λ v less _ _ _ x. staged_turns l (suc n) ts f v (omega arith) (omega arith) x.0)

    same_end : {w : World T} {x y : Res (Unit {0})} → WholeT T Any Done w x y → BrokenOrSame (finish x) (finish y)
    unfolding finish
    same_end (ok_w d v l i h ti le le') = inr (cc)
    same_end (threw_w d v l i h ti le le') = inr (cc)
    same_end (broken_w x) = inl is_broken
    same_end (over_w d e) = Rattle.cc_tied.proofs.Runs.same_end d (exact.one_end e)

    -- at one budget the left run breaks a rule, or both runs do the same
    pub staged_run : StagedT → (sc : Script) → IsFollowing P sc → (n : ℕ) (w : T.W) → At [] (record { l = n; r = n; w = w }) → T.Tied w (start T.J P sc.replies n) (start T.J' Q sc.replies n) → BrokenOrSame (run T.J P sc n) (run T.J' Q sc n)
    unfolding run raw start follows
    staged_run h sc f n w at ti = same_end (staged_turns h n n [] 0 sc.turns f (record { l = n; r = n; w = w }) (omega arith) (omega arith) at _ _ ti (omega arith) (omega arith))
