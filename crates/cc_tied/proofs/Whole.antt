-- Runs turn by turn, where from one part of a turn to the next less may stay known of the two states:
-- what held of a chunk's variables need not hold once its functions are bound anew.
use Rattle.std.proofs.Common.{◌≡◌, ℕ, suc, ◌≤◌, List, arith, inl, inr}
use Rattle.cc_ast.specs.Syntax.{Prim, undefined, Program}
use Rattle.cc_meaning.specs.Values.{Val, prim, Spot, at_turn}
use Rattle.cc_meaning.specs.State.{State}
use Rattle.cc_meaning.specs.Monad.{Said, seen, End, broken, Res, ok, threw, over, said, M, after, ◌>>=◌, attempted, attempt}
use Rattle.cc_meaning.specs.Shapes.{body_of}
use Rattle.cc_meaning.specs.Meaning.{hoist, bodies}
use Rattle.cc_meaning.specs.Script.{Script, IsFollowing, graph_of, follows, Turn, top, run_chunk, load_chunk, turn, turns_from, finish, start, raw, run}
use Rattle.cc_meaning.specs.Same.{is_broken}
use Rattle.cc_tied.specs.Tied.{ValT, WayT, went_t, thrown_t, prim_t, LoadsT, no_turns, load_turn, call_turn, get_turn, set_turn}
use Rattle.cc_tied.proofs.Kit.{Kit}
use Rattle.cc_tied.proofs.Parts.{Below, BodiesT, rel_tell_end}
use Rattle.cc_tied.proofs.Sim.{Tie, World, Later, now, ResT, ok_t, threw_t, broken_t, short_t, ahead_t, over_t, Sim, seen_both}
use Rattle.cc_tied.proofs.Upkeep.{Upkeep, kit}
use Rattle.cc_tied.proofs.Turns.{AllBodiesT, below_of, ProgramT, bodies_tied, FollowsChunk, IsChunk, loads_chunks, end_later, rel_call_handle, rel_get_handle, rel_set_handle}
use Rattle.cc_tied.proofs.Runs.{IsExact, BrokenOrSame}

module _ (T : Tie) where
  open T use {Excused, EndT, O, Tied}

  -- a world in which no run has more to pay
  abbrev pub Less : World T → World T → Type 0
  Less w v = (v.l ≤ w.l) × (v.r ≤ w.r)

  -- I holds in the world of the end
  pub data WholeT {A B : Type 0} (I : World T → Type 0) (R : World T → A → B → Type 0) (w : World T) : Res A → Res B → Type 0 where
    ok_w : {u u' : List Said} {a : A} {b : B} {s t : State} → seen u ≡ seen u' → (v : World T) → Less w v → I v → R v a b → Tied v.w s t → s.budget ≤ v.l → t.budget ≤ v.r → WholeT I R w (ok u a s) (ok u' b t)
    threw_w : {u u' : List Said} {x y : Val} {s t : State} → seen u ≡ seen u' → (v : World T) → Less w v → I v → ValT (O v.w) x y → Tied v.w s t → s.budget ≤ v.l → t.budget ≤ v.r → WholeT I R w (threw u x s) (threw u' y t)
    broken_w : {u : List Said} {r : ℕ} {i : Spot} {x : Res B} → Excused → WholeT I R w (over u (broken r i)) x
    over_w : {u u' : List Said} {e e' : End} → seen u ≡ seen u' → EndT e e' → WholeT I R w (over u e) (over u' e')

  abbrev pub Whole : {A B : Type 0} → (World T → Type 0) → (World T → A → B → Type 0) → World T → M A → M B → Type 0
  Whole I R w m m' = (s t : State) → Tied w.w s t → s.budget ≤ w.l → t.budget ≤ w.r → WholeT I R w (m s) (m' t)

  module _ {A B : Type 0} {I : World T → Type 0} {R : World T → A → B → Type 0} where
    -- a part after which the world is a later one
    whole_by : IsExact T → {w : World T} → ((v : World T) → Later T w v → I v) → {x : Res A} {y : Res B} → ResT T R w x y → WholeT I R w x y
    whole_by e i (ok_t d v l st h ti le le') = ok_w d v (l.0, l.1) (i v l) h ti le le'
    whole_by e i (threw_t d v l st h ti le le') = threw_w d v (l.0, l.1) (i v l) h ti le le'
    whole_by e i (broken_t x) = broken_w x
    whole_by e i (short_t u x d q h) = absurd (e.never_short h)
    whole_by e i (ahead_t u x d q h) = absurd (e.never_ahead h)
    whole_by e i (over_t d h) = over_w d h

    pub whole_of : IsExact T → {w : World T} {m : M A} {m' : M B} → ((v : World T) → Later T w v → I v) → Sim T R w m m' → Whole I R w m m'
    whole_of e i h s t ti le le' = whole_by e i (h s t ti le le')

    -- from a world with more to pay
    from_less : {w v : World T} → Less w v → {x : Res A} {y : Res B} → WholeT I R v x y → WholeT I R w x y
    from_less l (ok_w d u k i h ti le le') = ok_w d u (omega arith, omega arith) i h ti le le'
    from_less l (threw_w d u k i h ti le le') = threw_w d u (omega arith, omega arith) i h ti le le'
    from_less l (broken_w x) = broken_w x
    from_less l (over_w d h) = over_w d h

    -- after what was said on the way
    said_w : {w : World T} (o o' : List Said) → seen o ≡ seen o' → {x : Res A} {y : Res B} → WholeT I R w x y → WholeT I R w (said o x) (said o' y)
    unfolding said
    said_w o o' c (ok_w {u = u} {u' = u'} d v l i h ti le le') = ok_w (seen_both o o' u u' c d) v l i h ti le le'
    said_w o o' c (threw_w {u = u} {u' = u'} d v l i h ti le le') = threw_w (seen_both o o' u u' c d) v l i h ti le le'
    said_w o o' c (broken_w x) = broken_w x
    said_w o o' c (over_w {u = u} {u' = u'} d h) = over_w (seen_both o o' u u' c d) h

    attempted_w : {w : World T} {x : Res A} {y : Res B} → WholeT I R w x y → WholeT I (λ v. WayT (ValT (O v.w)) (R v)) w (attempted x) (attempted y)
    unfolding attempted
    attempted_w (ok_w d v l i h ti le le') = ok_w d v l i (went_t h) ti le le'
    attempted_w (threw_w d v l i h ti le le') = ok_w d v l i (thrown_t h) ti le le'
    attempted_w (broken_w x) = broken_w x
    attempted_w (over_w d h) = over_w d h

    pub whole_attempt : {w : World T} {m : M A} {m' : M B} → Whole I R w m m' → Whole I (λ v. WayT (ValT (O v.w)) (R v)) w (attempt m) (attempt m')
    unfolding attempt
    whole_attempt h s t ti le le' = attempted_w (h s t ti le le')

  module _ {A B A' B' : Type 0} {I : World T → Type 0} {R : World T → A → A' → Type 0} {S : World T → B → B' → Type 0} where
    after_w : {w : World T} (k : A → M B) (k' : A' → M B') → ((v : World T) → Less w v → I v → (a : A) (a' : A') → R v a a' → Whole I S v (k a) (k' a')) → {x : Res A} {y : Res A'} → WholeT I R w x y → WholeT I S w (after x k) (after y k')
    unfolding after
    after_w k k' f (ok_w {u = u} {u' = u'} {a = a} {b = b} {s = s} {t = t} d v l i h ti le le') = said_w u u' d (from_less l (f v l i a b h s t ti le le'))
    after_w k k' f (threw_w d v l i h ti le le') = threw_w d v l i h ti le le'
    after_w k k' f (broken_w x) = broken_w x
    after_w k k' f (over_w d h) = over_w d h

    pub whole_bind : {w : World T} {m : M A} {m' : M A'} {k : A → M B} {k' : A' → M B'} → Whole I R w m m' → ((v : World T) → Less w v → I v → (a : A) (a' : A') → R v a a' → Whole I S v (k a) (k' a')) → Whole I S w (m >>= k) (m' >>= k')
    unfolding ◌>>=◌
    whole_bind {k = k} {k' = k'} h f s t ti le le' = after_w k k' f (h s t ti le le')

  -- what is to hold is forgotten
  forgotten : {A B : Type 0} {I : World T → Type 0} {R : World T → A → B → Type 0} {w : World T} {x : Res A} {y : Res B} → WholeT I R w x y → WholeT (λ v. Unit {0}) R w x y
  forgotten (ok_w d v l i h ti le le') = ok_w d v l tt h ti le le'
  forgotten (threw_w d v l i h ti le le') = threw_w d v l tt h ti le le'
  forgotten (broken_w x) = broken_w x
  forgotten (over_w d h) = over_w d h

  abbrev pub Nothing : World T → Unit {0} → Unit {0} → Type 0
  Nothing v a b = Unit {0}

  module _ (exact : IsExact T) (U : Upkeep T) (P Q : Program) where
    abbrev K : Kit
    K = kit T U

    -- the own lists of the chunks of C owe this
    pub record WholeChunksT (C : ℕ → Type 0) : Type 0 where
      -- functions that are bound, after which less may be known
      pub binds : (c : ℕ) → C c → (w : World T) → T.LoadedT w.w c → Whole (λ v. T.LoadedT v.w c) Nothing w (hoist T.J top (body_of P c)) (hoist T.J' top (body_of Q c))
      pub runs : (c d d' : ℕ) → C c → (w : World T) → w.l ≤ d → w.r ≤ d' → AllBodiesT K P Q w → (tied : BodiesT K w (bodies T.J P d) (bodies T.J' Q d')) → FollowsChunk K (below_of K P Q d d' w tied) c (body_of P c) (body_of Q c)

    module _ (h : ProgramT K P Q) (C : ℕ → Type 0) (chunks : WholeChunksT C) (d d' : ℕ) where
      all_bodies : (w : World T) → AllBodiesT K P Q w
      all_bodies w = λ u e e' ub ue ue'. bodies_tied K P Q h e u e e' ue ue ue'

      bodies_at : (w : World T) → w.l ≤ d → w.r ≤ d' → BodiesT K w (bodies T.J P d) (bodies T.J' Q d')
      bodies_at w le le' = all_bodies w w d d' (omega arith) le le'

      abbrev below_at : (w : World T) → w.l ≤ d → w.r ≤ d' → Below K
      below_at w le le' = below_of K P Q d d' w (bodies_at w le le')

      whole_chunk : (c : ℕ) → C c → (w : World T) → w.l ≤ d → w.r ≤ d' → T.LoadedT w.w c → Whole (λ v. T.LoadedT v.w c) (λ v. ValT (O v.w)) w (run_chunk T.J P (bodies T.J P d) c) (run_chunk T.J' Q (bodies T.J' Q d') c)
      unfolding run_chunk
      whole_chunk c q w le le' i =
          whole_bind {R = Nothing} (chunks.binds c q w i) (λ v l j _ _ _.
          let ld : v.l ≤ d = omega arith in let ld' : v.r ≤ d' = omega arith in
          whole_of {R = λ u. ValT (O u.w)} exact (λ u k. T.loaded_later k.2 j) (K.rel_bind ((chunks.runs c d d' q v ld ld' (all_bodies v) (bodies_at v ld ld')).by v (now T v) j) (λ u k a b r. K.rel_ret (prim undefined) (prim undefined) prim_t)))

      whole_load : (c : ℕ) → C c → (w : World T) → w.l ≤ d → w.r ≤ d' → (n : ℕ) → Whole (λ v. Unit {0}) Nothing w (load_chunk T.J P (bodies T.J P d) (at_turn n) c) (load_chunk T.J' Q (bodies T.J' Q d') (at_turn n) c)
      unfolding load_chunk
      whole_load c q w le le' n =
          whole_bind {R = λ v a b. T.LoadedT v.w c} (whole_of exact (λ v l. tt) (U.up_loading (T.spot_turn n) c)) (λ v l _ _ _ i s t ti lb lb'.
          forgotten (whole_bind {I = λ u. T.LoadedT u.w c} {R = λ u. WayT (ValT (O u.w)) (ValT (O u.w))} (whole_attempt (whole_chunk c q v (omega arith) (omega arith) i)) (λ u k j a b e.
          whole_of {R = Nothing} exact (λ z m. T.loaded_later m.2 j) (K.rel_bind (K.rel_note_end j e) (λ z m _ _ _. rel_tell_end K (end_later K m e)))) s t ti lb lb'))

      whole_turns : (n : ℕ) {ts : List Turn} → LoadsT C ts → (w : World T) → w.l ≤ d → w.r ≤ d' → Whole (λ v. Unit {0}) Nothing w (turns_from T.J P (bodies T.J P d) n ts) (turns_from T.J' Q (bodies T.J' Q d') n ts)
      unfolding turns_from turn
      whole_turns n no_turns w le le' = whole_of exact (λ v l. tt) (K.rel_ret tt tt tt)
      whole_turns n (load_turn {c = c} q k) w le le' = whole_bind {R = Nothing} (whole_load c q w le le' n) (λ v l _ _ _ _. whole_turns (suc n) k v (omega arith) (omega arith))
      whole_turns n (call_turn {c = c} k) w le le' = whole_bind {R = Nothing} (whole_of exact (λ v l. tt) (rel_call_handle K (below_at w le le') (now T w) (T.spot_turn n) c)) (λ v l _ _ _ _. whole_turns (suc n) k v (omega arith) (omega arith))
      whole_turns n (get_turn {h = a} {n = t} k) w le le' = whole_bind {R = Nothing} (whole_of exact (λ v l. tt) (rel_get_handle K (below_at w le le') (now T w) (T.spot_turn n) a t)) (λ v l _ _ _ _. whole_turns (suc n) k v (omega arith) (omega arith))
      whole_turns n (set_turn {h = a} {n = t} {x = x} k) w le le' = whole_bind {R = Nothing} (whole_of exact (λ v l. tt) (rel_set_handle K (below_at w le le') (now T w) (T.spot_turn n) a t x)) (λ v l _ _ _ _. whole_turns (suc n) k v (omega arith) (omega arith))

    same_end : {w : World T} {x y : Res (Unit {0})} → WholeT (λ v. Unit {0}) Nothing w x y → BrokenOrSame (finish x) (finish y)
    unfolding finish
    same_end (ok_w d v l i h ti le le') = inr (cc)
    same_end (threw_w d v l i h ti le le') = inr (cc)
    same_end (broken_w x) = inl is_broken
    same_end (over_w d e) = Rattle.cc_tied.proofs.Runs.same_end d (exact.one_end e)

    -- at one budget the left run breaks a rule, or both runs do the same
    pub whole_run : ProgramT K P Q → WholeChunksT (IsChunk (graph_of P)) → (sc : Script) → IsFollowing P sc → (n : ℕ) (w : T.W) → Tied w (start T.J P sc.replies n) (start T.J' Q sc.replies n) → BrokenOrSame (run T.J P sc n) (run T.J' Q sc n)
    unfolding run raw start follows
    whole_run h k sc f n w ti = same_end (whole_turns h (IsChunk (graph_of P)) k n n 0 (loads_chunks (graph_of P) _ sc.turns f) (record { l = n; r = n; w = w }) (omega arith) (omega arith) _ _ ti (omega arith) (omega arith))
