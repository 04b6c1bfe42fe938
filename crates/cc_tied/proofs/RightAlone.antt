-- Runs that the right program alone makes, and that give a value at no price: they end well and tell
-- nothing, in a state that is tied. The left run stands still meanwhile.
use Rattle.std.proofs.Common.{◌≡◌, ◌≤◌, List, [], refl, sym, subst}
use Rattle.cc_meaning.specs.State.{State}
use Rattle.cc_meaning.specs.Monad.{Said, seen, marks, Res, ok, said, M, ret, after, ◌>>=◌}
use Rattle.cc_tied.proofs.Sim.{Tie, World, Later, now, later, ResT, Sim, said_none, said_t, seen_both, marks_on}

module _ (T : Tie) where
  open T use {W, Steps, steps_none, steps_on, Tied}

  -- the right run ends well from here, whatever rules it could break: the left one has passed it already, or breaks no rule there
  pub data AloneR {A : Type 0} (Q : World T → A → Type 0) (w : World T) (s : State) : Res A → Type 0 where
    alone_r : {u : List Said} {a : A} {t : State} → seen u ≡ seen [] → (v : World T) → Later T w v → Steps w.w (marks u) v.w → Q v a → Tied v.w s t → s.budget ≤ v.l → t.budget ≤ v.r → AloneR Q w s (ok u a t)

  pub record SilentR {A : Type 0} (Q : World T → A → Type 0) (w : World T) (m : M A) : Type 0 where
    pub by : (s t : State) → Tied w.w s t → s.budget ≤ w.l → t.budget ≤ w.r → AloneR Q w s (m t)

  pub silent_r_ret : {A : Type 0} {Q : World T → A → Type 0} {w : World T} (a : A) → Q w a → SilentR Q w (ret a)
  unfolding ret marks
  silent_r_ret {w = w} a q = record { by = λ s t ti le le'. alone_r refl w (now T w) steps_none q ti le le' }

  from_r : {A : Type 0} {Q : World T → A → Type 0} {w v : World T} {s : State} {r : Res A} (o : List Said) → seen o ≡ seen [] → Later T w v → Steps w.w (marks o) v.w → AloneR Q v s r → AloneR Q w s (said o r)
  unfolding said
  from_r {w = w} o c l st (alone_r {u = u} d z k su q ti le le') = alone_r (seen_both o [] u [] c d) z (later T l k) (subst (λ x. Steps w.w x z.w) (sym (marks_on o u)) (steps_on st su)) q ti le le'

  after_r : {A B : Type 0} {Q : World T → A → Type 0} {P : World T → B → Type 0} {w : World T} {s : State} {r : Res A} (k : A → M B) → ((v : World T) → Later T w v → (a : A) → Q v a → SilentR P v (k a)) → AloneR Q w s r → AloneR P w s (after r k)
  unfolding after
  after_r k h (alone_r {u = u} {a = a} {t = t} d v l st q ti le le') = from_r u d l st ((h v l a q).by _ t ti le le')

  pub silent_r_bind : {A B : Type 0} {Q : World T → A → Type 0} {P : World T → B → Type 0} {w : World T} {m : M A} {k : A → M B} → SilentR Q w m → ((v : World T) → Later T w v → (a : A) → Q v a → SilentR P v (k a)) → SilentR P w (m >>= k)
  unfolding ◌>>=◌
  silent_r_bind {k = k} h f = record { by = λ s t ti le le'. after_r k f (h.by s t ti le le') }

  after_right : {A B B' : Type 0} {Q : World T → A → Type 0} {R : World T → B → B' → Type 0} {w : World T} {s : State} {r : Res A} (m : M B) (k' : A → M B') → ((v : World T) → Later T w v → (a : A) → Q v a → Sim T R v m (k' a)) → AloneR Q w s r → ResT T R w (m s) (after r k')
  unfolding after
  after_right {R = R} {w = w} {s = s} m k' h (alone_r {u = u} {a = a} {t = t} d v l st q ti le le') = subst (λ z. ResT T R w z (said u (k' a t))) (said_none (m s)) (said_t T [] u (sym d) l st (h v l a q s t ti le le'))

  -- after what the right makes alone, both go on
  pub rel_right_alone : {A B B' : Type 0} {Q : World T → A → Type 0} {R : World T → B → B' → Type 0} {w : World T} {m : M B} {m' : M A} {k' : A → M B'} → SilentR Q w m' → ((v : World T) → Later T w v → (a : A) → Q v a → Sim T R v m (k' a)) → Sim T R w m (m' >>= k')
  unfolding ◌>>=◌
  rel_right_alone {m = m} {k' = k'} h f s t ti le le' = after_right m k' f (h.by s t ti le le')
