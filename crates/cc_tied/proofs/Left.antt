-- Runs that the left program alone makes: they end well and tell nothing, or break a rule. And runs
-- that the left pays for in portions, where the right pays all at once.
use Rattle.std.proofs.Common.{◌≡◌, ℕ, zero, suc, ◌≤◌, ◌+◌, List, [], Option, Some, None, refl, sym, ap, subst, arith, ◌∙◌}
use Rattle.cc_meaning.specs.Values.{Spot}
use Rattle.cc_meaning.specs.State.{State}
use Rattle.cc_meaning.specs.Monad.{Said, seen, marks, spent, broken, Res, ok, over, said, M, ret, after, ◌>>=◌, paid, pay_from, pay}
use Rattle.cc_tied.proofs.Sim.{Tie, World, Later, now, later, ResT, Sim, broken_t, over_t, said_none, said_t, seen_both}

module _ (T : Tie) (excused : T.Excused) where
  open T use {W, Steps, steps_none, steps_on, end_spent, Tied}

  pub data Alone {A : Type 0} (Q : World T → A → Type 0) (w : World T) (t : State) : Res A → Type 0 where
    alone_ok : {u : List Said} {a : A} {s : State} → seen u ≡ seen [] → (v : World T) → Later T w v → Steps w.w 0 v.w → Q v a → Tied v.w s t → s.budget ≤ v.l → t.budget ≤ v.r → Alone Q w t (ok u a s)
    alone_broken : {u : List Said} {r : ℕ} {i : Spot} → Alone Q w t (over u (broken r i))

  pub record Silent {A : Type 0} (Q : World T → A → Type 0) (w : World T) (m : M A) : Type 0 where
    pub by : (s t : State) → Tied w.w s t → s.budget ≤ w.l → t.budget ≤ w.r → Alone Q w t (m s)

  pub silent_ret : {A : Type 0} {Q : World T → A → Type 0} {w : World T} (a : A) → Q w a → Silent Q w (ret a)
  unfolding ret
  silent_ret {w = w} a q = record { by = λ s t ti le le'. alone_ok refl w (now T w) steps_none q ti le le' }

  -- after what tells nothing
  alone_from : {A : Type 0} {Q : World T → A → Type 0} {w v : World T} {t : State} {r : Res A} (o : List Said) → seen o ≡ seen [] → Later T w v → Steps w.w 0 v.w → Alone Q v t r → Alone Q w t (said o r)
  unfolding said
  alone_from o c l st (alone_ok {u = u} d z k su q ti le le') = alone_ok (seen_both o [] u [] c d) z (later T l k) (steps_on st su) q ti le le'
  alone_from o c l st alone_broken = alone_broken

  after_alone : {A B : Type 0} {Q : World T → A → Type 0} {P : World T → B → Type 0} {w : World T} {t : State} {r : Res A} (k : A → M B) → ((v : World T) → Later T w v → (a : A) → Q v a → Silent P v (k a)) → Alone Q w t r → Alone P w t (after r k)
  unfolding after
  after_alone k h (alone_ok {u = u} {a = a} {s = s} d v l st q ti le le') = alone_from u d l st ((h v l a q).by s _ ti le le')
  after_alone k h alone_broken = alone_broken

  pub silent_bind : {A B : Type 0} {Q : World T → A → Type 0} {P : World T → B → Type 0} {w : World T} {m : M A} {k : A → M B} → Silent Q w m → ((v : World T) → Later T w v → (a : A) → Q v a → Silent P v (k a)) → Silent P w (m >>= k)
  unfolding ◌>>=◌
  silent_bind {k = k} h f = record { by = λ s t ti le le'. after_alone k f (h.by s t ti le le') }

  after_left : {A B B' : Type 0} {Q : World T → A → Type 0} {R : World T → B → B' → Type 0} {w : World T} {t : State} {r : Res A} (k : A → M B) (k' : M B') → ((v : World T) → Later T w v → (a : A) → Q v a → Sim T R v (k a) k') → Alone Q w t r → ResT T R w (after r k) (k' t)
  unfolding after marks
  after_left {R = R} {w = w} {t = t} k k' h (alone_ok {u = u} {a = a} {s = s} d v l st q ti le le') = subst (λ z. ResT T R w (said u (k a s)) z) (said_none (k' t)) (said_t T u [] d l st (h v l a q s t ti le le'))
  after_left k k' h alone_broken = broken_t excused

  -- after what the left makes alone, both go on
  pub rel_left : {A B B' : Type 0} {Q : World T → A → Type 0} {R : World T → B → B' → Type 0} {w : World T} {m : M A} {k : A → M B} {k' : M B'} → Silent Q w m → ((v : World T) → Later T w v → (a : A) → Q v a → Sim T R v (k a) k') → Sim T R w (m >>= k) k'
  unfolding ◌>>=◌
  rel_left {k = k} {k' = k'} h f s t ti le le' = after_left k k' f (h.by s t ti le le')

-- ---- prices

pub paid_on : (q k n b : ℕ) → paid q n ≡ Some b → paid (q + k) n ≡ paid k b
unfolding paid
paid_on zero k n b e = let z : 0 + k ≡ k = omega arith in let d : n ≡ b = cc in rw (z, d) refl
paid_on (suc q) k zero b e = absurd (cc)
paid_on (suc q) k (suc n) b e = let z : suc q + k ≡ suc (q + k) = omega arith in rw z (paid_on q k n b e)

pub paid_not : (q k n : ℕ) → paid q n ≡ None → paid (q + k) n ≡ None
unfolding paid
paid_not zero k n e = absurd (cc)
paid_not (suc q) k zero e = let z : suc q + k ≡ suc (q + k) = omega arith in rw z refl
paid_not (suc q) k (suc n) e = let z : suc q + k ≡ suc (q + k) = omega arith in rw z (paid_not q k n e)

same_pay : (o : Option ℕ) (t : State) (b : ℕ) → pay_from o t ≡ pay_from o (record t { budget = b })
unfolding pay_from
same_pay None t b = refl
same_pay (Some c) t b = refl

at_once : (n q b : ℕ) (t : State) → paid q n ≡ Some b → pay_from (paid (q + 1) n) t ≡ pay_from (paid 1 b) (record t { budget = b })
unfolding pay_from
at_once n q b t e = rw (paid_on q 1 n b e) (same_pay (paid 1 b) t b)

-- the left run pays this much in all, for which the right one hasn't paid yet
module _ (T : Tie) (excused : T.Excused) where
  open T use {W, Steps, end_spent, Tied}

  pub data Paying {A : Type 0} (Q : World T → A → Type 0) (q : ℕ) (w : World T) (t : State) : Res A → Type 0 where
    paying_ok : {u : List Said} {a : A} {s : State} {b : ℕ} → seen u ≡ seen [] → (v : World T) → Later T w v → Steps w.w 0 v.w → Q v a → paid q t.budget ≡ Some b → Tied v.w s (record t { budget = b }) → s.budget ≤ v.l → b ≤ v.r → Paying Q q w t (ok u a s)
    paying_spent : {u : List Said} → seen u ≡ seen [] → paid q t.budget ≡ None → Paying Q q w t (over u spent)
    paying_broken : {u : List Said} {r : ℕ} {i : Spot} → Paying Q q w t (over u (broken r i))

  pub record Pays {A : Type 0} (Q : World T → A → Type 0) (q : ℕ) (w : World T) (m : M A) : Type 0 where
    pub by : (s t : State) → Tied w.w s t → s.budget ≤ w.l → t.budget ≤ w.r → Paying Q q w t (m s)

  -- where nothing is paid
  pub alone_paid : {A : Type 0} {Q : World T → A → Type 0} {w : World T} {t : State} {r : Res A} → Paying Q 0 w t r → Alone T excused Q w t r
  unfolding paid
  alone_paid {t = t} (paying_ok {s = s} {b = b} d v l st h e ti le le') =
      let k : t.budget ≡ b = cc in
      alone_ok d v l st h (subst (λ z. Tied v.w s (record t { budget = z })) (sym k) ti) le (subst (λ z. z ≤ v.r) (sym k) le')
  alone_paid (paying_spent d e) = absurd (cc)
  alone_paid paying_broken = alone_broken

  pays_after : {A B B' : Type 0} {Q : World T → A → Type 0} {R : World T → B → B' → Type 0} {w : World T} {t : State} {q : ℕ} {r : Res A} (k : A → M B) (k' : M B') → ((v : World T) → Later T w v → (a : A) → Q v a → Sim T R v (k a) (pay 1 >>= λ _. k')) → (n : ℕ) → n ≡ t.budget → Paying Q q w t r → ResT T R w (after r k) (after (pay_from (paid (q + 1) n) t) (λ _. k'))
  unfolding after pay_from ◌>>=◌ pay marks
  pays_after {R = R} {w = w} {t = t} {q = q} k k' f n en (paying_ok {u = u} {a = a} {s = s} {b = b} d v l st h e ti le le') =
      subst (λ z. ResT T R w (said u (k a s)) (after z (λ _. k'))) (sym (at_once n q b t (ap (λ z. paid q z) en ∙ e)))
      (subst (λ z. ResT T R w (said u (k a s)) z) (said_none _) (said_t T u [] d l st (f v l a h s (record t { budget = b }) ti le le')))
  pays_after {R = R} {w = w} {t = t} {q = q} k k' f n en (paying_spent d e) = rw (paid_not q 1 n (ap (λ z. paid q z) en ∙ e)) (over_t d end_spent)
  pays_after k k' f n en paying_broken = broken_t excused

  -- the left pays q in portions and then 1, the right q + 1 at once
  pub rel_pays : {A B B' : Type 0} {Q : World T → A → Type 0} {R : World T → B → B' → Type 0} {w : World T} (q : ℕ) {m : M A} {k : A → M B} (k' : M B') → Pays Q q w m → ((v : World T) → Later T w v → (a : A) → Q v a → Sim T R v (k a) (pay 1 >>= λ _. k')) → Sim T R w (m >>= k) (pay (q + 1) >>= λ _. k')
  unfolding ◌>>=◌ pay
  rel_pays q {k = k} k' h f s t ti le le' = pays_after {q = q} k k' f t.budget refl (h.by s t ti le le')
