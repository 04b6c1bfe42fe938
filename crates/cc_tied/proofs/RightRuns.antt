-- Runs of the right that only give a value, at a price.
use Rattle.std.proofs.Common.{◌≡◌, ℕ, ◌+◌, List, [], Option, Some, None, refl, subst, ◌∙◌, arith}
use Rattle.cc_meaning.specs.Values.{Spot}
use Rattle.cc_meaning.specs.State.{State}
use Rattle.cc_meaning.specs.Monad.{Said, spent, broken, Res, ok, over, M, ret, after, ◌>>=◌, paid, pay_from, pay}
use Rattle.cc_tied.proofs.Sim.{said_none}
use Rattle.cc_tied.proofs.Left.{paid_on, paid_not}

-- a value of which Q holds, in a state that paid q; or a budget that doesn't suffice; or a broken rule
pub data Gives {A : Type 0} (Q : A → Type 0) (q : ℕ) (t : State) : Res A → Type 0 where
  gives_ok : {a : A} {b : ℕ} → paid q t.budget ≡ Some b → Q a → Gives Q q t (ok [] a (record t { budget = b }))
  gives_spent : paid q t.budget ≡ None → Gives Q q t (over [] spent)
  gives_broken : {u : List Said} {r : ℕ} {i : Spot} → Gives Q q t (over u (broken r i))

pub gives_ret : {A : Type 0} {Q : A → Type 0} {t : State} (a : A) → Q a → Gives Q 0 t (ret a t)
unfolding ret paid
gives_ret a q = gives_ok refl q

gives_pay_by : (q : ℕ) (t : State) (o : Option ℕ) → paid q t.budget ≡ o → Gives (λ a. Unit {0}) q t (pay_from o t)
unfolding pay_from
gives_pay_by q t None e = gives_spent e
gives_pay_by q t (Some b) e = gives_ok e tt

pub gives_pay : (q : ℕ) (t : State) → Gives (λ a. Unit {0}) q t (pay q t)
unfolding pay
gives_pay q t = gives_pay_by q t (paid q t.budget) refl

pub gives_as : {A : Type 0} {P Q : A → Type 0} {q : ℕ} {t : State} {r : Res A} → ((a : A) → P a → Q a) → Gives P q t r → Gives Q q t r
gives_as f (gives_ok e h) = gives_ok e (f _ h)
gives_as f (gives_spent e) = gives_spent e
gives_as f gives_broken = gives_broken

-- first one price is paid, then another
moved : {A : Type 0} {P : A → Type 0} (q : ℕ) {r b : ℕ} {t : State} {x : Res A} → paid q t.budget ≡ Some b → Gives P r (record t { budget = b }) x → Gives P (q + r) t x
moved q {r = r} {b = b} {t = t} e (gives_ok d h) = gives_ok (paid_on q r t.budget b e ∙ d) h
moved q {r = r} {b = b} {t = t} e (gives_spent d) = gives_spent (paid_on q r t.budget b e ∙ d)
moved q e gives_broken = gives_broken

gives_after : {A B : Type 0} {Q : A → Type 0} {P : B → Type 0} {q r : ℕ} {t : State} {x : Res A} (k : A → M B) → ((a : A) (b : ℕ) → Q a → Gives P r (record t { budget = b }) (k a (record t { budget = b }))) → Gives Q q t x → Gives P (q + r) t (after x k)
unfolding after
gives_after {q = q} {t = t} k f (gives_ok {a = a} {b = b} e h) = rw (said_none (k a (record t { budget = b }))) (moved q e (f a b h))
gives_after {q = q} {r = r} {t = t} k f (gives_spent e) = gives_spent (paid_not q r t.budget e)
gives_after k f gives_broken = gives_broken

pub gives_bind : {A B : Type 0} {Q : A → Type 0} {P : B → Type 0} {q r : ℕ} {t : State} (m : M A) (k : A → M B) → Gives Q q t (m t) → ((a : A) (b : ℕ) → Q a → Gives P r (record t { budget = b }) (k a (record t { budget = b }))) → Gives P (q + r) t ((m >>= k) t)
unfolding ◌>>=◌
gives_bind m k h f = gives_after k f h

-- first nothing is paid
pub gives_then : {A B : Type 0} {Q : A → Type 0} {P : B → Type 0} {r : ℕ} {t : State} (m : M A) (k : A → M B) → Gives Q 0 t (m t) → ((a : A) (b : ℕ) → Q a → Gives P r (record t { budget = b }) (k a (record t { budget = b }))) → Gives P r t ((m >>= k) t)
gives_then {P = P} {r = r} {t = t} m k h f = let e : 0 + r ≡ r = omega arith in subst (λ z. Gives P z t ((m >>= k) t)) e (gives_bind m k h f)

-- .. or then
pub gives_last : {A B : Type 0} {Q : A → Type 0} {P : B → Type 0} {q : ℕ} {t : State} (m : M A) (k : A → M B) → Gives Q q t (m t) → ((a : A) (b : ℕ) → Q a → Gives P 0 (record t { budget = b }) (k a (record t { budget = b }))) → Gives P q t ((m >>= k) t)
gives_last {P = P} {q = q} {t = t} m k h f = let e : q + 0 ≡ q = omega arith in subst (λ z. Gives P z t ((m >>= k) t)) e (gives_bind m k h f)
