-- Runs one after another, whatever their brackets.
use Rattle.std.proofs.Common.{◌≡◌, List, [], ◌∷◌, ◌++◌, refl, ap, append_assoc}
use Rattle.cc_meaning.specs.Values.{Val}
use Rattle.cc_meaning.specs.Monad.{Said, End, Res, ok, threw, over, M, ret, raise, stop, said, after, ◌>>=◌, with_tables}
use Rattle.cc_meaning.specs.State.{Tables}

pub said_twice : {A : Type 0} (u v : List Said) (r : Res A) → said (u ++ v) r ≡ said u (said v r)
unfolding said
said_twice u v (ok w a s) = ap (λ z. ok z a s) (append_assoc u v w)
said_twice u v (threw w a s) = ap (λ z. threw z a s) (append_assoc u v w)
said_twice u v (over w e) = ap (λ z. over z e) (append_assoc u v w)

pub said_none : {A : Type 0} (r : Res A) → said [] r ≡ r
unfolding said
said_none (ok w a s) = refl
said_none (threw w a s) = refl
said_none (over w e) = refl

said_after : {A B : Type 0} (u : List Said) (r : Res A) (k : A → M B) → after (said u r) k ≡ said u (after r k)
unfolding said after
said_after u (ok w a s) k = said_twice u w (k a s)
said_after u (threw w a s) k = refl
said_after u (over w e) k = refl

after_after : {A B C : Type 0} (r : Res A) (k : A → M B) (h : B → M C) → after (after r k) h ≡ after r (λ a s. after (k a s) h)
unfolding after
after_after (ok u a s) k h = said_after u (k a s) h
after_after (threw u v s) k h = refl
after_after (over u e) k h = refl

pub bind_assoc : {A B C : Type 0} (m : M A) (k : A → M B) (h : B → M C) → ((m >>= k) >>= h) ≡ (m >>= λ a. k a >>= h)
unfolding ◌>>=◌
bind_assoc m k h = λ i s. after_after (m s) k h i

append_none : (u : List Said) → u ++ [] ≡ u
append_none [] = refl
append_none (x ∷ u) = ap (λ z. x ∷ z) (append_none u)

after_ret : {A : Type 0} (r : Res A) → after r ret ≡ r
unfolding after ret said
after_ret (ok u a s) = ap (λ z. ok z a s) (append_none u)
after_ret (threw u v s) = refl
after_ret (over u e) = refl

pub bind_ret : {A : Type 0} (m : M A) → (m >>= ret) ≡ m
unfolding ◌>>=◌
bind_ret m = λ i s. after_ret (m s) i

pub ret_bind : {A B : Type 0} (a : A) (k : A → M B) → (ret a >>= k) ≡ k a
unfolding ◌>>=◌ ret after
ret_bind a k = λ i s. said_none (k a s) i

pub raise_bind : {A B : Type 0} (v : Val) (k : A → M B) → (raise v >>= k) ≡ raise v
unfolding ◌>>=◌ raise after
raise_bind v k = refl

pub stop_bind : {A B : Type 0} (e : End) (k : A → M B) → (stop e >>= k) ≡ stop e
unfolding ◌>>=◌ stop after
stop_bind e k = refl

-- two continuations that are alike at each value
pub bind_alike : {A B : Type 0} (m : M A) (k h : A → M B) → ((a : A) → k a ≡ h a) → (m >>= k) ≡ (m >>= h)
bind_alike m k h e = λ i. m >>= λ a. e a i

pub tables_bind : {A B : Type 0} (f : Tables → M A) (k : A → M B) → (with_tables f >>= k) ≡ with_tables (λ T. f T >>= k)
unfolding ◌>>=◌ with_tables
tables_bind f k = refl

pub tables_alike : {A : Type 0} (f h : Tables → M A) → ((T : Tables) → f T ≡ h T) → with_tables f ≡ with_tables h
tables_alike f h e = λ i. with_tables (λ T. e T i)
