-- Many steps, and parts that are done one after another.
use Rattle.std.proofs.Common.{◌≡◌, ℕ, Bool, true, false, List, [], ◌∷◌, ◌++◌, Option, Some, None, refl, ap, ◌∙◌, sym, append_assoc}
use Rattle.cc_meaning.specs.Values.{Val, Event, Spot}
use Rattle.cc_meaning.specs.State.{State}
use Rattle.cc_meaning.specs.Monad.{Said, told, passed, seen, Res, ok, threw, over, M, ret, raise, skip, stop, said, after, ◌>>=◌, Way, went, thrown, attempted, attempt, Mode}
use Rattle.cc_meaning.specs.Meaning.{Comp, resume}
use Rattle.cc_meaning.specs.Judge.{Act, least_broken}
use Rattle.cc_meaning.specs.Acts.{judged, allowed, refused, is_fatal}
use Rattle.cc_machine.specs.Moves.{logged}

pub append_none : {A : Type 0} (u : List A) → u ++ [] ≡ u
append_none [] = refl
append_none (x ∷ u) = ap (λ z. x ∷ z) (append_none u)

pub said_none : {A : Type 0} (r : Res A) → said [] r ≡ r
unfolding said
said_none (ok w a s) = refl
said_none (threw w a s) = refl
said_none (over w e) = refl

pub said_twice : {A : Type 0} (u v : List Said) (r : Res A) → said (u ++ v) r ≡ said u (said v r)
unfolding said
said_twice u v (ok w a s) = ap (λ z. ok z a s) (append_assoc u v w)
said_twice u v (threw w a s) = ap (λ z. threw z a s) (append_assoc u v w)
said_twice u v (over w e) = ap (λ z. over z e) (append_assoc u v w)

said_after : {A B : Type 0} (u : List Said) (r : Res A) (k : A → M B) → after (said u r) k ≡ said u (after r k)
unfolding said after
said_after u (ok w a s) k = said_twice u w (k a s)
said_after u (threw w a s) k = refl
said_after u (over w e) k = refl

after_after : {A B C : Type 0} (r : Res A) (k : A → M B) (h : B → M C) → after (after r k) h ≡ after r (λ a s. after (k a s) h)
unfolding after
after_after (ok u a s) k h = said_after u (k a s) h
after_after (threw u v s) k h = refl
after_after (over u e) k h = refl

pub bind_assoc : {A B C : Type 0} (m : M A) (k : A → M B) (h : B → M C) → ((m >>= k) >>= h) ≡ (m >>= λ a. k a >>= h)
unfolding ◌>>=◌
bind_assoc m k h = λ i s. after_after (m s) k h i

after_ret : {A : Type 0} (r : Res A) → after r ret ≡ r
unfolding after ret said
after_ret (ok u a s) = ap (λ z. ok z a s) (append_none u)
after_ret (threw u v s) = refl
after_ret (over u e) = refl

pub bind_ret : {A : Type 0} (m : M A) → (m >>= ret) ≡ m
unfolding ◌>>=◌
bind_ret m = λ i s. after_ret (m s) i

pub ret_bind : {A B : Type 0} (a : A) (k : A → M B) → (ret a >>= k) ≡ k a
unfolding ◌>>=◌ ret after
ret_bind a k = λ i s. said_none (k a s) i

-- what is judged may be done after the judging
refused_first : {A : Type 0} (J : Mode) (i : Spot) (b : Bool) (r : ℕ) (m : M A) → refused J i b r m ≡ (refused J i b r skip >>= λ _. m)
unfolding refused ◌>>=◌ stop after
refused_first J i true r m = refl
refused_first J i false r m = sym (bind_assoc (J.breach r i) (λ _. skip) (λ _. m) ∙ ap (λ h. J.breach r i >>= h) (λ l u. ret_bind tt (λ _. m) l))

allowed_first : {A : Type 0} (J : Mode) (i : Spot) (a : Act) (o : Option ℕ) (m : M A) (s : State) → allowed J i a o m s ≡ (allowed J i a o skip >>= λ _. m) s
unfolding allowed ◌>>=◌ after ret
allowed_first J i a None m s = sym (said_none (m s))
allowed_first {A = A} J i a (Some r) m s = ap (λ (q : M A). q s) (refused_first J i (is_fatal a r) r m)

pub judged_first : {A : Type 0} (J : Mode) (i : Spot) (a : Act) (m : M A) → judged J i a m ≡ (judged J i a skip >>= λ _. m)
unfolding judged ◌>>=◌
judged_first J i a m = λ j s. allowed_first J i a (least_broken s.tables s a) m s j

pub judged_bind : {A B : Type 0} (J : Mode) (i : Spot) (a : Act) (m : M A) (k : A → M B) → (judged J i a m >>= k) ≡ judged J i a (m >>= k)
judged_bind J i a m k = ap (λ h. h >>= k) (judged_first J i a m) ∙ bind_assoc (judged J i a skip) (λ _. m) k ∙ sym (judged_first J i a (m >>= k))

resumed : (r : Res Comp) → after (attempted r) resume ≡ r
unfolding after attempted said resume ret raise
resumed (ok u c s) = ap (λ z. ok z c s) (append_none u)
resumed (threw u v s) = ap (λ z. threw z v s) (append_none u)
resumed (over u e) = refl

pub attempted_resumed : (m : M Comp) → (attempt m >>= resume) ≡ m
unfolding ◌>>=◌ attempt
attempted_resumed m = λ i s. resumed (m s) i

-- an end that is given in place of the value
unfoldable pub instead : Val → Way Comp → Way Val
instead v (went c) = went v
instead v (thrown x) = thrown x

given_instead : {B : Type 0} (r : Res Comp) (a : Val) (h : Way Val → M B) → after (attempted (after r (λ _. ret a))) h ≡ after (attempted r) (λ w. h (instead a w))
unfolding after attempted ret said instead
given_instead (ok u c s) a h = ap (λ z. said z (h (went a) s)) (append_none u)
given_instead (threw u v s) a h = refl
given_instead (over u e) a h = refl

pub attempt_instead : {B : Type 0} (m : M Comp) (a : Val) (h : Way Val → M B) → (attempt (m >>= λ _. ret a) >>= h) ≡ (attempt m >>= λ w. h (instead a w))
unfolding ◌>>=◌ attempt
attempt_instead m a h = λ i s. given_instead (m s) a h i

pub logged_twice : (l : List Event) (u v : List Said) → logged (logged l u) v ≡ logged l (u ++ v)
unfolding logged
logged_twice l [] v = refl
logged_twice l (told e ∷ u) v = logged_twice (l ++ e ∷ []) u v
logged_twice l (passed p ∷ u) v = logged_twice l u v

pub logged_all : (l : List Event) (u : List Said) → logged l u ≡ l ++ seen u
unfolding logged seen
logged_all l [] = sym (append_none l)
logged_all l (told e ∷ u) = logged_all (l ++ e ∷ []) u ∙ append_assoc l (e ∷ []) (seen u)
logged_all l (passed p ∷ u) = logged_all l u
