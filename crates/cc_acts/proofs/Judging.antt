-- A judged act in the two modes: it ends the run, or it happens.
use Rattle.std.proofs.Common.{◌≡◌, ℕ, Bool, true, false, [], Option, Some, None, Result, Ok, Err, refl, ap, ◌∙◌, sym, subst}
use Rattle.cc_meaning.specs.Values.{Spot}
use Rattle.cc_meaning.specs.State.{State}
use Rattle.cc_meaning.specs.Monad.{End, Res, M, ret, said, stop, after, ◌>>=◌, pick, strayed}
use Rattle.cc_meaning.specs.Judge.{Act, least_broken}
use Rattle.cc_meaning.specs.Acts.{judged, allowed, refused, is_fatal}
use Rattle.cc_meaning.specs.Script.{checked, plain}
use Rattle.cc_acts.specs.declared.stop.Stop.{Stop}
use Rattle.cc_acts.specs.declared.stop.Stop.TheVariants.{Ended, Memory}
use Rattle.cc_acts.specs.Verdicts.{checked_end, plain_end, mode_of, end_of, end_at, settled, VerdictLaws}
use Rattle.cc_acts.specs.Shown.{Settles, Comes}

said_none : {A : Type 0} (r : Res A) → said [] r ≡ r
unfolding said
said_none (Res.ok w a s) = refl
said_none (Res.threw w a s) = refl
said_none (Res.over w e) = refl

checked_refused : {A : Type 0} (i : Spot) (b : Bool) (r : ℕ) (m : M A) (s : State) → refused checked i b r m s ≡ settled (checked_end i (Some r)) (m s)
unfolding refused settled ◌>>=◌ stop after
checked_refused i true r m s = refl
checked_refused i false r m s = refl

checked_allowed : {A : Type 0} (i : Spot) (a : Act) (o : Option ℕ) (m : M A) (s : State) → allowed checked i a o m s ≡ settled (checked_end i o) (m s)
unfolding allowed settled
checked_allowed i a None m s = refl
checked_allowed i a (Some r) m s = checked_refused i (is_fatal a r) r m s

plain_refused : {A : Type 0} (i : Spot) (b : Bool) (r : ℕ) (m : M A) (s : State) → refused plain i b r m s ≡ settled (pick b (Some (strayed i)) None) (m s)
unfolding refused settled ◌>>=◌ stop after ret
plain_refused i true r m s = refl
plain_refused i false r m s = said_none (m s)

plain_allowed : {A : Type 0} (i : Spot) (a : Act) (o : Option ℕ) (m : M A) (s : State) → allowed plain i a o m s ≡ settled (plain_end i a o) (m s)
unfolding allowed settled
plain_allowed i a None m s = refl
plain_allowed i a (Some r) m s = plain_refused i (is_fatal a r) r m s

pub verdicts : (A : Type 0) → VerdictLaws A
unfolding judged
verdicts A true i a m s = plain_allowed i a (least_broken s.tables s a) m s
verdicts A false i a m s = checked_allowed i a (least_broken s.tables s a) m s

-- the run goes on: what the act comes to is what happens
pub goes : {A B : Type 0} (f : A → B) (b : Bool) (i : Spot) (a : Act) (m : M B) (s t : State) (u : Unit {0}) (r : Result A Stop) →
    Settles (Ok u) (end_of b i a (least_broken s.tables s a)) → Comes f r t (m s) → Comes f r t (judged (mode_of b) i a m s)
unfolding settled
goes {B = B} f b i a m s t u r e c =
    subst (λ (z : Res B). Comes f r t z) (sym (verdicts B b i a m s ∙ ap (λ (o : Option End). settled o (m s)) e)) c

-- the run ends
pub ends : {A B : Type 0} (f : A → B) (b : Bool) (i : Spot) (a : Act) (m : M B) (s t : State) (x : Stop) →
    Settles (Err x) (end_of b i a (least_broken s.tables s a)) → Comes f (Err x) t (judged (mode_of b) i a m s)
unfolding settled
ends {B = B} f b i a m s t (Ended e) h = verdicts B b i a m s ∙ ap (λ (o : Option End). settled o (m s)) h
ends f b i a m s t Memory h = absurd h

-- an end by what is known of the act
at_rule : (b : Bool) (i : Spot) (a : Act) (r : ℕ) → end_at b i (is_fatal a r) r ≡ end_of b i a (Some r)
at_rule true i a r = refl
at_rule false i a r = refl

pub end_by : (b : Bool) (i : Spot) (a : Act) (o : Option ℕ) (r : ℕ) (f : Bool) → o ≡ Some r → is_fatal a r ≡ f → end_at b i f r ≡ end_of b i a o
end_by b i a o r f e h = ap (λ (x : Bool). end_at b i x r) (sym h) ∙ at_rule b i a r ∙ sym (ap (λ (x : Option ℕ). end_of b i a x) e)

-- the same by what the tests answered
pub ends_at : {A B : Type 0} (f : A → B) (b : Bool) (i : Spot) (a : Act) (m : M B) (s t : State) (o : Option ℕ) (r : Result (Unit {0}) Stop) (x : Stop) →
    o ≡ least_broken s.tables s a → Settles r (end_of b i a o) → r ≡ Err x → Comes f (Err x) t (judged (mode_of b) i a m s)
ends_at f b i a m s t o r x e h is = ends f b i a m s t x (subst (λ (y : Result (Unit {0}) Stop). Settles y (end_of b i a (least_broken s.tables s a))) is (subst (λ (y : Option ℕ). Settles r (end_of b i a y)) e h))

pub goes_at : {A B : Type 0} (f : A → B) (b : Bool) (i : Spot) (a : Act) (m : M B) (s t : State) (o : Option ℕ) (q : Result (Unit {0}) Stop) (u : Unit {0}) (r : Result A Stop) →
    o ≡ least_broken s.tables s a → Settles q (end_of b i a o) → q ≡ Ok u → Comes f r t (m s) → Comes f r t (judged (mode_of b) i a m s)
goes_at f b i a m s t o q u r e h is = goes f b i a m s t u r (subst (λ (y : Result (Unit {0}) Stop). Settles y (end_of b i a (least_broken s.tables s a))) is (subst (λ (y : Option ℕ). Settles q (end_of b i a y)) e h))

pub settled_at : (b : Bool) (i : Spot) (a : Act) (s : State) (o : Option ℕ) (r q : Result (Unit {0}) Stop) →
    o ≡ least_broken s.tables s a → Settles r (end_of b i a o) → r ≡ q → Settles q (end_of b i a (least_broken s.tables s a))
settled_at b i a s o r q e h is = subst (λ (y : Result (Unit {0}) Stop). Settles y (end_of b i a (least_broken s.tables s a))) is (subst (λ (y : Option ℕ). Settles r (end_of b i a y)) e h)
