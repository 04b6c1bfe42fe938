-- Alike programs have equal plain runs, and what agrees with a program agrees with what is alike.
use Rattle.std.proofs.Common.{◌≡◌, ◌⊎◌, inl, inr, ℕ, zero, suc, ◌-◌, Bool, true, false, List, [], ◌∷◌, ◌++◌, map, Option, Some, None, refl, sym, ap, subst, ◌∙◌, IsTrue}
use Rattle.std.specs.Prelude.{slice_get, nat_lt}
use Rattle.cc_ast.specs.Syntax.{Program}
use Rattle.cc_ast.specs.declared.tables.GlobalInfo.{GlobalInfo}
use Rattle.cc_meaning.specs.Values.{Val}
use Rattle.cc_meaning.specs.State.{Tables}
use Rattle.cc_meaning.specs.Monad.{Res, pick}
use Rattle.cc_meaning.specs.Store.{extern, built_in, of_chunk, chunk_in, outer_global, global_by, global_kind, without_chunk, built_number}
use Rattle.cc_meaning.specs.Shapes.{tables_of}
use Rattle.cc_meaning.specs.Script.{Script, IsFollowing, follows, Finish, Run, finish, start, run, plain}
use Rattle.cc_meaning.specs.Same.{IsBroken, IsStrayed, is_strayed, IsSettled, IsFollowedBy}
use Rattle.cc_meaning.specs.Alike.{Alike}
use Rattle.cc_tied.specs.Tied.{nil_t}
use Rattle.cc_tied.specs.Promises.{EndsAlike, same_finish, both_strayed, AlikeRuns, AgreementReachesAlike, Joining}
use Rattle.cc_tied.proofs.Sim.{World, ResT, ok_t, threw_t, broken_t, short_t, ahead_t, over_t}
use Rattle.cc_tied.proofs.Runs.{raw_tied}
use Rattle.cc_tied.proofs.Equality.Erase.{erasure, agreement_follows_same}
use Rattle.cc_tied.proofs.Alike.Frames.{no_frames}
use Rattle.cc_tied.proofs.Alike.Tie.{TiedA, alike, spent_a, waits_a, stray_a}
use Rattle.cc_tied.proofs.Alike.Upkeep.{upkeep}
use Rattle.cc_tied.proofs.Alike.Statements.{programs, chunks}

-- ---- the starts are tied: a chunk's global is there in both

abbrev no_value : GlobalInfo → Option Val
no_value g = None

not_outer : (b : Bool) (e n c : ℕ) → pick b extern (built_in (built_number (n - e))) ≡ of_chunk c → ⊥
not_outer true e n c h = absurd (cc)
not_outer false e n c h = absurd (cc)

unset : (gs : List GlobalInfo) (m : ℕ) (g : GlobalInfo) → slice_get gs m ≡ Some g → slice_get (map no_value gs) m ≡ Some None
unset [] m g e = absurd (cc)
unset (x ∷ gs) zero g e = refl
unset (x ∷ gs) (suc m) g e = unset gs m g e

there_by : (T : Tables) (m c : ℕ) (o : Option GlobalInfo) → slice_get T.globals m ≡ o → global_by (without_chunk T.globals - 3) m (chunk_in o) ≡ of_chunk c → slice_get (map no_value T.globals) m ≡ Some None
unfolding global_by chunk_in outer_global
there_by T m c None e h = absurd (not_outer (nat_lt m (without_chunk T.globals - 3)) (without_chunk T.globals - 3) m c h)
there_by T m c (Some g) e h = unset T.globals m g e

is_there : (T : Tables) (m c : ℕ) → global_kind T m ≡ of_chunk c → slice_get (map no_value T.globals) m ≡ Some None
unfolding global_kind
is_there T m c h = there_by T m c (slice_get T.globals m) refl h

globals_of : (P : Program) → (tables_of P).globals ≡ P.globals
unfolding tables_of
globals_of P = refl

module _ (P Q : Program) (al : Alike P Q) (sc : Script) where
  starts : (n : ℕ) → TiedA P Q al [] (start plain P sc.replies n) (start plain Q sc.replies n)
  unfolding start
  starts n = record {
    tables = refl;
    tables' = refl;
    objs = nil_t;
    frames = no_frames;
    globals = λ m k c q e.
        ap (λ z. slice_get (map no_value z) m) (sym (globals_of P)) ∙ is_there (tables_of P) m c e
        ∙ sym (ap (λ z. slice_get (map no_value z) k) (sym (globals_of Q)) ∙ is_there (tables_of Q) k c (sym (al.globals m k q).kind ∙ e));
    loaded = refl;
    failed = refl;
    handles = refl;
    budget = refl;
    replies = refl;
  }

  ends : {w : World (alike P Q al)} {r r' : Res (Unit {0})} → ResT (alike P Q al) (λ v a b. Unit {0}) w r r' → ((finish r).events ≡ (finish r').events) × EndsAlike (finish r).end (finish r').end
  unfolding finish
  ends (ok_t d v l st h t le le') = (d, same_finish)
  ends (threw_t d v l st h t le le') = (d, same_finish)
  ends (broken_t x) = absurd x
  ends (short_t u x d e h) = absurd h
  ends (ahead_t u x d e h) = absurd h
  ends (over_t d spent_a) = (d, same_finish)
  ends (over_t d waits_a) = (d, same_finish)
  ends (over_t d stray_a) = (d, both_strayed)

  runs : IsFollowing P sc → (n : ℕ) → ((run plain P sc n).events ≡ (run plain Q sc n).events) × EndsAlike (run plain P sc n).end (run plain Q sc n).end
  unfolding run
  runs f n = ends (raw_tied (alike P Q al) (upkeep P Q al) P Q (record { bodies = programs P Q al; chunks = chunks P Q al }) sc f n n [] (starts n))

pub alike_runs : AlikeRuns
alike_runs P Q al sc f n = runs P Q al sc f n

-- ---- from one program to what is alike

run_same : {x y : Run} → x.events ≡ y.events → x.end ≡ y.end → x ≡ y
run_same e d = λ i. record { events = e i; end = d i }

settled_same : {x y : Finish} → EndsAlike x y → IsSettled x → x ≡ y
settled_same same_finish q = refl
settled_same both_strayed q = elim q [ ]

settled_back : {x y : Finish} → EndsAlike x y → IsSettled y → x ≡ y
settled_back same_finish q = refl
settled_back both_strayed q = elim q [ ]

followed_on : {x y z : Run} → IsFollowedBy x y → y.events ≡ z.events → EndsAlike y.end z.end → IsFollowedBy x z
followed_on {x = x} {y = y} {z = z} h e f = record {
  events = (h.events.0, sym e ∙ h.events.1);
  settled = λ q. let d : x ≡ y = h.settled q in let k : y.end ≡ z.end = settled_same f (subst (λ u. IsSettled u.end) d q) in d ∙ run_same e k;
}

before_followed : {x y z : Run} → IsFollowedBy y x → y.events ≡ z.events → EndsAlike y.end z.end → IsFollowedBy z x
before_followed {x = x} {y = y} {z = z} h e f = record {
  events = (h.events.0, h.events.1 ∙ ap (λ u. u ++ h.events.0) e);
  settled = λ q. let k : y.end ≡ z.end = settled_back f q in let d : z ≡ y = run_same (sym e) (sym k) in d ∙ h.settled (subst IsSettled (sym k) q);
}

stray_on : {x y : Finish} → EndsAlike x y → IsStrayed y → IsStrayed x
stray_on same_finish q = q
stray_on both_strayed q = is_strayed

or_followed : {a b c : Run} → IsBroken a.end ⊎ IsFollowedBy a b → b.events ≡ c.events → EndsAlike b.end c.end → IsBroken a.end ⊎ IsFollowedBy a c
or_followed (inl x) e f = inl x
or_followed (inr h) e f = inr (followed_on h e f)

pub agreement_reaches_alike : AgreementReachesAlike
agreement_reaches_alike S P Q a al =
    let on = λ (sc : Script) (f : IsFollowing S sc). subst (λ G. IsTrue (follows G sc)) a.graph f in
    record {
      graph = a.graph ∙ al.graph;
      keeps_up = λ sc f n. let k = alike_runs P Q al sc (on sc f) n in or_followed (a.keeps_up sc f n) k.0 k.1;
      goes_no_further = λ sc f nb n. let k = alike_runs P Q al sc (on sc f) n in let b = a.goes_no_further sc f nb n in ((λ q. b.0 (stray_on k.1 q)), (b.1.0, before_followed b.1.1 k.0 k.1));
    }

pub joining : Joining
joining S P Q s none al = agreement_reaches_alike S P Q (agreement_follows_same S P P s (erasure P none)) al
