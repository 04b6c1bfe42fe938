-- A program's checked run and its plain run; a lesser depth, and a larger budget.
use Rattle.std.proofs.Common.{◌≡◌, ◌⊎◌, inl, inr, ℕ, suc, ◌+◌, List, [], ◌∷◌, ◌++◌, refl, sym, ap, subst, arith, ◌∙◌, append-nil, map, IsTrue}
use Rattle.cc_ast.specs.Syntax.{Program}
use Rattle.cc_ast.specs.declared.tables.GlobalInfo.{GlobalInfo}
use Rattle.cc_meaning.specs.Values.{Event}
use Rattle.cc_meaning.specs.State.{Tables}
use Rattle.cc_meaning.specs.Monad.{Said, seen, marks, spent, waits, Res, ok, threw, over, said, Mode}
use Rattle.cc_meaning.specs.Shapes.{tables_of, without_paths, plain_tables}
use Rattle.cc_meaning.specs.Script.{Script, IsFollowing, follows, finished, stopped, Run, finish, raw, run, checked, plain}
use Rattle.cc_meaning.specs.Same.{IsBroken, is_broken, IsStrayed, IsSettled, Prefix, IsFollowedBy, Same, Agrees}
use Rattle.cc_tied.specs.Tied.{In, here, there}
use Rattle.cc_tied.specs.Promises.{run_to, DepthIsEnough, IsExtendedBy, goes_on, does_the_same, BudgetExtends, HasNoPaths, Erasure, AgreementFollowsSame}
use Rattle.cc_tied.proofs.Sim.{ResT, ok_t, threw_t, broken_t, short_t, ahead_t, over_t, World, log, log_said, seen_on}
use Rattle.cc_tied.proofs.Equality.Equal.{Passes, equal}
use Rattle.cc_tied.proofs.Equality.EqualModes.{level, longer, erasing, purse, level_checked, level_plain, longer_checked, longer_plain, erasing_passes, purse_passes, same_end, both_spent, both_wait, in_hand}
use Rattle.cc_tied.proofs.Equality.EqualRuns.{runs_alike}
use Rattle.cc_tied.proofs.Runs.{ran}

abbrev Done : Type 0
Done = Unit {0}

finish_log : (r : Res Done) → (finish r).events ≡ seen (log r)
unfolding finish log
finish_log (ok u a s) = refl
finish_log (threw u v s) = refl
finish_log (over u e) = refl

same_events : {u v : List Event} → u ≡ v → Prefix u v
same_events {u = u} e = ([], sym e ∙ sym (append-nil u))

not_spent : IsSettled (stopped spent) → ⊥
not_spent h = elim h [ ]

-- events that go on
more_events : (u u' : List Said) {y : Res Done} (x : Res Done) → seen u ≡ seen u' → y ≡ said u' x → Prefix (seen u) (finish y).events
more_events u u' {y = y} x d e = (seen (log x), finish_log y ∙ ap (λ z. seen (log z)) e ∙ ap seen (log_said u' x) ∙ seen_on u' (log x) ∙ ap (λ z. z ++ seen (log x)) (sym d))

-- ---- a lesser depth, and a larger budget

same_finish : {J : Mode} {Ts : Tables} {w : World (equal (level J) Ts)} {r r' : Res Done} → ResT (equal (level J) Ts) (λ v a b. Unit {0}) w r r' → finish r ≡ finish r'
unfolding finish
same_finish (ok_t d v l st h ti le le') = ap (λ z. ran z finished) d
same_finish (threw_t d v l st h ti le le') = ap (λ z. ran z finished) d
same_finish (broken_t x) = absurd x
same_finish (short_t u' x d e h) = absurd h
same_finish (ahead_t u x d e h) = absurd h
same_finish (over_t d (same_end {e = e})) = ap (λ z. ran z (stopped e)) d

depth_is_enough : (J : Mode) → ((P : Program) → Passes (level J) (J.tables P)) → DepthIsEnough J
unfolding run_to run raw
depth_is_enough J Y P sc n d le = same_finish (runs_alike (level J) (J.tables P) (Y P) P sc d n n n 0 le (omega arith) refl refl refl)

pub depth_of_checked : DepthIsEnough checked
depth_of_checked = depth_is_enough checked (λ P. level_checked (tables_of P))

pub depth_of_plain : DepthIsEnough plain
depth_of_plain = depth_is_enough plain (λ P. level_plain (plain_tables P))

as_same : {x y : Run} → x ≡ y → IsExtendedBy x y
as_same {x = x} e = subst (λ z. IsExtendedBy x z) e does_the_same

extended : {J : Mode} {Ts : Tables} {w : World (equal (longer J) Ts)} {r r' : Res Done} → ResT (equal (longer J) Ts) (λ v a b. Unit {0}) w r r' → IsExtendedBy (finish r) (finish r')
unfolding finish
extended (ok_t d v l st h ti le le') = as_same (ap (λ z. ran z finished) d)
extended (threw_t d v l st h ti le le') = as_same (ap (λ z. ran z finished) d)
extended (broken_t x) = absurd x
extended (short_t {u = u} u' x d e h) = goes_on (more_events u u' x d e)
extended (ahead_t u x d e h) = absurd h
extended (over_t d (same_end {e = e})) = as_same (ap (λ z. ran z (stopped e)) d)

budget_extends : (J : Mode) → ((P : Program) → Passes (longer J) (J.tables P)) → BudgetExtends J
unfolding run raw
budget_extends J Y P sc n m le = extended (runs_alike (longer J) (J.tables P) (Y P) P sc n m n m 0 (omega arith) (omega arith) refl refl le)

pub budget_of_checked : BudgetExtends checked
budget_of_checked = budget_extends checked (λ P. longer_checked (tables_of P))

pub budget_of_plain : BudgetExtends plain
budget_of_plain = budget_extends plain (λ P. longer_plain (plain_tables P))

-- ---- erasure

no_paths_in : (gs : List GlobalInfo) → ((g : GlobalInfo) → In g gs → g.flat ≡ []) → map without_paths gs ≡ gs
unfolding without_paths
no_paths_in [] h = refl
no_paths_in (g ∷ gs) h = let e : g.flat ≡ [] = h g here in let k = no_paths_in gs (λ x q. h x (there q)) in
    ap {A = List GlobalInfo} {B = List GlobalInfo} (λ z. (record g { flat = [] }) ∷ z) k ∙ ap {B = List GlobalInfo} (λ z. (record g { flat = z }) ∷ gs) (sym e)

-- a program without flat paths has the same tables in both runs
pub same_tables : (P : Program) → HasNoPaths P → plain_tables P ≡ tables_of P
unfolding plain_tables tables_of
same_tables P h = ap {B = Tables} (λ z. record (tables_of P) { globals = z }) (no_paths_in P.globals h.none)

module _ (Ts : Tables) where
  forth : {w : World (equal erasing Ts)} {r r' : Res Done} → ResT (equal erasing Ts) (λ v a b. Unit {0}) w r r' → IsBroken (finish r).end ⊎ IsFollowedBy (finish r) (finish r')
  unfolding finish
  forth (ok_t d v l st h ti le le') = inr (record { events = same_events d; settled = λ q. ap (λ z. ran z finished) d })
  forth (threw_t d v l st h ti le le') = inr (record { events = same_events d; settled = λ q. ap (λ z. ran z finished) d })
  forth (broken_t x) = inl is_broken
  forth (short_t {u = u} u' x d e h) = inr (record { events = more_events u u' x d e; settled = λ q. absurd (not_spent q) })
  forth (ahead_t u x d e h) = absurd h
  forth (over_t d both_spent) = inr (record { events = same_events d; settled = λ q. absurd (not_spent q) })
  forth (over_t d both_wait) = inr (record { events = same_events d; settled = λ q. ap (λ z. ran z (stopped waits)) d })

  abbrev Back : (r r' : Res Done) → Type 0
  Back r r' = (IsStrayed (finish r').end → ⊥) × IsFollowedBy (finish r') (finish r)

  back : {w : World (equal purse Ts)} {r r' : Res Done} → w.w ≡ suc (marks (log r')) → (IsBroken (finish r).end → ⊥) → ResT (equal purse Ts) (λ v a b. Unit {0}) w r r' → Back r r'
  unfolding finish
  back q n (ok_t d v l st h ti le le') = ((λ x. elim x [ ]), record { events = same_events (sym d); settled = λ q. ap (λ z. ran z finished) (sym d) })
  back q n (threw_t d v l st h ti le le') = ((λ x. elim x [ ]), record { events = same_events (sym d); settled = λ q. ap (λ z. ran z finished) (sym d) })
  back q n (broken_t x) = absurd (n is_broken)
  back q n (short_t u' x d e h) = absurd (omega arith)
  back q n (ahead_t {u' = u'} u x d e h) = ((λ x. elim x [ ]), record { events = more_events u' u x (sym d) e; settled = λ q. absurd (not_spent q) })
  back q n (over_t d both_spent) = ((λ x. elim x [ ]), record { events = same_events (sym d); settled = λ q. absurd (not_spent q) })
  back q n (over_t d both_wait) = ((λ x. elim x [ ]), record { events = same_events (sym d); settled = λ q. ap (λ z. ran z (stopped waits)) (sym d) })

module _ (P : Program) (bare : HasNoPaths P) (sc : Script) where
  erased_forth : (n : ℕ) → IsBroken (run checked P sc n).end ⊎ IsFollowedBy (run checked P sc n) (run plain P sc n)
  unfolding run raw
  erased_forth n = forth (tables_of P) (runs_alike erasing (tables_of P) (erasing_passes (tables_of P)) P sc n n n n 0 (omega arith) (omega arith) refl (same_tables P bare) (omega arith))

  -- the checked run has in hand what the plain run passes
  erased_back : ((m : ℕ) → IsBroken (run checked P sc m).end → ⊥) → (n : ℕ) → Back (tables_of P) (raw checked P sc (n + marks (log (raw plain P sc n)))) (raw plain P sc n)
  unfolding run raw
  erased_back h n =
      let q : ℕ = marks (log (raw plain P sc n)) in
      back (tables_of P) refl (h (n + q)) (runs_alike purse (tables_of P) (purse_passes (tables_of P)) P sc (n + q) n (n + q) n (suc q) (omega arith) (omega arith) refl (same_tables P bare) (in_hand (omega arith)))

pub erasure : Erasure
unfolding run
erasure P bare = record {
  graph = refl;
  keeps_up = λ sc f n. erased_forth P bare sc n;
  goes_no_further = λ sc f h n. ((erased_back P bare sc h n).0, (n + marks (log (raw plain P sc n)), (erased_back P bare sc h n).1));
}

-- ---- joining

module _ (S P E : Program) (s : Same S P) (a : Agrees P E) (sc : Script) (f : IsFollowing S sc) where
  f' : IsFollowing P sc
  f' = subst (λ G. IsTrue (follows G sc)) s.graph f

  joined_up : (n : ℕ) {x y : Run} → IsBroken x.end ⊎ (x ≡ y) → IsBroken y.end ⊎ IsFollowedBy y (run plain E sc n) → IsBroken x.end ⊎ IsFollowedBy x (run plain E sc n)
  joined_up n (inl b) k = inl b
  joined_up n {y = y} (inr e) k = subst (λ z. IsBroken z.end ⊎ IsFollowedBy z (run plain E sc n)) (sym e) k

  unbroken : {x y : Run} → (IsBroken x.end → ⊥) → IsBroken x.end ⊎ (x ≡ y) → x ≡ y
  unbroken h (inl b) = absurd (h b)
  unbroken h (inr e) = e

  joined_back : ((m : ℕ) → IsBroken (run checked S sc m).end → ⊥) → (n : ℕ) → (IsStrayed (run plain E sc n).end → ⊥) × ((m : ℕ) × IsFollowedBy (run plain E sc n) (run checked S sc m))
  joined_back h n =
      let same : (m : ℕ) → run checked S sc m ≡ run checked P sc m = λ m. unbroken (h m) (s.runs sc f m) in
      let k = a.goes_no_further sc f' (λ m b. h m (subst (λ z. IsBroken z.end) (sym (same m)) b)) n in
      (k.0, (k.1.0, subst (λ z. IsFollowedBy (run plain E sc n) z) (sym (same k.1.0)) k.1.1))

pub agreement_follows_same : AgreementFollowsSame
agreement_follows_same S P E s a = record {
  graph = s.graph ∙ a.graph;
  keeps_up = λ sc f n. joined_up S P E s a sc f n (s.runs sc f n) (a.keeps_up sc (f' S P E s a sc f) n);
  goes_no_further = λ sc f h n. joined_back S P E s a sc f h n;
}
