-- A shop that stands before a round, and what comes of its close.
use Rattle.std.specs.Prelude.{◌≡◌, ℕ, zero, suc, ◌+◌, ◌-◌, ◌<◌, ◌≤◌, ◌^◌, nat_lt, Bool, true, false, not, ◌&&◌, cond, List, [], ◌∷◌, Some, None, is_some}
use Rattle.std.proofs.Common.{refl, sym, ap, ◌∙◌, subst, arith, ltb-false}
use Rattle.cc_ast.specs.Syntax.{Scope, Program}
use Rattle.cc_core.specs.Work.{with_scopes, or_stay, phase}
use Rattle.cc_core.specs.State.{State, NoneOut, fresh, all_fresh, laid, in_place, started, reading}
use Rattle.cc_core.specs.Events.{after_close}
use Rattle.cc_passes.specs.Codes.{are_same}
use Rattle.cc_passes.specs.Phases.{folded, rounds, optimised, next_round, folding}
use Rattle.cc_passes.specs.Lawful.{phase_folds, one_more, settled}
use Rattle.cc_passes.proofs.CodeLaws.{scopes_once}

pub record Stands (P : Program) (k : ℕ) (s : State) : Type 0 where
  pub closed : s.closed ≡ k
  pub step : s.step ≡ k
  pub base : s.base ≡ rounds k P
  pub slots : s.slots ≡ all_fresh s.base.scopes

pub stands_first : (P : Program) → Stands P 0 (started P)
stands_first P = record { closed = refl; step = refl; base = refl; slots = refl }

fresh_out : (xs : List Scope) → NoneOut (all_fresh xs)
fresh_out [] = tt
fresh_out (x ∷ xs) = (refl, fresh_out xs)

pub none_out : {P : Program} {k : ℕ} {s : State} → Stands P k s → NoneOut s.slots
none_out {s = s} h = subst (λ z. NoneOut z) (sym h.slots) (fresh_out s.base.scopes)

pub few_closed : {P : Program} {k : ℕ} {s : State} → Stands P k s → k < 12 → s.closed + 1 < 2 ^ 32
few_closed h lt = let e = h.closed in omega (arith, e, lt)

all_laid : (xs : List Scope) → laid (λ _. true) xs ≡ all_fresh xs
all_laid [] = refl
all_laid (x ∷ xs) = ap (λ z. fresh ∷ z) (all_laid xs)

untouched : (xs : List Scope) → in_place xs (all_fresh xs) ≡ xs
untouched [] = refl
untouched (x ∷ xs) = ap (λ z. x ∷ z) (untouched xs)

shown : (t : State) → t.slots ≡ all_fresh t.base.scopes → reading folding t ≡ t.base
shown t e = ap (λ z. with_scopes t.base z) (ap (λ z. in_place t.base.scopes z) e ∙ untouched t.base.scopes)

next_base : {P : Program} {k : ℕ} {s : State} → Stands P k s → phase folding s.step s.base ≡ rounds (suc k) P
next_base {P = P} {k = k} {s = s} h = phase_folds s.base s.step ∙ ap folded h.base ∙ sym (one_more k P)

follows_step : (k : ℕ) (same : Bool) → is_some (next_round k same) ≡ true → or_stay k (next_round k same) ≡ k + 1
follows_step k same e = by (nat_lt (k + 1) 12 && not same) e
  where
    by : (b : Bool) → is_some (cond b (Some (k + 1)) None) ≡ true → or_stay k (cond b (Some (k + 1)) None) ≡ k + 1
    by true h = refl
    by false h = absurd (cc)

-- another round follows
pub stands_next : (P : Program) (k : ℕ) (s t : State) → Stands P k s → true ≡ is_some (folding.next s.step s.base (phase folding s.step s.base)) → t ≡ after_close folding s → Stands P (suc k) t
stands_next P k s t h follows e =
    subst (λ z. Stands P (suc k) z) (sym e)
    (record {
      closed = (let c = h.closed in omega (arith, c));
      step = (let st = follows_step s.step (are_same s.base.scopes (phase folding s.step s.base).scopes) (sym follows) in let q = h.step in omega (arith, st, q));
      base = next_base h;
      slots = all_laid (phase folding s.step s.base).scopes;
    })

-- ---- the last round

rounds_after : (k m : ℕ) (P : Program) → rounds m (rounds k P) ≡ rounds (k + m) P
rounds_after zero m P = let e : m ≡ 0 + m = omega arith in ap (λ z. rounds z P) e
rounds_after (suc k) m P = let e : suc (k + m) ≡ suc k + m = omega arith in rounds_after k m (folded P) ∙ ap (λ z. rounds z P) e

data Ended (k : ℕ) (same : Bool) : Type 0 where
  used_up : 12 ≤ k + 1 → Ended k same
  unchanged : same ≡ true → Ended k same

ended : (k : ℕ) (same : Bool) → false ≡ is_some (next_round k same) → Ended k same
ended k same e = by (nat_lt (k + 1) 12) same refl e
  where
    by : (b c : Bool) → nat_lt (k + 1) 12 ≡ b → false ≡ is_some (cond (b && not c) (Some (k + 1)) None) → Ended k c
    by true true q h = unchanged refl
    by true false q h = absurd (cc)
    by false c q h = used_up (ltb-false (k + 1) 12 q)

settled_is : (P : Program) (k : ℕ) (s : State) → Stands P k s → k < 12 → s.base.scopes ≡ (phase folding s.step s.base).scopes → phase folding s.step s.base ≡ optimised P
settled_is P k s h lt same =
    let fixed : folded s.base ≡ s.base = ap (λ z. with_scopes s.base z) (sym (same ∙ ap (λ z. z.scopes) (phase_folds s.base s.step))) in
    let m : k + (12 - k) ≡ 12 = omega (arith, lt) in
    phase_folds s.base s.step ∙ fixed
    ∙ sym (settled (12 - k) s.base fixed)
    ∙ ap (rounds (12 - k)) h.base
    ∙ rounds_after k (12 - k) P
    ∙ ap (λ z. rounds z P) m

last_base : (P : Program) (k : ℕ) (s : State) → Stands P k s → k < 12 → false ≡ is_some (folding.next s.step s.base (phase folding s.step s.base)) → phase folding s.step s.base ≡ optimised P
last_base P k s h lt e = by (ended s.step (are_same s.base.scopes (phase folding s.step s.base).scopes) e)
  where
    by : Ended s.step (are_same s.base.scopes (phase folding s.step s.base).scopes) → phase folding s.step s.base ≡ optimised P
    by (used_up q) = let a = h.step in let e : suc k ≡ 12 = omega (arith, a, q, lt) in next_base h ∙ ap (λ z. rounds z P) e
    by (unchanged q) = settled_is P k s h lt (scopes_once s.base.scopes (phase folding s.step s.base).scopes q)

-- no other round follows
pub optimised_last : (P : Program) (k : ℕ) (s t : State) → Stands P k s → k < 12 → false ≡ is_some (folding.next s.step s.base (phase folding s.step s.base)) → t ≡ after_close folding s → reading folding t ≡ optimised P
optimised_last P k s t h lt e q =
    ap (reading folding) q ∙ shown (after_close folding s) (all_laid (phase folding s.step s.base).scopes) ∙ last_base P k s h lt e

-- all rounds are done
pub optimised_all : (P : Program) (s : State) → Stands P 12 s → reading folding s ≡ optimised P
optimised_all P s h = shown s h.slots ∙ h.base
