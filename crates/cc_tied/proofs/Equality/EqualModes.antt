-- Ways to tie the budgets of equal states: equal ones, more on the right, and those of erasure.
use Rattle.std.proofs.Common.{◌≡◌, ℕ, zero, suc, ◌+◌, ◌≤◌, [], ◌∷◌, Option, Some, None, refl, ap, subst, sym, arith, ◌-◌, ◌⊎◌, inl, inr}
use Rattle.cc_meaning.specs.Values.{Spot}
use Rattle.cc_meaning.specs.State.{State, Tables}
use Rattle.cc_meaning.specs.Monad.{passed, seen, marks, End, spent, waits, broken, Mode, ok, paid, pay, pay_from, say, stop, ret, skip, said, after, M, ◌>>=◌}
use Rattle.cc_meaning.specs.Script.{checked, plain}
use Rattle.cc_tied.proofs.Sim.{Sim, ResT, ok_t, broken_t, short_t, over_t, World, now, said_none, log, excuse, both_fault}
use Rattle.cc_tied.proofs.Equality.Equal.{Budgets, Passes, PayB, both_b, neither_b, short_b, ahead_b, Same, equal, steps_zero}

-- the same end
pub data SameEnd : End → End → Type 0 where
  same_end : {e : End} → SameEnd e e

pub same_pay : {B : ℕ → ℕ → Type 0} {S A : Type 0} (o : Option ℕ) → ((b : ℕ) → B b b) → PayB B S A o o
same_pay None h = neither_b
same_pay (Some b) h = both_b (h b)

-- equal budgets, and both runs judged by J
abbrev pub level : Mode → Budgets
level J = record {
  J = J;
  J' = J;
  excused = ⊥;
  short = λ m p. ⊥;
  ahead = ⊥;
  short_more = λ m p q h l. h;
  short_back = λ m k p q l h. h;
  EndT = SameEnd;
  end_spent = same_end;
  end_waits = same_end;
  faults = λ r i. both_fault same_end;
  B = λ m b c. b ≡ c;
  pays = λ m b c e. subst (λ z. PayB (λ b c. b ≡ c) ⊥ ⊥ (paid 1 b) (paid 1 z)) e (same_pay (paid 1 b) (λ b. refl));
}

pub pay_small : (p b c : ℕ) → b ≤ c → PayB (λ b c. b ≤ c) (Unit {0}) ⊥ (paid p b) (paid p c)
unfolding paid
pay_small zero b c le = both_b le
pay_small (suc p) zero c le = short_b tt
pay_small (suc p) (suc b) zero le = absurd (omega arith)
pay_small (suc p) (suc b) (suc c) le = pay_small p b c (omega arith)

-- both runs judged by J, and as much or more to spend on the right
abbrev pub longer : Mode → Budgets
longer J = record {
  J = J;
  J' = J;
  excused = ⊥;
  short = λ m p. Unit {0};
  ahead = ⊥;
  short_more = λ m p q h l. tt;
  short_back = λ m k p q l h. tt;
  EndT = SameEnd;
  end_spent = same_end;
  end_waits = same_end;
  faults = λ r i. both_fault same_end;
  B = λ m b c. b ≤ c;
  pays = λ m b c h. pay_small 1 b c h;
}

-- the ends of a checked run and of a plain one
pub data Settles : End → End → Type 0 where
  both_spent : Settles spent spent
  both_wait : Settles waits waits

-- the checked run, and the plain run with as much or more to spend
abbrev pub erasing : Budgets
erasing = record {
  J = checked;
  J' = plain;
  excused = Unit {0};
  short = λ m p. Unit {0};
  ahead = ⊥;
  short_more = λ m p q h l. tt;
  short_back = λ m k p q l h. tt;
  EndT = Settles;
  end_spent = both_spent;
  end_waits = both_wait;
  faults = λ r i. excuse tt;
  B = λ m b c. b ≤ c;
  pays = λ m b c h. pay_small 1 b c h;
}

-- one more than what the left run has in hand for marks; 0 once more marks were passed than that
pub data Purse (w b c : ℕ) : Type 0 where
  in_debt : w ≡ 0 → Purse w b c
  in_hand : suc b ≡ c + w → Purse w b c

pub pay_purse : (w b c : ℕ) → Purse w b c → PayB (Purse w) (w ≤ 0) (Unit {0}) (paid 1 b) (paid 1 c)
unfolding paid
pay_purse w b zero e = ahead_b tt
pay_purse w zero (suc c) (in_debt e) = short_b (omega arith)
pay_purse w zero (suc c) (in_hand e) = short_b (omega arith)
pay_purse w (suc b) (suc c) (in_debt e) = both_b (in_debt e)
pay_purse w (suc b) (suc c) (in_hand e) = both_b (in_hand (omega arith))

-- the plain run, and the checked run with a purse for the marks: it is short only where more marks were passed
abbrev pub purse : Budgets
purse = record {
  J = checked;
  J' = plain;
  excused = Unit {0};
  short = λ w p. w ≤ p;
  ahead = Unit {0};
  short_more = λ m p q h l. omega arith;
  short_back = λ m k p q l h. omega arith;
  EndT = Settles;
  end_spent = both_spent;
  end_waits = both_wait;
  faults = λ r i. excuse tt;
  B = Purse;
  pays = λ m b c h. pay_purse m b c h;
}

-- ---- marks and breaches

pub paid_sum : (p b c : ℕ) → paid p b ≡ Some c → c + p ≡ b
unfolding paid
paid_sum zero b c e = let d : b ≡ c = cc in omega arith
paid_sum (suc p) zero c e = absurd (cc)
paid_sum (suc p) (suc b) c e = let h = paid_sum p b c e in omega arith

pub paid_none : (p b : ℕ) → paid p b ≡ None → suc b ≤ p
unfolding paid
paid_none zero b e = absurd (cc)
paid_none (suc p) zero e = omega arith
paid_none (suc p) (suc b) e = let h = paid_none p b e in omega arith

abbrev Done : {W : Type 0} → W → Unit {0} → Unit {0} → Type 0
Done v a b = Unit {0}

module _ (Ts : Tables) where
  -- ---- one mode on both sides

  abbrev L : Mode → Budgets
  L J = level J

  level_pay : {w : World (equal (level checked) Ts)} (p : ℕ) {s t : State} (o o' : Option ℕ) → o ≡ o' → ((c : ℕ) → o ≡ Some c → c + p ≡ s.budget) → Same (λ b c. b ≡ c) Ts s t → s.budget ≤ w.l → t.budget ≤ w.r → ResT (equal (level checked) Ts) {A = Unit {0}} {B = Unit {0}} Done w (pay_from o s) (pay_from o' t)
  unfolding pay_from marks
  level_pay p None None e h ti le le' = over_t refl same_end
  level_pay p None (Some c) e h ti le le' = absurd (cc)
  level_pay p (Some b) None e h ti le le' = absurd (cc)
  level_pay {w = w} p {s = s} {t = t} (Some b) (Some c) e h ti le le' =
      let d : b ≡ c = cc in let k = h b refl in let eq : s.budget ≡ t.budget = ti.budgets in
      ok_t refl w (now (equal (level checked) Ts) w) (steps_zero _) tt (record { rest = ap {A = State} {B = State} (λ z. record z { budget = c }) ti.rest; budgets = d; tables = ti.tables }) (omega arith) (omega arith)

  level_mark : {w : World (equal (level checked) Ts)} (p : ℕ) → Sim (equal (level checked) Ts) {A = Unit {0}} {B = Unit {0}} Done w (pay p) (pay p)
  unfolding pay
  level_mark p s t ti le le' = level_pay p (paid p s.budget) (paid p t.budget) (ap (paid p) ti.budgets) (λ c. paid_sum p s.budget c) ti le le'

  longer_pay : {w : World (equal (longer checked) Ts)} (p : ℕ) {s t : State} (o o' : Option ℕ) → PayB (λ b c. b ≤ c) (Unit {0}) ⊥ o o' → ((c : ℕ) → o ≡ Some c → c + p ≡ s.budget) → ((c : ℕ) → o' ≡ Some c → c + p ≡ t.budget) → Same (λ b c. b ≤ c) Ts s t → s.budget ≤ w.l → t.budget ≤ w.r → ResT (equal (longer checked) Ts) {A = Unit {0}} {B = Unit {0}} Done w (pay_from o s) (pay_from o' t)
  unfolding pay_from marks
  longer_pay {w = w} p {s = s} {t = t} (Some b) (Some c) (both_b le0) h h' ti le le' =
      let k = h b refl in let k' = h' c refl in
      ok_t refl w (now (equal (longer checked) Ts) w) (steps_zero _) tt (record { rest = ap {A = State} {B = State} (λ z. record z { budget = c }) ti.rest; budgets = le0; tables = ti.tables }) (omega arith) (omega arith)
  longer_pay p None None neither_b h h' ti le le' = over_t refl same_end
  longer_pay p None o' (short_b x) h h' ti le le' = short_t [] _ refl (sym (said_none _)) tt
  longer_pay p o None (ahead_b x) h h' ti le le' = absurd x

  longer_mark : {w : World (equal (longer checked) Ts)} (p : ℕ) → Sim (equal (longer checked) Ts) {A = Unit {0}} {B = Unit {0}} Done w (pay p) (pay p)
  unfolding pay
  longer_mark p s t ti le le' = longer_pay p (paid p s.budget) (paid p t.budget) (pay_small p s.budget t.budget ti.budgets) (λ c. paid_sum p s.budget c) (λ c. paid_sum p t.budget c) ti le le'

  module _ (X : Budgets) where
    -- both stop at a breach
    stop_both : {A B : Type 0} {R : World (equal X Ts) → A → B → Type 0} {w : World (equal X Ts)} (r : ℕ) (i : Spot) (m : M A) (m' : M B) → X.EndT (broken r i) (broken r i) → Sim (equal X Ts) R w (stop {A = Unit {0}} (broken r i) >>= λ _. m) (stop {A = Unit {0}} (broken r i) >>= λ _. m')
    unfolding stop ◌>>=◌ after
    stop_both r i m m' e s t ti le le' = over_t refl e

    -- neither does
    skip_both : {A B : Type 0} {R : World (equal X Ts) → A → B → Type 0} {w : World (equal X Ts)} (m : M A) (m' : M B) → Sim (equal X Ts) R w m m' → Sim (equal X Ts) R w (skip >>= λ _. m) (skip >>= λ _. m')
    unfolding ret ◌>>=◌ after
    skip_both {R = R} {w = w} m m' h s t ti le le' = subst (λ z. ResT (equal X Ts) R w z (said [] (m' t))) (sym (said_none (m s))) (subst (λ z. ResT (equal X Ts) R w (m s) z) (sym (said_none (m' t))) (h s t ti le le'))

    -- the left one stops, and excuses the right one
    stop_left : {A B : Type 0} {R : World (equal X Ts) → A → B → Type 0} {w : World (equal X Ts)} (r : ℕ) (i : Spot) (m : M A) (m' : M B) → X.excused → Sim (equal X Ts) R w (stop {A = Unit {0}} (broken r i) >>= λ _. m) (skip >>= λ _. m')
    unfolding stop ◌>>=◌ after
    stop_left r i m m' e s t ti le le' = broken_t e

    pass_both : {w : World (equal X Ts)} (p : ℕ) → Sim (equal X Ts) {A = Unit {0}} {B = Unit {0}} Done w (say (passed p)) (say (passed p))
    unfolding say marks seen
    pass_both {w = w} p s t ti le le' = ok_t refl w (now (equal X Ts) w) (omega arith) tt ti le le'

  pub level_checked : Passes (level checked) Ts
  level_checked = record { mark_t = λ p. level_mark p; breach_t = λ r i m m' h. stop_both (level checked) r i m m' same_end }

  pub level_plain : Passes (level plain) Ts
  level_plain = record { mark_t = λ p. pass_both (level plain) p; breach_t = λ r i m m' h. skip_both (level plain) m m' h }

  pub longer_checked : Passes (longer checked) Ts
  longer_checked = record { mark_t = λ p. longer_mark p; breach_t = λ r i m m' h. stop_both (longer checked) r i m m' same_end }

  pub longer_plain : Passes (longer plain) Ts
  longer_plain = record { mark_t = λ p. pass_both (longer plain) p; breach_t = λ r i m m' h. skip_both (longer plain) m m' h }

  -- ---- erasure

  pay_or_pass : {w : World (equal erasing Ts)} (p : ℕ) {s t : State} (o : Option ℕ) → ((c : ℕ) → o ≡ Some c → c + p ≡ s.budget) → Same (λ b c. b ≤ c) Ts s t → s.budget ≤ w.l → t.budget ≤ w.r → ResT (equal erasing Ts) {A = Unit {0}} {B = Unit {0}} Done w (pay_from o s) (ok (passed p ∷ []) (tt {0}) t)
  unfolding pay_from marks seen said
  pay_or_pass p {t = t} None h ti le le' = short_t (passed p ∷ []) (ok [] tt t) refl refl tt
  pay_or_pass {w = w} p (Some b) h ti le le' =
      let k = h b refl in let e = ti.budgets in
      ok_t refl w (now (equal erasing Ts) w) (omega arith) tt (record { rest = ti.rest; budgets = omega arith; tables = ti.tables }) (omega arith) le'

  erasing_mark : {w : World (equal erasing Ts)} (p : ℕ) → Sim (equal erasing Ts) {A = Unit {0}} {B = Unit {0}} Done w (pay p) (say (passed p))
  unfolding pay say
  erasing_mark p s t ti le le' = pay_or_pass p (paid p s.budget) (λ c. paid_sum p s.budget c) ti le le'

  pub erasing_passes : Passes erasing Ts
  erasing_passes = record { mark_t = λ p. erasing_mark p; breach_t = λ r i m m' h. stop_left erasing r i m m' tt }

  in_order : (m n : ℕ) → (m ≤ n) ⊎ (n ≤ m)
  in_order m n = grind arith

  -- a purse after a mark
  after_mark : (w p b c d : ℕ) → Purse w b c → d + p ≡ b → (v : ℕ) × Purse v d c × (w ≤ v + p)
  after_mark w p b c d (in_debt e) k = (0, in_debt refl, omega arith)
  after_mark w p b c d (in_hand e) k = by_cases (in_order p w)
    where
      by_cases : (p ≤ w) ⊎ (w ≤ p) → (v : ℕ) × Purse v d c × (w ≤ v + p)
      by_cases (inl h) = (w - p, in_hand (omega arith), omega arith)
      by_cases (inr h) = (0, in_debt refl, omega arith)

  short_purse : (w p b c : ℕ) → Purse w b c → suc b ≤ p → w ≤ p
  short_purse w p b c (in_debt e) h = omega arith
  short_purse w p b c (in_hand e) h = omega arith

  purse_or_pass : {w : World (equal purse Ts)} (p : ℕ) {s t : State} (o : Option ℕ) → paid p s.budget ≡ o → Same (Purse w.w) Ts s t → s.budget ≤ w.l → t.budget ≤ w.r → ResT (equal purse Ts) {A = Unit {0}} {B = Unit {0}} Done w (pay_from o s) (ok (passed p ∷ []) (tt {0}) t)
  unfolding pay_from marks seen said log
  purse_or_pass {w = w} p {s = s} {t = t} None e ti le le' = short_t (passed p ∷ []) (ok [] tt t) refl refl (let h = short_purse w.w p s.budget t.budget ti.budgets (paid_none p s.budget e) in omega arith)
  purse_or_pass {w = w} p {s = s} {t = t} (Some b) e ti le le' =
      let k = paid_sum p s.budget b e in let a = after_mark w.w p s.budget t.budget b ti.budgets k in
      ok_t refl (record { l = w.l; r = w.r; w = a.0 }) (omega arith, omega arith, tt) (let h = a.2 in omega arith) tt (record { rest = ti.rest; budgets = a.1; tables = ti.tables }) (omega arith) le'

  purse_mark : {w : World (equal purse Ts)} (p : ℕ) → Sim (equal purse Ts) {A = Unit {0}} {B = Unit {0}} Done w (pay p) (say (passed p))
  unfolding pay say
  purse_mark p s t ti le le' = purse_or_pass p (paid p s.budget) refl ti le le'

  pub purse_passes : Passes purse Ts
  purse_passes = record { mark_t = λ p. purse_mark p; breach_t = λ r i m m' h. stop_left purse r i m m' tt }
