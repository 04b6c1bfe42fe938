-- Runs from equal states, perhaps judged in two ways, with budgets that may differ.
use Rattle.std.proofs.Common.{◌≡◌, ℕ, ◌+◌, ◌≤◌, Bool, true, false, List, [], ◌∷◌, Option, Some, None, refl, sym, ap, subst, arith, ◌∙◌}
use Rattle.std.specs.Prelude.{nat_eq}
use Rattle.cc_meaning.specs.Values.{Val, prim, obj, out, Spot}
use Rattle.cc_meaning.specs.State.{State, Tables}
use Rattle.cc_meaning.specs.Monad.{marks, End, spent, waits, Res, ok, threw, over, paid, M, stop, ◌>>=◌, Mode}
use Rattle.cc_meaning.specs.Judge.{Act, least_broken}
use Rattle.cc_meaning.specs.Acts.{judged, allowed, refused, is_fatal}
use Rattle.cc_tied.specs.Tied.{ListT, nil_t, cons_t, OptT, none_t, some_t, ValT, prim_t, out_t, obj_t}
use Rattle.cc_tied.proofs.Sim.{Tie, World, now, ResT, ok_t, Sim, sim_fault, PayT, both_pay, neither, left_short, right_short, FaultT}
use Rattle.cc_tied.proofs.Blind.{blind_rule}

-- the state's budget and its tables stay, and nothing is said
abbrev pub QuietR : {A : Type 0} → State → Res A → Type 0
QuietR s (ok [] a t) = (t.budget ≡ s.budget) × (t.tables ≡ s.tables)
QuietR s _ = ⊥

-- the same end, with another budget
abbrev pub at_budget : {A : Type 0} → ℕ → Res A → Res A
at_budget b (ok u a s) = ok u a (record s { budget = b })
at_budget b (threw u v s) = threw u v (record s { budget = b })
at_budget b (over u e) = over u e

-- a part that neither changes nor sees the budget
pub record Quiet {A : Type 0} (m : M A) : Type 0 where
  pub stays : (s : State) → QuietR s (m s)
  pub blind : (s : State) (b : ℕ) → m (record s { budget = b }) ≡ at_budget b (m s)

-- how two budgets are tied, and what a payment of 1 makes of it
pub data PayB (B : ℕ → ℕ → Type 0) (Short Ahead : Type 0) : Option ℕ → Option ℕ → Type 0 where
  both_b : {b c : ℕ} → B b c → PayB B Short Ahead (Some b) (Some c)
  neither_b : PayB B Short Ahead None None
  short_b : {o : Option ℕ} → Short → PayB B Short Ahead None o
  ahead_b : {o : Option ℕ} → Ahead → PayB B Short Ahead o None

-- What differs between the uses of equal states: how the runs are judged, and how their budgets are
-- tied. A number says what the left run has in hand for price marks, beyond what the right one has.
pub record Budgets : Type 1 where
  pub J : Mode
  pub J' : Mode
  pub excused : Type 0
  pub short : ℕ → ℕ → Type 0
  pub ahead : Type 0
  pub short_more : (m p q : ℕ) → short m p → p ≤ q → short m q
  pub short_back : (m k p q : ℕ) → m ≤ k + p → short k q → short m (p + q)
  pub EndT : End → End → Type 0
  pub end_spent : EndT spent spent
  pub end_waits : EndT waits waits
  pub faults : (r : ℕ) (i : Spot) → FaultT excused EndT (J.fault r i) (J'.fault r i)
  pub B : ℕ → ℕ → ℕ → Type 0
  pub pays : (m b c : ℕ) → B m b c → PayB (B m) (short m 0) ahead (paid 1 b) (paid 1 c)

pub record Same (B : ℕ → ℕ → Type 0) (T : Tables) (s t : State) : Type 0 where
  pub rest : t ≡ record s { budget = t.budget }
  pub budgets : B s.budget t.budget
  pub tables : s.tables ≡ T

pub pay_same : {B : ℕ → ℕ → Type 0} {T : Tables} {S A : Type 0} {s t : State} → Same B T s t → {o o' : Option ℕ} → PayB B S A o o' → PayT (Same B T) S A s t o o'
pay_same h (both_b {c = c} k) = both_pay (record { rest = ap {A = State} {B = State} (λ z. record z { budget = c }) h.rest; budgets = k; tables = h.tables })
pay_same h neither_b = neither
pay_same h (short_b x) = left_short x
pay_same h (ahead_b x) = right_short x

-- what is in hand falls by no more than the marks that are passed
pub steps_two : (m k j p q : ℕ) → m ≤ k + p → k ≤ j + q → m ≤ j + (p + q)
steps_two m k j p q h l = omega arith

pub steps_zero : (m : ℕ) → m ≤ m + 0
steps_zero m = omega arith

-- ---- what is equal is tied

abbrev pub Eq : ℕ → ℕ → Type 0
Eq m n = m ≡ n

pub refl_val : (v : Val) → ValT Eq v v
refl_val (prim p) = prim_t
refl_val (obj n) = obj_t refl
refl_val (out n) = out_t

pub refl_opt : {A : Type 0} {R : A → A → Type 0} → ((a : A) → R a a) → (o : Option A) → OptT R o o
refl_opt h None = none_t
refl_opt h (Some a) = some_t (h a)

pub refl_list : {A : Type 0} {R : A → A → Type 0} → ((a : A) → R a a) → (xs : List A) → ListT R xs xs
refl_list h [] = nil_t
refl_list h (x ∷ xs) = cons_t (h x) (refl_list h xs)

pub same_val : {a b : Val} → ValT Eq a b → a ≡ b
same_val prim_t = refl
same_val out_t = refl
same_val (obj_t e) = ap obj e

pub same_opt : {a b : Option Val} → OptT (ValT Eq) a b → a ≡ b
same_opt none_t = refl
same_opt (some_t h) = ap Some (same_val h)

pub same_list : {a b : List Val} → ListT (ValT Eq) a b → a ≡ b
same_list nil_t = refl
same_list (cons_t h t) = let e = same_val h in let k = same_list t in cc

pub val_as : {a b : Val} → a ≡ b → ValT Eq a b
val_as {a = a} e = subst (λ z. ValT Eq a z) e (refl_val a)

pub opt_as : {a b : Option Val} → a ≡ b → OptT (ValT Eq) a b
opt_as {a = a} e = subst (λ z. OptT (ValT Eq) a z) e (refl_opt refl_val a)

pub numbers_as : {a b : List ℕ} → b ≡ a → ListT Eq a b
numbers_as {a = a} e = subst (λ z. ListT Eq a z) (sym e) (refl_list (λ n. refl) a)

pub once : (m n p q : ℕ) → m ≡ n → p ≡ q → nat_eq m p ≡ nat_eq n q
once m n p q e d = rw (e, d) refl

abbrev pub equal : Budgets → Tables → Tie
equal G Ts = record {
  J = G.J;
  J' = G.J';
  tables = Ts;
  tables' = Ts;
  W = ℕ;
  Ext = λ v w. Unit {0};
  same = λ w. tt;
  ext = λ l k. tt;
  Excused = G.excused;
  Short = G.short;
  Ahead = G.ahead;
  Steps = λ m p k. m ≤ k + p;
  short_more = λ h l. G.short_more _ _ _ h l;
  short_back = λ h l. G.short_back _ _ _ _ h l;
  steps_none = steps_zero _;
  steps_on = λ h l. steps_two _ _ _ _ _ h l;
  EndT = G.EndT;
  end_spent = G.end_spent;
  end_waits = G.end_waits;
  Ctx = Unit {0};
  outer = λ c. tt;
  inside = λ f f'. tt;
  in_catch = λ c. tt;
  SpotT = λ i j. i ≡ j;
  spot_turn = λ n. refl;
  faults = λ {i} e r. subst (λ z. FaultT G.excused G.EndT (G.J.fault r i) (G.J'.fault r z)) e (G.faults r i);
  FunT = Eq;
  StandT = λ c f f'. f ≡ f';
  ReadT = λ c r r'. r ≡ r';
  WriteT = λ c r r'. r ≡ r';
  SetT = λ c r p. ⊥;
  BindT = λ c r f. ⊥;
  bind_inside = λ h. h;
  ThisT = λ c. Unit {0};
  DocT = Eq;
  DeclaresT = λ d d'. d ≡ d';
  FlatT = λ p p'. p ≡ p';
  QuotedT = λ t. Unit {0};
  WrittenT = λ t. ⊥;
  read_built = λ e. ap (λ z. Rattle.cc_tied.specs.Tied.built_of Ts z) e;
  declares_none = refl;
  O = λ w m n. m ≡ n;
  NewT = λ w a b. a ≡ b;
  RunsT = λ w m n a b. a ≡ b;
  KeyT = λ w x a b. a ≡ b;
  UpT = λ w f f' a b. a ≡ b;
  EnvT = λ c w g h. g ≡ h;
  LoadedT = λ w c. Unit {0};
  O_later = λ l h. h;
  new_later = λ l h. h;
  key_later = λ l h. h;
  up_later = λ l h. h;
  env_later = λ l h. h;
  loaded_later = λ l h. h;
  new_value = λ h. val_as h;
  runs_code = λ h. record { function = ap (λ c. c.function) h; up = ap (λ c. c.up) h; site = ap (λ c. Rattle.cc_meaning.specs.Values.at_site c.site) h };
  key_runtime = λ x v e. refl;
  key_quoted = λ x h. refl;
  key_written = λ x h. absurd h;
  env_top = λ l e. ap (λ z. record Rattle.cc_meaning.specs.Script.top { declares = z }) e;
  env_this = λ h e. opt_as (ap (λ z. z.this) e);
  env_declares = λ e. ap (λ z. z.declares) e;
  Tied = λ w. Same (G.B w) Ts;
  tied_tables = λ h. (h.tables, ap (λ z. z.tables) h.rest ∙ h.tables);
  tied_pay = λ {w} h. pay_same h (G.pays w _ _ h.budgets);
  tied_once = λ h e d. once _ _ _ _ e d;
  tied_handles = λ h. numbers_as (ap (λ z. z.handles) h.rest);
  tied_replies = λ h. sym (ap (λ z. z.replies) h.rest);
  tied_replied = λ rs h. record { rest = ap {A = State} {B = State} (λ z. record z { replies = rs }) h.rest; budgets = h.budgets; tables = h.tables };
}

-- what a price mark does, and what a breach does before what comes after
pub record Passes (X : Budgets) (Ts : Tables) : Type 1 where
  pub mark_t : {w : World (equal X Ts)} (p : ℕ) → Sim (equal X Ts) (λ v a b. Unit {0}) w (X.J.mark p) (X.J'.mark p)
  pub breach_t : {A B : Type 0} {R : World (equal X Ts) → A → B → Type 0} {w : World (equal X Ts)} (r : ℕ) (i : Spot) (m : M A) (m' : M B) → Sim (equal X Ts) R w m m' → Sim (equal X Ts) R w (X.J.breach r i >>= λ _. m) (X.J'.breach r i >>= λ _. m')

module _ (X : Budgets) (Ts : Tables) where
  abbrev T : Tie
  T = equal X Ts

  refl_t : {A : Type 0} {R : World T → A → A → Type 0} {w : World T} → ((a : A) → R w a a) → (s : State) (k : ℕ) → s.budget ≤ w.l → k ≤ w.r → X.B w.w s.budget k → s.tables ≡ Ts → (r : Res A) → QuietR s r → ResT T R w r (at_budget k r)
  unfolding marks
  refl_t {w = w} h s k le le' b ts (ok [] a t) q = let e = q.0 in ok_t refl w (now T w) (steps_zero _) (h a) (record { rest = refl; budgets = subst (λ z. X.B w.w z k) (sym q.0) b; tables = q.1 ∙ ts }) (omega arith) le'
  refl_t h s k le le' b ts (ok (x ∷ u) a t) q = absurd q
  refl_t h s k le le' b ts (threw u v t) q = absurd q
  refl_t h s k le le' b ts (over u e) q = absurd q

  -- one quiet part is like itself
  pub quiet : {A : Type 0} {R : World T → A → A → Type 0} {w : World T} → ((a : A) → R w a a) → (m : M A) → Quiet m → Sim T R w m m
  quiet {R = R} {w = w} h m q s t ti le le' = subst (λ z. ResT T R w (m s) z) (sym (ap m ti.rest ∙ q.blind s t.budget)) (refl_t h s t.budget le le' ti.budgets ti.tables (m s) (q.stays s))

  -- what doesn't depend on the budget is read off both states alike
  pub read_t : {A B C : Type 0} {R : World T → A → B → Type 0} {w : World T} (f : State → C) (m : C → M A) (m' : C → M B) → ((s : State) (b : ℕ) → f (record s { budget = b }) ≡ f s) → ((c : C) → Sim T R w (m c) (m' c)) → Sim T R w (λ s. m (f s) s) (λ s. m' (f s) s)
  read_t {R = R} {w = w} f m m' e h s t ti le le' = subst (λ z. ResT T R w (m (f s) s) (m' z t)) (sym (ap f ti.rest ∙ e s t.budget)) (h (f s) s t ti le le')

  pub fault_t : {A B : Type 0} {R : World T → A → B → Type 0} {w : World T} (r : ℕ) (i : Spot) → Sim T R w (stop (X.J.fault r i)) (stop (X.J'.fault r i))
  fault_t r i = sim_fault T refl r

  -- ---- acts; what a breach does

  module _ (Y : Passes X Ts) where
    refused_t : {A B : Type 0} {R : World T → A → B → Type 0} {w : World T} (i : Spot) (b : Bool) (r : ℕ) (m : M A) (m' : M B) → Sim T R w m m' → Sim T R w (refused X.J i b r m) (refused X.J' i b r m')
    unfolding refused
    refused_t i true r m m' h = fault_t r i
    refused_t i false r m m' h = Y.breach_t r i m m' h

    allowed_t : {A B : Type 0} {R : World T → A → B → Type 0} {w : World T} (i : Spot) (a a' : Act) (m : M A) (m' : M B) → ((r : ℕ) → is_fatal a r ≡ is_fatal a' r) → Sim T R w m m' → (o : Option ℕ) → Sim T R w (allowed X.J i a o m) (allowed X.J' i a' o m')
    unfolding allowed
    allowed_t i a a' m m' e h None s t ti le le' = h s t ti le le'
    allowed_t {R = R} {w = w} i a a' m m' e h (Some r) s t ti le le' = subst (λ z. ResT T R w (refused X.J i (is_fatal a r) r m s) (refused X.J' i z r m' t)) (e r) (refused_t i (is_fatal a r) r m m' h s t ti le le')

    -- two acts of which the same is judged
    pub judged_two : {A B : Type 0} {R : World T → A → B → Type 0} {w : World T} (i : Spot) (a a' : Act) (m : M A) (m' : M B) → ((s : State) → least_broken s.tables s a ≡ least_broken s.tables s a') → ((r : ℕ) → is_fatal a r ≡ is_fatal a' r) → Sim T R w m m' → Sim T R w (judged X.J i a m) (judged X.J' i a' m')
    unfolding judged
    judged_two {R = R} {w = w} i a a' m m' d e h s t ti le le' = subst (λ z. ResT T R w (allowed X.J i a (least_broken s.tables s a) m s) (allowed X.J' i a' z m' t)) (d t) (read_t (λ s. least_broken s.tables s a) (λ o. allowed X.J i a o m) (λ o. allowed X.J' i a' o m') (λ s b. blind_rule s.tables s b a) (λ o. allowed_t i a a' m m' e h o) s t ti le le')

    pub judged_t : {A B : Type 0} {R : World T → A → B → Type 0} {w : World T} (i : Spot) (a : Act) {m : M A} {m' : M B} → Sim T R w m m' → Sim T R w (judged X.J i a m) (judged X.J' i a m')
    judged_t i a h = judged_two i a a _ _ (λ s. refl) (λ r. refl) h
