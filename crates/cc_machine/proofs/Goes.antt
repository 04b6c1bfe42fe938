-- Where the machine goes, and parts that are done one after another.
use Rattle.std.proofs.Common.{◌≡◌, ℕ, zero, suc, Bool, true, false, List, ◌∷◌, refl, ap, ◌∙◌, sym, subst}
use Rattle.cc_ast.specs.Syntax.{Program}
use Rattle.cc_meaning.specs.Values.{Val, Event, Spot}
use Rattle.cc_meaning.specs.State.{Env, State}
use Rattle.cc_meaning.specs.Monad.{Said, Res, ok, threw, over, M, ret, raise, skip, said, after, ◌>>=◌, Way, went, thrown, attempted, attempt, pick, Mode}
use Rattle.cc_meaning.specs.Script.{stopped}
use Rattle.cc_machine.specs.Machine.{Focus, Frame, Machine, Next, on, halt, tossed}
use Rattle.cc_machine.specs.Moves.{land, logged}
use Rattle.cc_machine.specs.Steps.{iterate, onward}
use Rattle.cc_machine.proofs.Laws.{logged_twice, judged_first}
use Rattle.cc_meaning.specs.Judge.{Act}
use Rattle.cc_meaning.specs.Acts.{judged}

-- the machine at a place
abbrev pub mach : Focus → Env → ℕ → List Frame → State → List Event → Machine
mach f g d K s l = record { focus = f; env = g; depth = d; stack = K; state = s; log = l }

abbrev pub at : Focus → Env → ℕ → List Frame → State → List Event → Next
at f g d K s l = on (mach f g d K s l)

-- what was said goes to the log
land_said : {A : Type 0} (give : A → Focus) (g : Env) (d : ℕ) (K : List Frame) (l : List Event) (u : List Said) (r : Res A) → land give g d K (logged l u) r ≡ land give g d K l (said u r)
unfolding land said
land_said give g d K l u (ok v a s) = ap (λ z. at (give a) g d K s z) (logged_twice l u v)
land_said give g d K l u (threw v x s) = ap (λ z. at (tossed x) g d K s z) (logged_twice l u v)
land_said give g d K l u (over v e) = ap (λ z. halt (record { events = z; end = stopped e })) (logged_twice l u v)

module _ (J : Mode) (P : Program) where
  -- after some steps the machine stands there
  pub record Goes (x y : Next) : Type 0 where
    pub steps : ℕ
    pub there : iterate J P steps x ≡ y

  both : ℕ → ℕ → ℕ
  both zero b = b
  both (suc a) b = suc (both a b)

  iterate_more : (a b : ℕ) (x : Next) → iterate J P (both a b) x ≡ iterate J P b (iterate J P a x)
  unfolding iterate both
  iterate_more zero b x = refl
  iterate_more (suc a) b x = iterate_more a b (onward J P x)

  pub stay : {x : Next} → Goes x x
  unfolding iterate
  stay = record { steps = 0; there = refl }

  pub more : {x y : Next} → Goes (onward J P x) y → Goes x y
  unfolding iterate
  more p = record { steps = suc p.steps; there = p.there }

  pub far : {x y z : Next} → Goes x y → Goes y z → Goes x z
  far {x = x} {z = z} p q = record { steps = both p.steps q.steps; there = iterate_more p.steps q.steps x ∙ ap (λ w. iterate J P q.steps w) p.there ∙ q.there }

  -- a part, begun by this focus, does what the meaning says, over any stack
  pub record Runs {A : Type 0} (g : Env) (d : ℕ) (f : Focus) (m : M A) (give : A → Focus) : Type 0 where
    pub run : (K : List Frame) (l : List Event) (s : State) → Goes (at f g d K s l) (land give g d K l (m s))

  -- the same with a frame that waits, and that belongs to the part
  pub record Meets {A : Type 0} (g : Env) (d : ℕ) (f : Focus) (k : Frame) (m : M A) (give : A → Focus) : Type 0 where
    pub run : (K : List Frame) (l : List Event) (s : State) → Goes (at f g d (k ∷ K) s l) (land give g d K l (m s))

  -- a frame that lets throws through
  pub record Passes (g : Env) (d : ℕ) (k : Frame) : Type 0 where
    pub pass : (v : Val) (K : List Frame) (s : State) (l : List Event) → Goes (at (tossed v) g d (k ∷ K) s l) (at (tossed v) g d K s l)

  pub go_said : {A : Type 0} (give : A → Focus) (g : Env) (d : ℕ) (K : List Frame) (l : List Event) (u : List Said) (r : Res A) {x : Next} → Goes x (land give g d K (logged l u) r) → Goes x (land give g d K l (said u r))
  go_said give g d K l u r {x = x} p = subst (λ z. Goes x z) (land_said give g d K l u r) p

  -- a part's end, and what is done then: over the same stack
  pub then_run : {A B : Type 0} {g : Env} {d : ℕ} {give : A → Focus} {give' : B → Focus} {h : A → M B} →
      ((a : A) → Runs g d (give a) (h a) give') → (K : List Frame) (l : List Event) (r : Res A) → Goes (land give g d K l r) (land give' g d K l (after r h))
  unfolding land after
  then_run {g = g} {d = d} {give' = give'} {h = h} q K l (ok u a s) = go_said give' g d K l u (h a s) ((q a).run K (logged l u) s)
  then_run q K l (threw u v s) = stay
  then_run q K l (over u e) = stay

  -- and where a frame waits for it
  pub then_meet : {A B : Type 0} {g : Env} {d : ℕ} {k : Frame} {give : A → Focus} {give' : B → Focus} {h : A → M B} →
      Passes g d k → ((a : A) → Meets g d (give a) k (h a) give') → (K : List Frame) (l : List Event) (r : Res A) → Goes (land give g d (k ∷ K) l r) (land give' g d K l (after r h))
  unfolding land after
  then_meet {g = g} {d = d} {give' = give'} {h = h} c q K l (ok u a s) = go_said give' g d K l u (h a s) ((q a).run K (logged l u) s)
  then_meet c q K l (threw u v s) = c.pass v K s (logged l u)
  then_meet c q K l (over u e) = stay

  -- one part after another
  pub bind : {A B : Type 0} {g : Env} {d : ℕ} {f : Focus} {k : Frame} {m : M A} {give : A → Focus} {give' : B → Focus} {h : A → M B} →
      Passes g d k → Runs g d f m give → ((a : A) → Meets g d (give a) k (h a) give') → Meets g d f k (m >>= h) give'
  unfolding ◌>>=◌
  bind {m = m} c p q = record { run = λ K l s. far (p.run (_ ∷ K) l s) (then_meet c q K l (m s)) }

  pub andthen : {A B : Type 0} {g : Env} {d : ℕ} {f : Focus} {m : M A} {give : A → Focus} {give' : B → Focus} {h : A → M B} →
      Runs g d f m give → ((a : A) → Runs g d (give a) (h a) give') → Runs g d f (m >>= h) give'
  unfolding ◌>>=◌
  andthen {m = m} p q = record { run = λ K l s. far (p.run K l s) (then_run q K l (m s)) }

  -- ---- one step first; each `e` is `λ K l s. refl`

  to_goes : {x y z : Next} → onward J P x ≡ y → Goes y z → Goes x z
  to_goes {z = z} e p = more (subst (λ w. Goes w z) (sym e) p)

  pub goto : {A : Type 0} {g : Env} {d : ℕ} {f f' : Focus} {m : M A} {give : A → Focus} →
      ((K : List Frame) (l : List Event) (s : State) → onward J P (at f g d K s l) ≡ at f' g d K s l) → Runs g d f' m give → Runs g d f m give
  goto e p = record { run = λ K l s. to_goes (e K l s) (p.run K l s) }

  pub push : {A : Type 0} {g : Env} {d : ℕ} {f f' : Focus} {k : Frame} {m : M A} {give : A → Focus} →
      ((K : List Frame) (l : List Event) (s : State) → onward J P (at f g d K s l) ≡ at f' g d (k ∷ K) s l) → Meets g d f' k m give → Runs g d f m give
  push e p = record { run = λ K l s. to_goes (e K l s) (p.run K l s) }

  pub acted : {A : Type 0} {g : Env} {d : ℕ} {f : Focus} {m : M A} {give : A → Focus} →
      ((K : List Frame) (l : List Event) (s : State) → onward J P (at f g d K s l) ≡ land give g d K l (m s)) → Runs g d f m give
  acted e = record { run = λ K l s. to_goes (e K l s) stay }

  pub acts : {A B : Type 0} {g : Env} {d : ℕ} {f : Focus} {h : A → M B} {give : A → Focus} {give' : B → Focus} →
      (m : M A) → ((K : List Frame) (l : List Event) (s : State) → onward J P (at f g d K s l) ≡ land give g d K l (m s)) → ((a : A) → Runs g d (give a) (h a) give') → Runs g d f (m >>= h) give'
  acts m e q = andthen (acted e) q

  pub acts_push : {A B : Type 0} {g : Env} {d : ℕ} {f : Focus} {k : Frame} {h : A → M B} {give : A → Focus} {give' : B → Focus} →
      (m : M A) → ((K : List Frame) (l : List Event) (s : State) → onward J P (at f g d K s l) ≡ land give g d (k ∷ K) l (m s)) → Passes g d k → ((a : A) → Meets g d (give a) k (h a) give') → Runs g d f (m >>= h) give'
  unfolding ◌>>=◌
  acts_push m e c q = record { run = λ K l s. to_goes (e K l s) (then_meet c q K l (m s)) }

  pub pop : {A : Type 0} {g : Env} {d : ℕ} {f f' : Focus} {k : Frame} {m : M A} {give : A → Focus} →
      ((K : List Frame) (l : List Event) (s : State) → onward J P (at f g d (k ∷ K) s l) ≡ at f' g d K s l) → Runs g d f' m give → Meets g d f k m give
  pop e p = record { run = λ K l s. to_goes (e K l s) (p.run K l s) }

  pub swap : {A : Type 0} {g : Env} {d : ℕ} {f f' : Focus} {k k' : Frame} {m : M A} {give : A → Focus} →
      ((K : List Frame) (l : List Event) (s : State) → onward J P (at f g d (k ∷ K) s l) ≡ at f' g d (k' ∷ K) s l) → Meets g d f' k' m give → Meets g d f k m give
  swap e p = record { run = λ K l s. to_goes (e K l s) (p.run K l s) }

  pub pop_acted : {A : Type 0} {g : Env} {d : ℕ} {f : Focus} {k : Frame} {m : M A} {give : A → Focus} →
      ((K : List Frame) (l : List Event) (s : State) → onward J P (at f g d (k ∷ K) s l) ≡ land give g d K l (m s)) → Meets g d f k m give
  pop_acted e = record { run = λ K l s. to_goes (e K l s) stay }

  pub pop_acts : {A B : Type 0} {g : Env} {d : ℕ} {f : Focus} {k : Frame} {h : A → M B} {give : A → Focus} {give' : B → Focus} →
      (m : M A) → ((K : List Frame) (l : List Event) (s : State) → onward J P (at f g d (k ∷ K) s l) ≡ land give g d K l (m s)) → ((a : A) → Runs g d (give a) (h a) give') → Meets g d f k (m >>= h) give'
  unfolding ◌>>=◌
  pop_acts m e q = record { run = λ K l s. to_goes (e K l s) (then_run q K l (m s)) }

  pub passes : {g : Env} {d : ℕ} {k : Frame} → ((v : Val) (K : List Frame) (l : List Event) (s : State) → onward J P (at (tossed v) g d (k ∷ K) s l) ≡ at (tossed v) g d K s l) → Passes g d k
  passes e = record { pass = λ v K s l. to_goes (e v K l s) stay }

  -- a frame that takes a throw as a value
  pub then_caught : {A B : Type 0} {g : Env} {d : ℕ} {k : Frame} {give : A → Focus} {give' : B → Focus} → (h : Way A → M B) →
      ((a : A) → Meets g d (give a) k (h (went a)) give') → ((v : Val) → Meets g d (tossed v) k (h (thrown v)) give') → (K : List Frame) (l : List Event) (r : Res A) → Goes (land give g d (k ∷ K) l r) (land give' g d K l (after (attempted r) h))
  unfolding land after attempted
  then_caught {g = g} {d = d} {give' = give'} h q c K l (ok u a s) = go_said give' g d K l u (h (went a) s) ((q a).run K (logged l u) s)
  then_caught {g = g} {d = d} {give' = give'} h q c K l (threw u v s) = go_said give' g d K l u (h (thrown v) s) ((c v).run K (logged l u) s)
  then_caught h q c K l (over u e) = stay

  pub bind_caught : {A B : Type 0} {g : Env} {d : ℕ} {f : Focus} {k : Frame} {m : M A} {give : A → Focus} {give' : B → Focus} → (h : Way A → M B) →
      Runs g d f m give → ((a : A) → Meets g d (give a) k (h (went a)) give') → ((v : Val) → Meets g d (tossed v) k (h (thrown v)) give') → Meets g d f k (attempt m >>= h) give'
  unfolding ◌>>=◌ attempt
  bind_caught {m = m} h p q c = record { run = λ K l s. far (p.run (_ ∷ K) l s) (then_caught h q c K l (m s)) }

  -- what is judged first
  pub judged_run : {A : Type 0} {g : Env} {d : ℕ} {f : Focus} {m : M A} {give : A → Focus} (i : Spot) (a : Act) → Runs g d f m give →
      (K : List Frame) (l : List Event) (s : State) → Goes (land (λ (u : Unit {0}). f) g d K l (judged J i a skip s)) (land give g d K l (judged J i a m s))
  unfolding ◌>>=◌
  judged_run {g = g} {d = d} {f = f} {m = m} {give = give} i a p K l s =
      subst (λ (q : M _). Goes (land (λ (u : Unit {0}). f) g d K l (judged J i a skip s)) (land give g d K l (q s))) (sym (judged_first J i a m)) (then_run (λ u. p) K l (judged J i a skip s))

  pub judged_meet : {A : Type 0} {g : Env} {d : ℕ} {f : Focus} {k : Frame} {m : M A} {give : A → Focus} (i : Spot) (a : Act) → Passes g d k → Meets g d f k m give →
      (K : List Frame) (l : List Event) (s : State) → Goes (land (λ (u : Unit {0}). f) g d (k ∷ K) l (judged J i a skip s)) (land give g d K l (judged J i a m s))
  unfolding ◌>>=◌
  judged_meet {g = g} {d = d} {f = f} {k = k} {m = m} {give = give} i a c p K l s =
      subst (λ (q : M _). Goes (land (λ (u : Unit {0}). f) g d (k ∷ K) l (judged J i a skip s)) (land give g d K l (q s))) (sym (judged_first J i a m)) (then_meet c (λ u. p) K l (judged J i a skip s))

  -- a choice
  pub runs_pick : {A : Type 0} {g : Env} {d : ℕ} {f f' : Focus} {m n : M A} {give : A → Focus} (b : Bool) → Runs g d f m give → Runs g d f' n give → Runs g d (pick b f f') (pick b m n) give
  runs_pick true p q = p
  runs_pick false p q = q

  -- a value that is given
  pub given : {A : Type 0} {g : Env} {d : ℕ} {give : A → Focus} (a : A) → Runs g d (give a) (ret a) give
  unfolding land ret
  given a = record { run = λ K l s. stay }

  pub raised : {A : Type 0} {g : Env} {d : ℕ} {give : A → Focus} (v : Val) → Runs g d (tossed v) (raise v) give
  unfolding land raise
  raised v = record { run = λ K l s. stay }

  -- a part that does the same
  pub alike : {A : Type 0} {g : Env} {d : ℕ} {f : Focus} {m n : M A} {give : A → Focus} → m ≡ n → Runs g d f m give → Runs g d f n give
  alike {g = g} {d = d} {f = f} {give = give} e p = subst (λ q. Runs g d f q give) e p

  pub meets_alike : {A : Type 0} {g : Env} {d : ℕ} {f : Focus} {k : Frame} {m n : M A} {give : A → Focus} → m ≡ n → Meets g d f k m give → Meets g d f k n give
  meets_alike {g = g} {d = d} {f = f} {k = k} {give = give} e p = subst (λ q. Meets g d f k q give) e p
