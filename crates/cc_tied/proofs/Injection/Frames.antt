-- Frames and variables of two runs that are tied by an injection.
use Rattle.std.proofs.Common.{◌≡◌, ◌≢◌, ◌⊎◌, inl, inr, ℕ, ◌≤◌, Bool, true, List, Option, Some, None, is_some, refl, sym, ap, subst, ◌∙◌, arith}
use Rattle.std.specs.Prelude.{slice_get, slice_set, nat_eq}
use Rattle.std.specs.List.{list_any}
use Rattle.cc_ast.specs.Syntax.{Prim}
use Rattle.cc_ast.specs.declared.tree.Ref.{Ref}
use Rattle.cc_meaning.specs.Values.{Val, Spot}
use Rattle.cc_meaning.specs.Builtins.{or_undefined}
use Rattle.cc_meaning.specs.State.{Frame, Env, State, Tables}
use Rattle.cc_meaning.specs.Monad.{M, ret, ◌>>=◌, with_tables}
use Rattle.cc_meaning.specs.Store.{Global, extern, built_in, of_chunk, global_kind, up_in, frame_up, frame_at, flat_option}
use Rattle.cc_meaning.specs.Typed.{Variable, global, variable_type, of_opt_type}
use Rattle.cc_meaning.specs.Rules.{take_rule, keep_rule}
use Rattle.cc_meaning.specs.Judge.{takes, keeps, least_broken}
use Rattle.cc_meaning.specs.Acts.{judged, changing, receive, place_in, read_by_kind, read_place, is_loaded, global_value, read_global, read_var, frames_with, set_place, set_global, keep, write_by_kind, write_place, write_var}
use Rattle.cc_meaning.specs.Script.{checked}
use Rattle.cc_meaning.specs.Alike.{In}
use Rattle.cc_tied.specs.Tied.{OptT, none_t, some_t, ValT, prim_t, out_t}
use Rattle.cc_tied.specs.Facts.{Level, called, caught, named, Held, Facts, frame_kind, innermost, outward, Above, above_here, above_more, DeadAt, FixedAt}
use Rattle.cc_tied.specs.Injection.{Both, both, Table}
use Rattle.cc_tied.proofs.Lists.{place_cases, get_set_other}
use Rattle.cc_tied.proofs.Sim.{Tie, World, ResT, Sim, fine, after_t, sim_ret, sim_tables, sim_fault}
use Rattle.cc_tied.proofs.Injection.Table.{set_both}
use Rattle.cc_tied.proofs.Injection.Places.{places_set}
use Rattle.cc_tied.proofs.Injection.World.{Label, Tabs, Vals, val_more, UpT, an_up, FrameT, KnownT}
use Rattle.cc_tied.proofs.Injection.Tie.{Other, view, ReadI, reads_global, reads_inlined, reads_place, WriteI, writes_global, writes_place, EnvI, env_at, with_set, TiedI, inject}
use Rattle.cc_tied.proofs.Injection.Rules.{unless_none, none_unless}
use Rattle.cc_tied.proofs.Injection.Objects.{is_some_same}
use Rattle.cc_tied.proofs.Injection.Types.{Shared, shared_global, shared_local, of_opt_type_same, variable_type_same, is_settled_same}
use Rattle.cc_tied.proofs.Injection.Acts.{judged_in, judged_i, at_of, receive_t}

pub undefined_tied : {O : ℕ → ℕ → Type 0} {a b : Option Val} → OptT (ValT O) a b → ValT O (or_undefined a) (or_undefined b)
unfolding or_undefined
undefined_tied none_t = prim_t
undefined_tied (some_t h) = h

module _ (F : Facts) (S : Tables) (set' : Other S) where
  abbrev R : Tables
  R = with_set S set'

  abbrev T : Tie
  T = inject F S set'

  abbrev W : Type 0
  W = World T

  abbrev Tied : Tabs → State → State → Type 0
  Tied = TiedI F S set'

  abbrev Done : W → Unit {0} → Unit {0} → Type 0
  Done v a b = Unit {0}

  -- ---- frames outwards

  pub data FrameAt (w : Tabs) (l : Level) : Option Frame → Option Frame → Type 0 where
    frame_there : (x : Label) {a b : Frame} → x.level ≡ l → FrameT F S w x a b → FrameAt w l (Some a) (Some b)

  at_frames : {w : Tabs} (x : Label) {l : Level} {a b : Option Frame} → x.level ≡ l → Both (FrameT F S w x) a b → FrameAt w l a b
  at_frames x e (both h) = frame_there x e h

  around_tied : {w : Tabs} {l : Level} {a b : Option Frame} → FrameAt w l a b → UpT F S w (outward F S l) (up_in a) (up_in b)
  unfolding up_in
  around_tied {w = w} (frame_there x {a = a} {b = b} e h) = subst (λ z. UpT F S w (outward F S z) a.up b.up) e (subst (λ z. UpT F S w (outward F S x.level) z b.up) (sym h.up) (subst (λ z. UpT F S w (outward F S x.level) x.up z) (sym h.up') h.around))

  pub frames_at : {w : Tabs} {s t : State} → Tied w s t → {l : Level} {a b : Option ℕ} → UpT F S w (Some l) a b → FrameAt w l (frame_at s.frames a) (frame_at t.frames b)
  unfolding frame_at
  frames_at ti (an_up x e q) = at_frames x e (ti.frames.tied _ q)

  pub ups : {w : Tabs} {s t : State} → Tied w s t → {o : Option Level} {u : ℕ} {l : Level} → Above F S o u l → {a b : Option ℕ} → UpT F S w o a b → UpT F S w (Some l) (frame_up u s.frames a) (frame_up u t.frames b)
  unfolding frame_up
  ups ti above_here h = h
  ups ti (above_more k) (an_up x e q) = ups ti k (around_tied (at_frames x e (ti.frames.tied _ q)))

  -- ---- variables that are read

  take_none : {x : Variable} → Shared S set' x → (l : Bool) {b b' : Bool} → b ≡ b' → take_rule S x l b ≡ None → take_rule R x l b' ≡ None
  unfolding take_rule
  take_none x l e d = rw (← e, ← is_settled_same S set' x) d

  pub take_then : {A B : Type 0} {Q : W → A → B → Type 0} {w : W} (i i' : Spot) {x : Variable} → Shared S set' x → (l : Bool) {b b' : Bool} (m : M A) (m' : M B) → b ≡ b' → Sim T Q w m m' → Sim T Q w (judged checked i (takes x l b) m) (judged checked i' (takes x l b') m')
  unfolding least_broken
  take_then i i' {x = x} sh l {b = b} {b' = b'} m m' e h = judged_i F S set' i i' (takes x l b) (takes x l b') m m' (λ s t ti d. take_none sh l e d) h

  take_t : {w : W} (i i' : Spot) {x : Variable} → Shared S set' x → (l : Bool) {b b' : Bool} {u v : Val} → b ≡ b' → Vals w.w u v → Sim T (λ z. Vals z.w) w (judged checked i (takes x l b) (ret u)) (judged checked i' (takes x l b') (ret v))
  take_t i i' x l e h = take_then i i' x l _ _ e (sim_ret T _ _ h)

  read_kind_t : {w : W} (i i' : Spot) (l : Level) (n : ℕ) {u v : Option Val} → OptT (Vals w.w) u v → Sim T (λ z. Vals z.w) w (read_by_kind checked i (frame_kind l) n u) (read_by_kind checked i' (frame_kind l) n v)
  unfolding read_by_kind frame_kind
  read_kind_t i i' (called f) n h = take_t i i' (shared_local {f = f} {n = n}) true (is_some_same h) (undefined_tied h)
  read_kind_t i i' (caught o c) n h = sim_ret T _ _ (undefined_tied h)
  read_kind_t i i' (named f) n h = sim_ret T _ _ (undefined_tied h)

  read_at_t : {w : W} (i i' : Spot) {l : Level} {a b : Option Frame} → FrameAt w.w l a b → (n : ℕ) → (DeadAt F l n → ⊥) → Sim T (λ z. Vals z.w) w (read_place checked i a n) (read_place checked i' b n)
  unfolding read_place place_in
  read_at_t {w = w} i i' (frame_there x {a = a} {b = b} e h) n d =
      subst (λ z. Sim T (λ z. Vals z.w) w (read_by_kind checked i z n (flat_option (slice_get a.values n))) (read_by_kind checked i' b.kind n (flat_option (slice_get b.values n)))) (sym h.kind)
      (subst (λ z. Sim T (λ z. Vals z.w) w (read_by_kind checked i (frame_kind x.level) n (flat_option (slice_get a.values n))) (read_by_kind checked i' z n (flat_option (slice_get b.values n)))) (sym h.kind')
      (read_kind_t i i' x.level n (h.places.each n (subst (λ z. DeadAt F z n → ⊥) (sym e) d))))

  loaded_same : {w : Tabs} {s t : State} → Tied w s t → (c : ℕ) → is_loaded s c ≡ is_loaded t c
  unfolding is_loaded
  loaded_same ti c = ap (λ z. list_any (λ d. nat_eq d c) z) ti.loaded

  global_same : {w : Tabs} {s t : State} → Tied w s t → (n : ℕ) → (F.Unread n → ⊥) → OptT (Vals w) (global_value s n) (global_value t n)
  unfolding global_value
  global_same ti n d = ti.globals.each n d

  global_t : {w : W} (i i' : Spot) (n : ℕ) (k : Global) → (F.Unread n → ⊥) → (set'.Foreign n → ⊥) → Sim T (λ z. Vals z.w) w (read_global checked i n k) (read_global checked i' n k)
  unfolding read_global
  global_t i i' n extern d f s t ti le le' = sim_ret T _ _ out_t s t ti le le'
  global_t i i' n (built_in b) d f s t ti le le' = sim_fault T tt 2 s t ti le le'
  global_t {w = w} i i' n (of_chunk c) d f s t ti le le' =
      subst (λ z. ResT T (λ z. Vals z.w) w (judged checked i (takes (global n) (is_loaded s c) (is_some (global_value s n))) (ret (or_undefined (global_value s n))) s) (judged checked i' (takes (global n) z (is_some (global_value t n))) (ret (or_undefined (global_value t n))) t)) (loaded_same ti c)
      (take_t i i' (shared_global {n = n} f) (is_loaded s c) (is_some_same (global_same ti n d)) (undefined_tied (global_same ti n d)) s t ti le le')

  env_up : {w : Tabs} {o : Option ℕ} {c : ℕ} {g h : Env} → EnvI F S set' w (Rattle.cc_tied.proofs.Injection.Tie.at o c) g h → UpT F S w (innermost o c) g.at h.at
  env_up (env_at u t d) = u

  reads_global_t : {w : W} (i i' : Spot) (n : ℕ) → (F.Unread n → ⊥) → (set'.Foreign n → ⊥) → {s t : State} → Tied w.w s t → s.budget ≤ w.l → t.budget ≤ w.r → ResT T (λ v. Vals v.w) w (read_global checked i n (global_kind s.tables n) s) (read_global checked i' n (global_kind t.tables n) t)
  reads_global_t {w = w} i i' n d f {s = s} {t = t} ti le le' =
      subst (λ z. ResT T (λ v. Vals v.w) w (read_global checked i n z s) (read_global checked i' n (global_kind t.tables n) t)) (sym (ap (λ z. global_kind z n) ti.tables))
      (subst (λ z. ResT T (λ v. Vals v.w) w (read_global checked i n (global_kind S n) s) (read_global checked i' n z t)) (set'.kinds n f ∙ sym (ap (λ z. global_kind z n) ti.tables'))
      (global_t i i' n (global_kind S n) d f s t ti le le'))

  pub read_var_t : {w : W} (i i' : Spot) {c : Rattle.cc_tied.proofs.Injection.Tie.Ctx} {g h : Env} {r r' : Ref} → EnvI F S set' w.w c g h → ReadI F S set'.Foreign c r r' → Sim T (λ v. Vals v.w) w (read_var checked i g r) (read_var checked i' h r')
  unfolding read_var
  read_var_t i i' e (reads_global {n = n} d f) s t ti le le' = reads_global_t i i' n d f ti le le'
  read_var_t i i' e (reads_inlined {n = n} d f) s t ti le le' = reads_global_t i i' n d f ti le le'
  read_var_t i i' e (reads_place {n = n} a d) s t ti le le' = read_at_t i i' (frames_at ti (ups ti a (env_up e))) n d s t ti le le'

  -- ---- variables that are written

  frame_set : {w : Tabs} {x : Label} {a b : Frame} (n : ℕ) {u v : Val} → FrameT F S w x a b → (FixedAt F x.level n → ⊥) → Vals w u v → FrameT F S w x (record a { values = slice_set a.values n (Some u) }) (record b { values = slice_set b.values n (Some v) })
  frame_set {x = x} {a = a} n {u = u} h d v = record { kind = h.kind; kind' = h.kind'; up = h.up; up' = h.up'; around = h.around; places = places_set h.places n v; fixed = λ m q. stays m q (place_cases n m) }
    where
      stays : (m : ℕ) → FixedAt F x.level m → (n ≡ m) ⊎ (n ≢ m) → slice_get (slice_set a.values n (Some u)) m ≡ slice_get x.first m
      stays m q (inl e) = absurd (d (subst (λ z. FixedAt F x.level z) (sym e) q))
      stays m q (inr e) = get_set_other a.values n m (Some u) e ∙ h.fixed m q

  pub with_frames : {w : Tabs} {s t : State} (fs gs : List Frame) → Tied w s t → Table (FrameT F S w) (λ y a. a ≡ y) w.frames w.alone fs gs → Tied w (record s { frames = fs }) (record t { frames = gs })
  with_frames fs gs ti h = record { tables = ti.tables; tables' = ti.tables'; objs = ti.objs; owned = ti.owned; mated = ti.mated; frames = h; globals = ti.globals; known = ti.known; loaded = ti.loaded; begun = ti.begun; failed = ti.failed; constructed = ti.constructed; handles = ti.handles; replies = ti.replies; budget = ti.budget; extra = ti.extra }

  frames_set : {w : Tabs} {s t : State} → Tied w s t → (x : Label) {m k : ℕ} → In (record { label = x; left = m; right = k }) w.frames → (n : ℕ) → (FixedAt F x.level n → ⊥) → {u v : Val} → Vals w u v → (a b : Option Frame) → slice_get s.frames m ≡ a → slice_get t.frames k ≡ b → Both (FrameT F S w x) a b → Table (FrameT F S w) (λ y a. a ≡ y) w.frames w.alone (frames_with s.frames m n u a) (frames_with t.frames k n v b)
  unfolding frames_with
  frames_set ti x q n d v _ _ e e' (both {a = a} {b = b} h) = set_both ti.frames _ q _ _ (frame_set n h d v) a b e e'

  pub place_tied : {w : Tabs} {s t : State} → Tied w s t → {l : Level} {a b : Option ℕ} → UpT F S w (Some l) a b → (n : ℕ) → (FixedAt F l n → ⊥) → {u v : Val} → Vals w u v → Tied w (set_place a n u s) (set_place b n v t)
  unfolding set_place
  place_tied ti (an_up x e q) n d v = with_frames _ _ ti (frames_set ti x q n (subst (λ z. FixedAt F z n → ⊥) (sym e) d) v _ _ refl refl (ti.frames.tied _ q))

  pub keep_none : {w : Tabs} {s t : State} → Tied w s t → {x : Variable} → Shared S set' x → {u v : Val} → Vals w u v → keep_rule S s x u ≡ None → keep_rule R t x v ≡ None
  unfolding keep_rule
  keep_none {w = w} {s = s} {t = t} ti {x = x} sh {u = u} {v = v} h e =
      none_unless 6 (ap (λ z. of_opt_type R t.objs z v) (sym (variable_type_same S set' sh)) ∙ sym (of_opt_type_same S set' F w s.objs t.objs (at_of F S set' ti) (variable_type S x) h) ∙ unless_none _ 6 e)

  pub received_t : {w : W} {x : Variable} → Shared S set' x → {u v : Val} → Vals w.w u v → Sim T Done w (with_tables (λ T. receive (variable_type T x) u)) (with_tables (λ T. receive (variable_type T x) v))
  received_t {w = w} {x = x} sh {u = u} {v = v} h = sim_tables T _ _ (subst (λ z. Sim T Done w (receive (variable_type S x) u) (receive z v)) (variable_type_same S set' sh) (receive_t F S set' (variable_type S x) h))

  -- a variable receives a value, in two states
  pub keep_at : {w : W} (i i' : Spot) {x : Variable} → Shared S set' x → {u v : Val} → Vals w.w u v → (f g : State → State) {s t : State} → Tied w.w s t → s.budget ≤ w.l → t.budget ≤ w.r → ((z : State) → (f z).budget ≡ z.budget) → ((z : State) → (g z).budget ≡ z.budget) → Tied w.w (f s) (g t) → ResT T Done w (keep checked i x u f s) (keep checked i' x v g t)
  unfolding keep changing ret ◌>>=◌ least_broken
  keep_at i i' {x = x} sh {u = u} {v = v} h f g {s = s} {t = t} ti le le' b c k =
      let d = b s in let e = c t in
      after_t T {R = Done} (λ z l _ _ _. received_t sh (val_more l.2.ext _ _ h))
      (judged_in F S set' i i' (keeps x u) (keeps x v) (changing f) (changing g) ti (λ q. (keep_none ti sh h q, fine T tt tt tt k (omega arith) (omega arith))))

  pub place_budget : (at : Option ℕ) (n : ℕ) (x : Val) (u : State) → (set_place at n x u).budget ≡ u.budget
  unfolding set_place
  place_budget None n x u = refl
  place_budget (Some i) n x u = refl

  write_kind_at : {w : W} (i i' : Spot) (l : Level) (a b : Option ℕ) (n : ℕ) {u v : Val} → Vals w.w u v → {s t : State} → Tied w.w s t → s.budget ≤ w.l → t.budget ≤ w.r → Tied w.w (set_place a n u s) (set_place b n v t) → ResT T Done w (write_by_kind checked i (frame_kind l) a n u s) (write_by_kind checked i' (frame_kind l) b n v t)
  unfolding write_by_kind frame_kind changing ret
  write_kind_at i i' (called f) a b n {u = u} {v = v} h ti le le' k = keep_at i i' (shared_local {f = f} {n = n}) h (set_place a n u) (set_place b n v) ti le le' (place_budget a n u) (place_budget b n v) k
  write_kind_at i i' (caught o c) a b n {u = u} {v = v} h {s = s} {t = t} ti le le' k = let e = place_budget a n u s in let d = place_budget b n v t in fine T tt tt tt k (omega arith) (omega arith)
  write_kind_at i i' (named f) a b n h ti le le' k = fine T tt tt tt ti le le'

  write_at : {w : W} (i i' : Spot) {l : Level} {p q : Option Frame} → FrameAt w.w l p q → (a b : Option ℕ) (n : ℕ) {u v : Val} → Vals w.w u v → {s t : State} → Tied w.w s t → s.budget ≤ w.l → t.budget ≤ w.r → Tied w.w (set_place a n u s) (set_place b n v t) → ResT T Done w (write_place checked i p a n u s) (write_place checked i' q b n v t)
  unfolding write_place
  write_at {w = w} i i' (frame_there x {a = p} {b = q} e h) a b n {u = u} {v = v} k {s = s} {t = t} ti le le' j =
      subst (λ z. ResT T Done w (write_by_kind checked i z a n u s) (write_by_kind checked i' q.kind b n v t)) (sym h.kind)
      (subst (λ z. ResT T Done w (write_by_kind checked i (frame_kind x.level) a n u s) (write_by_kind checked i' z b n v t)) (sym h.kind')
      (write_kind_at i i' x.level a b n k ti le le' j))

  known_set : {w : Tabs} {s t : State} → Tied w s t → (n : ℕ) (u : Val) → ((h : Held) → F.Known n h → ⊥) → (g : ℕ) (h : Held) → F.Known g h → (n ≡ g) ⊎ (n ≢ g) → KnownT w w.still g h (flat_option (slice_get (slice_set s.globals n (Some u)) g))
  known_set ti n u d g h k (inl e) = absurd (d h (subst (λ z. F.Known z h) (sym e) k))
  known_set {w = w} {s = s} ti n u d g h k (inr e) = subst (λ z. KnownT w w.still g h (flat_option z)) (sym (get_set_other s.globals n g (Some u) e)) (ti.known g h k)

  pub global_tied : {w : Tabs} {s t : State} → Tied w s t → (n : ℕ) → ((h : Held) → F.Known n h → ⊥) → (set'.Foreign n → ⊥) → {u v : Val} → Vals w u v → Tied w (set_global n u s) (set_global n v t)
  unfolding set_global
  global_tied {w = w} {s = s} {t = t} ti n d f {u = u} {v = y} v = record { tables = ti.tables; tables' = ti.tables'; objs = ti.objs; owned = ti.owned; mated = ti.mated; frames = ti.frames; globals = places_set ti.globals n v; known = λ g h k. known_set ti n u d g h k (place_cases n g); loaded = ti.loaded; begun = ti.begun; failed = ti.failed; constructed = ti.constructed; handles = ti.handles; replies = ti.replies; budget = ti.budget; extra = set'.rider.both_set (view w s t) n f u y ti.extra }

  pub global_budget : (n : ℕ) (x : Val) (u : State) → (set_global n x u).budget ≡ u.budget
  unfolding set_global
  global_budget n x u = refl

  pub write_var_t : {w : W} (i i' : Spot) {c : Rattle.cc_tied.proofs.Injection.Tie.Ctx} {g h : Env} {r r' : Ref} {u v : Val} → EnvI F S set' w.w c g h → WriteI F S set'.Foreign c r r' → Vals w.w u v → Sim T Done w (write_var checked i g r u) (write_var checked i' h r' v)
  unfolding write_var
  write_var_t i i' {u = u} {v = v} e (writes_global {n = n} d f) k s t ti le le' = keep_at i i' (shared_global {n = n} f) k (set_global n u) (set_global n v) ti le le' (global_budget n u) (global_budget n v) (global_tied ti n d f k)
  write_var_t i i' {g = g} {h = h} e (writes_place {u = m} {n = n} a d) k s t ti le le' =
      let up = ups ti a (env_up e) in
      write_at i i' (frames_at ti up) (frame_up m s.frames g.at) (frame_up m t.frames h.at) n k ti le le' (place_tied ti up n d k)
