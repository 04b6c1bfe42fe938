-- Local dead code under the injection: what the left run alone evaluates, declares and writes goes.
use Rattle.std.proofs.Common.{◌≡◌, ◌≢◌, ◌⊎◌, inl, inr, ℕ, Bool, List, [], ◌∷◌, Option, Some, None, refl, sym, ap, subst, ◌∙◌, arith}
use Rattle.std.specs.Prelude.{slice_get, slice_set}
use Rattle.cc_ast.specs.Syntax.{Expr, tick, Declarator, Stmt, simple, fun_decl, pay_stmt, Stmts, more_stmts}
use Rattle.cc_ast.specs.declared.tree.Ref.{Ref}
use Rattle.cc_meaning.specs.Values.{Val, Spot, at_site}
use Rattle.cc_meaning.specs.State.{Frame, Env, State, Tables}
use Rattle.cc_meaning.specs.Monad.{M, ret, ◌>>=◌}
use Rattle.cc_meaning.specs.Store.{flat_option}
use Rattle.cc_meaning.specs.Typed.{Variable, global, local, variable_type}
use Rattle.cc_meaning.specs.Judge.{keeps}
use Rattle.cc_meaning.specs.Acts.{changing, set_place, frames_with, set_global, keep, write_by_kind, write_place, write_var}
use Rattle.cc_meaning.specs.Calls.{value}
use Rattle.cc_meaning.specs.Shapes.{path_of_ref}
use Rattle.cc_meaning.specs.Meaning.{Comp, normal, next, ev, value_at, set_variable, declare, hoist_one, hoist, ex, ex_chunk}
use Rattle.cc_meaning.specs.Script.{checked}
use Rattle.cc_meaning.specs.Alike.{In}
use Rattle.cc_tied.specs.Facts.{Level, called, caught, named, Held, Facts, frame_kind, innermost, Above, DeadAt, FixedAt}
use Rattle.cc_tied.specs.Injection.{Both, both, Table}
use Rattle.cc_tied.specs.Pure.{IsPure}
use Rattle.cc_tied.proofs.Lists.{place_cases, get_set_other}
use Rattle.cc_tied.proofs.Kit.{Kit}
use Rattle.cc_tied.proofs.Parts.{Below, CompV}
use Rattle.cc_tied.proofs.Laws.{bind_assoc, bind_ret}
use Rattle.cc_tied.proofs.AtValues.{tick_value}
use Rattle.cc_tied.proofs.Statements.{FollowsStmt, FollowsStmts, FollowsHoist, FollowsSet, FollowsDecls, declares_function, hoists_nothing}
use Rattle.cc_tied.proofs.Turns.{FollowsChunk}
use Rattle.cc_tied.proofs.Sim.{Tie, World, Sim, Later, now, later}
use Rattle.cc_tied.proofs.Left as L
use Rattle.cc_tied.proofs.Injection.Table.{set_left}
use Rattle.cc_tied.proofs.Injection.Places.{places_left}
use Rattle.cc_tied.proofs.Injection.World.{Label, Tabs, UpT, an_up, FrameT, KnownT}
use Rattle.cc_tied.proofs.Injection.Tie.{Other, view, Ctx, at, EnvI, env_at, env_more, with_set, TiedI, inject}
use Rattle.cc_tied.proofs.Injection.Left.{Silent, silent_judged, silent_any, silent_then, silent_tables, left_function, left_receives}
use Rattle.cc_tied.proofs.Injection.Pure.{left_pure_value}
use Rattle.cc_tied.proofs.Injection.Frames as G
use Rattle.cc_tied.proofs.Injection.Frames.{FrameAt, frame_there, with_frames, place_budget, global_budget}
use Rattle.cc_tied.proofs.Injection.Upkeep.{inject_kit}

module _ (F : Facts) (S : Tables) (set' : Other S) where
  abbrev T : Tie
  T = inject F S set'

  abbrev W : Type 0
  W = World T

  abbrev K : Kit
  K = inject_kit F S set'

  abbrev Tied : Tabs → State → State → Type 0
  Tied = TiedI F S set'

  abbrev pub Quiet : {A : Type 0} → W → M A → Type 0
  Quiet {A = A} w m = Silent F S set' {A = A} (λ v a. Unit {0}) w m

  quiet : {A : Type 0} {w : W} (a : A) → Quiet w (ret a)
  quiet a = silent_any F S set' a

  on : {A B : Type 0} {P : W → B → Type 0} {w : W} {m : M A} {k : A → M B} → Quiet w m → ((v : W) → Later T w v → (a : A) → Silent F S set' P v (k a)) → Silent F S set' P w (m >>= k)
  on h f = silent_then F S set' h f

  -- ---- places that are never read

  frame_dead : {w : Tabs} {x : Label} {a b : Frame} (n : ℕ) (u : Val) → FrameT F S w x a b → DeadAt F x.level n → (FixedAt F x.level n → ⊥) → FrameT F S w x (record a { values = slice_set a.values n (Some u) }) b
  frame_dead {x = x} {a = a} n u h d q = record { kind = h.kind; kind' = h.kind'; up = h.up; up' = h.up'; around = h.around; places = places_left h.places n u d; fixed = λ m k. stays m k (place_cases n m) }
    where
      stays : (m : ℕ) → FixedAt F x.level m → (n ≡ m) ⊎ (n ≢ m) → slice_get (slice_set a.values n (Some u)) m ≡ slice_get x.first m
      stays m k (inl e) = absurd (q (subst (λ z. FixedAt F x.level z) (sym e) k))
      stays m k (inr e) = get_set_other a.values n m (Some u) e ∙ h.fixed m k

  frames_dead : {w : Tabs} {s t : State} → Tied w s t → (x : Label) {m k : ℕ} → In (record { label = x; left = m; right = k }) w.frames → (n : ℕ) → DeadAt F x.level n → (FixedAt F x.level n → ⊥) → (u : Val) → (a b : Option Frame) → slice_get s.frames m ≡ a → slice_get t.frames k ≡ b → Both (FrameT F S w x) a b → Table (FrameT F S w) (λ y a. a ≡ y) w.frames w.alone (frames_with s.frames m n u a) t.frames
  unfolding frames_with
  frames_dead ti x q n d f u _ _ e e' (both {a = a} {b = b} h) = set_left ti.frames _ q _ b (frame_dead n u h d f) a e e'

  place_dead : {w : Tabs} {s t : State} → Tied w s t → {l : Level} {a b : Option ℕ} → UpT F S w (Some l) a b → (n : ℕ) → DeadAt F l n → (FixedAt F l n → ⊥) → (u : Val) → Tied w (set_place a n u s) t
  unfolding set_place
  place_dead {t = t} ti (an_up x e q) n d f u = with_frames F S set' _ t.frames ti (frames_dead ti x q n (subst (λ z. DeadAt F z n) (sym e) d) (subst (λ z. FixedAt F z n → ⊥) (sym e) f) u _ _ refl refl (ti.frames.tied _ q))

  -- a variable receives a value on the left alone
  left_keeps : {w : W} (i : Spot) (x : Variable) (u : Val) (f : State → State) → ((s t : State) → Tied w.w s t → Tied w.w (f s) t) → ((s : State) → (f s).budget ≡ s.budget) → Quiet w (keep checked i x u f)
  unfolding keep changing ret
  left_keeps {w = w} i x u f h b =
      on (silent_judged F S set' i (keeps x u) _ (record { by = λ s t ti le le'. let e = b s in L.alone_ok refl w (now T w) tt tt (h s t ti) (omega arith) le' })) (λ v l _.
      silent_tables F S set' _ (left_receives F S set' (variable_type S x) u))

  left_writes_kind : {w : W} (i : Spot) (l : Level) {a b : Option ℕ} → UpT F S w.w (Some l) a b → (n : ℕ) → DeadAt F l n → (FixedAt F l n → ⊥) → (u : Val) → Quiet w (write_by_kind checked i (frame_kind l) a n u)
  unfolding write_by_kind frame_kind
  left_writes_kind i (called f) {a = a} h n d q u = left_keeps i (local f n) u (set_place a n u) (λ s t ti. place_dead ti h n d q u) (λ s. place_budget F S set' a n u s)
  left_writes_kind i (caught o c) h n d q u = absurd d
  left_writes_kind i (named f) h n d q u = absurd d

  left_writes_place : {w : W} (i : Spot) {l : Level} {p q : Option Frame} → FrameAt F S set' w.w l p q → {a b : Option ℕ} → UpT F S w.w (Some l) a b → (n : ℕ) → DeadAt F l n → (FixedAt F l n → ⊥) → (u : Val) → Quiet w (write_place checked i p a n u)
  unfolding write_place
  left_writes_place {w = w} i {l = l} (frame_there x {a = p} e h) {a = a} up n d f u =
      subst (λ z. Quiet w (write_by_kind checked i z a n u)) (sym (h.kind ∙ ap frame_kind e)) (left_writes_kind i l up n d f u)

  env_up : {w : Tabs} {o : Option ℕ} {c : ℕ} {g h : Env} → EnvI F S set' w (at o c) g h → UpT F S w (innermost o c) g.at h.at
  env_up (env_at u t d) = u

  -- a write to a place that is never read
  pub left_writes_dead : {w : W} (i : Spot) {o : Option ℕ} {c m : ℕ} {l : Level} {g h : Env} → EnvI F S set' w.w (at o c) g h → Above F S (innermost o c) m l → (n : ℕ) → DeadAt F l n → (FixedAt F l n → ⊥) → (u : Val) → Quiet w (write_var checked i g (Ref.Frame m n) u)
  unfolding write_var
  left_writes_dead i {m = m} {g = g} e a n d f u = record { by = λ s t ti le le'. let up = G.ups F S set' ti a (env_up e) in (left_writes_place i (G.frames_at F S set' ti up) up n d f u).by s t ti le le' }

  -- ---- globals that the right never reads

  known_left : {w : Tabs} {s t : State} → Tied w s t → (n : ℕ) (u : Val) → ((h : Held) → F.Known n h → ⊥) → (g : ℕ) (h : Held) → F.Known g h → (n ≡ g) ⊎ (n ≢ g) → KnownT w w.still g h (flat_option (slice_get (slice_set s.globals n (Some u)) g))
  known_left ti n u d g h k (inl e) = absurd (d h (subst (λ z. F.Known z h) (sym e) k))
  known_left {w = w} {s = s} ti n u d g h k (inr e) = subst (λ z. KnownT w w.still g h (flat_option z)) (sym (get_set_other s.globals n g (Some u) e)) (ti.known g h k)

  global_left : {w : Tabs} {s t : State} → Tied w s t → (n : ℕ) → F.Unread n → (set'.Foreign n → ⊥) → ((h : Held) → F.Known n h → ⊥) → (u : Val) → Tied w (set_global n u s) t
  unfolding set_global
  global_left {w = w} {s = s} {t = t} ti n r f d u = record { tables = ti.tables; tables' = ti.tables'; objs = ti.objs; owned = ti.owned; mated = ti.mated; frames = ti.frames; globals = places_left ti.globals n u r; known = λ g h k. known_left ti n u d g h k (place_cases n g); loaded = ti.loaded; begun = ti.begun; failed = ti.failed; constructed = ti.constructed; handles = ti.handles; replies = ti.replies; budget = ti.budget; extra = set'.rider.left_set (view w s t) n f u ti.extra }

  pub left_writes_unread : {w : W} (i : Spot) (g : Env) (n : ℕ) → F.Unread n → (set'.Foreign n → ⊥) → ((h : Held) → F.Known n h → ⊥) → (u : Val) → Quiet w (write_var checked i g (Ref.Global n) u)
  unfolding write_var
  left_writes_unread i g n r f d u = record { by = λ s t ti le le'. (left_keeps i (global n) u (set_global n u) (λ s t ti. global_left ti n r f d u) (λ s. global_budget F S set' n u s)).by s t ti le le' }

  -- what a write of the left alone goes to
  pub data Gone : Ctx → Ref → Type 0 where
    gone_place : {o : Option ℕ} {c m n : ℕ} {l : Level} → Above F S (innermost o c) m l → DeadAt F l n → (FixedAt F l n → ⊥) → Gone (at o c) (Ref.Frame m n)
    gone_global : {c : Ctx} {n : ℕ} → F.Unread n → (set'.Foreign n → ⊥) → ((h : Held) → F.Known n h → ⊥) → Gone c (Ref.Global n)

  pub left_sets : {w : W} (i : Spot) {c : Ctx} {g h : Env} {r : Ref} → EnvI F S set' w.w c g h → Gone c r → (u : Val) → Quiet w (write_var checked i g r u)
  left_sets i e (gone_place {n = n} a d f) u = left_writes_dead i e a n d f u
  left_sets i {g = g} e (gone_global {n = n} r f d) u = left_writes_unread i g n r f d u

  -- ---- the pairs

  -- a part that the left alone runs, before nothing on the right
  pub left_alone : {A B : Type 0} {R : W → A → B → Type 0} {w : W} {m : M A} (b : B) → Silent F S set' (λ v a. R v a b) w m → Sim T R w m (ret b)
  left_alone {R = R} {w = w} {m = m} b h = subst (λ z. Sim T R w z (ret b)) (bind_ret m) (L.rel_left T tt h (λ v l a q. K.rel_ret a b q))

  module _ (X : Below K) (c : Ctx) where
    open X use {B, B', w}

    abbrev Env2 : W → Env → Env → Type 0
    Env2 v g g' = EnvI F S set' v.w c g g'

    later_env : {u v : W} {g g' : Env} → Later T u v → Env2 u g g' → Env2 v g g'
    later_env l e = env_more F S set' l.2 e

    go_on : {v : W} {m m' : M Comp} → Sim T (CompV K) v m m' → (k : Comp) → k ≡ normal → Sim T (CompV K) v (next k m) m'
    unfolding next
    go_on h k e = rw e h

    -- a statement that the left alone runs, to a normal end
    pub record Idle (ls : List (List ℕ)) (s : Stmt) : Type 0 where
      pub by : (v : W) → Later T w v → (g g' : Env) → Env2 v g g' → Silent F S set' (λ u k. k ≡ normal) v (ex checked B g ls s)

    pub idle_goes : {ls : List (List ℕ)} {s : Stmt} {ss ss' : Stmts} → Idle ls s → FollowsStmts K X c ls ss ss' → FollowsStmts K X c ls (more_stmts s ss) ss'
    unfolding ex
    idle_goes {ls = ls} h k = record { by = λ v l g g' e. L.rel_left T tt (h.by v l g g' e) (λ v2 l2 x q. go_on (k.by v2 (later T l l2) g g' (later_env l2 e)) x q) }

    ends_normal : {A : Type 0} {v : W} {m : M A} → Quiet v m → Silent F S set' (λ u k. k ≡ normal) v (m >>= λ _. ret normal)
    ends_normal h = on h (λ v l a. L.silent_ret T tt normal refl)

    -- a pure expression
    pub pure_idle : {ls : List (List ℕ)} {i : ℕ} {e : Expr} → IsPure e → Idle ls (simple i e)
    unfolding ex value_at
    pure_idle h = record { by = λ v l g g' e. ends_normal (left_pure_value F S set' B g h None v) }

    -- the declaration of a function, which was bound before
    pub declared_idle : {ls : List (List ℕ)} {i f : ℕ} {r : Ref} → Idle ls (fun_decl i r f)
    unfolding ex
    declared_idle = record { by = λ v l g g' e. L.silent_ret T tt normal refl }

    -- .. and is bound on the left alone
    pub function_goes : {i f : ℕ} {r : Ref} {ss ss' : Stmts} → Gone c r → FollowsHoist K X c ss ss' → FollowsHoist K X c (more_stmts (fun_decl i r f) ss) ss'
    unfolding hoist hoist_one
    function_goes {i = i} {f = f} d k = record { by = λ v l g g' e. L.rel_left T tt (on (left_function F S set' f i g) (λ v2 l2 x. left_sets (at_site i) (later_env l2 e) d x)) (λ v3 l3 _ _. k.by v3 (later T l l3) g g' (later_env l3 e)) }

    -- a statement that declares no function
    pub other_hoist : (s : Stmt) {ss ss' : Stmts} → declares_function s ≡ Rattle.std.proofs.Common.false → FollowsHoist K X c ss ss' → FollowsHoist K X c (more_stmts s ss) ss'
    unfolding hoist
    other_hoist s d k = record { by = λ v l g g' e. L.rel_left T tt (subst (λ z. Quiet v z) (sym (hoists_nothing checked g s d)) (quiet tt)) (λ v2 l2 _ _. k.by v2 (later T l l2) g g' (later_env l2 e)) }

    -- a price, which stays
    pub priced_goes : {ls : List (List ℕ)} {i j k p : ℕ} {e : Expr} → IsPure e → FollowsStmt K X c ls (simple i (tick j p e)) (pay_stmt k p)
    unfolding ex value_at
    priced_goes {i = i} {j = j} {p = p} {e = x} h = record {
      by = λ v l g g' e.
          subst (λ z. Sim T (CompV K) v (z >>= λ _. ret normal) (checked.mark p >>= λ _. ret normal)) (sym (tick_value checked B g None j p x))
          (subst (λ z. Sim T (CompV K) v z (checked.mark p >>= λ _. ret normal)) (sym (bind_assoc (checked.mark p) (λ _. value checked B (ev checked B g None x)) (λ _. ret normal)))
          (K.rel_bind (K.rel_mark p) (λ v2 l2 _ _ _. left_alone normal (on (left_pure_value F S set' B g h None v2) (λ v3 l3 y. L.silent_ret T tt normal Rattle.cc_tied.specs.Tied.normal_t)))));
    }

    -- a declarator loses its pure value
    pub value_goes : {i : ℕ} {r : Ref} {e : Expr} → Gone c r → IsPure e → FollowsSet K X c (record { site = i; variable = r; value = Some e }) (record { site = i; variable = r; value = None })
    unfolding set_variable
    value_goes {i = i} {r = r} d h = record { by = λ v l g g' e. left_alone tt (on (left_pure_value F S set' B g h (path_of_ref r) v) (λ v2 l2 x. left_sets (at_site i) (later_env l2 e) d x)) }

    -- .. and goes
    pub declarator_goes : {i : ℕ} {r : Ref} {ds ds' : List Declarator} → FollowsDecls K X c ds ds' → FollowsDecls K X c (record { site = i; variable = r; value = None } ∷ ds) ds'
    unfolding declare set_variable
    declarator_goes k = record { by = λ v l g g' e. L.rel_left T tt (quiet tt) (λ v2 l2 _ _. k.by v2 (later T l l2) g g' (later_env l2 e)) }

    pub pure_declarator_goes : {i : ℕ} {r : Ref} {e : Expr} {ds ds' : List Declarator} → Gone c r → IsPure e → FollowsDecls K X c ds ds' → FollowsDecls K X c (record { site = i; variable = r; value = Some e } ∷ ds) ds'
    unfolding declare set_variable
    pure_declarator_goes {i = i} {r = r} d h k = record { by = λ v l g g' e. L.rel_left T tt (on (left_pure_value F S set' B g h (path_of_ref r) v) (λ v2 l2 x. left_sets (at_site i) (later_env l2 e) d x)) (λ v2 l2 _ _. k.by v2 (later T l l2) g g' (later_env l2 e)) }

  -- .. in a chunk's own list
  module _ (X : Below K) (n : ℕ) where
    open X use {B, B', w}

    pub idle_goes_of_chunk : {s : Stmt} {ss ss' : Stmts} → Idle X (at None 0) [] s → FollowsChunk K X n ss ss' → FollowsChunk K X n (more_stmts s ss) ss'
    unfolding ex_chunk
    idle_goes_of_chunk {s = s} h k = record { by = λ v l q. L.rel_left T tt (silent_tables F S set' _ (h.by v l _ _ (Rattle.cc_tied.proofs.Injection.Tie.env_top F S set' (record { keeps = λ f e. e })))) (λ v2 l2 x e. go_on X (at None 0) (k.by v2 (later T l l2) (K.loaded_later l2 q)) x e) }
