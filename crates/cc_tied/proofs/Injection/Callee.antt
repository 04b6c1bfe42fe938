-- A callee of the left, where a global that holds a function stands for it on the right; and the call of that function.
use Rattle.std.proofs.Common.{◌≡◌, ℕ, false, List, Option, Some, None, sym, ap, subst, ◌∙◌}
use Rattle.std.specs.Prelude.{slice_get}
use Rattle.cc_ast.specs.Syntax.{Prim, undefined, var}
use Rattle.cc_ast.specs.declared.tree.Ref.{Ref}
use Rattle.cc_meaning.specs.Values.{Val, prim, obj, Spot, at_site}
use Rattle.cc_meaning.specs.Builtins.{or_undefined}
use Rattle.cc_meaning.specs.State.{Code, Obj, Env, State, Tables}
use Rattle.cc_meaning.specs.Monad.{M, ret, with_tables}
use Rattle.cc_meaning.specs.Store.{of_chunk, global_kind, flat_option}
use Rattle.cc_meaning.specs.Rules.{callee_rule}
use Rattle.cc_meaning.specs.Judge.{least_broken}
use Rattle.cc_meaning.specs.Acts.{judged, allowed, refused, is_fatal, global_value, read_var}
use Rattle.cc_meaning.specs.Calls.{Reference, Reach, plain, Bodies, code_in, code_at, begin, begin_at, call_object, call_value}
use Rattle.cc_meaning.specs.Meaning.{reach_global, reach_var, ev}
use Rattle.cc_meaning.specs.Script.{checked}
use Rattle.cc_meaning.specs.Alike.{In}
use Rattle.cc_tied.specs.Tied.{ReachT, plain_t}
use Rattle.cc_tied.specs.Facts.{holds_function, Facts}
use Rattle.cc_tied.specs.Injection.{Both, both}
use Rattle.cc_tied.proofs.Kit.{Kit}
use Rattle.cc_tied.proofs.Parts.{ReachV}
use Rattle.cc_tied.proofs.RightRuns.{Gives, gives_ret, gives_then}
use Rattle.cc_tied.proofs.Sim.{Tie, World, ResT, Sim}
use Rattle.cc_tied.proofs.Upkeep.{runs_some}
use Rattle.cc_tied.proofs.Left as L
use Rattle.cc_tied.proofs.Injection.World.{Tabs, Ext, Vals, ObjT, FunctionAt, no_function, a_function, KnownT, function_k}
use Rattle.cc_tied.proofs.Injection.Tie.{Other, with_set, TiedI, inject}
use Rattle.cc_tied.proofs.Injection.Acts.{stopped_left}
use Rattle.cc_tied.proofs.Injection.Frames.{undefined_tied}
use Rattle.cc_tied.proofs.Injection.Arguments.{val_one}
use Rattle.cc_tied.proofs.Injection.Globals.{GlobalRead, read_set, global_gives, reach_once, Back, back_now}
use Rattle.cc_tied.proofs.Injection.Back.{left_pays}
use Rattle.cc_tied.proofs.Injection.Left.{Silent}
use Rattle.cc_tied.proofs.Injection.Upkeep.{inject_kit}

module _ (F : Facts) (S : Tables) (set' : Other S) where
  abbrev Right : Tables
  Right = with_set S set'

  abbrev T : Tie
  T = inject F S set'

  abbrev W : Type 0
  W = World T

  abbrev K : Kit
  K = inject_kit F S set'

  abbrev Tied : Tabs → State → State → Type 0
  Tied = TiedI F S set'

  -- ---- the callee

  -- the object of this function, or nothing that can be called
  pub data CalleeI (w : Tabs) (f : ℕ) : Reach → Type 0 where
    callee_unset : CalleeI w f (plain (prim undefined))
    callee_function : {c : Code} {m n : ℕ} → c.function ≡ f → In (record { label = Some c; left = m; right = n }) w.objs → CalleeI w f (plain (obj m))

  pub callee_more : {v w : Tabs} → Ext v w → {f : ℕ} {r : Reach} → CalleeI v f r → CalleeI w f r
  callee_more l callee_unset = callee_unset
  callee_more l (callee_function e h) = callee_function e (l.objs _ h)

  data CalleeRead (t : State) (n c : ℕ) : Reach → Type 0 where
    callee_read : {v : Val} → GlobalRead F S set' t n (of_chunk c) v → CalleeRead t n c (plain v)

  kind_same : (T : Tables) (n c : ℕ) → T ≡ Right → (set'.Foreign n → ⊥) → global_kind S n ≡ of_chunk c → global_kind T n ≡ of_chunk c
  kind_same T n c e f d = ap (λ z. global_kind z n) e ∙ sym (set'.kinds n f) ∙ d

  right_callee : {w : Tabs} {s t : State} → Tied w s t → (B : Bodies) (h : Env) (i n c : ℕ) → (set'.Foreign n → ⊥) → global_kind S n ≡ of_chunk c → Gives (CalleeRead t n c) 0 t (ev checked B h None (var i (Ref.Global n)) t)
  unfolding ev reach_var with_tables read_var
  right_callee {t = t} ti B h i n c fo e =
      let d = kind_same t.tables n c ti.tables' fo e in
      subst (λ z. Gives (CalleeRead t n c) 0 t (reach_global checked i h n z t)) (sym d)
      (subst (λ z. Gives (CalleeRead t n c) 0 t (z t)) (sym (reach_once F S set' h i n (of_chunk c) (λ b q. absurd (cc))))
      (gives_then (read_var checked (at_site i) h (Ref.Global n)) (λ v. ret (plain v))
      (subst (λ z. Gives (GlobalRead F S set' t n (of_chunk c)) 0 t (Rattle.cc_meaning.specs.Acts.read_global checked (at_site i) n z t)) (sym d) (global_gives F S set' (at_site i) t n ti.tables' (of_chunk c)))
      (λ v b q. gives_ret (plain v) (callee_read q))))

  callee_by : {w : Tabs} {f : ℕ} {o : Option Val} → FunctionAt w f o → CalleeI w f (plain (or_undefined o))
  unfolding or_undefined
  callee_by no_function = callee_unset
  callee_by (a_function e h) = callee_function e h

  function_of : {w : Tabs} {x : List (Option Val)} {g f : ℕ} {o : Option Val} → KnownT w x g (holds_function f) o → FunctionAt w f o
  function_of (function_k h e) = h

  callee_back : {w : Tabs} {s t : State} (n b : ℕ) {c f : ℕ} {X : Reference → Reference → Type 0} {r r' : Reach} → Tied w s (record t { budget = b }) → F.Known n (holds_function f) → (F.Unread n → ⊥) → CalleeRead t n c r' → ReachT (λ i j. Unit {0}) (Vals w) X r r' → Back F S set' (λ u y. CalleeI u f y) w s (record t { budget = b }) r
  unfolding global_value
  callee_back {w = w} {s = s} n b {f = f} ti k u (callee_read (read_set l d)) (plain_t {v = x} q) =
      let e : x ≡ or_undefined (flat_option (slice_get s.globals n)) = val_one F S set' ti q (undefined_tied (ti.globals.each n u)) in
      back_now F S set' (plain x) ti (subst (λ z. CalleeI w f (plain z)) (sym e) (callee_by (function_of (ti.known n (holds_function f) k))))

  -- a callee that is followed by such a global
  pub callee_silent : {w : W} (B : Bodies) (h : Env) (i n c f : ℕ) {m : M Reach} → F.Known n (holds_function f) → (F.Unread n → ⊥) → (set'.Foreign n → ⊥) → global_kind S n ≡ of_chunk c → Sim T (ReachV K) w m (ev checked B h None (var i (Ref.Global n))) → Silent F S set' (λ v r. CalleeI v.w f r) w m
  callee_silent {w = w} B h i n c f k u fo e m = record { by = λ s t ti le le'. L.alone_paid T tt (left_pays F S set' {R = ReachV K} {Q = λ u y. CalleeI u f y} {P = CalleeRead t n c} {q = 0} {w = w} {t = t} (λ v s2 r r' b l ti2 q p. callee_back n b ti2 k u p q) (right_callee ti B h i n c fo e) (m s t ti le le')) }

  -- ---- its call

  pub unset_called : {A : Type 0} {R : W → Val → A → Type 0} {w : W} (B : Bodies) (i : Spot) (vs : List Val) (m' : M A) → Sim T R w (call_value checked B i (prim undefined) None vs) m'
  unfolding call_value judged allowed refused is_fatal least_broken callee_rule
  unset_called B i vs m' = stopped_left F S set' 3 i m'

  code_found : {c : Code} {w : Tabs} {a b : Option Obj} → Both (ObjT F S w (Some c)) a b → code_in a ≡ Some c
  unfolding code_in
  code_found (both h) = h.label

  code_there : {c : Code} {w : Tabs} {s t : State} {m n : ℕ} → Tied w s t → In (record { label = Some c; left = m; right = n }) w.objs → code_at s m ≡ Some c
  unfolding code_at
  code_there ti h = code_found (ti.objs.tied _ h)

  pub function_called : {A : Type 0} {R : W → Val → A → Type 0} {w : W} (B : Bodies) (i : Spot) (vs : List Val) {m' : M A} {c : Code} {m n : ℕ} → In (record { label = Some c; left = m; right = n }) w.w.objs → Sim T R w (begin checked B i c false None vs) m' → Sim T R w (call_value checked B i (obj m) None vs) m'
  unfolding call_value call_object begin_at
  function_called {R = R} {w = w} B i vs {m' = m'} {c = c} {m = m} h k s t ti le le' =
      subst (λ z. ResT T R w z (m' t)) (sym (runs_some checked i m (λ o. begin_at checked B i o None vs) s c (code_there ti h))) (k s t ti le le')
