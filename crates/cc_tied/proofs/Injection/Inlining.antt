-- A call of a known function whose body is one `return` becomes a copy of what it returns, with the price of the call.
use Rattle.std.proofs.Common.{Bool, ◌≡◌, ℕ, zero, suc, ◌<◌, ◌≤◌, ◌+◌, false, List, [], ◌++◌, Option, Some, None, refl, sym, ap, subst, ◌∙◌, arith}
use Rattle.std.specs.Prelude.{slice_get}
use Rattle.cc_ast.specs.Syntax.{Prim, undefined, Expr, var, call, tick, Exprs, return, no_stmts, more_stmts, Program}
use Rattle.cc_ast.specs.declared.tree.Ref.{Ref}
use Rattle.cc_meaning.specs.Values.{Val, prim, obj, Spot, at_site}
use Rattle.cc_meaning.specs.Builtins.{or_undefined}
use Rattle.cc_meaning.specs.State.{Code, of_call, Frame, Env, Path, Tables}
use Rattle.cc_meaning.specs.Monad.{M, ret, ◌>>=◌, pay}
use Rattle.cc_meaning.specs.Store.{of_chunk, global_kind, flat_option, arguments, fitted}
use Rattle.cc_meaning.specs.Typed.{params_in, result_in, function_doc}
use Rattle.cc_meaning.specs.Judge.{enters, leaves}
use Rattle.cc_meaning.specs.Calls.{Reach, plain, called_value, Bodies, value, begin, callee_of, apply}
use Rattle.cc_meaning.specs.Shapes.{body_of}
use Rattle.cc_meaning.specs.Meaning.{head_in, value_at, ev, evs, call_frame, bodies}
use Rattle.cc_meaning.specs.Script.{checked}
use Rattle.cc_meaning.specs.Alike.{In}
use Rattle.cc_tied.specs.Tied.{entering, leaving}
use Rattle.cc_tied.specs.Facts.{holds_function, Facts}
use Rattle.cc_tied.specs.Inlined.{argument, copy, IsCopyable}
use Rattle.cc_tied.specs.Placed.{accesses, builds, reaches}
use Rattle.cc_tied.proofs.AtValues.{tick_value}
use Rattle.cc_tied.proofs.Valued as Vd
use Rattle.cc_tied.proofs.Nodes.{SameTables}
use Rattle.cc_tied.proofs.Injection.Copies.{copies, copies_plain}
use Rattle.cc_tied.proofs.Kit.{Kit}
use Rattle.cc_tied.proofs.Parts.{V, Below, BodiesT}
use Rattle.cc_tied.proofs.Laws.{bind_ret}
use Rattle.cc_tied.proofs.Expressions as E
use Rattle.cc_tied.proofs.Turns.{AllBodiesT, below_of}
use Rattle.cc_tied.proofs.OneReturn.{call_value_is, plain_callee, begin_is, one_return}
use Rattle.cc_tied.proofs.Sim.{Tie, World, Later, now, later, Sim, sim_as, sim_bind, sim_ret, sim_pay_less}
use Rattle.cc_tied.proofs.Left as L
use Rattle.cc_tied.proofs.Injection.World.{Tabs, val_more}
use Rattle.cc_tied.proofs.Injection.Tie.{Other, Ctx, inlined, EnvI, env_inlined, env_more, ArgI, inject}
use Rattle.cc_tied.proofs.Injection.Left.{Silent, silent_judged, silent_tables, left_receives, left_receives_each, left_pushes}
use Rattle.cc_tied.proofs.Injection.Back.{AreArguments, ArgsI, no_args, more_args, args_more, args_pay, literal_arg}
use Rattle.cc_tied.proofs.Injection.Callee.{CalleeI, callee_unset, callee_function, callee_more, callee_silent, unset_called, function_called}
use Rattle.cc_tied.proofs.Injection.Upkeep.{inject_kit}

module _ (F : Facts) (S : Tables) (set' : Other S) where
  abbrev T : Tie
  T = inject F S set'

  abbrev W : Type 0
  W = World T

  abbrev K : Kit
  K = inject_kit F S set'

  -- ---- the frame of the call

  arguments_given : {w : Tabs} {h : Env} (p : ℕ) {bs : Exprs} {vs : List Val} (more : List (Option Val)) → ArgsI F S set' w h bs vs → (i n : ℕ) → n < p → ArgI F S set' w h (argument i bs n) (or_undefined (flat_option (slice_get (arguments p vs ++ more) n)))
  unfolding argument arguments or_undefined flat_option
  arguments_given zero more a i n less = absurd (omega (arith, less))
  arguments_given (suc p) more no_args i zero less = literal_arg F S set' i undefined
  arguments_given (suc p) more no_args i (suc n) less = arguments_given p more no_args i n (omega (arith, less))
  arguments_given (suc p) more (more_args a r) i zero less = a
  arguments_given (suc p) more (more_args a r) i (suc n) less = arguments_given p more r i n (omega (arith, less))

  fitted_given : {w : Tabs} {h : Env} (p names : ℕ) {bs : Exprs} {vs : List Val} → ArgsI F S set' w h bs vs → (i n : ℕ) → n < p → ArgI F S set' w h (argument i bs n) (or_undefined (flat_option (slice_get (fitted p names vs) n)))
  unfolding fitted
  fitted_given p names a i n less = arguments_given p _ a i n less

  abbrev frame_of : Code → List Val → Frame
  frame_of c vs = record { kind = of_call c.function; up = c.up; values = fitted (head_in (slice_get S.heads c.function)).0 (head_in (slice_get S.heads c.function)).1 vs }

  frame_pushed : {w : W} (c : Code) (vs : List Val) → Silent F S set' (λ v n. In (record { place = n; entry = frame_of c vs }) v.w.alone) w (call_frame checked c vs)
  unfolding call_frame
  frame_pushed c vs = silent_tables F S set' _ (left_pushes F S set' (of_call c.function) c.up (fitted (head_in (slice_get S.heads c.function)).0 (head_in (slice_get S.heads c.function)).1 vs))

  entering_alone : {w : W} (i : Spot) (f : ℕ) (vs : List Val) → Silent F S set' (λ v a. Unit {0}) w (entering checked i f None vs)
  entering_alone i f vs = silent_judged F S set' i (enters f None vs) _ (silent_tables F S set' _ (left_receives_each F S set' (params_in (function_doc S f)) vs))

  leaving_alone : {w : W} (i : Spot) (f : ℕ) (x : Val) → Silent F S set' (λ v a. Unit {0}) w (leaving checked i f false x)
  leaving_alone i f x = silent_judged F S set' i (leaves f false x) _ (silent_tables F S set' _ (left_receives F S set' (result_in (function_doc S f)) x))

  -- the call of a function of one `return`, and a part of the right that does what its expression does in such a frame
  module _ (P Q : Program) (f j params : ℕ) (e : Expr) (body : body_of P f ≡ more_stmts (return j (Some e)) no_stmts) (heads : (head_in (slice_get S.heads f)).0 ≡ params)
      (d d' : ℕ) (w : W) (ld : w.l ≤ d) (ld' : w.r ≤ d') (all : AllBodiesT K P Q w) (bs : Exprs)
      (A : Type 0) (R : W → Val → A → Type 0) (R_later : (u v : W) → Later T u v → (x : Val) (y : A) → R u x y → R v x y) (Target : Env → M A)
      (follows : (b : ℕ) (u : W) → BodiesT K u (bodies checked P b) (bodies checked Q d') → (g h : Env) → EnvI F S set' u.w (inlined params bs) g h → Sim T R u (value_at checked (bodies checked P b) g e) (Target h)) where
    params_given : {v : Tabs} {h : Env} {vs : List Val} (c : Code) → c.function ≡ f → ArgsI F S set' v h bs vs → (i n : ℕ) → n < params → ArgI F S set' v h (argument i bs n) (or_undefined (flat_option (slice_get (frame_of c vs).values n)))
    params_given c q a i n less =
        let k : (head_in (slice_get S.heads c.function)).0 ≡ params = ap (λ z. (head_in (slice_get S.heads z)).0) q ∙ heads in
        fitted_given (head_in (slice_get S.heads c.function)).0 (head_in (slice_get S.heads c.function)).1 a i n (subst (λ z. n < z) (sym k) less)

    in_frame : (b : ℕ) (v : W) → v.l ≤ w.l → v.l ≤ b → v.r ≤ d' → {h : Env} {vs : List Val} (c : Code) → c.function ≡ f → ArgsI F S set' v.w h bs vs → Sim T R v (call_frame checked c vs >>= λ n. value_at checked (bodies checked P b) (record { at = Some n; this = None; declares = [] }) e >>= λ x. leaving checked (at_site j) c.function false x >>= λ _. ret x) (Target h)
    in_frame b v le lb lb' {h = h} {vs = vs} c q a =
        L.rel_left T tt (frame_pushed c vs) (λ u k n p.
        let tied : BodiesT K u (bodies checked P b) (bodies checked Q d') = all u b d' (omega (arith, k.0, le)) (omega (arith, k.0, lb)) (omega (arith, k.1, lb')) in
        let g : Env = record { at = Some n; this = None; declares = [] } in
        let en : EnvI F S set' u.w (inlined params bs) g h = env_inlined refl refl p (params_given c q (args_more F S set' k.2 a)) in
        subst (λ z. Sim T R u (value_at checked (bodies checked P b) g e >>= λ x. leaving checked (at_site j) c.function false x >>= λ _. ret x) z) (bind_ret (Target h))
        (sim_bind T {R = R} (follows b u tied g h en) (λ u2 k2 x y c2.
        L.rel_left T tt (leaving_alone (at_site j) c.function x) (λ u3 k3 _ _. sim_ret T x y (R_later u2 u3 k3 x y c2)))))

    deeper : (z : ℕ) → d ≡ z → (v : W) → suc v.l ≤ w.l → v.r ≤ d' → {h : Env} {vs : List Val} (c : Code) → c.function ≡ f → ArgsI F S set' v.w h bs vs → Sim T R v (bodies checked P z c None vs >>= λ r. leaving checked (at_site r.site) c.function false r.value >>= λ _. ret r.value) (Target h)
    deeper zero ez v less lr c q a = absurd (omega (arith, less, ld))
    deeper (suc b) ez v less lr {h = h} {vs = vs} c q a =
        subst (λ m. Sim T R v m (Target h)) (sym (one_return checked P f j e body b c None vs (λ r. leaving checked (at_site r.site) c.function false r.value >>= λ _. ret r.value) q))
        (in_frame b v (omega (arith, less)) (omega (arith, less, ld)) lr c q a)

    entered : (i : Spot) (v : W) → v.l ≤ w.l → v.r ≤ w.r → {h : Env} {vs : List Val} (c : Code) → c.function ≡ f → ArgsI F S set' v.w h bs vs → Sim T R v (begin checked (bodies checked P d) i c false None vs) (pay 1 >>= λ _. Target h)
    entered i v le le' {h = h} {vs = vs} c q a =
        subst (λ m. Sim T R v m (pay 1 >>= λ _. Target h)) (sym (begin_is checked (bodies checked P d) i c None vs))
        (L.rel_left T tt (entering_alone i c.function vs) (λ u k _ _.
        sim_pay_less T (λ u2 k2 less less'.
        deeper d refl u2 (omega (arith, less, k.0, le)) (omega (arith, less', k.1, le', ld')) c q (args_more F S set' k2.2 (args_more F S set' k.2 a)))))

    applied : (i : ℕ) (v : W) → v.l ≤ w.l → v.r ≤ w.r → {h : Env} {vs : List Val} {x : Val} → CalleeI F S set' v.w f (plain x) → ArgsI F S set' v.w h bs vs → Sim T R v (apply checked (bodies checked P d) (at_site i) (called_value x None) vs) (pay 1 >>= λ _. Target h)
    unfolding apply
    applied i v le le' {h = h} {vs = vs} callee_unset a = unset_called F S set' (bodies checked P d) (at_site i) vs (pay 1 >>= λ _. Target h)
    applied i v le le' {vs = vs} (callee_function {c = co} q h) a = function_called F S set' (bodies checked P d) (at_site i) vs h (entered (at_site i) v le le' co q a)

    module _ (q : ℕ) (c : Ctx) (v : W) (l : Later T w v) (g h : Env) (en : EnvI F S set' v.w c g h) (es : Exprs) (ls : Exprs) (marks : AreArguments F S c q es bs) (tied : BodiesT K w (bodies checked P d) (bodies checked Q d')) (args : E.FollowsAll K (below_of K P Q d d' w tied) c ls es) where
      abbrev BP : Bodies
      BP = bodies checked P d

      by_value : (i : ℕ) (u : W) → Later T v u → (x : Val) → CalleeI F S set' u.w f (plain x) → Sim T R u (callee_of checked BP (plain x) >>= λ z. evs checked BP g ls >>= λ vs. apply checked BP (at_site i) z vs) (pay (q + 1) >>= λ _. Target h)
      by_value i u k x ci =
          let lu : Later T w u = later T l k in
          let eu : EnvI F S set' u.w c g h = env_more F S set' k.2 en in
          subst (λ m. Sim T R u m (pay (q + 1) >>= λ _. Target h)) (sym (plain_callee checked BP x (λ z. evs checked BP g ls >>= λ vs. apply checked BP (at_site i) z vs)))
          (L.rel_pays T tt q (Target h) (args_pay F S set' (bodies checked Q d') eu marks (args.by u lu g h eu)) (λ u2 k2 vs a.
          applied i u2 (omega (arith, lu.0, k2.0)) (omega (arith, lu.1, k2.1)) (callee_more F S set' k2.2.ext ci) a))

      by_callee : (i : ℕ) (u : W) → Later T v u → (r : Reach) → CalleeI F S set' u.w f r → Sim T R u (callee_of checked BP r >>= λ z. evs checked BP g ls >>= λ vs. apply checked BP (at_site i) z vs) (pay (q + 1) >>= λ _. Target h)
      by_callee i u k _ callee_unset = by_value i u k (prim undefined) callee_unset
      by_callee i u k _ (callee_function {m = m} p z) = by_value i u k (obj m) (callee_function p z)

      -- the call pays the price of its arguments and its own
      pub called : (i i2 n cn : ℕ) (fe : Expr) (p : Option Path) → F.Known n (holds_function f) → (F.Unread n → ⊥) × (set'.Foreign n → ⊥) → global_kind S n ≡ of_chunk cn → E.FollowsRef K (below_of K P Q d d' w tied) c None None fe (var i2 (Ref.Global n)) → Sim T R v (value checked BP (ev checked BP g p (call i fe ls))) (pay (q + 1) >>= λ _. Target h)
      called i i2 n cn fe p k u e hf =
          subst (λ m. Sim T R v m (pay (q + 1) >>= λ _. Target h)) (sym (call_value_is checked BP g p i fe ls))
          (L.rel_left T tt (callee_silent F S set' (bodies checked Q d') h i2 n cn f k u.0 u.1 e (hf.by v l g h en)) (λ u2 k2 r cr. by_callee i u2 k2 r cr))

  -- the pair of a call and the copy with its price, as a step over the call's parts
  module _ (P Q : Program) (f j params : ℕ) (e : Expr) (body : body_of P f ≡ more_stmts (return j (Some e)) no_stmts) (heads : (head_in (slice_get S.heads f)).0 ≡ params)
      (built : Ref → Bool) (same : (X : Below K) → SameTables K X built) (Reads : ℕ → Type 0) (read : (n : ℕ) → Reads n → (F.Unread n → ⊥) × (set'.Foreign n → ⊥)) (able : IsCopyable params Reads e)
      (d d' : ℕ) (w : W) (ld : w.l ≤ d) (ld' : w.r ≤ d') (all : AllBodiesT K P Q w) (tied : BodiesT K w (bodies checked P d) (bodies checked Q d')) where
    abbrev X : Below K
    X = below_of K P Q d d' w tied

    abbrev BQ : Bodies
    BQ = bodies checked Q d'

    lower : (b : ℕ) (u : W) → BodiesT K u (bodies checked P b) (bodies checked Q d') → Below K
    lower b u t = below_of K P Q b d' u t

    value_follows : (bs : Exprs) (b : ℕ) (u : W) → BodiesT K u (bodies checked P b) (bodies checked Q d') → (g h : Env) → EnvI F S set' u.w (inlined params bs) g h → Sim T (V K) u (value_at checked (bodies checked P b) g e) (value checked BQ (ev checked BQ h None (copy bs e)))
    unfolding value_at
    value_follows bs b u t g h en = let X2 : Below K = below_of K P Q b d' u t in (E.as_value K X2 (inlined params bs) (copies F S set' X2 built (same X2) params bs Reads read able None None)).by u (now T u) g h en

    plain_again : (X2 : Below K) {u : W} {x : Val} {r : Reach} → Vd.PlainT K X2 built u x r → Vd.PlainT K X built u x r
    plain_again X2 (Vd.plain_p h) = Vd.plain_p h

    plain_follows : (bs : Exprs) → reaches built (copy bs e) ≡ false → (b : ℕ) (u : W) → BodiesT K u (bodies checked P b) (bodies checked Q d') → (g h : Env) → EnvI F S set' u.w (inlined params bs) g h → Sim T (Vd.PlainT K X built) u (value_at checked (bodies checked P b) g e) (ev checked BQ h None (copy bs e))
    unfolding value_at
    plain_follows bs r b u t g h en = let X2 : Below K = below_of K P Q b d' u t in sim_as T (λ v l x y p. plain_again X2 p) ((copies_plain F S set' X2 built (same X2) params bs Reads read able r).by u (now T u) g h en)

    plain_later : (u v : W) → Later T u v → (x : Val) (y : Reach) → Vd.PlainT K X built u x y → Vd.PlainT K X built v x y
    plain_later u v l x _ (Vd.plain_p h) = Vd.plain_p (val_more l.2.ext _ _ h)

    module _ (c : Ctx) (i i' i2 n cn q : ℕ) (fe : Expr) (ls es bs : Exprs) (known : F.Known n (holds_function f)) (read_n : (F.Unread n → ⊥) × (set'.Foreign n → ⊥)) (kind : global_kind S n ≡ of_chunk cn) (callee : E.FollowsRef K X c None None fe (var i2 (Ref.Global n))) (args : E.FollowsAll K X c ls es) (marks : AreArguments F S c q es bs) where
      values : (p p' : Option Path) → E.FollowsAs K X (V K) c p p' (call i fe ls) (tick i' (q + 1) (copy bs e))
      values p p' = record {
        by = λ v l g h en.
            subst (λ z. Sim T (V K) v (value checked (bodies checked P d) (ev checked (bodies checked P d) g p (call i fe ls))) z) (sym (tick_value checked BQ h p' i' (q + 1) (copy bs e)))
            (called P Q f j params e body heads d d' w ld ld' all bs Val (V K) (λ u v l x y h. val_more l.2.ext x y h) (λ h. value checked BQ (ev checked BQ h None (copy bs e))) (value_follows bs) q c v l g h en es ls marks tied args i i2 n cn fe p known read_n kind callee);
      }

      plainly : reaches built (copy bs e) ≡ false → Vd.FollowsPlain K X built c (call i fe ls) (tick i' (q + 1) (copy bs e))
      unfolding ev
      plainly r = record {
        by = λ v l g h en.
            called P Q f j params e body heads d d' w ld ld' all bs Reach (Vd.PlainT K X built) plain_later (λ h. ev checked BQ h None (copy bs e)) (plain_follows bs r) q c v l g h en es ls marks tied args i i2 n cn fe None known read_n kind callee;
      }

      pub inlines : Vd.FollowsValue K X built c (call i fe ls) (tick i' (q + 1) (copy bs e))
      unfolding reaches accesses builds
      inlines = record { site = tt; values = values; plain = λ r. plainly r }
