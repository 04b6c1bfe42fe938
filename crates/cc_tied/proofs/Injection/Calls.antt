-- New frames, flat paths, casts and the acts of calls keep the injection.
use Rattle.std.proofs.Common.{◌≡◌, ℕ, suc, Bool, true, false, List, [], ◌∷◌, ◌++◌, length, Option, Some, None, refl, sym, ap, subst, ◌∙◌, arith}
use Rattle.std.specs.Prelude.{slice_get}
use Rattle.cc_ast.specs.Syntax.{Prim}
use Rattle.cc_ast.specs.declared.tables.TypeSet.{TypeSet}
use Rattle.cc_meaning.specs.Values.{Val, obj, Spot}
use Rattle.cc_meaning.specs.State.{Code, FrameKind, of_call, of_catch, Frame, Env, State, Tables}
use Rattle.cc_meaning.specs.Monad.{ret, skip, marks, with_tables}
use Rattle.cc_meaning.specs.Store.{Access, name_of, has_name, code_class_from, class_of_function, fitted}
use Rattle.cc_meaning.specs.Typed.{flat, class_in, of_opt_type, receiver_in, params_in, result_in, value_in, function_doc, doc_at}
use Rattle.cc_meaning.specs.Rules.{extends_class, is_instance, runs_on, receiver_fits, all_fit, enter_rule, is_prim, builds_well, leave_rule, cast_rule}
use Rattle.cc_meaning.specs.Judge.{takes, enters, leaves, casts, least_broken}
use Rattle.cc_meaning.specs.Acts.{judged, receive, receive_each, push_frame, is_there, cast_to}
use Rattle.cc_meaning.specs.Calls.{take_path, keep_path}
use Rattle.cc_meaning.specs.Meaning.{head_in, call_frame}
use Rattle.cc_meaning.specs.Script.{checked}
use Rattle.cc_meaning.specs.Alike.{In, here, there}
use Rattle.cc_tied.specs.Tied.{ListT, nil_t, cons_t, OptT, none_t, some_t, prim_t, out_t, obj_t, entering, leaving}
use Rattle.cc_tied.specs.Facts.{called, caught, Facts, frame_kind, innermost, outward}
use Rattle.cc_tied.specs.Injection.{Pair}
use Rattle.cc_tied.proofs.Parts.{list_as}
use Rattle.cc_tied.proofs.Sim.{Tie, World, ResT, ok_t, Sim, fine, sim_as, sim_bind, sim_ret, sim_tables}
use Rattle.cc_tied.proofs.Injection.Table.{table_more, add_both, add_left, add_right}
use Rattle.cc_tied.proofs.Injection.Places.{places_more, places_of_list, fitted_tied}
use Rattle.cc_tied.proofs.Injection.World.{Label, Tabs, Ext, mates_more, Vals, val_more, opt_more, UpT, an_up, Codes, obj_more, FrameT, frame_more, known_more}
use Rattle.cc_tied.proofs.Injection.Tie.{Other, declares_nothing, Ctx, at, in_catch, KeyI, EnvI, env_at, env_inlined, env_nowhere, with_set, TiedI, inject}
use Rattle.cc_tied.proofs.Injection.Rules.{least_none, none_least, unless_none, none_unless, and_true, true_and}
use Rattle.cc_tied.proofs.Injection.Objects.{class_at, found_is_value, look_up_tied}
use Rattle.cc_tied.proofs.Injection.Types.{shared_flat, function_doc_same, doc_at_same, of_opt_type_same}
use Rattle.cc_tied.proofs.Injection.Acts.{judged_i, at_of, receive_t, receive_each_t}
use Rattle.cc_tied.proofs.Injection.Store.{name_in_states}
use Rattle.cc_tied.proofs.Injection.Frames.{take_then, keep_at, with_frames}

module _ (F : Facts) (S : Tables) (set' : Other S) where
  abbrev R : Tables
  R = with_set S set'

  abbrev T : Tie
  T = inject F S set'

  abbrev W : Type 0
  W = World T

  abbrev Tied : Tabs → State → State → Type 0
  Tied = TiedI F S set'

  abbrev Done : W → Unit {0} → Unit {0} → Type 0
  Done v a b = Unit {0}

  -- ---- new frames

  abbrev pub with_frame : Tabs → Pair Label → Tabs
  with_frame w p = record w { frames = p ∷ w.frames }

  pub ext_frame : (w : Tabs) (p : Pair Label) → Ext w (with_frame w p)
  ext_frame w p = record { objs = λ q h. h; frames = λ q h. there h; spare = λ q h. h; alone = λ q h. h; begun = λ c h. h }

  pub frame_added : {w : Tabs} {s t : State} (x : Label) (a b : Frame) → Tied w s t → FrameT F S w x a b → Tied (with_frame w (record { label = x; left = length s.frames; right = length t.frames })) (record s { frames = s.frames ++ a ∷ [] }) (record t { frames = t.frames ++ b ∷ [] })
  frame_added {w = w} {s = s} {t = t} x a b ti h =
      let e = ext_frame w (record { label = x; left = length s.frames; right = length t.frames }) in record {
        tables = ti.tables;
        tables' = ti.tables';
        objs = table_more ti.objs (obj_more F S e);
        owned = ti.owned;
        mated = ti.mated;
        frames = add_both (table_more ti.frames (frame_more F S e)) x a b (frame_more F S e x a b h);
        globals = places_more (val_more e) ti.globals;
        known = λ g k d. known_more e (ti.known g k d);
        loaded = ti.loaded;
        begun = ti.begun;
        failed = ti.failed;
        constructed = ti.constructed;
        handles = list_as (λ m n o. mates_more e o) ti.handles;
        replies = ti.replies;
        budget = ti.budget;
        extra = ti.extra;
      }

  -- the two frames stand for one another, in a later world
  pub record Pushed (v w : W) (x : Label) (m n : ℕ) : Type 0 where
    pub pair : In (record { label = x; left = m; right = n }) w.w.frames
    pub later : Ext v.w w.w

  pub push_t : {w : W} (x : Label) (k : FrameKind) (u u' : Option ℕ) (vs us : List (Option Val)) → FrameT F S w.w x (record { kind = k; up = u; values = vs }) (record { kind = k; up = u'; values = us }) → Sim T (λ v m n. Pushed w v x m n) w (push_frame k u vs) (push_frame k u' us)
  unfolding push_frame ret marks
  push_t {w = w} x k u u' vs us h s t ti le le' =
      let p : Pair Label = record { label = x; left = length s.frames; right = length t.frames } in
      ok_t refl (record { l = w.l; r = w.r; w = with_frame w.w p }) (omega arith, omega arith, record { ext = ext_frame w.w p; still = refl; stage = refl }) tt (record { pair = here; later = ext_frame w.w p }) (frame_added x (record { kind = k; up = u; values = vs }) (record { kind = k; up = u'; values = us }) ti h) le le'

  -- frames of which nothing is kept
  push_apart : {w : W} (k : FrameKind) (u u' : Option ℕ) (vs us : List (Option Val)) → Sim T (λ v m n. Unit {0}) w (push_frame k u vs) (push_frame k u' us)
  unfolding push_frame ret marks
  push_apart {w = w} k u u' vs us s t ti le le' = fine T _ _ tt (with_frames F S set' _ _ ti (add_right (add_left ti.frames (record { kind = k; up = u; values = vs })) (record { kind = k; up = u'; values = us }))) le le'

  -- the frame of a catch clause
  catch_label : Option ℕ → ℕ → (u u' : Option ℕ) → Val → Label
  catch_label o c u u' x = record { level = caught o c; up = u; up' = u'; first = Some x ∷ [] }

  catch_frame : {w : Tabs} (o : Option ℕ) (c : ℕ) {u u' : Option ℕ} {x y : Val} → UpT F S w (innermost o c) u u' → Vals w x y → FrameT F S w (catch_label o c u u' x) (record { kind = of_catch; up = u; values = Some x ∷ [] }) (record { kind = of_catch; up = u'; values = Some y ∷ [] })
  unfolding catch_label frame_kind outward
  catch_frame o c h v = record { kind = refl; kind' = refl; up = refl; up' = refl; around = h; places = places_of_list (cons_t (some_t v) nil_t); fixed = λ n d. absurd d }

  catch_up : {w : Tabs} (o : Option ℕ) (c : ℕ) (u u' : Option ℕ) (x : Val) {m n : ℕ} → In (record { label = catch_label o c u u' x; left = m; right = n }) w.frames → UpT F S w (innermost o (suc c)) (Some m) (Some n)
  unfolding catch_label innermost
  catch_up o c u u' x h = an_up _ refl h

  pub catch_t : {w : W} {c : Ctx} {g h : Env} {x y : Val} → EnvI F S set' w.w c g h → Vals w.w x y → Sim T (λ v m n. EnvI F S set' v.w (in_catch c) (record g { at = Some m }) (record h { at = Some n })) w (push_frame of_catch g.at (Some x ∷ [])) (push_frame of_catch h.at (Some y ∷ []))
  catch_t {x = x} {y = y} (env_at {o = o} {c = c} {g = g} {h = h} u th d) v = sim_as T (λ z l m n q. env_at (catch_up o c g.at h.at x q.pair) (opt_more q.later th) d) (push_t (catch_label o c g.at h.at x) of_catch g.at h.at (Some x ∷ []) (Some y ∷ []) (catch_frame o c u v))
  catch_t {x = x} {y = y} (env_inlined {g = g} {h = h} e d q a) v = sim_as T (λ z l m n k. env_nowhere (record { keeps = declares_nothing d })) (push_apart of_catch g.at h.at (Some x ∷ []) (Some y ∷ []))
  catch_t {x = x} {y = y} (env_nowhere {g = g} {h = h} d) v = sim_as T (λ z l m n q. env_nowhere d) (push_apart of_catch g.at h.at (Some x ∷ []) (Some y ∷ []))

  -- the frame of a call
  pub places_in : ℕ → List Val → List (Option Val)
  places_in f vs = fitted (head_in (slice_get S.heads f)).0 (head_in (slice_get S.heads f)).1 vs

  pub call_label : ℕ → (u u' : Option ℕ) → List Val → Label
  call_label f u u' vs = record { level = called f; up = u; up' = u'; first = places_in f vs }

  call_places : {w : Tabs} (f : ℕ) {u u' : Option ℕ} {vs us : List Val} → UpT F S w (outward F S (called f)) u u' → ListT (Vals w) vs us → FrameT F S w (call_label f u u' vs) (record { kind = of_call f; up = u; values = places_in f vs }) (record { kind = of_call f; up = u'; values = places_in f us })
  unfolding call_label frame_kind places_in
  call_places f h k = record { kind = refl; kind' = refl; up = refl; up' = refl; around = h; places = fitted_tied _ _ k; fixed = λ n d. refl }

  call_up : {w : Tabs} (f : ℕ) (u u' : Option ℕ) (vs : List Val) {m n : ℕ} → In (record { label = call_label f u u' vs; left = m; right = n }) w.frames → UpT F S w (innermost (Some f) 0) (Some m) (Some n)
  unfolding call_label innermost
  call_up f u u' vs h = an_up _ refl h

  frame_one : {w : W} (f i i' : ℕ) {u u' : Option ℕ} {th th' : Option Val} {vs us : List Val} → UpT F S w.w (outward F S (called f)) u u' → OptT (Vals w.w) th th' → ListT (Vals w.w) vs us → Sim T (λ v m n. EnvI F S set' v.w (at (Some f) 0) (record { at = Some m; this = th; declares = [] }) (record { at = Some n; this = th'; declares = [] })) w (call_frame checked (record { function = f; up = u; site = i }) vs) (call_frame checked (record { function = f; up = u'; site = i' }) us)
  unfolding call_frame places_in
  frame_one {w = w} f i i' {u = u} {u' = u'} {vs = vs} {us = us} h th k =
      sim_tables T _ _ (sim_as T (λ v l m n q. env_at (call_up f u u' vs q.pair) (opt_more q.later th) (record { keeps = λ z e. e })) (push_t (call_label f u u' vs) (of_call f) u u' (places_in f vs) (places_in f us) (call_places f h k)))

  pub frame_t : {w : W} {a b : Code} {th th' : Option Val} {vs us : List Val} → Codes F S w.w a b → OptT (Vals w.w) th th' → ListT (Vals w.w) vs us → Sim T (λ v m n. EnvI F S set' v.w (at (Some a.function) 0) (record { at = Some m; this = th; declares = [] }) (record { at = Some n; this = th'; declares = [] })) w (call_frame checked a vs) (call_frame checked b us)
  frame_t {w = w} {a = a} {b = b} {th = th} {th' = th'} {vs = vs} {us = us} c h k = subst (λ z. Sim T (λ v m n. EnvI F S set' v.w (at (Some a.function) 0) (record { at = Some m; this = th; declares = [] }) (record { at = Some n; this = th'; declares = [] })) w (call_frame checked a vs) (call_frame checked (record { function = z; up = b.up; site = b.site }) us)) c.function.same (frame_one a.function a.site b.site c.up h k)

  -- ---- flat paths and casts

  there_same : {w : Tabs} {s t : State} → Tied w s t → {x y : Val} → Vals w x y → {a b : Access} → KeyI a b → is_there s x (name_of s.tables a) ≡ is_there t y (name_of t.tables b)
  unfolding is_there has_name
  there_same ti prim_t k = refl
  there_same ti out_t k = refl
  there_same {w = w} {s = s} {t = t} ti (obj_t {n = n} o) {a = a} k = found_is_value (look_up_tied F S w s.objs t.objs (at_of F S set' ti) o (name_of s.tables a)) ∙ ap (λ z. is_there t (obj n) z) (name_in_states F S set' ti k)

  pub take_path_t : {w : W} (i i' : Spot) (p : ℕ × ℕ) → set'.Flat p → {x y : Val} → Vals w.w x y → {a b : Access} → KeyI a b → Sim T Done w (take_path checked i (Some p) x a) (take_path checked i' (Some p) y b)
  unfolding take_path
  take_path_t {w = w} i i' p fl {x = x} v {a = a} k s t ti le le' =
      subst (λ z. ResT T Done w (judged checked i (takes (flat p.0 p.1) true (is_there s x (name_of s.tables a))) skip s) (judged checked i' (takes (flat p.0 p.1) true z) skip t)) (there_same ti v k)
      (take_then F S set' i i' (shared_flat {g = p.0} {k = p.1} fl) true skip skip refl (sim_ret T tt tt tt) s t ti le le')

  pub keep_path_t : {w : W} (i i' : Spot) (p : ℕ × ℕ) → set'.Flat p → {x y : Val} → Vals w.w x y → Sim T Done w (keep_path checked i (Some p) x) (keep_path checked i' (Some p) y)
  unfolding keep_path
  keep_path_t i i' p fl v s t ti le le' = keep_at F S set' i i' (shared_flat {g = p.0} {k = p.1} fl) v (λ z. z) (λ z. z) ti le le' (λ z. refl) (λ z. refl) ti

  cast_none : {w : Tabs} {s t : State} → Tied w s t → (d : ℕ) {x y : Val} → Vals w x y → cast_rule S s d x ≡ None → cast_rule R t d y ≡ None
  unfolding cast_rule
  cast_none {w = w} {s = s} {t = t} ti d {x = x} {y = y} v e =
      none_unless 6 (ap (λ z. of_opt_type R t.objs (value_in z) y) (sym (doc_at_same S set' (Some d))) ∙ sym (of_opt_type_same S set' F w s.objs t.objs (at_of F S set' ti) (value_in (doc_at S (Some d))) v) ∙ unless_none _ 6 e)

  cast_received : {w : W} (d : ℕ) {x y : Val} → Vals w.w x y → Sim T Done w (with_tables (λ T. receive (value_in (doc_at T (Some d))) x)) (with_tables (λ T. receive (value_in (doc_at T (Some d))) y))
  cast_received {w = w} d {x = x} {y = y} v = sim_tables T _ _ (subst (λ z. Sim T Done w (receive (value_in (doc_at S (Some d))) x) (receive (value_in z) y)) (doc_at_same S set' (Some d)) (receive_t F S set' (value_in (doc_at S (Some d))) v))

  pub cast_t : {w : W} (i i' : Spot) (d : ℕ) {x y : Val} → Vals w.w x y → Sim T Done w (cast_to checked i d x) (cast_to checked i' d y)
  unfolding cast_to least_broken
  cast_t i i' d {x = x} {y = y} v = sim_bind T {R = Done} (judged_i F S set' i i' (casts d x) (casts d y) skip skip (λ s t ti e. cast_none ti d v e) (sim_ret T tt tt tt)) (λ z l _ _ _. cast_received d (val_more l.2.ext _ _ v))

  -- ---- calls

  extends_same : (o : Option ℕ) (c : ℕ) → extends_class S o c ≡ extends_class R o c
  unfolding extends_class
  extends_same None c = refl
  extends_same (Some d) c = refl

  instance_same : {w : Tabs} {s t : State} → Tied w s t → (c : ℕ) {x y : Val} → Vals w x y → is_instance S s c x ≡ is_instance R t c y
  unfolding is_instance
  instance_same ti c prim_t = refl
  instance_same ti c out_t = refl
  instance_same {w = w} {s = s} ti c (obj_t {m = m} o) = extends_same (class_in (slice_get s.objs m)) c ∙ ap (λ z. extends_class R z c) (class_at F S w (at_of F S set' ti _ _ o))

  runs_same : {w : Tabs} {s t : State} → Tied w s t → (o : Option ℕ) {x y : Option Val} → OptT (Vals w) x y → runs_on S s o x ≡ runs_on R t o y
  unfolding runs_on
  runs_same ti None h = refl
  runs_same ti (Some c) none_t = refl
  runs_same ti (Some c) (some_t h) = instance_same ti c h

  receiver_same : {w : Tabs} {s t : State} → Tied w s t → (o : Option TypeSet) {x y : Option Val} → OptT (Vals w) x y → receiver_fits S s o x ≡ receiver_fits R t o y
  unfolding receiver_fits
  receiver_same ti o none_t = refl
  receiver_same {w = w} {s = s} {t = t} ti o (some_t h) = of_opt_type_same S set' F w s.objs t.objs (at_of F S set' ti) o h

  all_fit_same : {w : Tabs} {s t : State} → Tied w s t → (ts : List (Option TypeSet)) {vs us : List Val} → ListT (Vals w) vs us → all_fit S s ts vs ≡ all_fit R t ts us
  unfolding all_fit
  all_fit_same ti [] h = refl
  all_fit_same ti (o ∷ ts) nil_t = refl
  all_fit_same {w = w} {s = s} {t = t} ti (o ∷ ts) (cons_t h k) = rw (of_opt_type_same S set' F w s.objs t.objs (at_of F S set' ti) o h, all_fit_same ti ts k) refl

  code_class_same : (f : ℕ) (k : ℕ) → code_class_from k S.classes f ≡ code_class_from k R.classes f
  code_class_same f k = refl

  enter_none : {w : Tabs} {s t : State} → Tied w s t → (f : ℕ) {x y : Option Val} → OptT (Vals w) x y → {vs us : List Val} → ListT (Vals w) vs us → enter_rule S s f x vs ≡ None → enter_rule R t f y us ≡ None
  unfolding enter_rule
  enter_none {w = w} {s = s} {t = t} ti f {x = x} {y = y} h {vs = vs} {us = us} k e =
      let p = least_none _ _ e in let q = and_true _ _ (unless_none _ 5 p.0) in
      none_least (none_unless 5 (true_and (sym (runs_same ti (code_class_from 0 S.classes f) h) ∙ q.0) (ap (λ z. receiver_fits R t (receiver_in z) y) (sym (function_doc_same S set' f)) ∙ sym (receiver_same ti (receiver_in (function_doc S f)) h) ∙ q.1)))
      (none_unless 6 (ap (λ z. all_fit R t (params_in z) us) (sym (function_doc_same S set' f)) ∙ sym (all_fit_same ti (params_in (function_doc S f)) k) ∙ unless_none _ 6 p.1))

  enter_one : {w : W} (i i' : Spot) (f : ℕ) {x y : Option Val} {vs us : List Val} → OptT (Vals w.w) x y → ListT (Vals w.w) vs us → Sim T Done w (entering checked i f x vs) (entering checked i' f y us)
  unfolding least_broken
  enter_one {w = w} i i' f {x = x} {y = y} {vs = vs} {us = us} h k = judged_i F S set' i i' (enters f x vs) (enters f y us) _ _ (λ s t ti e. enter_none ti f h k e) (sim_tables T _ _ (subst (λ z. Sim T Done w (receive_each (params_in (function_doc S f)) vs) (receive_each (params_in z) us)) (function_doc_same S set' f) (receive_each_t F S set' (params_in (function_doc S f)) k)))

  pub enter_t : {w : W} (i i' : Spot) {a b : Code} {x y : Option Val} {vs us : List Val} → Codes F S w.w a b → OptT (Vals w.w) x y → ListT (Vals w.w) vs us → Sim T Done w (entering checked i a.function x vs) (entering checked i' b.function y us)
  enter_t {w = w} i i' {a = a} {x = x} {y = y} {vs = vs} {us = us} c h k = subst (λ z. Sim T Done w (entering checked i a.function x vs) (entering checked i' z y us)) c.function.same (enter_one i i' a.function h k)

  builds_same : {w : Tabs} {s t : State} → Tied w s t → (o : Option ℕ) (built : Bool) {x y : Val} → Vals w x y → builds_well S s o built x ≡ builds_well R t o built y
  unfolding builds_well is_prim
  builds_same ti None built h = refl
  builds_same ti (Some c) false h = refl
  builds_same ti (Some c) true prim_t = refl
  builds_same ti (Some c) true out_t = refl
  builds_same ti (Some c) true (obj_t o) = instance_same ti c (obj_t o)

  class_same : (f : ℕ) → class_of_function S f ≡ class_of_function R f
  unfolding class_of_function
  class_same f = refl

  leave_none : {w : Tabs} {s t : State} → Tied w s t → (f : ℕ) (built : Bool) {x y : Val} → Vals w x y → leave_rule S s f built x ≡ None → leave_rule R t f built y ≡ None
  unfolding leave_rule
  leave_none {w = w} {s = s} {t = t} ti f built {x = x} {y = y} v e =
      let q = and_true _ _ (unless_none _ 6 e) in
      none_unless 6 (true_and (ap (λ z. of_opt_type R t.objs (result_in z) y) (sym (function_doc_same S set' f)) ∙ sym (of_opt_type_same S set' F w s.objs t.objs (at_of F S set' ti) (result_in (function_doc S f)) v) ∙ q.0) (ap (λ z. builds_well R t z built y) (sym (class_same f)) ∙ sym (builds_same ti (class_of_function S f) built v) ∙ q.1))

  pub leave_t : {w : W} (i i' : Spot) (f : ℕ) (built : Bool) {x y : Val} → Vals w.w x y → Sim T Done w (leaving checked i f built x) (leaving checked i' f built y)
  unfolding least_broken
  leave_t {w = w} i i' f built {x = x} {y = y} v = judged_i F S set' i i' (leaves f built x) (leaves f built y) _ _ (λ s t ti e. leave_none ti f built v e) (sim_tables T _ _ (subst (λ z. Sim T Done w (receive (result_in (function_doc S f)) x) (receive (result_in z) y)) (function_doc_same S set' f) (receive_t F S set' (result_in (function_doc S f)) v)))
