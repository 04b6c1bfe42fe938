-- The tie of alike programs' plain runs is kept by each operation of the store.
use Rattle.std.proofs.Common.{◌≡◌, ℕ, ◌≤◌, Bool, true, false, List, [], ◌∷◌, ◌++◌, length, Option, Some, None, is_some, refl, sym, ap, subst, ◌∙◌, arith}
use Rattle.std.specs.Prelude.{slice_get, not, nat_eq}
use Rattle.std.specs.List.{list_any}
use Rattle.cc_ast.specs.Syntax.{Prim, undefined, truth, Program}
use Rattle.cc_ast.specs.declared.tree.Ref.{Ref}
use Rattle.cc_meaning.specs.Values.{Val, prim, obj, out, handle, Spot}
use Rattle.cc_meaning.specs.Operators.{list_eq}
use Rattle.cc_meaning.specs.Names.{name_proto}
use Rattle.cc_meaning.specs.Builtins.{ArrayAnswer, answers, answers_array, or_undefined}
use Rattle.cc_meaning.specs.State.{keyed_kind, Code, FrameKind, of_call, of_catch, Frame, Env, State, Tables}
use Rattle.cc_meaning.specs.Monad.{passed, seen, M, ret, skip, say, ◌>>=◌, attempt, with_tables}
use Rattle.cc_meaning.specs.Store.{Access, dotted, runtime, quoted, name_of, Global, extern, built_in, of_chunk, global_kind, Use, own_value, change, frame_up, flat_option}
use Rattle.cc_meaning.specs.Typed.{Variable, global, local, variable_type, value_in, doc_at, params_in, result_in, function_doc}
use Rattle.cc_meaning.specs.SlotRules.{read_rule, write_rule, prim_read, outside_rule, rule_if, rule_unless, least}
use Rattle.cc_meaning.specs.Rules.{built_op, operate_rule, host_rule}
use Rattle.cc_meaning.specs.Judge.{operates, reads, writes, probes, enters, leaves, takes, keeps, casts, hosts, least_broken}
use Rattle.cc_meaning.specs.Built.{BuiltOutcome, built_value, built_change, built_object, built_question, built_call, built_breaks, outcome_of, wanted_in, rule_in, change_rule}
use Rattle.cc_meaning.specs.Acts.{judged, is_fatal, reading, changing, add_obj, make_object, make_array, make_from, push_frame, place_in, read_by_kind, read_place, is_loaded, global_value, read_global, read_var, set_place, set_global, keep, write_by_kind, write_place, write_var, read_slot, write_slot, cast_to, handle_of, shown, show}
use Rattle.cc_meaning.specs.Calls.{Bodies, code_in, code_at, prim_member, call_object, array_answer, perform, use_built, reach_method}
use Rattle.cc_meaning.specs.Shapes.{tables_of, plain_tables}
use Rattle.cc_meaning.specs.Meaning.{call_frame}
use Rattle.cc_meaning.specs.Script.{plain, dependency_failed, note_load}
use Rattle.cc_meaning.specs.Alike.{Paired, FramePair, call_pair, catch_pair, own_pair, Around, Numbering, PlaceA, in_call, in_catch, in_own, Alike, RefA, frame_a, global_a, owns, places_of}
use Rattle.cc_meaning.specs.Alike as A
use Rattle.cc_tied.specs.Tied.{ListT, nil_t, OptT, none_t, ValT, prim_t, WayT, entering, leaving, loading}
use Rattle.cc_tied.proofs.Sim.{Tie, World, now, ResT, ok_t, Sim, fine, after_t, sim_as, sim_bind, sim_ret, sim_attempt, sim_tables, sim_fault}
use Rattle.cc_tied.proofs.Upkeep.{Upkeep, kit}
use Rattle.cc_tied.proofs.Kit.{Kit}
use Rattle.cc_tied.proofs.Lists.{tied_get}
use Rattle.cc_tied.proofs.Equality.Equal.{Eq, refl_val, refl_list, same_val, same_opt, same_list, val_as}
use Rattle.cc_tied.proofs.Fatal.{is_low, stops, decide, judged_plain, stops_low, high_outside, high_probe, high_enter, high_leave, low_take, high_keep, high_cast, least_first}
use Rattle.cc_tied.proofs.Alike.Frames.{Label, KindA, call_k, catch_k, own_k, Chain, EnvA, chain_later, FrameA, FrameAt, frame_there, Found, find_frame, frames_found, frames_get, place_set, set_pair}
use Rattle.cc_tied.proofs.Alike.Objects.{inside_beyond, CodeA, code_in_t, value_same, chain_of_same, outcome_same, method_same, objs_changed}
use Rattle.cc_tied.proofs.Alike.Tie.{TiedA, KeyN, UpA, kind_same, alike, judged_a, Silent, silent_skip, silent_tables, silent_act, silent_bind, silent_receive, silent_each, both_silent}
use Rattle.cc_tied.proofs.Alike.Store as D

module _ (P Q : Program) (al : Alike P Q) where
  abbrev N : Numbering
  N = al.N

  abbrev S : Tables
  S = tables_of P

  abbrev S' : Tables
  S' = tables_of Q

  abbrev T : Tie
  T = alike P Q al

  abbrev W : Type 0
  W = World T

  abbrev Tied : List Label → State → State → Type 0
  Tied = TiedA P Q al

  abbrev Vals : W → Val → Val → Type 0
  Vals v = ValT Eq

  abbrev Done : W → Unit {0} → Unit {0} → Type 0
  Done v a b = Unit {0}

  -- ---- uses of what is built in

  answer_t : {w : W} (a : ArrayAnswer) → Sim T Vals w (array_answer plain a) (array_answer plain a)
  unfolding array_answer make_array
  answer_t (answers v) = sim_ret T v v (refl_val v)
  answer_t (answers_array vs) = D.add_t P Q al _ _ (D.bare_t P Q al (Some vs))

  from_t : {w : W} (p : Option ℕ) → Sim T Vals w (make_from p) (make_from p)
  unfolding make_from add_obj ret
  from_t None s t ti le le' = D.add_t P Q al _ _ (D.bare_t P Q al None) s t ti le le'
  from_t {w = w} (Some p) s t ti le le' = D.add_t P Q al _ _ (record { chain = chain_of_same S N w.w ti.objs p; elements = refl; slots = nil_t; code = none_t }) s t ti le le'

  elements_t : {w : W} (n : ℕ) (es : List Val) → Sim T Done w (changing (change n (λ o. record o { elements = Some es }))) (changing (change n (λ o. record o { elements = Some es })))
  unfolding changing change ret
  elements_t {w = w} n es s t ti le le' = fine T tt tt tt (D.with_objs P Q al _ _ ti (objs_changed S N w.w ti.objs n _ _ (λ a b h. record { chain = h.chain; elements = refl; slots = h.slots; code = h.code }))) le le'

  question_t : {w : W} (n : ℕ) (t : List ℕ) → Sim T Vals w (reading (λ s. prim (truth (is_some (own_value (slice_get s.objs n) t))))) (reading (λ s. prim (truth (is_some (own_value (slice_get s.objs n) t)))))
  unfolding reading ret
  question_t {w = w} n x s t ti le le' = fine T _ _ (val_as (ap (λ z. prim (truth (is_some z))) (value_same S N w.w (tied_get ti.objs n) x))) ti le le'

  module _ (B B' : Bodies) (i i' : Spot) (w : W) (call_t : (m n : ℕ) (x y : Val) (us us' : List Val) → m ≡ n → ValT Eq x y → ListT (ValT Eq) us us' → Sim T Vals w (call_object plain B i m (Some x) us) (call_object plain B' i' n (Some y) us')) where
    perform_t : (o : BuiltOutcome) → Sim T Vals w (perform plain B i o) (perform plain B' i' o)
    unfolding perform least_broken
    perform_t (built_value v) = sim_ret T v v (refl_val v)
    perform_t (built_change n new c) = sim_bind T {R = Done} (elements_t n c.elements) (λ v2 l2 _ _ _. answer_t c.answer)
    perform_t (built_object p) = from_t p
    perform_t (built_question n t) = judged_a P Q al i i' (probes (obj n) (runtime t false)) (probes (obj n) (runtime t false)) _ _ (λ s u ti. D.never P Q al (probes (obj n) (runtime t false)) s refl (high_probe s.tables s n (runtime t false)) ∙ sym (D.never P Q al (probes (obj n) (runtime t false)) u refl (high_probe u.tables u n (runtime t false)))) (question_t n t)
    perform_t (built_call n v vs) = call_t n n v v vs vs refl (refl_val v) (refl_list refl_val vs)
    perform_t (built_breaks r) = sim_fault T tt r

    change_stops : (u : Use) (vs : List Val) (b : Bool) → stops (operates (built_op u) vs) (change_rule b) ≡ false
    unfolding change_rule stops is_fatal
    change_stops u vs true = refl
    change_stops u vs false = refl

    -- no breach but a refusal ends the plain run
    use_stops : (u : Use) (vs : List Val) (R R' : Tables) (s t : State) (o : BuiltOutcome) → stops (operates (built_op u) vs) (rule_in R s o) ≡ stops (operates (built_op u) vs) (rule_in R' t o)
    unfolding rule_in
    use_stops u vs R R' s t (built_value v) = refl
    use_stops u vs R R' s t (built_change n new c) = change_stops u vs (wanted_in (slice_get s.objs n) new R s.objs) ∙ sym (change_stops u vs (wanted_in (slice_get t.objs n) new R' t.objs))
    use_stops u vs R R' s t (built_object p) = refl
    use_stops u vs R R' s t (built_question n x) = refl
    use_stops u vs R R' s t (built_call n v us) = refl
    use_stops u vs R R' s t (built_breaks r) = refl

    use_t : (u : Use) (vs : List Val) → Sim T Vals w (use_built plain B i u vs) (use_built plain B' i' u vs)
    unfolding use_built least_broken operate_rule
    use_t u vs s t ti le le' =
        subst (λ z. ResT T Vals w (judged plain i (operates (built_op u) vs) (perform plain B i (outcome_of s u vs)) s) (judged plain i' (operates (built_op u) vs) (perform plain B' i' z) t)) (outcome_same S N w.w s t ti.objs u vs)
        (judged_a P Q al i i' (operates (built_op u) vs) (operates (built_op u) vs) _ _ (λ s2 t2 ti2. use_stops u vs s2.tables t2.tables s2 t2 (outcome_of s2 u vs) ∙ ap (λ z. stops (operates (built_op u) vs) (rule_in t2.tables t2 z)) (outcome_same S N w.w s2 t2 ti2.objs u vs)) (perform_t (outcome_of s u vs)) s t ti le le')

  -- ---- values that are no objects of the program

  prim_read_t : {w : W} (i i' : Spot) (p : Prim) (a b : Access) → KeyN P Q al a b → Sim T Vals w (judged plain i (reads (prim p) a) (with_tables (λ T. ret (prim_member p (name_of T a))))) (judged plain i' (reads (prim p) b) (with_tables (λ T. ret (prim_member p (name_of T b)))))
  unfolding least_broken read_rule
  prim_read_t i i' p a b k = judged_a P Q al i i' (reads (prim p) a) (reads (prim p) b) _ _ (λ s t ti. stops_low (reads (prim p) a) refl _ ∙ ap (λ z. is_low (prim_read p z)) (D.name_same P Q al ti a b k) ∙ sym (stops_low (reads (prim p) b) refl _)) (sim_tables T _ _ (sim_ret T _ _ (val_as (ap (λ z. prim_member p z) k.same))))

  out_read_t : {A B : Type 0} {R : W → A → B → Type 0} {w : W} (i i' : Spot) (n : ℕ) (a b : Access) (m : M A) (m' : M B) → Sim T R w m m' → Sim T R w (judged plain i (reads (out n) a) m) (judged plain i' (reads (out n) b) m')
  unfolding least_broken read_rule
  out_read_t i i' n a b m m' h = judged_a P Q al i i' (reads (out n) a) (reads (out n) b) m m' (λ s t ti. stops_low (reads (out n) a) refl _ ∙ high_outside s.tables a ∙ sym (high_outside t.tables b) ∙ sym (stops_low (reads (out n) b) refl _)) h

  out_low : (R : Tables) (a : Access) → is_low (least (rule_if (list_eq (name_of R a) name_proto) 2) (outside_rule R a)) ≡ is_low (rule_if (list_eq (name_of R a) name_proto) 2)
  out_low R a = least_first _ _ (high_outside R a)

  out_write_t : {A B : Type 0} {R : W → A → B → Type 0} {w : W} (i i' : Spot) (n : ℕ) (a b : Access) (x y : Val) (d d' : Bool) (m : M A) (m' : M B) → KeyN P Q al a b → Sim T R w m m' → Sim T R w (judged plain i (writes (out n) a x d) m) (judged plain i' (writes (out n) b y d') m')
  unfolding least_broken write_rule
  out_write_t i i' n a b x y d d' m m' k h = judged_a P Q al i i' (writes (out n) a x d) (writes (out n) b y d') m m' (λ s t ti. stops_low (writes (out n) a x d) refl _ ∙ out_low s.tables a ∙ ap (λ z. is_low (rule_if (list_eq z name_proto) 2)) (D.name_same P Q al ti a b k) ∙ sym (out_low t.tables b) ∙ sym (stops_low (writes (out n) b y d') refl _)) h

  -- ---- variables

  -- both places are there
  take_t : {w : W} (i i' : Spot) (x x' : Variable) (v v' : Val) (b b' : Bool) → v ≡ v' → Sim T Vals w (judged plain i (takes x true b) (ret v)) (judged plain i' (takes x' true b') (ret v'))
  unfolding least_broken
  take_t i i' x x' v v' b b' e = judged_a P Q al i i' (takes x true b) (takes x' true b') _ _ (λ s t ti. stops_low (takes x true b) refl _ ∙ low_take s.tables x true b ∙ sym (low_take t.tables x' true b') ∙ sym (stops_low (takes x' true b') refl _)) (sim_ret T v v' (val_as e))

  by_kind_t : {w : W} (i i' : Spot) {p : FramePair} {k k' : FrameKind} → KindA p k k' → (m n : ℕ) (v v' : Option Val) → v ≡ v' → Sim T Vals w (read_by_kind plain i k m v) (read_by_kind plain i' k' n v')
  unfolding read_by_kind
  by_kind_t i i' (call_k {f = f} {g = g}) m n v v' e = take_t i i' (local f m) (local g n) (or_undefined v) (or_undefined v') (is_some v) (is_some v') (ap or_undefined e)
  by_kind_t i i' catch_k m n v v' e = sim_ret T _ _ (val_as (ap or_undefined e))
  by_kind_t i i' own_k m n v v' e = sim_ret T _ _ (val_as (ap or_undefined e))

  place_t : {w : W} (i i' : Spot) {l : Label} {a b : Option Frame} → FrameAt S S' N l a b → {m n : ℕ} → PlaceA S S' N l.pair m n → Sim T Vals w (read_place plain i a m) (read_place plain i' b n)
  unfolding read_place place_in
  place_t i i' (frame_there {a = a} {b = b} h) {m = m} {n = n} q = by_kind_t i i' h.kind m n _ _ (ap (λ z. flat_option z) (h.values m n q))

  loaded_same : {w : List Label} {s t : State} → Tied w s t → (c : ℕ) → is_loaded s c ≡ is_loaded t c
  unfolding is_loaded
  loaded_same ti c = ap (λ z. list_any (λ d. nat_eq d c) z) ti.loaded

  global_same : {w : List Label} {s t : State} → Tied w s t → {m n : ℕ} (c : ℕ) → Paired N.globals m n → global_kind s.tables m ≡ of_chunk c → global_value s m ≡ global_value t n
  unfolding global_value
  global_same ti {m = m} c q e = ap (λ z. flat_option z) (ti.globals _ _ c q (sym (kind_same P m) ∙ sym (ap (λ z. global_kind z m) ti.tables) ∙ e))

  take_global : {w : W} (i i' : Spot) (m n : ℕ) (l l' b b' : Bool) (v v' : Val) → l ≡ l' → v ≡ v' → Sim T Vals w (judged plain i (takes (global m) l b) (ret v)) (judged plain i' (takes (global n) l' b') (ret v'))
  unfolding least_broken
  take_global i i' m n l l' b b' v v' d e = judged_a P Q al i i' (takes (global m) l b) (takes (global n) l' b') _ _ (λ s t ti. stops_low (takes (global m) l b) refl _ ∙ low_take s.tables (global m) l b ∙ ap not d ∙ sym (low_take t.tables (global n) l' b') ∙ sym (stops_low (takes (global n) l' b') refl _)) (sim_ret T v v' (val_as e))

  global_t : {w : W} (i i' : Spot) {m n : ℕ} {s t : State} → Paired N.globals m n → (k : Global) → (k ≡ extern → m ≡ n) → ((c : ℕ) → k ≡ of_chunk c → global_value s m ≡ global_value t n) → Tied w.w s t → s.budget ≤ w.l → t.budget ≤ w.r → ResT T Vals w (read_global plain i m k s) (read_global plain i' n k t)
  unfolding read_global
  global_t i i' q extern e h ti le le' = sim_ret T _ _ (val_as (ap out (e refl))) _ _ ti le le'
  global_t i i' q (built_in b) e h ti le le' = sim_fault T tt 2 _ _ ti le le'
  global_t i i' {m = m} {n = n} q (of_chunk c) e h ti le le' = take_global i i' m n _ _ _ _ _ _ (loaded_same ti c) (ap or_undefined (h c refl)) _ _ ti le le'

  kinds : {w : List Label} {s t : State} → Tied w s t → {m n : ℕ} → Paired N.globals m n → global_kind s.tables m ≡ global_kind t.tables n
  kinds ti {m = m} {n = n} q = ap (λ z. global_kind z m) ti.tables ∙ kind_same P m ∙ (al.globals m n q).kind ∙ sym (kind_same Q n) ∙ sym (ap (λ z. global_kind z n) ti.tables')

  extern_one : {w : List Label} {s t : State} → Tied w s t → {m n : ℕ} → Paired N.globals m n → global_kind s.tables m ≡ extern → m ≡ n
  extern_one ti {m = m} {n = n} q e = (al.globals m n q).outer (sym (kind_same P m) ∙ sym (ap (λ z. global_kind z m) ti.tables) ∙ e)

  read_var_t : {w : W} (i i' : Spot) {c : Around} {g h : Env} {r r' : Ref} → EnvA c w.w g h → RefA S S' N c r r' → Sim T Vals w (read_var plain i g r) (read_var plain i' h r')
  unfolding read_var
  read_var_t i i' e (frame_a p q l) s t ti le le' = place_t i i' (frames_found S S' N ti.frames (find_frame S S' N ti.frames q e)) l s t ti le le'
  read_var_t {w = w} i i' e (global_a {m = m} {n = n} q) s t ti le le' = subst (λ z. ResT T Vals w (read_global plain i m (global_kind s.tables m) s) (read_global plain i' n z t)) (kinds ti q) (global_t i i' q (global_kind s.tables m) (extern_one ti q) (λ c d. global_same ti c q d) ti le le')

  with_frames : {w : List Label} {s t : State} (fs gs : List Frame) → Tied w s t → Rattle.cc_tied.proofs.Alike.Frames.Frames S S' N w fs gs → Tied w (record s { frames = fs }) (record t { frames = gs })
  with_frames fs gs h k = record { tables = h.tables; tables' = h.tables'; objs = h.objs; frames = k; globals = h.globals; loaded = h.loaded; failed = h.failed; handles = h.handles; budget = h.budget; replies = h.replies }

  -- a place of both is set
  set_tied : {w : List Label} {s t : State} → Tied w s t → {u : ℕ} {at at' : Option ℕ} {p : FramePair} → Found S S' N w s.frames t.frames u at at' p → {m n : ℕ} → PlaceA S S' N p m n → (x : Val) → Tied w (set_place (frame_up u s.frames at) m x s) (set_place (frame_up u t.frames at') n x t)
  unfolding set_place
  set_tied {w = w} {s = s} {t = t} ti {u = u} {at' = at'} k {m = m} {n = n} q x =
      subst (λ z. Tied w (set_place z m x s) (set_place (frame_up u t.frames at') n x t)) (sym k.left)
      (subst (λ z. Tied w (set_place (Some k.i) m x s) (set_place z n x t)) (sym k.right)
      (with_frames _ _ ti (place_set S S' N al.places_once ti.frames k.i _ k.here (frames_get S S' N ti.frames k.i _ k.here) x q)))

  -- a variable of each receives a value, in these two states
  keep_at : {w : W} (i i' : Spot) (x x' : Variable) (v : Val) (f f' : State → State) {s t : State} → Tied w.w s t → s.budget ≤ w.l → t.budget ≤ w.r → ((u : State) → (f u).budget ≡ u.budget) → ((u : State) → (f' u).budget ≡ u.budget) → Tied w.w (f s) (f' t) → ResT T Done w (keep plain i x v f s) (keep plain i' x' v f' t)
  unfolding keep changing ret ◌>>=◌ decide least_broken
  keep_at {w = w} i i' x x' v f f' {s = s} {t = t} ti le le' b b' h =
      let e = b s in let d = b' t in
      after_t T {R = Done} (λ v2 l2 _ _ _. both_silent P Q al (silent_tables P Q al _ (λ R. silent_receive P Q al (variable_type R x) v)) (silent_tables P Q al _ (λ R. silent_receive P Q al (variable_type R x') v)))
      (subst (λ z. ResT T Done w z (judged plain i' (keeps x' v) (changing f') t)) (sym (judged_plain i (keeps x v) (changing f) s ∙ ap (λ z. decide i z (changing f) s) (D.never P Q al (keeps x v) s refl (high_keep s.tables s x v))))
      (subst (λ z. ResT T Done w (changing f s) z) (sym (judged_plain i' (keeps x' v) (changing f') t ∙ ap (λ z. decide i' z (changing f') t) (D.never P Q al (keeps x' v) t refl (high_keep t.tables t x' v))))
      (fine T tt tt tt h (omega arith) (omega arith))))

  place_budget : (at : Option ℕ) (n : ℕ) (x : Val) (u : State) → (set_place at n x u).budget ≡ u.budget
  unfolding set_place
  place_budget None n x u = refl
  place_budget (Some i) n x u = refl

  write_kind_at : {w : W} (i i' : Spot) {p : FramePair} {k k' : FrameKind} → KindA p k k' → (at at' : Option ℕ) (m n : ℕ) (x : Val) {s t : State} → Tied w.w s t → s.budget ≤ w.l → t.budget ≤ w.r → Tied w.w (set_place at m x s) (set_place at' n x t) → ResT T Done w (write_by_kind plain i k at m x s) (write_by_kind plain i' k' at' n x t)
  unfolding write_by_kind changing ret
  write_kind_at i i' (call_k {f = f} {g = g}) at at' m n x ti le le' h = keep_at i i' (local f m) (local g n) x (set_place at m x) (set_place at' n x) ti le le' (place_budget at m x) (place_budget at' n x) h
  write_kind_at i i' catch_k at at' m n x {s = s} {t = t} ti le le' h = let e = place_budget at m x s in let d = place_budget at' n x t in fine T tt tt tt h (omega arith) (omega arith)
  write_kind_at i i' own_k at at' m n x ti le le' h = fine T tt tt tt ti le le'

  write_at : {w : W} (i i' : Spot) {l : Label} {a b : Option Frame} → FrameAt S S' N l a b → (at at' : Option ℕ) (m n : ℕ) (x : Val) {s t : State} → Tied w.w s t → s.budget ≤ w.l → t.budget ≤ w.r → Tied w.w (set_place at m x s) (set_place at' n x t) → ResT T Done w (write_place plain i a at m x s) (write_place plain i' b at' n x t)
  unfolding write_place
  write_at i i' (frame_there h) at at' m n x ti le le' k = write_kind_at i i' h.kind at at' m n x ti le le' k

  set_global_tied : {w : List Label} {s t : State} → Tied w s t → {m n : ℕ} → Paired N.globals m n → (x : Val) → Tied w (set_global m x s) (set_global n x t)
  unfolding set_global
  set_global_tied {s = s} {t = t} h {m = m} {n = n} q x = record { tables = h.tables; tables' = h.tables'; objs = h.objs; frames = h.frames; globals = λ j k c r d. set_pair s.globals t.globals (Some x) m n j k (λ e. al.globals_once.left m n k q (subst (λ z. Paired N.globals z k) (sym e) r)) (λ e. al.globals_once.right m j n q (subst (λ z. Paired N.globals j z) (sym e) r)) (h.globals j k c r d); loaded = h.loaded; failed = h.failed; handles = h.handles; budget = h.budget; replies = h.replies }

  global_budget : (n : ℕ) (x : Val) (u : State) → (set_global n x u).budget ≡ u.budget
  unfolding set_global
  global_budget n x u = refl

  write_var_t : {w : W} (i i' : Spot) {c : Around} {g h : Env} {r r' : Ref} (x : Val) → EnvA c w.w g h → RefA S S' N c r r' → Sim T Done w (write_var plain i g r x) (write_var plain i' h r' x)
  unfolding write_var
  write_var_t i i' {g = g} {h = h} x e (frame_a {u = u} {m = m} {n = n} p q l) s t ti le le' =
      let k = find_frame S S' N ti.frames q e in
      write_at i i' (frames_found S S' N ti.frames k) (frame_up u s.frames g.at) (frame_up u t.frames h.at) m n x ti le le' (set_tied ti k l x)
  write_var_t i i' x e (global_a {m = m} {n = n} q) s t ti le le' = keep_at i i' (global m) (global n) x (set_global m x) (set_global n x) ti le le' (global_budget m x) (global_budget n x) (set_global_tied ti q x)

  -- ---- frames

  one_caught : (x : Val) (m n : ℕ) → PlaceA S S' N catch_pair m n → slice_get (Some x ∷ []) m ≡ slice_get (Some x ∷ []) n
  one_caught x _ _ in_catch = refl

  catch_t : {w : W} {c : Around} {g h : Env} (x : Val) → EnvA c w.w g h → Sim T (λ v m n. EnvA (catch_pair ∷ c) v.w (record g { at = Some m }) (record h { at = Some n })) w (push_frame of_catch g.at (Some x ∷ [])) (push_frame of_catch h.at (Some x ∷ []))
  catch_t {c = c} {g = g} {h = h} x e = sim_as T (λ v l m n q. record { at = ap Some q.0; this = e.this; chain = (g.at, q.1, chain_later l.2 c g.at e.chain) }) (D.push_t P Q al (record { pair = catch_pair; up = g.at }) of_catch of_catch g.at h.at (Some x ∷ []) (Some x ∷ []) catch_k refl (sym e.at) (one_caught x))

  fits_t : (f g : ℕ) → Paired N.functions f g → (vs : List Val) (m n : ℕ) → PlaceA S S' N (call_pair f g) m n → slice_get (places_of S f vs) m ≡ slice_get (places_of S' g vs) n
  fits_t f g q vs _ _ (in_call r) = al.fits f g q vs _ _ r

  frame_t : {w : W} (a b : Code) (th th' : Option Val) (vs : List Val) → Paired N.functions a.function b.function → UpA P Q al w.w a.function b.function a.up b.up → th ≡ th' → Sim T (λ v m n. EnvA (A.inside (owns S a.function) (a.function, b.function) (N.around (a.function, b.function))) v.w (record { at = Some m; this = th; declares = [] }) (record { at = Some n; this = th'; declares = [] })) w (call_frame plain a vs) (call_frame plain b vs)
  unfolding call_frame plain_tables tables_of places_of
  frame_t {w = w} a b th th' vs q u e =
      sim_tables T _ _ (sim_as T (λ v l m n k. record { at = ap Some k.0; this = e; chain = subst (λ z. Chain v.w z (Some m)) (sym (inside_beyond (owns S a.function) (a.function, b.function) (N.around (a.function, b.function)))) (a.up, k.1, chain_later l.2 _ a.up u.1) })
      (D.push_t P Q al (record { pair = call_pair a.function b.function; up = a.up }) (of_call a.function) (of_call b.function) a.up b.up (places_of S a.function vs) (places_of S' b.function vs) call_k refl (sym u.0) (fits_t a.function b.function q vs)))

  -- ---- calls and casts

  cast_t : {w : W} (i i' : Spot) (d d' : ℕ) (x y : Val) → Sim T Done w (cast_to plain i d x) (cast_to plain i' d' y)
  unfolding cast_to least_broken
  cast_t i i' d d' x y = both_silent P Q al (silent_bind P Q al (silent_act P Q al i (casts d x) (λ s. D.never P Q al (casts d x) s refl (high_cast s.tables s d x))) (silent_tables P Q al _ (λ R. silent_receive P Q al (value_in (doc_at R (Some d))) x))) (silent_bind P Q al (silent_act P Q al i' (casts d' y) (λ s. D.never P Q al (casts d' y) s refl (high_cast s.tables s d' y))) (silent_tables P Q al _ (λ R. silent_receive P Q al (value_in (doc_at R (Some d'))) y)))

  enters_t : {w : W} (i i' : Spot) (f f' : ℕ) (r r' : Option Val) (vs vs' : List Val) → Sim T Done w (entering plain i f r vs) (entering plain i' f' r' vs')
  unfolding least_broken
  enters_t i i' f f' r r' vs vs' = judged_a P Q al i i' (enters f r vs) (enters f' r' vs') _ _ (λ s t ti. D.never P Q al (enters f r vs) s refl (high_enter s.tables s f r vs) ∙ sym (D.never P Q al (enters f' r' vs') t refl (high_enter t.tables t f' r' vs'))) (both_silent P Q al (silent_tables P Q al _ (λ R. silent_each P Q al (params_in (function_doc R f)) vs)) (silent_tables P Q al _ (λ R. silent_each P Q al (params_in (function_doc R f')) vs')))

  leaves_t : {w : W} (i i' : Spot) (f f' : ℕ) (built : Bool) (x y : Val) → Sim T Done w (leaving plain i f built x) (leaving plain i' f' built y)
  unfolding least_broken
  leaves_t i i' f f' built x y = judged_a P Q al i i' (leaves f built x) (leaves f' built y) _ _ (λ s t ti. D.never P Q al (leaves f built x) s refl (high_leave s.tables s f built x) ∙ sym (D.never P Q al (leaves f' built y) t refl (high_leave t.tables t f' built y))) (both_silent P Q al (silent_tables P Q al _ (λ R. silent_receive P Q al (result_in (function_doc R f)) x)) (silent_tables P Q al _ (λ R. silent_receive P Q al (result_in (function_doc R f')) y)))

  -- ---- the outside

  shown_t : {w : W} (o : Option ℕ) (n : ℕ) → Sim T (λ v a b. a ≡ b) w (shown o n) (shown o n)
  unfolding shown ret
  shown_t (Some h) n s t ti le le' = fine T _ _ refl ti le le'
  shown_t None n s t ti le le' = fine T _ _ (ap (λ z. handle (length z)) ti.handles) (record { tables = ti.tables; tables' = ti.tables'; objs = ti.objs; frames = ti.frames; globals = ti.globals; loaded = ti.loaded; failed = ti.failed; handles = ap (λ z. z ++ n ∷ []) ti.handles; budget = ti.budget; replies = ti.replies }) le le'

  show_t : {w : W} (a : Val) → Sim T (λ v a b. a ≡ b) w (show a) (show a)
  unfolding show ret
  show_t (prim p) s t ti le le' = fine T _ _ refl ti le le'
  show_t (out n) s t ti le le' = fine T _ _ refl ti le le'
  show_t {w = w} (obj n) s t ti le le' = subst (λ z. ResT T (λ v a b. a ≡ b) w (shown (handle_of s.handles n) n s) (shown (handle_of z n) n t)) ti.handles (shown_t (handle_of s.handles n) n s t ti le le')

  given_stops : (on : Option Val) (n : Option (List ℕ)) (th : Bool) (o : Option ℕ) → stops (hosts true on n th) o ≡ false
  unfolding stops is_fatal
  given_stops on n th None = refl
  given_stops on n th (Some r) = refl

  -- a host whose handles were given out ends no plain run, and one whose handles weren't ends both
  host_stops : (given : Bool) (on on' : Option Val) (n : Option (List ℕ)) (th th' : Bool) (s t : State) → stops (hosts given on n th) (least_broken s.tables s (hosts given on n th)) ≡ stops (hosts given on' n th') (least_broken t.tables t (hosts given on' n th'))
  unfolding stops is_fatal least_broken host_rule rule_unless
  host_stops true on on' n th th' s t = given_stops on n th (least_broken s.tables s (hosts true on n th)) ∙ sym (given_stops on' n th' (least_broken t.tables t (hosts true on' n th')))
  host_stops false on on' n th th' s t = refl

  load_t : {w : W} (c : ℕ) → Sim T Done w (changing (note_load c)) (changing (note_load c))
  unfolding changing note_load ret
  load_t c s t ti le le' = fine T tt tt tt (record { tables = ti.tables; tables' = ti.tables'; objs = ti.objs; frames = ti.frames; globals = ti.globals; loaded = ap (λ z. z ++ c ∷ []) ti.loaded; failed = ti.failed; handles = ti.handles; budget = ti.budget; replies = ti.replies }) le le'

  loading_t : {w : W} (i i' : Spot) (c : ℕ) → Sim T Done w (loading plain i c) (loading plain i' c)
  loading_t i i' c s t ti le le' = judged_a P Q al i i' (hosts true None None (dependency_failed s c)) (hosts true None None (dependency_failed t c)) _ _ (λ s2 t2 ti2. host_stops true None None None _ _ s2 t2) (load_t c) s t ti le le'

  failed_t : {w : List Label} {s t : State} (c : ℕ) → Tied w s t → Tied w (record s { failed = s.failed ++ c ∷ [] }) (record t { failed = t.failed ++ c ∷ [] })
  failed_t c ti = record { tables = ti.tables; tables' = ti.tables'; objs = ti.objs; frames = ti.frames; globals = ti.globals; loaded = ti.loaded; failed = ap (λ z. z ++ c ∷ []) ti.failed; handles = ti.handles; budget = ti.budget; replies = ti.replies }

  quoted_key : (t : List ℕ) → KeyN P Q al (quoted t) (quoted t)
  quoted_key t = Rattle.cc_tied.proofs.Alike.Tie.quoted_same P Q al t

  host_get_t : {w : W} (i i' : Spot) (given : Bool) (m n : ℕ) → m ≡ n → (t : List ℕ) → Sim T (λ v. WayT (ValT Eq) (ValT Eq)) w (judged plain i (hosts given (Some (obj m)) (Some t) false) (attempt (read_slot plain i m (quoted t)))) (judged plain i' (hosts given (Some (obj n)) (Some t) false) (attempt (read_slot plain i' n (quoted t))))
  host_get_t i i' given m n e t = judged_a P Q al i i' (hosts given (Some (obj m)) (Some t) false) (hosts given (Some (obj n)) (Some t) false) _ _ (λ s u ti. host_stops given _ _ (Some t) false false s u) (sim_attempt T {R = Vals} (rw e (D.read_slot_t P Q al i i' n (quoted t) (quoted t) (quoted_key t))))

  host_set_t : {w : W} (i i' : Spot) (given : Bool) (m n : ℕ) → m ≡ n → (t : List ℕ) (x y : Val) → x ≡ y → Sim T (λ v. WayT (ValT Eq) (ValT Eq)) w (judged plain i (hosts given (Some (obj m)) (Some t) false) (attempt (write_slot plain i m (quoted t) keyed_kind x false >>= λ _. ret (prim undefined)))) (judged plain i' (hosts given (Some (obj n)) (Some t) false) (attempt (write_slot plain i' n (quoted t) keyed_kind y false >>= λ _. ret (prim undefined))))
  host_set_t i i' given m n e t x y d = judged_a P Q al i i' (hosts given (Some (obj m)) (Some t) false) (hosts given (Some (obj n)) (Some t) false) _ _ (λ s u ti. host_stops given _ _ (Some t) false false s u) (sim_attempt T {R = Vals} (sim_bind T {R = Done} (rw e (D.write_slot_t P Q al i i' n (quoted t) (quoted t) (quoted_key t) keyed_kind keyed_kind x y d false false)) (λ v2 l2 _ _ _. sim_ret T (prim undefined) (prim undefined) prim_t)))

  mark_t : {w : W} (p : ℕ) → Sim T Done w (say (passed p)) (say (passed p))
  unfolding say seen
  mark_t {w = w} p s t ti le le' = ok_t refl w (now T w) tt tt ti le le'

  skip_t : {w : W} → Sim T Done w skip skip
  skip_t = both_silent P Q al (silent_skip P Q al) (silent_skip P Q al)

  method_read_t : {w : W} (i i' : Spot) (x : Val) (a b : Access) → KeyN P Q al a b → Sim T Done w (judged plain i (reads x a) skip) (judged plain i' (reads x b) skip)
  unfolding least_broken read_rule
  method_read_t i i' (out n) a b k = out_read_t i i' n a b skip skip skip_t
  method_read_t i i' (prim p) a b k = judged_a P Q al i i' (reads (prim p) a) (reads (prim p) b) _ _ (λ s t ti. stops_low (reads (prim p) a) refl _ ∙ ap (λ z. is_low (prim_read p z)) (D.name_same P Q al ti a b k) ∙ sym (stops_low (reads (prim p) b) refl _)) skip_t
  method_read_t i i' (obj o) a b k = judged_a P Q al i i' (reads (obj o) a) (reads (obj o) b) _ _ (λ s t ti. D.read_same P Q al ti o a b k) skip_t

  -- what is met on the way to a built-in method ends no plain run
  pub silent_reach : (i : Spot) (x : Val) (a : Access) → Silent P Q al (reach_method plain i x a)
  unfolding reach_method least_broken
  silent_reach i (obj o) (runtime t w) = silent_act P Q al i (probes (obj o) (runtime t w)) (λ s. D.never P Q al (probes (obj o) (runtime t w)) s refl (high_probe s.tables s o (runtime t w)))
  silent_reach i (obj o) (quoted t) = silent_skip P Q al
  silent_reach i (obj o) (dotted p) = silent_skip P Q al
  silent_reach i (out n) a = silent_skip P Q al
  silent_reach i (prim p) a = silent_skip P Q al

  code_at_t : {w : List Label} {s t : State} → Tied w s t → (n : ℕ) → OptT (CodeA S N w) (code_at s n) (code_at t n)
  unfolding code_at
  code_at_t {w = w} ti n = code_in_t S N w (tied_get ti.objs n)

  pub method_t : {w : List Label} {s t : State} → Tied w s t → (x : Val) (a b : Access) → KeyN P Q al a b → Rattle.cc_meaning.specs.Calls.method_on s x (name_of s.tables a) ≡ Rattle.cc_meaning.specs.Calls.method_on t x (name_of t.tables b)
  method_t {w = w} {s = s} {t = t} ti x a b k = method_same S N w s t ti.objs x (name_of s.tables a) ∙ ap (λ z. Rattle.cc_meaning.specs.Calls.method_on t x z) (D.name_same P Q al ti a b k)

  pub upkeep : Upkeep T
  unfolding make_object make_array
  upkeep = record {
    up_mark = λ p. mark_t p;
    up_breach = λ i r. skip_t;
    up_object = D.same_value P Q al (D.add_t P Q al _ _ (D.bare_t P Q al None));
    up_array = λ h. rw (same_list h) (D.add_t P Q al _ _ (D.bare_t P Q al (Some _)));
    up_function = λ i f e. D.function_t P Q al _ _ f e;
    up_instance = λ e r. rw e (D.instance_t P Q al _ _ _);
    up_read = λ i e k. rw e (D.read_slot_t P Q al _ _ _ _ _ k);
    up_write = λ i d e k x. rw (e, same_val x) (D.write_t P Q al _ _ _ _ _ k _ _ _);
    up_remove = λ i e k. rw e (D.remove_t P Q al _ _ _ _ _ k);
    up_probe = λ i e t. rw e (D.probe_t P Q al _ _ _ t);
    up_walk = λ i e. rw e (D.walk_t P Q al _ _ _);
    up_instance_of = λ i a x. rw (same_val a, same_val x) (D.instance_of_t P Q al _ _ _ _);
    up_typeof = λ i e. rw e (D.typeof_t P Q al _ _ _);
    up_method = λ ti x k. rw (same_val x) (method_t ti _ _ _ k);
    up_method_read = λ i x k. rw (same_val x) (method_read_t _ _ _ _ _ k);
    up_reach_method = λ {w} {x} {y} {a} {b} {i} {i'} s v k. both_silent P Q al (silent_reach i x a) (silent_reach i' y b);
    up_use = λ {w} B B' i u vs h. rw (same_list vs) (use_t B B' _ _ w h u _);
    up_prim_read = λ i k. prim_read_t _ _ _ _ _ k;
    up_out_read = λ i k f. out_read_t _ _ _ _ _ _ _ (f k.same);
    up_out_write = λ x y d d' i k f. out_write_t _ _ _ _ _ x y d d' _ _ k (f k.same);
    up_read_var = λ i e r. read_var_t _ _ e r;
    up_write_var = λ i e r x. rw (same_val x) (write_var_t _ _ _ e r);
    up_set_var = λ i e h. absurd h;
    up_catch = λ e x. rw (same_val x) (catch_t _ e);
    up_frame = λ c t vs. rw (same_list vs) (frame_t _ _ _ _ _ c.function c.up (same_opt t));
    up_take_path = λ i p x k. absurd p;
    up_keep_path = λ i p x. absurd p;
    up_cast = λ i d x. cast_t _ _ _ _ _ _;
    up_code = λ ti e. rw e (code_at_t ti _);
    up_enters = λ i c t vs. enters_t _ _ _ _ _ _ _ _;
    up_leaves = λ i f built x. leaves_t _ _ _ _ built _ _;
    up_show = λ x. rw (same_val x) (show_t _);
    up_loading = λ i c. loading_t _ _ c;
    up_failed = λ l ti. failed_t _ ti;
    up_host_get = λ i given e t. host_get_t _ _ given _ _ e t;
    up_host_set = λ i given e t x. host_set_t _ _ given _ _ e t _ _ (same_val x);
  }

  abbrev pub alike_kit : Kit
  alike_kit = kit T upkeep
