-- The injection is kept by each operation of the store.
use Rattle.std.proofs.Common.{◌≡◌, ℕ, ◌+◌, ◌≤◌, Bool, true, false, List, [], ◌∷◌, ◌++◌, Option, Some, None, refl, sym, ap, subst, ◌∙◌, arith}
use Rattle.std.specs.Prelude.{slice_get, nat_eq, not, ◌&&◌, ◌||◌}
use Rattle.std.specs.List.{list_any}
use Rattle.std.proofs.lemmas.Bool.{eq-eqb}
use Rattle.cc_ast.specs.Syntax.{Prim, undefined}
use Rattle.cc_meaning.specs.Values.{Val, prim, obj, out, handle, Spot}
use Rattle.cc_meaning.specs.Operators.{is_in}
use Rattle.cc_meaning.specs.Names.{is_index}
use Rattle.cc_meaning.specs.State.{keyed_kind, State, Tables}
use Rattle.cc_meaning.specs.Monad.{M, marks, ret, stop, ◌>>=◌, attempt, paid, pay_from, pay, with_tables}
use Rattle.cc_meaning.specs.Store.{Access, quoted, name_of, is_kept}
use Rattle.cc_meaning.specs.SlotRules.{rule_unless}
use Rattle.cc_meaning.specs.Rules.{names_well, host_rule}
use Rattle.cc_meaning.specs.Judge.{reads, writes, hosts, least_broken}
use Rattle.cc_meaning.specs.Acts.{judged, changing, cast_to, read_slot, write_slot, next_place, handle_of, shown, show}
use Rattle.cc_meaning.specs.Calls.{code_at, prim_member, take_path, keep_path}
use Rattle.cc_meaning.specs.Script.{checked, deps_of, dependency_failed, note_load}
use Rattle.cc_meaning.specs.Alike.{In, here}
use Rattle.cc_tied.specs.Tied.{ListT, nil_t, cons_t, OptT, ValT, prim_t, out_t, obj_t, WayT, leaving, loading}
use Rattle.cc_tied.specs.Facts.{Facts}
use Rattle.cc_tied.proofs.Parts.{list_on}
use Rattle.cc_tied.proofs.Kit.{Kit}
use Rattle.cc_tied.proofs.Lists.{tied_length}
use Rattle.cc_tied.proofs.Sim.{Tie, World, now, ResT, ok_t, over_t, Sim, fine, sim_bind, sim_ret, sim_attempt, sim_tables}
use Rattle.cc_tied.proofs.Equality.EqualModes.{same_end, paid_sum}
use Rattle.cc_tied.proofs.Turns.{member_tied}
use Rattle.cc_tied.proofs.Upkeep.{Upkeep, kit}
use Rattle.cc_tied.proofs.Injection.World.{Tabs, Mates, Vals, same_kind, Codes}
use Rattle.cc_tied.proofs.Injection.Tie.{view, Other, KeyI, same_key, with_set, TiedI, with_budget, once, inject}
use Rattle.cc_tied.proofs.Injection.Rules.{name_same, any_dotted}
use Rattle.cc_tied.proofs.Injection.Objects.{code_at_tied, chain_of_tied, slots_on_tied}
use Rattle.cc_tied.proofs.Injection.Acts.{judged_in, judged_i, stopped_left, at_of, with_begun, ext_begun, begun_now}
use Rattle.cc_tied.proofs.Injection.Made.{any_front, object_t, array_t, function_t, instance_t}
use Rattle.cc_tied.proofs.Injection.Store.{read_none, read_slot_t, method_same, method_read_t}
use Rattle.cc_tied.proofs.Injection.Writes.{out_none, write_slot_t, write_t}
use Rattle.cc_tied.proofs.Injection.Asked.{remove_t, probe_t, reach_t, walk_t, instance_of_t, typeof_t}
use Rattle.cc_tied.proofs.Injection.Uses.{use_t}
use Rattle.cc_tied.proofs.Injection.Frames.{read_var_t, write_var_t}
use Rattle.cc_tied.proofs.Injection.Known.{set_known_t}
use Rattle.cc_tied.proofs.Injection.Calls.{catch_t, frame_t, take_path_t, keep_path_t, cast_t, enter_t, leave_t}

module _ (F : Facts) (S : Tables) (set' : Other S) where
  abbrev R : Tables
  R = with_set S set'

  abbrev T : Tie
  T = inject F S set'

  abbrev W : Type 0
  W = World T

  abbrev Tied : Tabs → State → State → Type 0
  Tied = TiedI F S set'

  abbrev Done : W → Unit {0} → Unit {0} → Type 0
  Done v a b = Unit {0}

  -- ---- prices

  paid_t : {w : W} (p : ℕ) {s t : State} → Tied w.w s t → s.budget ≤ w.l → t.budget ≤ w.r → (o o' : Option ℕ) → o ≡ o' → ((c : ℕ) → o ≡ Some c → c + p ≡ s.budget) → ResT T Done w (pay_from o s) (pay_from o' t)
  unfolding pay_from marks
  paid_t p ti le le' None None e h = over_t refl same_end
  paid_t p ti le le' None (Some c) e h = absurd (cc)
  paid_t p ti le le' (Some b) None e h = absurd (cc)
  paid_t {w = w} p {s = s} {t = t} ti le le' (Some b) (Some c) e h =
      let d : b ≡ c = cc in let k = h b refl in let q : s.budget ≡ t.budget = ti.budget in
      ok_t refl w (now T w) tt tt (with_budget F S set' b c d ti) (omega arith) (omega arith)

  mark_t : {w : W} (p : ℕ) → Sim T Done w (pay p) (pay p)
  unfolding pay
  mark_t p s t ti le le' = paid_t p ti le le' (paid p s.budget) (paid p t.budget) (ap (paid p) ti.budget) (λ c. paid_sum p s.budget c)

  -- ---- values that are no objects of the program

  named_member : {O : ℕ → ℕ → Type 0} (p : Prim) {m n : List ℕ} → m ≡ n → ValT O (prim_member p m) (prim_member p n)
  named_member p {n = n} e = rw e (member_tied p n)

  prim_read_t : {w : W} (i i' : Spot) (p : Prim) {a b : Access} → KeyI a b → Sim T (λ v. Vals v.w) w (judged checked i (reads (prim p) a) (with_tables (λ T. ret (prim_member p (name_of T a))))) (judged checked i' (reads (prim p) b) (with_tables (λ T. ret (prim_member p (name_of T b)))))
  unfolding least_broken
  prim_read_t i i' p {a = a} {b = b} k = judged_i F S set' i i' (reads (prim p) a) (reads (prim p) b) _ _ (λ s t ti e. read_none F S set' ti prim_t k e) (sim_tables T _ _ (sim_ret T _ _ (named_member p (name_same S set' k))))

  out_read_t : {A B : Type 0} {Q : W → A → B → Type 0} {w : W} (i i' : Spot) (n : ℕ) {a b : Access} {m : M A} {m' : M B} → KeyI a b → Sim T Q w m m' → Sim T Q w (judged checked i (reads (out n) a) m) (judged checked i' (reads (out n) b) m')
  unfolding least_broken
  out_read_t i i' n {a = a} {b = b} k h = judged_i F S set' i i' (reads (out n) a) (reads (out n) b) _ _ (λ s t ti e. read_none F S set' ti (out_t {n = n}) k e) h

  out_write_t : {A B : Type 0} {Q : W → A → B → Type 0} {w : W} (i i' : Spot) (n : ℕ) {a b : Access} (x y : Val) (d d' : Bool) {m : M A} {m' : M B} → KeyI a b → Sim T Q w m m' → Sim T Q w (judged checked i (writes (out n) a x d) m) (judged checked i' (writes (out n) b y d') m')
  unfolding least_broken
  out_write_t i i' n {a = a} {b = b} x y d d' k h = judged_i F S set' i i' (writes (out n) a x d) (writes (out n) b y d') _ _ (λ s t ti e. out_none F S set' s t n k x y d d' e) h

  -- ---- the outside

  next_same : {o p : Option ℕ} → o ≡ p → next_place o ≡ next_place p
  next_same e = ap next_place e

  handle_same : {w : Tabs} {s t : State} → Tied w s t → {ms ns : List ℕ} → ListT (Mates w) ms ns → {m n : ℕ} → Mates w m n → handle_of ms m ≡ handle_of ns n
  unfolding handle_of
  handle_same ti nil_t o = refl
  handle_same ti (cons_t k h) o = rw (once F S set' ti k o, handle_same ti h o) refl

  shown_t : {w : W} (o : Option ℕ) {m n : ℕ} → Mates w.w m n → Sim T (λ v a b. a ≡ b) w (shown o m) (shown o n)
  unfolding shown ret
  shown_t (Some h) o s t ti le le' = fine T _ _ refl ti le le'
  shown_t None o s t ti le le' = fine T _ _ (ap handle (tied_length ti.handles)) (record { tables = ti.tables; tables' = ti.tables'; objs = ti.objs; owned = ti.owned; mated = ti.mated; frames = ti.frames; globals = ti.globals; known = ti.known; loaded = ti.loaded; begun = ti.begun; failed = ti.failed; constructed = ti.constructed; handles = list_on ti.handles (cons_t o nil_t); replies = ti.replies; budget = ti.budget; extra = ti.extra }) le le'

  show_t : {w : W} {a b : Val} → Vals w.w a b → Sim T (λ v a b. a ≡ b) w (show a) (show b)
  unfolding show ret
  show_t prim_t s t ti le le' = fine T _ _ refl ti le le'
  show_t out_t s t ti le le' = fine T _ _ refl ti le le'
  show_t {w = w} (obj_t {m = m} {n = n} o) s t ti le le' = subst (λ z. ResT T (λ v a b. a ≡ b) w (shown (handle_of s.handles m) m s) (shown z n t)) (handle_same ti ti.handles o) (shown_t (handle_of s.handles m) o s t ti le le')

  failed_same : {w : Tabs} {s t : State} → Tied w s t → (c : ℕ) → dependency_failed s c ≡ dependency_failed t c
  unfolding dependency_failed
  failed_same {s = s} {t = t} ti c =
      ap (λ z. list_any (λ d. list_any (λ f. nat_eq f d) s.failed) (deps_of (slice_get z.chunks c))) ti.tables
      ∙ ap (λ z. list_any (λ d. list_any (λ f. nat_eq f d) z) (deps_of (slice_get S.chunks c))) ti.failed
      ∙ sym (ap (λ z. list_any (λ d. list_any (λ f. nat_eq f d) t.failed) (deps_of (slice_get z.chunks c))) ti.tables')

  still_loaded : (s : State) (c d : ℕ) → list_any (λ k. nat_eq k d) s.loaded ≡ true → list_any (λ k. nat_eq k d) (s.loaded ++ c ∷ []) ≡ true
  still_loaded s c d e = any_front (λ k. nat_eq k d) s.loaded (c ∷ []) e

  any_last : (xs : List ℕ) (c : ℕ) → list_any (λ d. nat_eq d c) (xs ++ c ∷ []) ≡ true
  any_last [] c = rw (eq-eqb c c refl) refl
  any_last (x ∷ xs) c = by_first (nat_eq x c) (any_last xs c)
    where
      by_first : (b : Bool) → list_any (λ d. nat_eq d c) (xs ++ c ∷ []) ≡ true → b || list_any (λ d. nat_eq d c) (xs ++ c ∷ []) ≡ true
      by_first true h = refl
      by_first false h = h

  loaded_tied : {w : Tabs} {s t : State} (c : ℕ) → Tied w s t → Tied w (record s { loaded = s.loaded ++ c ∷ [] }) (record t { loaded = t.loaded ++ c ∷ [] })
  loaded_tied {w = w} {s = s} {t = t} c ti = record { tables = ti.tables; tables' = ti.tables'; objs = ti.objs; owned = ti.owned; mated = ti.mated; frames = ti.frames; globals = ti.globals; known = ti.known; loaded = ap (λ z. z ++ c ∷ []) ti.loaded; begun = λ d q. still_loaded s c d (ti.begun d q); failed = ti.failed; constructed = ti.constructed; handles = ti.handles; replies = ti.replies; budget = ti.budget; extra = set'.rider.loading (view w s t) c ti.extra }

  load_t : {w : W} (c : ℕ) → Sim T (λ v a b. In c v.w.begun) w (changing (note_load c)) (changing (note_load c))
  unfolding changing note_load ret
  load_t {w = w} c s t ti le le' = ok_t refl (record { l = w.l; r = w.r; w = with_begun F S set' w.w c }) (omega arith, omega arith, record { ext = ext_begun F S set' w.w c; still = refl; stage = refl }) tt here (begun_now F S set' (loaded_tied c ti) c (any_last s.loaded c)) le le'

  host_none : {w : Tabs} {s t : State} → Tied w s t → (given : Bool) (b b' c c' : Bool) → b ≡ b' → c ≡ c' → rule_unless (given && b && not c) 13 ≡ None → rule_unless (given && b' && not c') 13 ≡ None
  host_none ti given b b' c c' e d h = rw (← e, ← d) h

  loading_t : {w : W} (i i' : Spot) (c : ℕ) → Sim T (λ v a b. In c v.w.begun) w (loading checked i c) (loading checked i' c)
  unfolding least_broken host_rule names_well
  loading_t i i' c s t ti le le' = judged_in F S set' i i' (hosts true None None (dependency_failed s c)) (hosts true None None (dependency_failed t c)) (changing (note_load c)) (changing (note_load c)) ti (λ e. (host_none ti true true true (dependency_failed s c) (dependency_failed t c) refl (failed_same ti c) e, load_t c s t ti le le'))

  failed_t : {w : Tabs} {s t : State} (c : ℕ) → Tied w s t → Tied w (record s { failed = s.failed ++ c ∷ [] }) (record t { failed = t.failed ++ c ∷ [] })
  failed_t c ti = record { tables = ti.tables; tables' = ti.tables'; objs = ti.objs; owned = ti.owned; mated = ti.mated; frames = ti.frames; globals = ti.globals; known = ti.known; loaded = ti.loaded; begun = ti.begun; failed = ap (λ z. z ++ c ∷ []) ti.failed; constructed = ti.constructed; handles = ti.handles; replies = ti.replies; budget = ti.budget; extra = ti.extra }

  names_same : {w : Tabs} {s t : State} → Tied w s t → {m n : ℕ} → Mates w m n → (c : List ℕ) → names_well S s (Some (obj m)) (Some c) ≡ names_well R t (Some (obj n)) (Some c)
  unfolding names_well is_kept
  names_same {w = w} {s = s} {t = t} ti o c = let at = at_of F S set' ti in ap (λ z. is_in c S.kept || is_index c || not z) (any_dotted S set' (slots_on_tied F S w s.objs t.objs at (chain_of_tied F S w s.objs t.objs at o)))

  named_none : {w : Tabs} {s t : State} → Tied w s t → (given : Bool) {m n : ℕ} → Mates w m n → (c : List ℕ) → host_rule S s given (Some (obj m)) (Some c) false ≡ None → host_rule R t given (Some (obj n)) (Some c) false ≡ None
  unfolding host_rule
  named_none ti given o c e = host_none ti given _ _ false false (names_same ti o c) refl e

  host_get_t : {w : W} (i i' : Spot) (given : Bool) {m n : ℕ} → Mates w.w m n → (c : List ℕ) → Sim T (λ v. WayT (Vals v.w) (Vals v.w)) w (judged checked i (hosts given (Some (obj m)) (Some c) false) (attempt (read_slot checked i m (quoted c)))) (judged checked i' (hosts given (Some (obj n)) (Some c) false) (attempt (read_slot checked i' n (quoted c))))
  unfolding least_broken
  host_get_t i i' given {m = m} {n = n} o c = judged_i F S set' i i' (hosts given (Some (obj m)) (Some c) false) (hosts given (Some (obj n)) (Some c) false) _ _ (λ s t ti e. named_none ti given o c e) (sim_attempt T {R = λ v. Vals v.w} (read_slot_t F S set' i i' o (same_key {a = quoted c})))

  host_set_t : {w : W} (i i' : Spot) (given : Bool) {m n : ℕ} → Mates w.w m n → (c : List ℕ) {x y : Val} → Vals w.w x y → Sim T (λ v. WayT (Vals v.w) (Vals v.w)) w (judged checked i (hosts given (Some (obj m)) (Some c) false) (attempt (write_slot checked i m (quoted c) keyed_kind x false >>= λ _. ret (prim undefined)))) (judged checked i' (hosts given (Some (obj n)) (Some c) false) (attempt (write_slot checked i' n (quoted c) keyed_kind y false >>= λ _. ret (prim undefined))))
  unfolding least_broken
  host_set_t i i' given {m = m} {n = n} o c v = judged_i F S set' i i' (hosts given (Some (obj m)) (Some c) false) (hosts given (Some (obj n)) (Some c) false) _ _ (λ s t ti e. named_none ti given o c e) (sim_attempt T {R = λ v. Vals v.w} (sim_bind T {R = Done} (write_slot_t F S set' i i' o (same_key {a = quoted c}) same_kind v false false (λ e. e)) (λ z l _ _ _. sim_ret T (prim undefined) (prim undefined) prim_t)))

  code_t : {w : Tabs} {s t : State} → Tied w s t → {m n : ℕ} → Mates w m n → OptT (Codes F S w) (code_at s m) (code_at t n)
  unfolding code_at
  code_t {w = w} ti {m = m} {n = n} o = code_at_tied F S w (at_of F S set' ti m n o)

  pub upkeep : Upkeep T
  unfolding stop
  upkeep = record {
    up_mark = λ p. mark_t p;
    up_breach = λ {i} e r. stopped_left F S set' r i _;
    up_object = object_t F S set';
    up_array = λ h. array_t F S set' h;
    up_function = λ i f e. function_t F S set' _ _ f e;
    up_instance = λ o c. instance_t F S set' o c;
    up_read = λ i o k. read_slot_t F S set' _ _ o k;
    up_write = λ i d o k v. write_t F S set' _ _ o k v d;
    up_remove = λ i o k. remove_t F S set' _ _ o k;
    up_probe = λ i o t. probe_t F S set' _ _ o t;
    up_walk = λ i o. walk_t F S set' _ _ o;
    up_instance_of = λ i a x. instance_of_t F S set' _ _ a x;
    up_typeof = λ i o. typeof_t F S set' _ _ o;
    up_method = λ ti x k. method_same F S set' ti x k;
    up_method_read = λ i x k. method_read_t F S set' _ _ x k;
    up_reach_method = λ i x k. reach_t F S set' _ _ x k;
    up_use = λ {w} B B' i u vs h. use_t F S set' B B' _ _ w h u vs;
    up_prim_read = λ i k. prim_read_t _ _ _ k;
    up_out_read = λ i k f. out_read_t _ _ _ k (f (name_same S set' k));
    up_out_write = λ x y d d' i k f. out_write_t _ _ _ x y d d' k (f (name_same S set' k));
    up_read_var = λ i e r. read_var_t F S set' _ _ e r;
    up_write_var = λ i e r x. write_var_t F S set' _ _ e r x;
    up_set_var = λ i e h. set_known_t F S set' _ _ e h;
    up_catch = λ e x. catch_t F S set' e x;
    up_frame = λ c t vs. frame_t F S set' c t vs;
    up_take_path = λ {w} {p} {p'} {x} {y} {a} {b} {i} {i'} s q v k. subst (λ z. Sim T Done w (take_path checked i (Some p) x a) (take_path checked i' (Some z) y b)) q.0 (take_path_t F S set' i i' p q.1 v k);
    up_keep_path = λ {w} {p} {p'} {x} {y} {i} {i'} s q v. subst (λ z. Sim T Done w (keep_path checked i (Some p) x) (keep_path checked i' (Some z) y)) q.0 (keep_path_t F S set' i i' p q.1 v);
    up_cast = λ {w} {d} {d'} {x} {y} {i} {i'} s q v. subst (λ z. Sim T Done w (cast_to checked i d x) (cast_to checked i' z y)) q (cast_t F S set' i i' d v);
    up_code = λ ti o. code_t ti o;
    up_enters = λ i c t vs. enter_t F S set' _ _ c t vs;
    up_leaves = λ {w} {f} {f'} {x} {y} {i} {i'} s q built v. subst (λ z. Sim T Done w (leaving checked i f built x) (leaving checked i' z built y)) q.same (leave_t F S set' i i' f built v);
    up_show = λ x. show_t x;
    up_loading = λ i c. loading_t _ _ c;
    up_failed = λ l ti. failed_t _ ti;
    up_host_get = λ i given o t. host_get_t _ _ given o t;
    up_host_set = λ i given o t v. host_set_t _ _ given o t v;
  }

  abbrev pub inject_kit : Kit
  inject_kit = kit T upkeep
