-- Objects of alike programs' plain runs: what makes, reads and writes them keeps the tie.
use Rattle.std.proofs.Common.{◌≡◌, ℕ, suc, Bool, true, false, List, [], ◌∷◌, ◌++◌, length, Option, Some, None, refl, sym, ap, subst, ◌∙◌, arith}
use Rattle.std.specs.Prelude.{slice_get, not, is_none}
use Rattle.cc_ast.specs.Syntax.{Prim, truth, text, Program}
use Rattle.cc_ast.specs.declared.operator.BinOp.TheVariants.{Instance}
use Rattle.cc_ast.specs.declared.operator.UnOp.TheVariants.{Typeof}
use Rattle.cc_meaning.specs.Values.{Val, prim, obj, out, Spot}
use Rattle.cc_meaning.specs.State.{Kind, bare, Obj, FrameKind, of_own_name, Env, State, Tables}
use Rattle.cc_meaning.specs.Monad.{marks, M, ret, said, after, ◌>>=◌}
use Rattle.cc_meaning.specs.Store.{Access, runtime, name_of, kind_by, kind_for, value_found, look_up, has_name, is_found_value, chain_of, chain_in, slots_on, names_on, put_own, change}
use Rattle.cc_meaning.specs.Typed.{elements_in}
use Rattle.cc_meaning.specs.SlotRules.{fields_reached, has_slot, read_rule, write_rule, rule_if, walk_rule}
use Rattle.cc_meaning.specs.Rules.{unary_op, binary_op, prototype_object, prototype_at, binary_rule, unary_rule, operate_rule}
use Rattle.cc_meaning.specs.Judge.{Act, operates, reads, writes, removes, probes, walks, least_broken}
use Rattle.cc_meaning.specs.Acts.{reading, changing, receive_all, add_obj, chain_from, make_instance, function_object, add_function, add_function_by, has_own_name, make_function, push_frame, read_slot, write_slot, drop_own, dropped_from, remove, is_there, probe, names_of, walk, is_on, instance_value, operate, object_type, operate_one}
use Rattle.cc_meaning.specs.Calls.{declares_on}
use Rattle.cc_meaning.specs.Shapes.{tables_of, plain_tables}
use Rattle.cc_meaning.specs.Script.{plain}
use Rattle.cc_meaning.specs.Alike.{Paired, own_pair, Around, Numbering, PlaceA, in_own, Alike, FunA, owns}
use Rattle.cc_tied.specs.Tied.{ListT, nil_t, cons_t, none_t, some_t, ValT, prim_t}
use Rattle.cc_tied.proofs.Sim.{Tie, World, ok_t, Sim, fine, sim_as, sim_bind, sim_ret, sim_tables}
use Rattle.cc_tied.proofs.Lists.{tied_get, tied_push, tied_length, tied_more}
use Rattle.cc_tied.proofs.Equality.Equal.{Eq, same_val, val_as}
use Rattle.cc_tied.proofs.Fatal.{is_low, stops, decide, judged_plain, stops_low, whole_key, broken_key, low_read, low_write, write_low, low_remove, high_probe, high_walk, high_outside, high_enter, high_leave, low_take, high_keep, high_cast, least_first}
use Rattle.cc_tied.proofs.Alike.Frames.{Label, KindA, own_k, Chain, EnvA, Grows, chain_later, label_at_end, frames_push, length_left, length_right}
use Rattle.cc_tied.proofs.Alike.Objects.{beyond, inside_beyond, SlotA, CodeA, ObjA, obj_later, code_in_t, elements_same, value_same, has_slot_same, prototype_same, type_same, chain_of_same, look_up_same, names_on_same, outcome_same, method_same, put_tied, drop_tied, objs_changed}
use Rattle.cc_tied.proofs.Alike.Tie.{TiedA, KeyN, alike, judged_a, silent_read, silent_all, both_silent}

module _ (P Q : Program) (al : Alike P Q) where
  abbrev N : Numbering
  N = al.N

  abbrev S : Tables
  S = tables_of P

  abbrev S' : Tables
  S' = tables_of Q

  abbrev T : Tie
  T = alike P Q al

  abbrev W : Type 0
  W = World T

  abbrev Tied : List Label → State → State → Type 0
  Tied = TiedA P Q al

  abbrev Vals : W → Val → Val → Type 0
  Vals v = ValT Eq

  abbrev Done : W → Unit {0} → Unit {0} → Type 0
  Done v a b = Unit {0}

  -- ---- states with another part

  pub with_objs : {w : List Label} {s t : State} (os ps : List Obj) → Tied w s t → ListT (ObjA S N w) os ps → Tied w (record s { objs = os }) (record t { objs = ps })
  with_objs os ps h k = record { tables = h.tables; tables' = h.tables'; objs = k; frames = h.frames; globals = h.globals; loaded = h.loaded; failed = h.failed; handles = h.handles; budget = h.budget; replies = h.replies }

  -- a name that is read off the tables of the states
  pub name_same : {w : List Label} {s t : State} → Tied w s t → (a b : Access) → KeyN P Q al a b → name_of s.tables a ≡ name_of t.tables b
  name_same ti a b k = ap (λ z. name_of z a) ti.tables ∙ k.same ∙ sym (ap (λ z. name_of z b) ti.tables')

  -- ---- acts

  pub never : (a : Act) (s : State) → Rattle.cc_tied.proofs.Fatal.is_plain_act a ≡ true → is_low (least_broken s.tables s a) ≡ false → stops a (least_broken s.tables s a) ≡ false
  never a s e d = stops_low a e _ ∙ d

  -- ---- objects

  pub add_t : {w : W} (x y : Obj) → ObjA S N w.w x y → Sim T Vals w (add_obj x) (add_obj y)
  unfolding add_obj ret
  add_t x y h s t ti le le' = fine T _ _ (val_as (ap obj (tied_length ti.objs))) (with_objs _ _ ti (tied_push ti.objs h)) le le'

  pub bare_t : {w : List Label} (es : Option (List Val)) → ObjA S N w (record bare { elements = es }) (record bare { elements = es })
  bare_t es = record { chain = refl; elements = refl; slots = nil_t; code = none_t }

  -- the same number
  pub same_value : {w : W} {m m' : M Val} → Sim T Vals w m m' → Sim T (λ v a b. a ≡ b) w m m'
  same_value h = sim_as T (λ v l a b q. same_val q) h

  -- a frame on both sides
  pub push_t : {w : W} (l : Label) (k k' : FrameKind) (u u' : Option ℕ) (vs vs' : List (Option Val)) → KindA l.pair k k' → u ≡ l.up → u' ≡ l.up → ((m n : ℕ) → PlaceA S S' N l.pair m n → slice_get vs m ≡ slice_get vs' n) → Sim T (λ v m n. (m ≡ n) × (slice_get v.w m ≡ Some l)) w (push_frame k u vs) (push_frame k' u' vs')
  unfolding push_frame ret marks
  push_t {w = w} l k k' u u' vs vs' kt e e' q s t ti le le' =
      let g : Grows w.w (w.w ++ l ∷ []) = record { more = l ∷ []; is = refl } in
      ok_t refl (record { l = w.l; r = w.r; w = w.w ++ l ∷ [] }) (omega arith, omega arith, g) tt
      (length_left S S' N ti.frames ∙ sym (length_right S S' N ti.frames), label_at_end w.w l (length s.frames) (length_left S S' N ti.frames))
      (record { tables = ti.tables; tables' = ti.tables'; objs = tied_more (obj_later S N g) ti.objs; frames = frames_push S S' N ti.frames (record { kind = kt; up = e; up' = e'; values = q }); globals = ti.globals; loaded = ti.loaded; failed = ti.failed; handles = ti.handles; budget = ti.budget; replies = ti.replies }) le le'

  -- a function object, with the object that is its prototype
  pub code_t : {w : W} {f f' : ℕ} (i i' : ℕ) {u u' : Option ℕ} → Paired N.functions f f' → u ≡ u' → Chain w.w (beyond (owns S f) (N.around (f, f'))) u → Sim T Vals w (add_function f i u) (add_function f' i' u')
  unfolding add_function function_object ret
  code_t {w = w} i i' q e c s t ti le le' =
      let d : length s.objs ≡ length t.objs = tied_length ti.objs in
      fine T _ _ (val_as (ap (λ z. obj (suc z)) d))
      (with_objs _ _ ti (push_two ti.objs (bare_t None) (record { chain = refl; elements = refl; slots = cons_t (record { name = refl; value = ap obj d }) nil_t; code = some_t (record { function = q; up = e; chain = c }) }))) le le'
    where
      push_two : {xs ys : List Obj} {a b c d : Obj} → ListT (ObjA S N w.w) xs ys → ObjA S N w.w a b → ObjA S N w.w c d → ListT (ObjA S N w.w) (xs ++ a ∷ c ∷ []) (ys ++ b ∷ d ∷ [])
      push_two nil_t h k = cons_t h (cons_t k nil_t)
      push_two (cons_t r t) h k = cons_t r (push_two t h k)

  pub one_place : (x y : Val) → x ≡ y → (m n : ℕ) → PlaceA S S' N own_pair m n → slice_get (Some x ∷ []) m ≡ slice_get (Some y ∷ []) n
  one_place x y e _ _ in_own = ap (λ z. Some (Some z)) e

  pub own_t : {w : W} {c : Around} (own : Bool) {f f' : ℕ} (i i' : ℕ) {u u' : Option ℕ} → owns S f ≡ own → FunA S S' N c f f' → u ≡ u' → Chain w.w c u → Sim T Vals w (add_function_by own f i u) (add_function_by own f' i' u')
  unfolding add_function_by beyond
  own_t {w = w} false {f = f} {f' = f'} i i' {u = u} o q e k s t ti le le' = code_t i i' q.paired e (subst (λ z. Chain w.w (beyond z (N.around (f, f'))) u) (sym o) (subst (λ z. Chain w.w z u) (sym q.stands) k)) s t ti le le'
  own_t {w = w} true {f = f} {f' = f'} i i' {u = u} {u' = u'} o q e k s t ti le le' =
      sim_bind T (push_t (record { pair = own_pair; up = u }) of_own_name of_own_name u u' (Some (obj (suc (length s.objs))) ∷ []) (Some (obj (suc (length t.objs))) ∷ []) own_k refl (sym e) (one_place _ _ (ap (λ z. obj (suc z)) (tied_length ti.objs))))
      (λ v l m n h. code_t i i' q.paired (ap Some h.0) (subst (λ z. Chain v.w (beyond z (N.around (f, f'))) (Some m)) (sym o) (u, h.1, subst (λ z. Chain v.w z u) (sym q.stands) (chain_later l.2 _ u k)))) s t ti le le'

  pub owns_plain : (R : Program) (f : ℕ) → has_own_name (slice_get (plain_tables R).heads f) ≡ owns (tables_of R) f
  unfolding plain_tables tables_of owns
  owns_plain R f = refl

  pub function_t : {w : W} {c : Around} {f f' : ℕ} (i i' : ℕ) {g h : Env} → FunA S S' N c f f' → EnvA c w.w g h → Sim T Vals w (make_function f i g) (make_function f' i' h)
  unfolding make_function
  function_t {w = w} {f = f} {f' = f'} i i' {g = g} {h = h} q e =
      sim_tables T _ _
      (subst (λ z. Sim T Vals w (add_function_by (has_own_name (slice_get (plain_tables P).heads f)) f i g.at) (add_function_by z f' i' h.at)) (owns_plain P f ∙ al.own f f' q.paired ∙ sym (owns_plain Q f'))
      (own_t (has_own_name (slice_get (plain_tables P).heads f)) i i' (sym (owns_plain P f)) q e.at e.chain))

  pub prototype_at_same : {w : List Label} {s t : State} → Tied w s t → (v : Val) → prototype_at s v ≡ prototype_at t v
  unfolding prototype_at
  prototype_at_same {w = w} ti (obj n) = ap prototype_object (prototype_same S N w (tied_get ti.objs n))
  prototype_at_same ti (out n) = refl
  prototype_at_same ti (prim p) = refl

  pub chain_from_same : {w : List Label} {s t : State} → Tied w s t → (o : Option ℕ) → chain_from s o ≡ chain_from t o
  unfolding chain_from
  chain_from_same ti None = refl
  chain_from_same {w = w} ti (Some p) = chain_of_same S N w ti.objs p

  pub instance_t : {w : W} (n f f' : ℕ) → Sim T Vals w (make_instance n f) (make_instance n f')
  unfolding make_instance add_obj ret
  instance_t {w = w} n f f' s t ti le le' =
      let c : chain_from s (prototype_at s (obj n)) ≡ chain_from t (prototype_at t (obj n)) = chain_from_same ti (prototype_at s (obj n)) ∙ ap (λ z. chain_from t z) (prototype_at_same ti (obj n)) in
      fine T _ _ (val_as (ap obj (tied_length ti.objs))) (record { tables = ti.tables; tables' = ti.tables'; objs = tied_push ti.objs (record { chain = c; elements = refl; slots = nil_t; code = none_t }); frames = ti.frames; globals = ti.globals; loaded = ti.loaded; failed = ti.failed; handles = ti.handles; budget = ti.budget; replies = ti.replies }) le le'

  -- ---- slots

  pub found_t : {w : W} (o : ℕ) (a b : Access) → KeyN P Q al a b → Sim T Vals w (reading (λ s. value_found (look_up s.objs o (name_of s.tables a)))) (reading (λ s. value_found (look_up s.objs o (name_of s.tables b))))
  unfolding reading ret
  found_t {w = w} o a b k s t ti le le' = fine T _ _ (val_as (ap value_found (look_up_same S N w.w ti.objs o (name_of s.tables a) ∙ ap (λ z. look_up t.objs o z) (name_same ti a b k)))) ti le le'

  -- ends of acts that depend on what is the same in both states
  pub read_same : {w : List Label} {s t : State} → Tied w s t → (o : ℕ) (a b : Access) → KeyN P Q al a b → stops (reads (obj o) a) (read_rule s.tables s (obj o) a) ≡ stops (reads (obj o) b) (read_rule t.tables t (obj o) b)
  read_same {w = w} {s = s} {t = t} ti o a b k =
      stops_low (reads (obj o) a) refl _
      ∙ low_read s.tables s o a
      ∙ ap (λ z. broken_key (elements_in (slice_get s.objs o)) (whole_key a) z) (name_same ti a b k)
      ∙ ap (λ z. broken_key (elements_in (slice_get s.objs o)) z (name_of t.tables b)) k.whole
      ∙ ap (λ z. broken_key z (whole_key b) (name_of t.tables b)) (elements_same S N w (tied_get ti.objs o))
      ∙ sym (low_read t.tables t o b)
      ∙ sym (stops_low (reads (obj o) b) refl _)

  pub read_slot_t : {w : W} (i i' : Spot) (o : ℕ) (a b : Access) → KeyN P Q al a b → Sim T Vals w (read_slot plain i o a) (read_slot plain i' o b)
  unfolding read_slot least_broken
  read_slot_t i i' o a b k =
      sim_bind T {R = Vals} (judged_a P Q al i i' (reads (obj o) a) (reads (obj o) b) _ _ (λ s t ti. read_same ti o a b k) (found_t o a b k)) (λ v2 l2 x y h.
      sim_bind T {R = Done} (both_silent P Q al (silent_read P Q al (λ s. fields_reached s.tables s.objs o a) (λ c. receive_all c x) (λ c. silent_all P Q al c x)) (silent_read P Q al (λ s. fields_reached s.tables s.objs o b) (λ c. receive_all c y) (λ c. silent_all P Q al c y))) (λ v3 l3 _ _ _. sim_ret T x y h))

  pub write_same : {w : List Label} {s t : State} → Tied w s t → (o : ℕ) (a b : Access) → KeyN P Q al a b → (x y : Val) (d d' : Bool) → is_low (write_rule s.tables s (obj o) a x d) ≡ is_low (write_rule t.tables t (obj o) b y d')
  write_same {w = w} {s = s} {t = t} ti o a b k x y d d' =
      low_write s.tables s o a x d
      ∙ ap (λ z. write_low (whole_key a) z (elements_in (slice_get s.objs o))) (name_same ti a b k)
      ∙ ap (λ z. write_low z (name_of t.tables b) (elements_in (slice_get s.objs o))) k.whole
      ∙ ap (λ z. write_low (whole_key b) (name_of t.tables b) z) (elements_same S N w (tied_get ti.objs o))
      ∙ sym (low_write t.tables t o b y d')

  pub put_t : {w : W} (o : ℕ) (a b : Access) → KeyN P Q al a b → (k k' : Kind) (x y : Val) → x ≡ y → Sim T Done w (λ s. changing (change o (put_own (name_of s.tables a) (kind_for s.tables (name_of s.tables a) k) x)) s) (λ s. changing (change o (put_own (name_of s.tables b) (kind_for s.tables (name_of s.tables b) k') y)) s)
  unfolding changing change ret
  put_t {w = w} o a b q k k' x y e s t ti le le' =
      fine T tt tt tt (with_objs _ _ ti (objs_changed S N w.w ti.objs o _ _ (λ c d h. subst (λ z. ObjA S N w.w (put_own (name_of s.tables a) (kind_for s.tables (name_of s.tables a) k) x c) (put_own (name_of t.tables b) (kind_for t.tables (name_of t.tables b) k') z d)) e (subst (λ z. ObjA S N w.w (put_own (name_of s.tables a) (kind_for s.tables (name_of s.tables a) k) x c) (put_own z (kind_for t.tables (name_of t.tables b) k') x d)) (name_same ti a b q) (put_tied S N w.w h (name_of s.tables a) _ _ x))))) le le'

  pub write_slot_t : {w : W} (i i' : Spot) (o : ℕ) (a b : Access) → KeyN P Q al a b → (k k' : Kind) (x y : Val) → x ≡ y → (d d' : Bool) → Sim T Done w (write_slot plain i o a k x d) (write_slot plain i' o b k' y d')
  unfolding write_slot least_broken
  write_slot_t i i' o a b q k k' x y e d d' =
      sim_bind T {R = Done} (judged_a P Q al i i' (writes (obj o) a x d) (writes (obj o) b y d') _ _ (λ s t ti. stops_low (writes (obj o) a x d) refl _ ∙ write_same ti o a b q x y d d' ∙ sym (stops_low (writes (obj o) b y d') refl _)) (put_t o a b q k k' x y e)) (λ v2 l2 _ _ _.
      both_silent P Q al (silent_read P Q al (λ s. fields_reached s.tables s.objs o a) (λ c. receive_all c x) (λ c. silent_all P Q al c x)) (silent_read P Q al (λ s. fields_reached s.tables s.objs o b) (λ c. receive_all c y) (λ c. silent_all P Q al c y)))

  pub write_t : {w : W} (i i' : Spot) (o : ℕ) (a b : Access) → KeyN P Q al a b → (x : Val) (d d' : List ℕ) → Sim T Done w (λ s. write_slot plain i o a (kind_by a) x (declares_on s d (obj o)) s) (λ s. write_slot plain i' o b (kind_by b) x (declares_on s d' (obj o)) s)
  write_t i i' o a b q x d d' s t ti le le' = write_slot_t i i' o a b q (kind_by a) (kind_by b) x x refl (declares_on s d (obj o)) (declares_on t d' (obj o)) s t ti le le'

  pub drop_t : {w : W} (o : ℕ) (a b : Access) → KeyN P Q al a b → Sim T Vals w (λ s. (changing (dropped_from (obj o) (name_of s.tables a)) >>= λ _. ret (prim (truth true))) s) (λ s. (changing (dropped_from (obj o) (name_of s.tables b)) >>= λ _. ret (prim (truth true))) s)
  unfolding changing dropped_from change ret ◌>>=◌ after said
  drop_t {w = w} o a b q s t ti le le' =
      fine T _ _ prim_t (with_objs _ _ ti (objs_changed S N w.w ti.objs o _ _ (λ c d h. subst (λ z. ObjA S N w.w (drop_own (name_of s.tables a) c) (drop_own z d)) (name_same ti a b q) (drop_tied S N w.w h (name_of s.tables a))))) le le'

  pub remove_t : {w : W} (i i' : Spot) (o : ℕ) (a b : Access) → KeyN P Q al a b → Sim T Vals w (remove plain i (obj o) a) (remove plain i' (obj o) b)
  unfolding remove least_broken
  remove_t i i' o a b q = judged_a P Q al i i' (removes (obj o) a) (removes (obj o) b) _ _ (λ s t ti. stops_low (removes (obj o) a) refl _ ∙ low_remove s.tables s o a ∙ same ti ∙ sym (low_remove t.tables t o b) ∙ sym (stops_low (removes (obj o) b) refl _)) (drop_t o a b q)
    where
      same : {w : List Label} {s t : State} → Tied w s t → not (has_slot (slice_get s.objs o) (name_of s.tables a)) ≡ not (has_slot (slice_get t.objs o) (name_of t.tables b))
      same {w = w} {s = s} {t = t} ti = ap (λ z. not (has_slot (slice_get s.objs o) z)) (name_same ti a b q) ∙ ap not (has_slot_same S N w (tied_get ti.objs o) (name_of t.tables b))

  pub there_t : {w : W} (o : ℕ) (t : List ℕ) → Sim T (λ v p q. p ≡ q) w (reading (λ s. is_there s (obj o) t)) (reading (λ s. is_there s (obj o) t))
  unfolding reading is_there has_name ret
  there_t {w = w} o n s t ti le le' = fine T _ _ (ap is_found_value (look_up_same S N w.w ti.objs o n)) ti le le'

  pub probe_t : {w : W} (i i' : Spot) (o : ℕ) (t : List ℕ) → Sim T (λ v p q. p ≡ q) w (probe plain i (obj o) t) (probe plain i' (obj o) t)
  unfolding probe least_broken
  probe_t i i' o n = judged_a P Q al i i' (probes (obj o) (runtime n false)) (probes (obj o) (runtime n false)) _ _ (λ s t ti. never (probes (obj o) (runtime n false)) s refl (high_probe s.tables s o (runtime n false)) ∙ sym (never (probes (obj o) (runtime n false)) t refl (high_probe t.tables t o (runtime n false)))) (there_t o n)

  pub names_t : {w : W} (o : ℕ) → Sim T (λ v p q. p ≡ q) w (reading (λ s. names_of s (obj o))) (reading (λ s. names_of s (obj o)))
  unfolding reading names_of ret
  names_t {w = w} o s t ti le le' = fine T _ _ (names_on_same S N w.w ti.objs [] (chain_of s.objs o) ∙ ap (λ z. names_on t.objs [] z) (chain_of_same S N w.w ti.objs o)) ti le le'

  pub walk_t : {w : W} (i i' : Spot) (o : ℕ) → Sim T (λ v p q. p ≡ q) w (walk plain i (obj o)) (walk plain i' (obj o))
  unfolding walk least_broken walk_rule
  walk_t i i' o = judged_a P Q al i i' (walks (obj o)) (walks (obj o)) _ _ (λ s t ti. never (walks (obj o)) s refl (high_walk (slots_on s.objs (chain_of s.objs o))) ∙ sym (never (walks (obj o)) t refl (high_walk (slots_on t.objs (chain_of t.objs o))))) (names_t o)

  -- ---- operators

  pub instance_same : {w : List Label} {s t : State} → Tied w s t → (a x : Val) → instance_value s a x ≡ instance_value t a x
  unfolding instance_value
  instance_same {w = w} {s = s} {t = t} ti (obj n) x = ap (λ z. is_on z (prototype_at s x)) (Rattle.cc_tied.proofs.Alike.Objects.chain_same S N w (tied_get ti.objs n)) ∙ ap (λ z. is_on (chain_in (slice_get t.objs n)) z) (prototype_at_same ti x)
  instance_same ti (out n) x = refl
  instance_same ti (prim p) x = refl

  pub is_instance_t : {w : W} (a x : Val) → Sim T Vals w (reading (λ s. prim (truth (instance_value s a x)))) (reading (λ s. prim (truth (instance_value s a x))))
  unfolding reading ret
  is_instance_t a x s t ti le le' = fine T _ _ (val_as (ap (λ z. prim (truth z)) (instance_same ti a x))) ti le le'

  pub instance_of_t : {w : W} (i i' : Spot) (a x : Val) → Sim T Vals w (operate plain i Instance a x) (operate plain i' Instance a x)
  unfolding operate least_broken operate_rule binary_rule
  instance_of_t i i' a x = judged_a P Q al i i' (operates (binary_op Instance) (a ∷ x ∷ [])) (operates (binary_op Instance) (a ∷ x ∷ [])) _ _ (λ s t ti. ap (λ z. stops (operates (binary_op Instance) (a ∷ x ∷ [])) (rule_if (is_none z) 2)) (prototype_at_same ti x)) (is_instance_t a x)

  pub type_t : {w : W} (n : ℕ) → Sim T Vals w (reading (λ s. prim (text (object_type (slice_get s.objs n))))) (reading (λ s. prim (text (object_type (slice_get s.objs n)))))
  unfolding reading ret
  type_t {w = w} n s t ti le le' = fine T _ _ (val_as (ap (λ z. prim (text z)) (type_same S N w.w (tied_get ti.objs n)))) ti le le'

  pub typeof_t : {w : W} (i i' : Spot) (n : ℕ) → Sim T Vals w (operate_one plain i Typeof (obj n)) (operate_one plain i' Typeof (obj n))
  unfolding operate_one least_broken operate_rule unary_rule
  typeof_t i i' n = judged_a P Q al i i' (operates (unary_op Typeof) (obj n ∷ [])) (operates (unary_op Typeof) (obj n ∷ [])) _ _ (λ s t ti. refl) (type_t n)
