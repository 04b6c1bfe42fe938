-- Equal states stay equal: each operation of the store, judged in two ways.
use Rattle.std.proofs.Common.{◌≡◌, ℕ, Bool, true, false, is_some, List, [], ◌∷◌, ◌++◌, Option, Some, None, refl, sym, ap, subst, ◌∙◌, append-nil}
use Rattle.std.specs.Prelude.{slice_get}
use Rattle.cc_ast.specs.Syntax.{Prim, undefined}
use Rattle.cc_ast.specs.declared.operator.BinOp.TheVariants.{Instance}
use Rattle.cc_ast.specs.declared.operator.UnOp.TheVariants.{Typeof}
use Rattle.cc_ast.specs.declared.tables.TypeSet.{TypeSet}
use Rattle.cc_ast.specs.declared.tables.Element.{Element}
use Rattle.cc_ast.specs.declared.tree.Ref.{Ref}
use Rattle.cc_meaning.specs.Values.{Val, prim, obj, out, Spot, at_site}
use Rattle.cc_meaning.specs.Builtins.{ArrayAnswer, answers, answers_array, or_undefined}
use Rattle.cc_meaning.specs.State.{Kind, keyed_kind, Code, Obj, FrameKind, of_call, of_catch, of_own_name, Frame, Env, State, Tables}
use Rattle.cc_meaning.specs.Monad.{M, ret, skip, ◌>>=◌, attempt, with_tables, after, said, Mode}
use Rattle.cc_meaning.specs.Store.{Access, dotted, runtime, quoted, name_of, kind_by, Global, extern, built_in, of_chunk, global_kind, Use, own_value, change, frame_up, frame_at}
use Rattle.cc_meaning.specs.Typed.{Variable, global, local, flat, variable_type, value_in, doc_at, params_in, result_in, function_doc}
use Rattle.cc_meaning.specs.SlotRules.{fields_reached, write_rule}
use Rattle.cc_meaning.specs.Rules.{unary_op, binary_op, built_op, prototype_at}
use Rattle.cc_meaning.specs.Judge.{operates, reads, writes, removes, probes, walks, enters, leaves, takes, keeps, casts, hosts, least_broken}
use Rattle.cc_meaning.specs.Built.{BuiltOutcome, built_value, built_change, built_object, built_question, built_call, built_breaks, outcome_of}
use Rattle.cc_meaning.specs.Acts.{judged, is_fatal, reading, changing, enter_element, receive, receive_all, receive_each, add_obj, make_object, make_array, make_from, chain_from, make_instance, add_function, add_function_by, has_own_name, make_function, push_frame, place_in, read_by_kind, read_place, is_loaded, global_value, read_global, read_var, set_place, set_global, keep, write_by_kind, write_place, write_var, read_slot, write_slot, dropped_from, remove, is_there, probe, names_of, walk, instance_value, operate, operate_one, cast_to, handle_of, shown, show}
use Rattle.cc_meaning.specs.Calls.{Bodies, code_at, method_on, declares_on, call_object, take_path, keep_path, array_answer, perform, use_built, reach_method}
use Rattle.cc_meaning.specs.Meaning.{call_frame}
use Rattle.cc_meaning.specs.Script.{dependency_failed, note_load}
use Rattle.cc_tied.specs.Tied.{ListT, OptT, ValT, WayT, CodeT, entering, leaving, loading}
use Rattle.cc_tied.proofs.Kit.{Kit}
use Rattle.cc_tied.proofs.Sim.{Tie, World, ResT, Sim, sim_as, sim_bind, sim_ret, sim_attempt, sim_tables}
use Rattle.cc_tied.proofs.Upkeep.{Upkeep, kit}
use Rattle.cc_tied.proofs.Equality.Equal.{Budgets, Passes, equal, Same, Quiet, QuietR, at_budget, Eq, refl_val, refl_opt, same_val, same_opt, same_list, quiet, read_t, fault_t, judged_t, judged_two}

-- ---- parts that neither change nor see the budget

quiet_element : (e : Option Element) (v : Val) → Quiet (enter_element e v)
unfolding enter_element changing change ret
quiet_element None v = record { stays = λ s. (refl, refl); blind = λ s b. refl }
quiet_element (Some e) (prim p) = record { stays = λ s. (refl, refl); blind = λ s b. refl }
quiet_element (Some e) (out n) = record { stays = λ s. (refl, refl); blind = λ s b. refl }
quiet_element (Some e) (obj n) = record { stays = λ s. (refl, refl); blind = λ s b. refl }

quiet_receive : (t : Option TypeSet) (v : Val) → Quiet (receive t v)
unfolding receive ret
quiet_receive None v = record { stays = λ s. (refl, refl); blind = λ s b. refl }
quiet_receive (Some t) v = quiet_element t.element v

quiet_skip : Quiet skip
unfolding ret
quiet_skip = record { stays = λ s. (refl, refl); blind = λ s b. refl }

quiet_object : (o : Obj) → Quiet (add_obj o)
unfolding add_obj ret
quiet_object o = record { stays = λ s. (refl, refl); blind = λ s b. refl }

quiet_from : (p : Option ℕ) → Quiet (make_from p)
unfolding make_from add_obj ret
quiet_from None = record { stays = λ s. (refl, refl); blind = λ s b. refl }
quiet_from (Some p) = record { stays = λ s. (refl, refl); blind = λ s b. refl }

quiet_instance : (n f : ℕ) → Quiet (make_instance n f)
unfolding make_instance add_obj chain_from prototype_at ret
quiet_instance n f = record { stays = λ s. (refl, refl); blind = λ s b. refl }

quiet_function : (own : Bool) (f i : ℕ) (up : Option ℕ) → Quiet (add_function_by own f i up)
unfolding add_function_by add_function push_frame ret ◌>>=◌ after said
quiet_function false f i up = record { stays = λ s. (refl, refl); blind = λ s b. refl }
quiet_function true f i up = record { stays = λ s. (refl, refl); blind = λ s b. refl }

quiet_frame : (k : FrameKind) (up : Option ℕ) (vs : List (Option Val)) → Quiet (push_frame k up vs)
unfolding push_frame ret
quiet_frame k up vs = record { stays = λ s. (refl, refl); blind = λ s b. refl }

quiet_place : (at : Option ℕ) (n : ℕ) (v : Val) → Quiet (changing (set_place at n v))
unfolding changing set_place ret
quiet_place None n v = record { stays = λ s. (refl, refl); blind = λ s b. refl }
quiet_place (Some i) n v = record { stays = λ s. (refl, refl); blind = λ s b. refl }

quiet_shown : (o : Option ℕ) (n : ℕ) → Quiet (shown o n)
unfolding shown ret
quiet_shown None n = record { stays = λ s. (refl, refl); blind = λ s b. refl }
quiet_shown (Some h) n = record { stays = λ s. (refl, refl); blind = λ s b. refl }

quiet_show : (v : Val) → Quiet (show v)
unfolding show ret
quiet_show (prim p) = record { stays = λ s. (refl, refl); blind = λ s b. refl }
quiet_show (out n) = record { stays = λ s. (refl, refl); blind = λ s b. refl }
quiet_show (obj n) = record { stays = λ s. (quiet_shown (handle_of s.handles n) n).stays s; blind = λ s b. (quiet_shown (handle_of s.handles n) n).blind s b }

blind_method : (s : State) (b : ℕ) (v : Val) (n : List ℕ) → method_on (record s { budget = b }) v n ≡ method_on s v n
unfolding method_on
blind_method s b v n = refl

blind_outcome : (s : State) (b : ℕ) (u : Use) (vs : List Val) → outcome_of (record s { budget = b }) u vs ≡ outcome_of s u vs
unfolding outcome_of
blind_outcome s b u vs = refl

module _ (X : Budgets) (Ts : Tables) (Y : Passes X Ts) where
  abbrev T : Tie
  T = equal X Ts

  abbrev Vals : World T → Val → Val → Type 0
  Vals v = ValT Eq

  abbrev Done : World T → Unit {0} → Unit {0} → Type 0
  Done v a b = Unit {0}

  done : {w : World T} (m : M (Unit {0})) → Quiet m → Sim T Done w m m
  done m q = quiet X Ts (λ a. tt) m q

  gives : {w : World T} (m : M Val) → Quiet m → Sim T Vals w m m
  gives m q = quiet X Ts refl_val m q

  equals : {A : Type 0} {w : World T} (m : M A) → Quiet m → Sim T (λ v a b. a ≡ b) w m m
  equals m q = quiet X Ts (λ a. refl) m q

  with_t : {A B : Type 0} {R : World T → A → B → Type 0} {w : World T} (f : Tables → M A) (f' : Tables → M B) → Sim T R w (f Ts) (f' Ts) → Sim T R w (with_tables f) (with_tables f')
  with_t f f' h = sim_tables T f f' h

  receive_t : {w : World T} (t : Option TypeSet) (v : Val) → Sim T Done w (receive t v) (receive t v)
  receive_t t v = done (receive t v) (quiet_receive t v)

  all_t : (ts : List TypeSet) (v : Val) {w : World T} → Sim T Done w (receive_all ts v) (receive_all ts v)
  unfolding receive_all
  all_t [] v = done skip quiet_skip
  all_t (t ∷ ts) v = sim_bind T (receive_t (Some t) v) (λ v2 l2 a b u. all_t ts v)

  each_t : (ts : List (Option TypeSet)) (vs : List Val) {w : World T} → Sim T Done w (receive_each ts vs) (receive_each ts vs)
  unfolding receive_each
  each_t [] vs = done skip quiet_skip
  each_t (t ∷ ts) [] = done skip quiet_skip
  each_t (t ∷ ts) (v ∷ vs) = sim_bind T (receive_t t v) (λ v2 l2 a b u. each_t ts vs)

  -- ---- objects

  read_slot_t : {w : World T} (i : Spot) (o : ℕ) (a : Access) → Sim T Vals w (read_slot X.J i o a) (read_slot X.J' i o a)
  unfolding read_slot reading ret
  read_slot_t i o a =
      sim_bind T {R = λ v x y. x ≡ y} (judged_t X Ts Y i (reads (obj o) a) (equals _ (record { stays = λ s. (refl, refl); blind = λ s b. refl }))) (λ v2 l2 x y e.
      sim_bind T {R = Done} (same_t x y e) (λ v3 l3 _ _ _. sim_ret T x y (subst (λ z. ValT Eq x z) e (refl_val x))))
    where
      same_t : (x y : Val) → x ≡ y → {w : World T} → Sim T Done w (λ s. receive_all (fields_reached s.tables s.objs o a) x s) (λ s. receive_all (fields_reached s.tables s.objs o a) y s)
      same_t x y e {w = w} = subst (λ z. Sim T Done w (λ s. receive_all (fields_reached s.tables s.objs o a) x s) (λ s. receive_all (fields_reached s.tables s.objs o a) z s)) e (read_t X Ts (λ s. fields_reached s.tables s.objs o a) (λ c. receive_all c x) (λ c. receive_all c x) (λ s b. refl) (λ c. all_t c x))

  write_slot_t : {w : World T} (i : Spot) (o : ℕ) (a : Access) (k : Kind) (x : Val) (d : Bool) → Sim T Done w (write_slot X.J i o a k x d) (write_slot X.J' i o a k x d)
  unfolding write_slot changing change ret
  write_slot_t i o a k x d =
      sim_bind T {R = Done} (judged_t X Ts Y i (writes (obj o) a x d) (done _ (record { stays = λ s. (refl, refl); blind = λ s b. refl }))) (λ v2 l2 _ _ _.
      read_t X Ts (λ s. fields_reached s.tables s.objs o a) (λ c. receive_all c x) (λ c. receive_all c x) (λ s b. refl) (λ c. all_t c x))

  write_t : {w : World T} (i : Spot) (o : ℕ) (a : Access) (x : Val) (d : List ℕ) → Sim T Done w (λ s. write_slot X.J i o a (kind_by a) x (declares_on s d (obj o)) s) (λ s. write_slot X.J' i o a (kind_by a) x (declares_on s d (obj o)) s)
  unfolding declares_on code_at
  write_t i o a x d = read_t X Ts (λ s. declares_on s d (obj o)) (λ c. write_slot X.J i o a (kind_by a) x c) (λ c. write_slot X.J' i o a (kind_by a) x c) (λ s b. refl) (λ c. write_slot_t i o a (kind_by a) x c)

  remove_t : {w : World T} (i : Spot) (o : ℕ) (a : Access) → Sim T Vals w (remove X.J i (obj o) a) (remove X.J' i (obj o) a)
  unfolding remove changing dropped_from change ret ◌>>=◌ after said
  remove_t i o a = judged_t X Ts Y i (removes (obj o) a) (gives _ (record { stays = λ s. (refl, refl); blind = λ s b. refl }))

  probe_t : {w : World T} (i : Spot) (o : ℕ) (t : List ℕ) → Sim T (λ v p q. p ≡ q) w (probe X.J i (obj o) t) (probe X.J' i (obj o) t)
  unfolding probe reading is_there ret
  probe_t i o t = judged_t X Ts Y i (probes (obj o) (runtime t false)) (equals _ (record { stays = λ s. (refl, refl); blind = λ s b. refl }))

  reach_t : {w : World T} (i : Spot) (x : Val) (a : Access) → Sim T Done w (reach_method X.J i x a) (reach_method X.J' i x a)
  unfolding reach_method
  reach_t i (obj o) (runtime t b) = judged_t X Ts Y i (probes (obj o) (runtime t b)) (done skip quiet_skip)
  reach_t i (obj o) (quoted t) = done skip quiet_skip
  reach_t i (obj o) (dotted p) = done skip quiet_skip
  reach_t i (out n) a = done skip quiet_skip
  reach_t i (prim p) a = done skip quiet_skip

  walk_t : {w : World T} (i : Spot) (o : ℕ) → Sim T (λ v p q. p ≡ q) w (walk X.J i (obj o)) (walk X.J' i (obj o))
  unfolding walk reading names_of ret
  walk_t i o = judged_t X Ts Y i (walks (obj o)) (equals _ (record { stays = λ s. (refl, refl); blind = λ s b. refl }))

  instance_of_t : {w : World T} (i : Spot) (a x : Val) → Sim T Vals w (operate X.J i Instance a x) (operate X.J' i Instance a x)
  unfolding operate reading instance_value prototype_at ret
  instance_of_t i a x = judged_t X Ts Y i (operates (binary_op Instance) (a ∷ x ∷ [])) (gives _ (record { stays = λ s. (refl, refl); blind = λ s b. refl }))

  typeof_t : {w : World T} (i : Spot) (n : ℕ) → Sim T Vals w (operate_one X.J i Typeof (obj n)) (operate_one X.J' i Typeof (obj n))
  unfolding operate_one reading ret
  typeof_t i n = judged_t X Ts Y i (operates (unary_op Typeof) (obj n ∷ [])) (gives _ (record { stays = λ s. (refl, refl); blind = λ s b. refl }))

  -- ---- variables

  keep_t : {w : World T} (i : Spot) (x : Variable) (v : Val) (f : State → State) → Quiet (changing f) → Sim T Done w (keep X.J i x v f) (keep X.J' i x v f)
  unfolding keep
  keep_t i x v f q = sim_bind T (judged_t X Ts Y i (keeps x v) (done _ q)) (λ v2 l2 _ _ _. with_t (λ T. receive (variable_type T x) v) (λ T. receive (variable_type T x) v) (receive_t (variable_type Ts x) v))

  kind_t : {w : World T} (i : Spot) (k : FrameKind) (n : ℕ) (v : Option Val) → Sim T Vals w (read_by_kind X.J i k n v) (read_by_kind X.J' i k n v)
  unfolding read_by_kind
  kind_t i (of_call c) n v = judged_t X Ts Y i (takes (local c n) true (is_some v)) (sim_ret T _ _ (refl_val (or_undefined v)))
  kind_t i of_catch n v = sim_ret T _ _ (refl_val (or_undefined v))
  kind_t i of_own_name n v = sim_ret T _ _ (refl_val (or_undefined v))

  place_t : {w : World T} (i : Spot) (o : Option Frame) (n : ℕ) → Sim T Vals w (read_place X.J i o n) (read_place X.J' i o n)
  unfolding read_place
  place_t i None n = fault_t X Ts 3 i
  place_t i (Some f) n = kind_t i f.kind n (place_in (Some f) n)

  global_t : {w : World T} (i : Spot) (n : ℕ) (g : Global) → Sim T Vals w (read_global X.J i n g) (read_global X.J' i n g)
  unfolding read_global is_loaded global_value
  global_t i n extern = sim_ret T _ _ (refl_val (out n))
  global_t i n (built_in b) = fault_t X Ts 2 i
  global_t i n (of_chunk c) = read_t X Ts (λ s. is_loaded s c)
      (λ l s. judged X.J i (takes (global n) l (is_some (global_value s n))) (ret (or_undefined (global_value s n))) s)
      (λ l s. judged X.J' i (takes (global n) l (is_some (global_value s n))) (ret (or_undefined (global_value s n))) s) (λ s b. refl)
      (λ l. read_t X Ts (λ s. global_value s n) (λ v. judged X.J i (takes (global n) l (is_some v)) (ret (or_undefined v))) (λ v. judged X.J' i (takes (global n) l (is_some v)) (ret (or_undefined v))) (λ s b. refl)
      (λ v. judged_t X Ts Y i (takes (global n) l (is_some v)) (sim_ret T _ _ (refl_val (or_undefined v)))))

  read_var_t : {w : World T} (i : Spot) (g : Env) (r : Ref) → Sim T Vals w (read_var X.J i g r) (read_var X.J' i g r)
  unfolding read_var
  read_var_t i g (Ref.Frame up n) = read_t X Ts (λ s. frame_at s.frames (frame_up up s.frames g.at)) (λ o. read_place X.J i o n) (λ o. read_place X.J' i o n) (λ s b. refl) (λ o. place_t i o n)
  read_var_t i g (Ref.Global n) = read_t X Ts (λ s. global_kind s.tables n) (λ k. read_global X.J i n k) (λ k. read_global X.J' i n k) (λ s b. refl) (λ k. global_t i n k)

  write_kind_t : {w : World T} (i : Spot) (k : FrameKind) (at : Option ℕ) (n : ℕ) (v : Val) → Sim T Done w (write_by_kind X.J i k at n v) (write_by_kind X.J' i k at n v)
  unfolding write_by_kind
  write_kind_t i (of_call c) at n v = keep_t i (local c n) v (set_place at n v) (quiet_place at n v)
  write_kind_t i of_catch at n v = done _ (quiet_place at n v)
  write_kind_t i of_own_name at n v = done skip quiet_skip

  write_place_t : {w : World T} (i : Spot) (o : Option Frame) (at : Option ℕ) (n : ℕ) (v : Val) → Sim T Done w (write_place X.J i o at n v) (write_place X.J' i o at n v)
  unfolding write_place
  write_place_t i None at n v = done skip quiet_skip
  write_place_t i (Some f) at n v = write_kind_t i f.kind at n v

  write_var_t : {w : World T} (i : Spot) (g : Env) (r : Ref) (v : Val) → Sim T Done w (write_var X.J i g r v) (write_var X.J' i g r v)
  unfolding write_var set_global changing ret
  write_var_t i g (Ref.Frame up n) v = read_t X Ts (λ s. frame_up up s.frames g.at) (λ at s. write_place X.J i (frame_at s.frames at) at n v s) (λ at s. write_place X.J' i (frame_at s.frames at) at n v s) (λ s b. refl)
      (λ at. read_t X Ts (λ s. frame_at s.frames at) (λ o. write_place X.J i o at n v) (λ o. write_place X.J' i o at n v) (λ s b. refl) (λ o. write_place_t i o at n v))
  write_var_t i g (Ref.Global n) v = keep_t i (global n) v (set_global n v) (record { stays = λ s. (refl, refl); blind = λ s b. refl })

  -- ---- flat paths, casts, calls

  take_path_t : {w : World T} (i : Spot) (p : ℕ × ℕ) (x : Val) (a : Access) → Sim T Done w (take_path X.J i (Some p) x a) (take_path X.J' i (Some p) x a)
  unfolding take_path is_there
  take_path_t i p x a = read_t X Ts (λ s. is_there s x (name_of s.tables a)) (λ b. judged X.J i (takes (flat p.0 p.1) true b) skip) (λ b. judged X.J' i (takes (flat p.0 p.1) true b) skip) (λ s b. refl) (λ b. judged_t X Ts Y i (takes (flat p.0 p.1) true b) (done skip quiet_skip))

  keep_path_t : {w : World T} (i : Spot) (p : ℕ × ℕ) (x : Val) → Sim T Done w (keep_path X.J i (Some p) x) (keep_path X.J' i (Some p) x)
  unfolding keep_path changing ret
  keep_path_t i p x = keep_t i (flat p.0 p.1) x (λ s. s) (record { stays = λ s. (refl, refl); blind = λ s b. refl })

  cast_t : {w : World T} (i : Spot) (d : ℕ) (x : Val) → Sim T Done w (cast_to X.J i d x) (cast_to X.J' i d x)
  unfolding cast_to
  cast_t i d x = sim_bind T (judged_t X Ts Y i (casts d x) (done skip quiet_skip)) (λ v2 l2 _ _ _. with_t (λ T. receive (value_in (doc_at T (Some d))) x) (λ T. receive (value_in (doc_at T (Some d))) x) (receive_t (value_in (doc_at Ts (Some d))) x))

  enters_t : {w : World T} (i : Spot) (f : ℕ) (t : Option Val) (vs : List Val) → Sim T Done w (entering X.J i f t vs) (entering X.J' i f t vs)
  enters_t i f t vs = judged_t X Ts Y i (enters f t vs) (with_t (λ T. receive_each (params_in (function_doc T f)) vs) (λ T. receive_each (params_in (function_doc T f)) vs) (each_t (params_in (function_doc Ts f)) vs))

  leaves_t : {w : World T} (i : Spot) (f : ℕ) (built : Bool) (x : Val) → Sim T Done w (leaving X.J i f built x) (leaving X.J' i f built x)
  leaves_t i f built x = judged_t X Ts Y i (leaves f built x) (with_t (λ T. receive (result_in (function_doc T f)) x) (λ T. receive (result_in (function_doc T f)) x) (receive_t (result_in (function_doc Ts f)) x))

  function_t : {w : World T} (f i : ℕ) (g : Env) → Sim T Vals w (make_function f i g) (make_function f i g)
  unfolding make_function
  function_t f i g = with_t (λ T. add_function_by (has_own_name (slice_get T.heads f)) f i g.at) (λ T. add_function_by (has_own_name (slice_get T.heads f)) f i g.at) (gives _ (quiet_function (has_own_name (slice_get Ts.heads f)) f i g.at))

  frame_t : {w : World T} (c : Code) (vs : List Val) → Sim T (λ v m n. m ≡ n) w (call_frame X.J c vs) (call_frame X.J' c vs)
  unfolding call_frame
  frame_t c vs = with_t _ _ (equals _ (quiet_frame (of_call c.function) c.up _))

  -- ---- uses of what is built in

  answer_t : {w : World T} (a : ArrayAnswer) → Sim T Vals w (array_answer X.J a) (array_answer X.J' a)
  unfolding array_answer make_array
  answer_t (answers v) = sim_ret T v v (refl_val v)
  answer_t (answers_array vs) = gives _ (quiet_object _)

  module _ (B B' : Bodies) (i : Spot) (w : World T) (call_t : (m n : ℕ) (x y : Val) (us us' : List Val) → m ≡ n → ValT Eq x y → ListT (ValT Eq) us us' → Sim T Vals w (call_object X.J B i m (Some x) us) (call_object X.J' B' i n (Some y) us')) where
    perform_t : (o : BuiltOutcome) → Sim T Vals w (perform X.J B i o) (perform X.J' B' i o)
    unfolding perform changing change reading own_value ret
    perform_t (built_value v) = sim_ret T v v (refl_val v)
    perform_t (built_change n new c) = sim_bind T {R = Done} (done _ (record { stays = λ s. (refl, refl); blind = λ s b. refl })) (λ v2 l2 _ _ _. answer_t c.answer)
    perform_t (built_object p) = gives _ (quiet_from p)
    perform_t (built_question n t) = judged_t X Ts Y i (probes (obj n) (runtime t false)) (gives _ (record { stays = λ s. (refl, refl); blind = λ s b. refl }))
    perform_t (built_call n v vs) = call_t n n v v vs vs refl (refl_val v) (Rattle.cc_tied.proofs.Equality.Equal.refl_list refl_val vs)
    perform_t (built_breaks r) = fault_t X Ts r i

    use_t : (u : Use) (vs : List Val) → Sim T Vals w (use_built X.J B i u vs) (use_built X.J' B' i u vs)
    unfolding use_built
    use_t u vs = read_t X Ts (λ s. outcome_of s u vs) (λ o. judged X.J i (operates (built_op u) vs) (perform X.J B i o)) (λ o. judged X.J' i (operates (built_op u) vs) (perform X.J' B' i o)) (λ s b. blind_outcome s b u vs) (λ o. judged_t X Ts Y i (operates (built_op u) vs) (perform_t o))

  -- ---- the outside

  loading_t : {w : World T} (i : Spot) (c : ℕ) → Sim T Done w (loading X.J i c) (loading X.J' i c)
  unfolding dependency_failed changing note_load ret
  loading_t i c = read_t X Ts (λ s. dependency_failed s c) (λ b. judged X.J i (hosts true None None b) (changing (note_load c))) (λ b. judged X.J' i (hosts true None None b) (changing (note_load c))) (λ s b. refl) (λ b. judged_t X Ts Y i (hosts true None None b) (done _ (record { stays = λ s. (refl, refl); blind = λ s b. refl })))

  host_get_t : {w : World T} (i : Spot) (given : Bool) (n : ℕ) (t : List ℕ) → Sim T (λ v. WayT (ValT Eq) (ValT Eq)) w (judged X.J i (hosts given (Some (obj n)) (Some t) false) (attempt (read_slot X.J i n (quoted t)))) (judged X.J' i (hosts given (Some (obj n)) (Some t) false) (attempt (read_slot X.J' i n (quoted t))))
  host_get_t i given n t = judged_t X Ts Y i (hosts given (Some (obj n)) (Some t) false) (sim_attempt T (read_slot_t i n (quoted t)))

  host_set_t : {w : World T} (i : Spot) (given : Bool) (n : ℕ) (t : List ℕ) (x : Val) → Sim T (λ v. WayT (ValT Eq) (ValT Eq)) w (judged X.J i (hosts given (Some (obj n)) (Some t) false) (attempt (write_slot X.J i n (quoted t) keyed_kind x false >>= λ _. ret (prim undefined)))) (judged X.J' i (hosts given (Some (obj n)) (Some t) false) (attempt (write_slot X.J' i n (quoted t) keyed_kind x false >>= λ _. ret (prim undefined))))
  host_set_t i given n t x = judged_t X Ts Y i (hosts given (Some (obj n)) (Some t) false) (sim_attempt T {R = Vals} (sim_bind T (write_slot_t i n (quoted t) keyed_kind x false) (λ v2 l2 _ _ _. sim_ret T (prim undefined) (prim undefined) (refl_val (prim undefined)))))

  -- a write to an object of the outside is judged by its key alone
  out_write_t : {A B : Type 0} {R : World T → A → B → Type 0} {w : World T} (i : Spot) (n : ℕ) (a : Access) (x y : Val) (d d' : Bool) (m : M A) (m' : M B) → Sim T R w m m' → Sim T R w (judged X.J i (writes (out n) a x d) m) (judged X.J' i (writes (out n) a y d') m')
  unfolding least_broken write_rule is_fatal
  out_write_t i n a x y d d' m m' h = judged_two X Ts Y i (writes (out n) a x d) (writes (out n) a y d') m m' (λ s. refl) (λ r. refl) h

  -- what follows of a breach alone
  after_ret : (r : Rattle.cc_meaning.specs.Monad.Res (Unit {0})) → after r (λ _. skip) ≡ r
  unfolding after said ret
  after_ret (Rattle.cc_meaning.specs.Monad.ok u a s) = ap (λ z. Rattle.cc_meaning.specs.Monad.ok z tt s) (append-nil u)
  after_ret (Rattle.cc_meaning.specs.Monad.threw u v s) = refl
  after_ret (Rattle.cc_meaning.specs.Monad.over u e) = refl

  breach_alone : {w : World T} (r : ℕ) (i : Spot) → Sim T Done w (X.J.breach r i) (X.J'.breach r i)
  unfolding ◌>>=◌
  breach_alone {w = w} r i s t ti le le' =
      subst (λ z. ResT T Done w z (X.J'.breach r i t)) (after_ret (X.J.breach r i s))
      (subst (λ z. ResT T Done w (after (X.J.breach r i s) (λ _. skip)) z) (after_ret (X.J'.breach r i t))
      (Y.breach_t r i skip skip (done skip quiet_skip) s t ti le le'))

  site_same : {i j : ℕ} → at_site i ≡ at_site j → i ≡ j
  site_same e = cc

  code_same : {w : ℕ} {s t : State} → Same (X.B w) Ts s t → {m n : ℕ} → m ≡ n → OptT (λ a b. ◌≡◌ {A = Code} a b) (code_at s m) (code_at t n)
  unfolding code_at
  code_same {s = s} {t = t} ti {m = m} {n = n} e = subst (λ z. OptT (λ a b. a ≡ b) (code_at s m) (code_at t z)) e (subst (λ z. OptT (λ a b. a ≡ b) (code_at s m) (code_at z m)) (sym ti.rest) (refl_opt (λ a. refl) (code_at s m)))

  method_same : {w : ℕ} {s t : State} → Same (X.B w) Ts s t → (x : Val) (a : Access) → method_on s x (name_of s.tables a) ≡ method_on t x (name_of t.tables a)
  method_same {s = s} {t = t} ti x a = sym (ap (λ z. method_on z x (name_of z.tables a)) ti.rest ∙ blind_method s t.budget x (name_of s.tables a))

  failed_same : {w : ℕ} {s t : State} (c : ℕ) → Same (X.B w) Ts s t → Same (X.B w) Ts (record s { failed = s.failed ++ c ∷ [] }) (record t { failed = t.failed ++ c ∷ [] })
  failed_same c ti = record { rest = ap {A = State} {B = State} (λ z. record z { failed = z.failed ++ c ∷ [] }) ti.rest; budgets = ti.budgets; tables = ti.tables }

  use_two : {w : World T} (B B' : Bodies) (i i' : Spot) → i ≡ i' → (u : Use) (vs vs' : List Val) → ListT (ValT Eq) vs vs' → ((m n : ℕ) (x y : Val) (us us' : List Val) → m ≡ n → ValT Eq x y → ListT (ValT Eq) us us' → Sim T Vals w (call_object X.J B i m (Some x) us) (call_object X.J' B' i' n (Some y) us')) → Sim T Vals w (use_built X.J B i u vs) (use_built X.J' B' i' u vs')
  use_two {w = w} B B' i i' e u vs vs' h f =
      subst (λ z. Sim T Vals w (use_built X.J B i u vs) (use_built X.J' B' z u vs')) e
      (subst (λ z. Sim T Vals w (use_built X.J B i u vs) (use_built X.J' B' i u z)) (same_list h)
      (use_t B B' i w (λ m n x y us us' o p q. subst (λ z. Sim T Vals w (call_object X.J B i m (Some x) us) (call_object X.J' B' z n (Some y) us')) (sym e) (f m n x y us us' o p q)) u vs))

  catch_two : {w : World T} (g h : Env) (x y : Val) → g ≡ h → ValT Eq x y → Sim T (λ v m n. ◌≡◌ {A = Env} (record g { at = Some m }) (record h { at = Some n })) w (push_frame of_catch g.at (Some x ∷ [])) (push_frame of_catch h.at (Some y ∷ []))
  catch_two {w = w} g h x y e k =
      subst (λ z. Sim T (λ v m n. ◌≡◌ {A = Env} (record g { at = Some m }) (record z { at = Some n })) w (push_frame of_catch g.at (Some x ∷ [])) (push_frame of_catch z.at (Some y ∷ []))) e
      (subst (λ z. Sim T (λ v m n. ◌≡◌ {A = Env} (record g { at = Some m }) (record g { at = Some n })) w (push_frame of_catch g.at (Some x ∷ [])) (push_frame of_catch g.at (Some z ∷ []))) (same_val k)
      (quiet X Ts (λ a. refl) _ (quiet_frame of_catch g.at (Some x ∷ []))))

  code_of : (f f' i i' : ℕ) (u u' : Option ℕ) → f ≡ f' → u ≡ u' → i ≡ i' → ◌≡◌ {A = Code} (record { function = f; up = u; site = i }) (record { function = f'; up = u'; site = i' })
  code_of f f' i i' u u' e d k = rw (e, d, k) refl

  code_equal : {a b : Code} → CodeT T.SpotT T.FunT (T.UpT 0) a b → a ≡ b
  code_equal {a = a} {b = b} h = code_of a.function b.function a.site b.site a.up b.up h.function h.up (site_same h.site)

  frame_two : {w : World T} (a b : Code) (t t' : Option Val) (vs vs' : List Val) → a ≡ b → t ≡ t' → vs ≡ vs' → Sim T (λ v m n. ◌≡◌ {A = Env} (record { at = Some m; this = t; declares = [] }) (record { at = Some n; this = t'; declares = [] })) w (call_frame X.J a vs) (call_frame X.J' b vs')
  frame_two {w = w} a b t t' vs vs' c e d =
      subst (λ z. Sim T (λ v m n. ◌≡◌ {A = Env} (record { at = Some m; this = t; declares = [] }) (record { at = Some n; this = z; declares = [] })) w (call_frame X.J a vs) (call_frame X.J' b vs')) e
      (subst (λ z. Sim T (λ v m n. ◌≡◌ {A = Env} (record { at = Some m; this = t; declares = [] }) (record { at = Some n; this = t; declares = [] })) w (call_frame X.J a vs) (call_frame X.J' b z)) d
      (subst (λ z. Sim T (λ v m n. ◌≡◌ {A = Env} (record { at = Some m; this = t; declares = [] }) (record { at = Some n; this = t; declares = [] })) w (call_frame X.J a vs) (call_frame X.J' z vs)) c
      (sim_as T (λ v l m n q. ap {A = ℕ} {B = Env} (λ z. record { at = Some z; this = t; declares = [] }) q) (frame_t a vs))))

  pub upkeep : Upkeep T
  unfolding make_object make_array
  upkeep = record {
    up_mark = λ p. Y.mark_t p;
    up_breach = λ {i} e r. rw (← e) (breach_alone r i);
    up_object = equals _ (quiet_object _);
    up_array = λ h. rw (same_list h) (gives _ (quiet_object _));
    up_function = λ i f e. rw (site_same i, f, e) (function_t _ _ _);
    up_instance = λ e r. rw (e, r) (gives _ (quiet_instance _ _));
    up_read = λ i e k. rw (i, e, k) (read_slot_t _ _ _);
    up_write = λ i d e k x. rw (i, d, e, k, same_val x) (write_t _ _ _ _ _);
    up_remove = λ i e k. rw (i, e, k) (remove_t _ _ _);
    up_probe = λ i e t. rw (i, e) (probe_t _ _ t);
    up_walk = λ i e. rw (i, e) (walk_t _ _);
    up_instance_of = λ i a x. rw (i, same_val a, same_val x) (instance_of_t _ _ _);
    up_typeof = λ i e. rw (i, e) (typeof_t _ _);
    up_method = λ ti x k. rw (same_val x, k) (method_same ti _ _);
    up_method_read = λ i x k. rw (i, same_val x, k) (judged_t X Ts Y _ _ (done skip quiet_skip));
    up_reach_method = λ i x k. rw (i, same_val x, k) (reach_t _ _ _);
    up_use = λ B B' i u vs h. use_two B B' _ _ i u _ _ vs h;
    up_prim_read = λ i k. rw (i, k) (judged_t X Ts Y _ _ (with_t _ _ (sim_ret T _ _ (refl_val _))));
    up_out_read = λ i k f. rw (i, k) (judged_t X Ts Y _ _ (f (ap (λ z. name_of Ts z) k)));
    up_out_write = λ x y d d' i k f. rw (i, k) (out_write_t _ _ _ x y d d' _ _ (f (ap (λ z. name_of Ts z) k)));
    up_read_var = λ i e r. rw (i, e, r) (read_var_t _ _ _);
    up_write_var = λ i e r x. rw (i, e, r, same_val x) (write_var_t _ _ _ _);
    up_set_var = λ i e h. absurd h;
    up_catch = λ e x. catch_two _ _ _ _ e x;
    up_frame = λ c t vs. frame_two _ _ _ _ _ _ (code_equal c) (same_opt t) (same_list vs);
    up_take_path = λ i p x k. rw (i, p, same_val x, k) (take_path_t _ _ _ _);
    up_keep_path = λ i p x. rw (i, p, same_val x) (keep_path_t _ _ _);
    up_cast = λ i d x. rw (i, d, same_val x) (cast_t _ _ _);
    up_code = λ ti e. code_same ti e;
    up_enters = λ i c t vs. rw (i, c.function, same_opt t, same_list vs) (enters_t _ _ _ _);
    up_leaves = λ i f built x. rw (i, f, same_val x) (leaves_t _ _ built _);
    up_show = λ x. rw (same_val x) (equals _ (quiet_show _));
    up_loading = λ i c. rw i (loading_t _ c);
    up_failed = λ l ti. failed_same _ ti;
    up_host_get = λ i given e t. rw (i, e) (host_get_t _ given _ t);
    up_host_set = λ i given e t x. rw (i, e, same_val x) (host_set_t _ given _ t _);
  }

  abbrev pub equal_kit : Kit
  equal_kit = kit T upkeep
