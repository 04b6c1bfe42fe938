-- One step of what is begun: expressions, and what they ask for.
use Rattle.std.specs.Prelude.{ℕ, zero, suc, Bool, false, List, [], ◌∷◌, ◌++◌, Option, Some, None}
use Rattle.cc_ast.specs.Syntax.{Program, Expr, lit, var, this, fun, list, object, unary, binary, and, or, cond, assign, step, member, index, call, new, comma, cast, tick, Target, to_var, to_member, to_index, Exprs, no_exprs, more_exprs, Fields, no_fields, more_fields}
use Rattle.cc_ast.specs.declared.operator.UnOp.{UnOp}
use Rattle.cc_ast.specs.declared.operator.UnOp.TheVariants.{Delete}
use Rattle.cc_meaning.specs.Values.{Val, prim, obj, out, shown_out, handle, called, constructed, Spot, at_site}
use Rattle.cc_meaning.specs.State.{Code, Path, Inner, Answer}
use Rattle.cc_meaning.specs.Monad.{told, skip, stop, spent, say, ◌>>=◌, pay, with_tables, Mode}
use Rattle.cc_meaning.specs.Store.{Access, dotted, name_of, Use}
use Rattle.cc_meaning.specs.Typed.{params_in, function_doc}
use Rattle.cc_meaning.specs.Rules.{built_op}
use Rattle.cc_meaning.specs.Judge as judge
use Rattle.cc_meaning.specs.Built.{BuiltOutcome, built_call, outcome_of}
use Rattle.cc_meaning.specs.Acts.{judged, receive_each, make_object, make_function, make_instance, read_var, read_this, show_all, show_receiver, all_given, viewed}
use Rattle.cc_meaning.specs.Shapes.{site_of, longer, path_of, path_of_target, path_of_key, body_of}
use Rattle.cc_meaning.specs.Calls.{Reference, Reach, plain, access, built_global, built_member, Callee, called_value, called_use, Returned, views, method_on, member_use, answered, get_on, value_of, delete_at, perform, reach_method, read_method, member_callee, global_callee}
use Rattle.cc_meaning.specs.Meaning.{Place, variable_place, slot_place, reach_var, call_frame}
use Rattle.cc_machine.specs.Machine.{Machine, Next, on_reach, on_val, on_list, on_place, on_done, leaves_on, leave_on, tell_on, eval, want, aim, gather, fill, take, get_from, got_outside, carries_out, calls_object, enters, pays_call, has_frame, binds, calls_outside, asks, calls_inner, builds_at, builds_on, builds_outside, reached, gave, gathered, placed, found, returned, done, to_value, unary_on, member_on, cast_on, callee_on, to_reach, operand_on, left_on, and_on, or_on, comma_on, cond_on, dot_on, index_on, aim_dot_on, aim_index_on, new_on, arg_on, field_on, got_on, found_on, array_on, assign_on, step_on, reply_on}
use Rattle.cc_machine.specs.Moves.{act, go, go_in, dies, no_bodies}

module _ (J : Mode) where
  -- ---- expressions

  -- what an expression reaches; most reach a value
  unfoldable pub step_eval : Option Path → Expr → Machine → Next
  step_eval w (var i r) m = act (reach_var J i m.env r) reached m.stack m
  step_eval w (member i e p) m = go (eval None e) (on_reach (member_on i (longer (path_of e) p) p) ∷ m.stack) m
  step_eval w (index i e k) m = go (want None e) (on_val (index_on i k) ∷ m.stack) m
  step_eval w (cast i d e) m = go (eval None e) (on_reach (cast_on i d) ∷ m.stack) m
  step_eval w (tick i p e) m = act (J.mark p) (λ _. eval None e) m.stack m
  step_eval w e m = go (want w e) (on_val to_reach ∷ m.stack) m

  -- the value of an expression
  unfoldable pub step_want : Option Path → Expr → Machine → Next
  step_want w (lit i p) m = go (gave (prim p)) m.stack m
  step_want w (var i r) m = act (read_var J (at_site i) m.env r) gave m.stack m
  step_want w (this i) m = act (read_this J (at_site i) m.env.this) gave m.stack m
  step_want w (fun i f) m = act (make_function f i m.env) gave m.stack m
  step_want w (list i es) m = go (gather [] es) (on_list array_on ∷ m.stack) m
  step_want w (object i fs) m = act make_object (λ o. fill w o fs) m.stack m
  step_want w (unary i op e) m = go (eval None e) (on_reach (unary_on i op) ∷ m.stack) m
  step_want w (binary i op a b) m = go (want None a) (on_val (left_on i op b) ∷ m.stack) m
  step_want w (and i a b) m = go (want None a) (on_val (and_on b) ∷ m.stack) m
  step_want w (or i a b) m = go (want None a) (on_val (or_on b) ∷ m.stack) m
  step_want w (cond i t a b) m = go (want None t) (on_val (cond_on a b) ∷ m.stack) m
  step_want w (assign i op t e) m = go (aim t) (on_place (assign_on i op (path_of_target t) e) ∷ m.stack) m
  step_want w (step i up prefix t) m = go (aim t) (on_place (step_on i up prefix) ∷ m.stack) m
  step_want w (call i f es) m = go (eval None f) (on_reach (callee_on i es) ∷ m.stack) m
  step_want w (new i f es) m = go (want None f) (on_val (new_on i es) ∷ m.stack) m
  step_want w (comma i a b) m = go (want None a) (on_val (comma_on b) ∷ m.stack) m
  step_want w (tick i p e) m = act (J.mark p) (λ _. want None e) m.stack m
  step_want w e m = go (eval w e) (on_reach to_value ∷ m.stack) m

  unfoldable pub step_aim : Target → Machine → Next
  step_aim (to_var i r) m = go (placed (variable_place i r)) m.stack m
  step_aim (to_member i e p) m = go (want None e) (on_val (aim_dot_on i (longer (path_of e) p) p) ∷ m.stack) m
  step_aim (to_index i e k) m = go (want None e) (on_val (aim_index_on i k) ∷ m.stack) m

  unfoldable pub step_gather : List Val → Exprs → Machine → Next
  step_gather vs no_exprs m = go (gathered vs) m.stack m
  step_gather vs (more_exprs e es) m = go (want None e) (on_val (arg_on vs es) ∷ m.stack) m

  unfoldable pub step_fill : Option Path → Val → Fields → Machine → Next
  step_fill w o no_fields m = go (gave o) m.stack m
  step_fill w o (more_fields k e fs) m = go (want (path_of_key w k) e) (on_val (field_on w o k (site_of e) fs) ∷ m.stack) m

  -- ---- reads and callees

  unfoldable pub step_take : Reach → Machine → Next
  step_take (plain v) m = go (gave v) m.stack m
  step_take (access r) m = go (get_from (at_site r.site) r.on r.key) (on_val (got_on r) ∷ m.stack) m
  step_take r m = act (value_of J no_bodies r) gave m.stack m

  unfoldable pub step_take_from : Place → Machine → Next
  step_take_from (variable_place i r) m = act (read_var J (at_site i) m.env r) gave m.stack m
  step_take_from (slot_place r) m = go (take (access r)) m.stack m

  unfoldable pub step_get : Spot → Val → Access → Machine → Next
  step_get i (out n) a m = act (judged J i (judge.reads (out n) a) skip) (λ _. got_outside i n a) m.stack m
  step_get i v a m = act (get_on J no_bodies i v a) gave m.stack m

  unfoldable pub step_unary : ℕ → UnOp → Reach → Machine → Next
  step_unary i Delete r m = act (delete_at J i r) gave m.stack m
  step_unary i op r m = go (take r) (on_val (operand_on i op) ∷ m.stack) m

  unfoldable pub step_member : ℕ → Option Path → ℕ → Reach → Machine → Next
  step_member i w p (built_global j b) m = go (reached (built_member i b (name_of m.state.tables (dotted p)))) m.stack m
  step_member i w p r m = go (take r) (on_val (dot_on i w p) ∷ m.stack) m

  unfoldable pub step_find_by : Reference → Option Use → Machine → Next
  step_find_by r None m = go (take (access r)) (on_val (found_on r) ∷ m.stack) m
  step_find_by r (Some u) m = act (reach_method J (at_site r.site) r.on r.key >>= λ _. read_method J r r.casts) (λ _. found (called_use u (r.on ∷ []))) m.stack m

  unfoldable pub step_find : Reach → Machine → Next
  unfolding step_find_by
  step_find (plain v) m = go (found (called_value v None)) m.stack m
  step_find (access r) m = step_find_by r (method_on m.state r.on (name_of m.state.tables r.key)) m
  step_find (built_global i b) m = act (global_callee J i b) found m.stack m
  step_find (built_member i b n) m = act (member_callee J i (member_use b n)) found m.stack m

  -- ---- calls

  unfoldable pub step_apply : Spot → Callee → List Val → Machine → Next
  step_apply i (called_value (obj n) t) vs m = go (calls_object i n t vs) m.stack m
  step_apply i (called_value (out n) t) vs m = act (judged J i (judge.calls (out n)) skip) (λ _. calls_outside i n t vs) m.stack m
  step_apply i (called_value (prim p) t) vs m = act (judged J i (judge.calls (prim p)) (stop {A = Val} (J.fault 3 i))) gave m.stack m
  step_apply i (called_use u us) vs m = act (judged J i (judge.operates (built_op u) (us ++ vs)) skip) (λ _. carries_out i (outcome_of m.state u (us ++ vs))) m.stack m

  unfoldable pub step_carry : Spot → BuiltOutcome → Machine → Next
  step_carry i (built_call n v vs) m = go (calls_object i n (Some v) vs) m.stack m
  step_carry i o m = act (perform J no_bodies i o) gave m.stack m

  unfoldable pub step_begin : Spot → Option Code → Option Val → List Val → Machine → Next
  step_begin i None t vs m = act (stop {A = Val} (J.fault 2 i)) gave m.stack m
  step_begin i (Some c) t vs m = go (enters i c false t vs) m.stack m

  unfoldable pub step_enter : Spot → Code → Bool → Option Val → List Val → Machine → Next
  step_enter i c built t vs m =
      act (judged J i (judge.enters c.function t vs) (with_tables (λ T. receive_each (params_in (function_doc T c.function)) vs))) (λ _. pays_call c t vs) (leaves_on c built ∷ m.stack) m

  unfoldable pub step_body : ℕ → Code → Option Val → List Val → Machine → Next
  step_body zero c t vs m = act (stop {A = Returned} spent) returned m.stack m
  step_body (suc d) c t vs m = act (call_frame J c vs) (λ n. has_frame n c t) m.stack m

  -- the depth is one less inside
  unfoldable pub step_frame : Program → ℕ → ℕ → Code → Option Val → Machine → Next
  step_frame P zero n c t m = dies m
  step_frame P (suc d) n c t m = go_in (record { at = Some n; this = t; declares = [] }) d (binds (body_of P c.function)) (leave_on m.env (suc d) c ∷ m.stack) m

  unfoldable pub step_reply : Spot → List Inner → Answer → Machine → Next
  step_reply i [] a m = act (answered J i a) gave m.stack m
  step_reply i (c ∷ cs) a m =
      act (judged J i (judge.calls_inner (all_given m.state (handle c.callee ∷ c.this ∷ c.args))) skip)
      (λ _. calls_inner i (viewed m.state (handle c.callee)) (viewed m.state c.this) (views m.state c.args)) (on_done (reply_on i cs a) ∷ m.stack) m

  unfoldable pub step_inner : Spot → Val → Val → List Val → Machine → Next
  step_inner i (obj n) t vs m = go (calls_object i n (Some t) vs) (tell_on ∷ m.stack) m
  step_inner i v t vs m = act (stop {A = Unit {0}} (J.fault 13 i)) (λ _. done) m.stack m

  unfoldable pub step_construct : Spot → Val → List Val → Machine → Next
  step_construct i (obj n) vs m = act (judged J i (judge.calls (obj n)) skip) (λ _. builds_at i n vs) m.stack m
  step_construct i (out n) vs m = act (judged J i (judge.calls (out n)) skip) (λ _. builds_outside i n vs) m.stack m
  step_construct i (prim p) vs m = act (judged J i (judge.calls (prim p)) (stop {A = Val} (J.fault 3 i))) gave m.stack m

  unfoldable pub step_build : Spot → ℕ → Option Code → List Val → Machine → Next
  step_build i n None vs m = act (stop {A = Val} (J.fault 2 i)) gave m.stack m
  step_build i n (Some c) vs m = act (make_instance n c.function) (λ o. builds_on i c o vs) m.stack m

  unfoldable pub step_outside : Spot → ℕ → Option Val → List Val → Machine → Next
  step_outside i n t vs m = act (pay 1 >>= λ _. show_receiver t >>= λ x. show_all vs >>= λ xs. say (told (called (shown_out n) x xs))) (λ _. asks i) m.stack m

  unfoldable pub step_outside_build : Spot → ℕ → List Val → Machine → Next
  step_outside_build i n vs m = act (pay 1 >>= λ _. show_all vs >>= λ xs. say (told (constructed (shown_out n) xs))) (λ _. asks i) m.stack m
