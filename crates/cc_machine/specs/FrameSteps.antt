-- One step at the end of a part: what the newest frame does with it.
use Rattle.std.specs.Prelude.{pos, List, [], ◌∷◌, ◌++◌, Some, None}
use Rattle.cc_ast.specs.Syntax.{undefined, text, whole, more_cases}
use Rattle.cc_ast.specs.declared.operator.BinOp.TheVariants.{Add, Sub}
use Rattle.cc_ast.specs.declared.operator.UnOp.TheVariants.{Plus}
use Rattle.cc_meaning.specs.Values.{Val, prim, at_site}
use Rattle.cc_meaning.specs.Operators.{truthy, strict_equal}
use Rattle.cc_meaning.specs.State.{of_catch}
use Rattle.cc_meaning.specs.Monad.{ret, ◌>>=◌, went, thrown, with_tables, pick, Mode}
use Rattle.cc_meaning.specs.Store.{dotted}
use Rattle.cc_meaning.specs.Typed.{result_in, function_doc}
use Rattle.cc_meaning.specs.Judge as judge
use Rattle.cc_meaning.specs.Acts.{judged, changing, receive, make_array, push_frame, write_var, walk, operate, operate_one}
use Rattle.cc_meaning.specs.Shapes.{literal_text, literal_key, path_of_key}
use Rattle.cc_meaning.specs.Calls.{Reach, plain, called_value, tell_end, built_result, receiver_of, take_path, cast_all, cast_reach}
use Rattle.cc_meaning.specs.Meaning.{Comp, normal, returns, labelled, unbroken, result, Place, reference, key_by, put_place, put_key}
use Rattle.cc_meaning.specs.Script.{finished, note_end}
use Rattle.cc_machine.specs.Machine.{Focus, Frame, ReachFrame, ValFrame, ListFrame, PlaceFrame, DoneFrame, EndFrame, Machine, Next, halt, on_reach, on_val, on_list, on_place, on_done, on_end, args_on, leaves_on, leave_on, restore_on, catch_on, finally_on, chunk_on, tell_on, load_on, want, gather, fill, take, take_from, unary_of, member_of, find, applies, replies, constructs, does_all, declares, turning, turn_body, again, resting, do_again, retesting, naming, chooses, runs_cases, has_caught, does_chunk, takes_turns, reached, gave, gathered, placed, found, returned, done, ended, tossed, to_value, unary_on, member_on, cast_on, callee_on, to_reach, operand_on, left_on, right_on, and_on, or_on, comma_on, cond_on, stored_on, update_on, updated_on, stepped_on, dot_on, index_on, key_on, aim_dot_on, aim_index_on, aim_key_on, new_on, arg_on, field_on, got_on, found_on, built_on, simple_on, declare_on, branch_on, test_on, rest_on, do_test_on, begun_on, names_on, return_on, throw_on, switch_on, case_on, array_on, apply_on, construct_on, assign_on, step_on, name_on, reply_on, vars_on, for_on, for_in_on, name_put_on, turn_on, list_on, turn_end_on, do_end_on, name_end_on, label_on, unbroken_on, cases_on, resume_on}
use Rattle.cc_machine.specs.Moves.{act, go, go_in, dies, reached_access, placed_slot, next_focus, turn_focus, way_focus}

module _ (J : Mode) where
  -- ---- what meets a frame

  unfoldable pub step_reached : Reach → ReachFrame → List Frame → Machine → Next
  step_reached r to_value K m = go (take r) K m
  step_reached r (unary_on i op) K m = go (unary_of i op r) K m
  step_reached r (member_on i w p) K m = go (member_of i w p r) K m
  step_reached r (cast_on i d) K m = act (cast_reach J i d r) reached K m
  step_reached r (callee_on i es) K m = go (find r) (args_on i es ∷ K) m

  unfoldable pub step_gave : Val → ValFrame → List Frame → Machine → Next
  step_gave v to_reach K m = go (reached (plain v)) K m
  step_gave v (operand_on i op) K m = act (operate_one J (at_site i) op v) gave K m
  step_gave v (left_on i op b) K m = go (want None b) (on_val (right_on i op v) ∷ K) m
  step_gave v (right_on i op x) K m = act (operate J (at_site i) op x v) gave K m
  step_gave v (and_on b) K m = go (pick (truthy v) (want None b) (gave v)) K m
  step_gave v (or_on b) K m = go (pick (truthy v) (gave v) (want None b)) K m
  step_gave v (comma_on b) K m = go (want None b) K m
  step_gave v (cond_on a b) K m = go (pick (truthy v) (want None a) (want None b)) K m
  step_gave v (stored_on p) K m = act (put_place J m.env p v) (λ _. gave v) K m
  step_gave v (update_on i op p w e) K m = go (want w e) (on_val (updated_on i op p v) ∷ K) m
  step_gave v (updated_on i op p x) K m = act (operate J (at_site i) op x v) gave K m
  step_gave v (stepped_on i up prefix p) K m =
      act (operate_one J (at_site i) Plus v >>= λ old. operate J (at_site i) (pick up Add Sub) old (prim (whole (pos 1))) >>= λ x. put_place J m.env p x >>= λ _. ret (pick prefix x old)) gave K m
  step_gave v (dot_on i w p) K m = act (reference i w v (dotted p)) reached_access K m
  step_gave v (index_on i k) K m = go (want None k) (on_val (key_on i (literal_text k) v) ∷ K) m
  step_gave v (key_on i t o) K m = act (key_by J i t v >>= λ a. reference i None o a) reached_access K m
  step_gave v (aim_dot_on i w p) K m = act (reference i w v (dotted p)) placed_slot K m
  step_gave v (aim_index_on i k) K m = go (want None k) (on_val (aim_key_on i (literal_text k) v) ∷ K) m
  step_gave v (aim_key_on i t o) K m = act (key_by J i t v >>= λ a. reference i None o a) placed_slot K m
  step_gave v (new_on i es) K m = go (gather [] es) (on_list (construct_on i v) ∷ K) m
  step_gave v (arg_on vs es) K m = go (gather (vs ++ v ∷ []) es) K m
  step_gave v (field_on w o k i fs) K m = act (put_key J i o (literal_key k) (path_of_key w k) v) (λ _. fill w o fs) K m
  step_gave v (got_on r) K m = act (take_path J (at_site r.site) r.path r.on r.key >>= λ _. cast_all J r.casts v) (λ _. gave v) K m
  step_gave v (found_on r) K m = go (found (called_value v (receiver_of r))) K m
  step_gave v (built_on o) K m = go (gave (built_result o v)) K m
  step_gave v simple_on K m = go (ended normal) K m
  step_gave v (declare_on i r ds) K m = act (write_var J (at_site i) m.env r v) (λ _. declares ds) K m
  step_gave v (branch_on a b) K m = go (pick (truthy v) (does_all [] a) (does_all [] b)) K m
  step_gave v (test_on ls n t e body) K m = go (pick (truthy v) (turn_body ls n t e body) (ended normal)) K m
  step_gave v (rest_on ls n t e body) K m = go (again ls n t e body) K m
  step_gave v (do_test_on ls n t body) K m = go (pick (truthy v) (do_again ls n t body) (ended normal)) K m
  step_gave v begun_on K m = go done K m
  step_gave v (names_on ls i t body) K m = act (walk J (at_site i) v) (naming ls i v t body) K m
  step_gave v (return_on i) K m = go (ended (returns i v)) K m
  step_gave v throw_on K m = go (tossed v) K m
  step_gave v (switch_on cs) K m = go (chooses v cs None) (on_end unbroken_on ∷ K) m
  step_gave v (case_on x ss cs o) K m = go (pick (strict_equal x v) (runs_cases (more_cases None ss cs)) (chooses x cs o)) K m

  unfoldable pub step_gathered : List Val → ListFrame → List Frame → Machine → Next
  step_gathered vs array_on K m = act (make_array vs) gave K m
  step_gathered vs (apply_on i c) K m = go (applies (at_site i) c vs) K m
  step_gathered vs (construct_on i c) K m = go (constructs (at_site i) c vs) K m

  unfoldable pub step_placed : Place → PlaceFrame → List Frame → Machine → Next
  step_placed p (assign_on i None w e) K m = go (want w e) (on_val (stored_on p) ∷ K) m
  step_placed p (assign_on i (Some op) w e) K m = go (take_from p) (on_val (update_on i op p w e) ∷ on_val (stored_on p) ∷ K) m
  step_placed p (step_on i up prefix) K m = go (take_from p) (on_val (stepped_on i up prefix p) ∷ K) m
  step_placed p (name_on n) K m = act (put_place J m.env p (prim (text n))) (λ _. done) K m

  unfoldable pub step_done : DoneFrame → List Frame → Machine → Next
  step_done (reply_on i cs a) K m = go (replies i cs a) K m
  step_done vars_on K m = go (ended normal) K m
  step_done (for_on ls t e body) K m = go (turning ls m.state.budget t e body) K m
  step_done (for_in_on ls i t e body) K m = go (want None e) (on_val (names_on ls i t body) ∷ K) m
  step_done (name_put_on ls i v t body ns) K m = go (does_all [] body) (on_end (name_end_on ls i v t body ns) ∷ K) m
  step_done (turn_on n ts) K m = go (takes_turns n ts) K m

  unfoldable pub step_ended : Comp → EndFrame → List Frame → Machine → Next
  unfolding next_focus turn_focus way_focus
  step_ended c (list_on ls ss) K m = go (next_focus c (does_all ls ss)) K m
  step_ended c (turn_end_on ls n t e body) K m = go (turn_focus ls c (resting ls n t e body)) K m
  step_ended c (do_end_on ls n t body) K m = go (turn_focus ls c (retesting ls n t body)) K m
  step_ended c (name_end_on ls i v t body ns) K m = go (turn_focus ls c (naming ls i v t body ns)) K m
  step_ended c (label_on l) K m = go (ended (labelled l c)) K m
  step_ended c unbroken_on K m = go (ended (unbroken c)) K m
  step_ended c (cases_on cs) K m = go (next_focus c (runs_cases cs)) K m
  step_ended c (resume_on w) K m = go (next_focus c (way_focus w)) K m

  -- an end that no frame waits for never comes
  unfoldable pub step_out : Focus → Frame → List Frame → Machine → Next
  unfolding step_reached step_gave step_gathered step_placed step_done step_ended next_focus
  step_out (reached r) (on_reach k) K m = step_reached r k K m
  step_out (gave v) (on_val k) K m = step_gave v k K m
  step_out (gave v) tell_on K m = act (tell_end (went v)) (λ _. done) K m
  step_out (gathered vs) (on_list k) K m = step_gathered vs k K m
  step_out (placed p) (on_place k) K m = step_placed p k K m
  step_out (found c) (args_on i es) K m = go (gather [] es) (on_list (apply_on i c) ∷ K) m
  step_out (returned r) (leaves_on c built) K m =
      act (judged J (at_site r.site) (judge.leaves c.function built r.value) (with_tables (λ T. receive (result_in (function_doc T c.function)) r.value))) (λ _. gave r.value) K m
  step_out done (on_done k) K m = step_done k K m
  step_out (ended c) (on_end k) K m = step_ended c k K m
  step_out (ended c) (leave_on g d f) K m = go_in g d (returned (result f c)) K m
  step_out (ended c) (restore_on g) K m = go_in g m.depth (ended c) K m
  step_out (ended c) (catch_on ss) K m = go (ended c) K m
  step_out (ended c) (finally_on ss) K m = go (does_all [] ss) (on_end (resume_on (went c)) ∷ K) m
  step_out (ended c) (chunk_on g ss) K m = go_in g m.depth (next_focus c (does_chunk ss)) K m
  step_out (ended c) (load_on n) K m = act (changing (note_end n (went (prim undefined))) >>= λ _. tell_end (went (prim undefined))) (λ _. done) K m
  step_out f k K m = dies m

  -- a throw goes through most frames
  unfoldable pub step_tossed : Val → Frame → List Frame → Machine → Next
  step_tossed v (leave_on g d f) K m = go_in g d (tossed v) K m
  step_tossed v (restore_on g) K m = go_in g m.depth (tossed v) K m
  step_tossed v (catch_on ss) K m = act (push_frame of_catch m.env.at (Some v ∷ [])) (λ n. has_caught n ss) K m
  step_tossed v (finally_on ss) K m = go (does_all [] ss) (on_end (resume_on (thrown v)) ∷ K) m
  step_tossed v (chunk_on g ss) K m = go_in g m.depth (tossed v) K m
  step_tossed v tell_on K m = act (tell_end (thrown v)) (λ _. done) K m
  step_tossed v (load_on n) K m = act (changing (note_end n (thrown v)) >>= λ _. tell_end (thrown v)) (λ _. done) K m
  step_tossed v _ K m = go (tossed v) K m

  unfoldable pub step_end : Focus → List Frame → Machine → Next
  unfolding step_out step_tossed
  step_end (tossed v) [] m = halt (record { events = m.log; end = finished })
  step_end (tossed v) (k ∷ K) m = step_tossed v k K m
  step_end f [] m = dies m
  step_end f (k ∷ K) m = step_out f k K m
