-- One step of the machine, and what it comes to after many.
use Rattle.std.specs.Prelude.{ℕ, zero, suc, true, [], ◌∷◌, Some, None}
use Rattle.cc_ast.specs.Syntax.{Program}
use Rattle.cc_meaning.specs.Values.{obj, shown_out, got}
use Rattle.cc_meaning.specs.Monad.{told, skip, say, pay, with_tables, Mode}
use Rattle.cc_meaning.specs.Store.{name_of}
use Rattle.cc_meaning.specs.Judge as judge
use Rattle.cc_meaning.specs.Acts.{judged, next_reply}
use Rattle.cc_meaning.specs.Shapes.{body_of}
use Rattle.cc_meaning.specs.Calls.{code_at}
use Rattle.cc_meaning.specs.Meaning.{hoist}
use Rattle.cc_meaning.specs.Script.{Script, top, start}
use Rattle.cc_machine.specs.Machine.{Focus, Machine, Next, on, halt, on_val, on_end, restore_on, tell_on, load_on, eval, want, aim, gather, fill, take, take_from, get_from, got_outside, unary_of, member_of, find, applies, carries_out, calls_object, begins_at, enters, pays_call, does_body, has_frame, binds, calls_outside, asks, replies, calls_inner, constructs, builds_at, builds_on, builds_outside, does, does_all, declares, begins, begins_names, turning, turn_body, again, resting, doing, do_again, retesting, naming, named, puts_name, chooses, runs_cases, has_caught, does_chunk, takes_turns, takes_turn, gets_for, loads, reached, gave, gathered, placed, found, returned, done, ended, tossed, built_on, do_test_on, turn_end_on, do_end_on}
use Rattle.cc_machine.specs.Moves.{act, go, go_in}
use Rattle.cc_machine.specs.ExpressionSteps.{step_eval, step_want, step_aim, step_gather, step_fill, step_take, step_take_from, step_get, step_unary, step_member, step_find, step_apply, step_carry, step_begin, step_enter, step_body, step_frame, step_reply, step_inner, step_construct, step_build, step_outside, step_outside_build}
use Rattle.cc_machine.specs.StatementSteps.{step_does, step_list, step_declare, step_begins, step_begins_names, step_turning, step_again, step_resting, step_do_again, step_naming, step_named, step_puts_name, step_chooses, step_cases, step_chunk, step_turns, step_turn}
use Rattle.cc_machine.specs.FrameSteps.{step_end}

module _ (J : Mode) (P : Program) where
  unfoldable pub step_at : Focus → Machine → Next
  unfolding step_eval step_want step_aim step_gather step_fill step_take step_take_from step_get step_unary step_member step_find step_apply step_carry step_begin step_enter step_body step_frame step_reply step_inner step_construct step_build step_outside step_outside_build step_does step_list step_declare step_begins step_begins_names step_turning step_again step_resting step_do_again step_naming step_named step_puts_name step_chooses step_cases step_chunk step_turns step_turn step_end
  step_at (eval w e) m = step_eval J w e m
  step_at (want w e) m = step_want J w e m
  step_at (aim t) m = step_aim J t m
  step_at (gather vs es) m = step_gather J vs es m
  step_at (fill w o fs) m = step_fill J w o fs m
  step_at (take r) m = step_take J r m
  step_at (take_from p) m = step_take_from J p m
  step_at (get_from i v a) m = step_get J i v a m
  step_at (got_outside i n a) m = act (with_tables (λ T. say (told (got (shown_out n) (name_of T a))))) (λ _. asks i) m.stack m
  step_at (unary_of i op r) m = step_unary J i op r m
  step_at (member_of i w p r) m = step_member J i w p r m
  step_at (find r) m = step_find J r m
  step_at (applies i c vs) m = step_apply J i c vs m
  step_at (carries_out i o) m = step_carry J i o m
  step_at (calls_object i n t vs) m = act (judged J i (judge.calls (obj n)) skip) (λ _. begins_at i n t vs) m.stack m
  step_at (begins_at i n t vs) m = step_begin J i (code_at m.state n) t vs m
  step_at (enters i c built t vs) m = step_enter J i c built t vs m
  step_at (pays_call c t vs) m = act (pay 1) (λ _. does_body c t vs) m.stack m
  step_at (does_body c t vs) m = step_body J m.depth c t vs m
  step_at (has_frame n c t) m = step_frame J P m.depth n c t m
  step_at (binds ss) m = act (hoist J m.env ss) (λ _. does_all [] ss) m.stack m
  step_at (calls_outside i n t vs) m = step_outside J i n t vs m
  step_at (asks i) m = act next_reply (λ r. replies i r.first r.answer) m.stack m
  step_at (replies i cs a) m = step_reply J i cs a m
  step_at (calls_inner i v t vs) m = step_inner J i v t vs m
  step_at (constructs i c vs) m = step_construct J i c vs m
  step_at (builds_at i n vs) m = step_build J i n (code_at m.state n) vs m
  step_at (builds_on i c o vs) m = go (enters i c true (Some o) vs) (on_val (built_on o) ∷ m.stack) m
  step_at (builds_outside i n vs) m = step_outside_build J i n vs m
  step_at (does ls s) m = step_does J ls s m
  step_at (does_all ls ss) m = step_list J ls ss m
  step_at (declares ds) m = step_declare J ds m
  step_at (begins h) m = step_begins J h m
  step_at (begins_names t) m = step_begins_names J t m
  step_at (turning ls n t e body) m = step_turning J ls n t e body m
  step_at (turn_body ls n t e body) m = act (pay 1) (λ _. does_all [] body) (on_end (turn_end_on ls n t e body) ∷ m.stack) m
  step_at (resting ls n t e body) m = step_resting J ls n t e body m
  step_at (again ls n t e body) m = step_again J ls n t e body m
  step_at (doing ls n t body) m = act (pay 1) (λ _. does_all [] body) (on_end (do_end_on ls n t body) ∷ m.stack) m
  step_at (do_again ls n t body) m = step_do_again J ls n t body m
  step_at (retesting ls n t body) m = go (want None t) (on_val (do_test_on ls n t body) ∷ m.stack) m
  step_at (naming ls i v t body ns) m = step_naming J ls i v t body ns m
  step_at (named ls i v t body n ns b) m = step_named J ls i v t body n ns b m
  step_at (puts_name t n) m = step_puts_name J t n m
  step_at (chooses v cs o) m = step_chooses J v cs o m
  step_at (runs_cases cs) m = step_cases J cs m
  step_at (has_caught n ss) m = go_in (record m.env { at = Some n }) m.depth (does_all [] ss) (restore_on m.env ∷ m.stack) m
  step_at (does_chunk ss) m = step_chunk J ss m
  step_at (takes_turns n ts) m = step_turns J n ts m
  step_at (takes_turn i t) m = step_turn J i t m
  step_at (gets_for i v a) m = go (get_from i v a) (tell_on ∷ m.stack) m
  step_at (loads i c) m = act (hoist J top (body_of P c)) (λ _. does_chunk (body_of P c)) (load_on c ∷ m.stack) m
  step_at (reached r) m = step_end J (reached r) m.stack m
  step_at (gave v) m = step_end J (gave v) m.stack m
  step_at (gathered vs) m = step_end J (gathered vs) m.stack m
  step_at (placed p) m = step_end J (placed p) m.stack m
  step_at (found c) m = step_end J (found c) m.stack m
  step_at (returned r) m = step_end J (returned r) m.stack m
  step_at done m = step_end J done m.stack m
  step_at (ended c) m = step_end J (ended c) m.stack m
  step_at (tossed v) m = step_end J (tossed v) m.stack m

  unfoldable pub onward : Next → Next
  unfolding step_at
  onward (on m) = step_at m.focus m
  onward (halt r) = halt r

  -- the machine after a number of steps
  unfoldable pub iterate : ℕ → Next → Next
  unfolding onward
  iterate zero x = x
  iterate (suc n) x = iterate n (onward x)

  unfoldable pub begin : Script → ℕ → Machine
  unfolding start
  begin sc n = record { focus = takes_turns 0 sc.turns; env = top; depth = n; stack = []; state = start J P sc.replies n; log = [] }
