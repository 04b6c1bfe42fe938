-- One step of what is begun: statements, loops and turns.
use Rattle.std.specs.Prelude.{ℕ, zero, suc, Bool, true, false, List, [], ◌∷◌, Option, Some, None}
use Rattle.cc_ast.specs.Syntax.{undefined, text, Expr, Declarator, ForInit, no_init, init_value, init_vars, ForTarget, in_target, in_declared, Stmt, simple, vars, fun_decl, if, while, do_while, for, for_in, return, throw, break, continue, label, switch, try, pay_stmt, Stmts, no_stmts, more_stmts, Cases, no_cases, more_cases}
use Rattle.cc_ast.specs.declared.tree.Ref.{Ref}
use Rattle.cc_meaning.specs.Values.{Val, prim, handle, Spot, at_site, at_turn}
use Rattle.cc_meaning.specs.Monad.{skip, stop, spent, pay, Mode}
use Rattle.cc_meaning.specs.Store.{quoted}
use Rattle.cc_meaning.specs.Judge as judge
use Rattle.cc_meaning.specs.Acts.{judged, changing, write_var, probe, all_given, was_given, viewed}
use Rattle.cc_meaning.specs.Shapes.{path_of_ref, declared_by}
use Rattle.cc_meaning.specs.Calls.{views}
use Rattle.cc_meaning.specs.Meaning.{Comp, normal, returns, breaks, continues}
use Rattle.cc_meaning.specs.Script.{Turn, load, call as call_turn, get as get_turn, set as set_turn, finished, dependency_failed, note_load, set_handle}
use Rattle.cc_machine.specs.Machine.{Machine, Next, halt, on_val, on_place, on_done, on_end, chunk_on, want, aim, calls_inner, does, does_all, declares, begins, begins_names, turning, turn_body, again, doing, naming, named, puts_name, chooses, runs_cases, takes_turn, gets_for, loads, done, ended, simple_on, declare_on, branch_on, test_on, rest_on, begun_on, return_on, throw_on, switch_on, case_on, name_on, vars_on, for_on, for_in_on, name_put_on, turn_on, list_on, label_on, cases_on}
use Rattle.cc_machine.specs.Moves.{act, go, go_in, with_finally, with_catch}

module _ (J : Mode) where
  -- ---- statements

  unfoldable pub step_does : List (List ℕ) → Stmt → Machine → Next
  unfolding with_finally with_catch
  step_does ls (simple i e) m = go (want None e) (on_val simple_on ∷ m.stack) m
  step_does ls (vars i ds) m = go (declares ds) (on_done vars_on ∷ m.stack) m
  step_does ls (fun_decl i r f) m = go (ended normal) m.stack m
  step_does ls (if i t a b) m = go (want None t) (on_val (branch_on a b) ∷ m.stack) m
  step_does ls (while i t body) m = go (turning ls m.state.budget (Some t) None body) m.stack m
  step_does ls (do_while i body t) m = go (doing ls m.state.budget t body) m.stack m
  step_does ls (for i h t e body) m = go (begins h) (on_done (for_on ls t e body) ∷ m.stack) m
  step_does ls (for_in i t e body) m = go (begins_names t) (on_done (for_in_on ls i t e body) ∷ m.stack) m
  step_does ls (return i None) m = go (ended (returns i (prim undefined))) m.stack m
  step_does ls (return i (Some e)) m = go (want None e) (on_val (return_on i) ∷ m.stack) m
  step_does ls (throw i e) m = go (want None e) (on_val throw_on ∷ m.stack) m
  step_does ls (break i l) m = go (ended (breaks l)) m.stack m
  step_does ls (continue i l) m = go (ended (continues l)) m.stack m
  step_does ls (label i l body) m = go (does_all (l ∷ ls) body) (on_end (label_on l) ∷ m.stack) m
  step_does ls (switch i e cs) m = go (want None e) (on_val (switch_on cs) ∷ m.stack) m
  step_does ls (try i body c f) m = go (does_all [] body) (with_catch c (with_finally f m.stack)) m
  step_does ls (pay_stmt i p) m = act (J.mark p) (λ _. ended normal) m.stack m

  unfoldable pub step_list : List (List ℕ) → Stmts → Machine → Next
  step_list ls no_stmts m = go (ended normal) m.stack m
  step_list ls (more_stmts s ss) m = go (does ls s) (on_end (list_on ls ss) ∷ m.stack) m

  unfoldable pub step_variable : ℕ → Ref → Option Expr → List Declarator → Machine → Next
  step_variable i r None ds m = go (declares ds) m.stack m
  step_variable i r (Some e) ds m = go (want (path_of_ref r) e) (on_val (declare_on i r ds) ∷ m.stack) m

  unfoldable pub step_declare : List Declarator → Machine → Next
  unfolding step_variable
  step_declare [] m = go done m.stack m
  step_declare (d ∷ ds) m = step_variable d.site d.variable d.value ds m

  unfoldable pub step_begins : ForInit → Machine → Next
  step_begins no_init m = go done m.stack m
  step_begins (init_value e) m = go (want None e) (on_val begun_on ∷ m.stack) m
  step_begins (init_vars ds) m = go (declares ds) m.stack m

  unfoldable pub step_begins_names : ForTarget → Machine → Next
  step_begins_names (in_target t) m = go done m.stack m
  step_begins_names (in_declared d) m = go (declares (d ∷ [])) m.stack m

  -- n more turns may follow the one that is due
  unfoldable pub step_turning : List (List ℕ) → ℕ → (test rest : Option Expr) → Stmts → Machine → Next
  step_turning ls n None e body m = go (turn_body ls n None e body) m.stack m
  step_turning ls n (Some t) e body m = go (want None t) (on_val (test_on ls n (Some t) e body) ∷ m.stack) m

  unfoldable pub step_again : List (List ℕ) → ℕ → (test rest : Option Expr) → Stmts → Machine → Next
  step_again ls zero t e body m = act (stop {A = Comp} spent) ended m.stack m
  step_again ls (suc n) t e body m = go (turning ls n t e body) m.stack m

  unfoldable pub step_resting : List (List ℕ) → ℕ → (test rest : Option Expr) → Stmts → Machine → Next
  step_resting ls n t None body m = go (again ls n t None body) m.stack m
  step_resting ls n t (Some e) body m = go (want None e) (on_val (rest_on ls n t (Some e) body) ∷ m.stack) m

  unfoldable pub step_do_again : List (List ℕ) → ℕ → Expr → Stmts → Machine → Next
  step_do_again ls zero t body m = act (stop {A = Comp} spent) ended m.stack m
  step_do_again ls (suc n) t body m = go (doing ls n t body) m.stack m

  unfoldable pub step_naming : List (List ℕ) → ℕ → Val → ForTarget → Stmts → List (List ℕ) → Machine → Next
  step_naming ls i v t body [] m = go (ended normal) m.stack m
  step_naming ls i v t body (n ∷ ns) m = act (probe J (at_site i) v n) (named ls i v t body n ns) m.stack m

  unfoldable pub step_named : List (List ℕ) → ℕ → Val → ForTarget → Stmts → List ℕ → List (List ℕ) → Bool → Machine → Next
  step_named ls i v t body n ns true m = act (pay 1) (λ _. puts_name t n) (on_done (name_put_on ls i v t body ns) ∷ m.stack) m
  step_named ls i v t body n ns false m = go (naming ls i v t body ns) m.stack m

  unfoldable pub step_puts_name : ForTarget → List ℕ → Machine → Next
  step_puts_name (in_target t) n m = go (aim t) (on_place (name_on n) ∷ m.stack) m
  step_puts_name (in_declared d) n m = act (write_var J (at_site d.site) m.env d.variable (prim (text n))) (λ _. done) m.stack m

  unfoldable pub step_otherwise : Option Cases → Machine → Next
  step_otherwise None m = go (ended normal) m.stack m
  step_otherwise (Some cs) m = go (runs_cases cs) m.stack m

  unfoldable pub step_chooses : Val → Cases → Option Cases → Machine → Next
  unfolding step_otherwise
  step_chooses v no_cases o m = step_otherwise o m
  step_chooses v (more_cases None ss cs) o m = go (chooses v cs (Some (more_cases None ss cs))) m.stack m
  step_chooses v (more_cases (Some t) ss cs) o m = go (want None t) (on_val (case_on v ss cs o) ∷ m.stack) m

  unfoldable pub step_cases : Cases → Machine → Next
  step_cases no_cases m = go (ended normal) m.stack m
  step_cases (more_cases t ss cs) m = go (does_all [] ss) (on_end (cases_on cs) ∷ m.stack) m

  -- ---- turns

  unfoldable pub step_chunk : Stmts → Machine → Next
  step_chunk no_stmts m = go (ended normal) m.stack m
  step_chunk (more_stmts s ss) m = go_in (record m.env { declares = declared_by m.state.tables s }) m.depth (does [] s) (chunk_on m.env ss ∷ m.stack) m

  unfoldable pub step_turns : ℕ → List Turn → Machine → Next
  step_turns n [] m = halt (record { events = m.log; end = finished })
  step_turns n (t ∷ ts) m = go (takes_turn (at_turn n) t) (on_done (turn_on (suc n) ts) ∷ m.stack) m

  unfoldable pub step_turn : Spot → Turn → Machine → Next
  step_turn i (load c) m = act (judged J i (judge.hosts true None None (dependency_failed m.state c)) (changing (note_load c))) (λ _. loads i c) m.stack m
  step_turn i (call_turn c) m =
      act (judged J i (judge.hosts (all_given m.state (handle c.callee ∷ c.this ∷ c.args)) None None false) skip)
      (λ _. calls_inner i (viewed m.state (handle c.callee)) (viewed m.state c.this) (views m.state c.args)) m.stack m
  step_turn i (get_turn h n) m =
      act (judged J i (judge.hosts (was_given m.state (handle h)) (Some (viewed m.state (handle h))) (Some n) false) skip)
      (λ _. gets_for i (viewed m.state (handle h)) (quoted n)) m.stack m
  step_turn i (set_turn h n x) m = act (set_handle J i h n x) (λ _. done) m.stack m
