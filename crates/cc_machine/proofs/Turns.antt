-- Functions to any depth, chunks, turns and the run.
use Rattle.std.proofs.Common.{◌≡◌, ℕ, zero, suc, true, false, List, [], ◌∷◌, Option, Some, None, refl, ap, ◌∙◌, sym, subst}
use Rattle.cc_ast.specs.Syntax.{Prim, undefined, Stmts, no_stmts, more_stmts, Program}
use Rattle.cc_meaning.specs.Values.{Val, Event, prim, obj, out, handle, Spot, at_turn}
use Rattle.cc_meaning.specs.State.{Code, Env, State}
use Rattle.cc_meaning.specs.Monad.{Said, Res, ok, threw, over, M, ret, stop, said, after, ◌>>=◌, attempted, attempt, with_tables, Mode}
use Rattle.cc_meaning.specs.Store.{Access, quoted}
use Rattle.cc_meaning.specs.Judge as judge
use Rattle.cc_meaning.specs.Acts.{judged, changing, all_given, was_given, viewed}
use Rattle.cc_meaning.specs.Shapes.{declared_by, body_of}
use Rattle.cc_meaning.specs.Calls.{Bodies, tell_end, views, get_on, inner_call}
use Rattle.cc_meaning.specs.Meaning.{Comp, normal, next, result, hoist, ex, ex_chunk, bodies}
use Rattle.cc_meaning.specs.Script as sc
use Rattle.cc_meaning.specs.Script.{Turn, load, Script, top, dependency_failed, note_load, note_end, get_handle, set_handle, start, run_chunk, load_chunk, call_at, call_handle, turn, turns_from, raw, run, Run, finished, stopped, finish}
use Rattle.cc_machine.specs.Machine.{Focus, Frame, halt, on_done, leave_on, chunk_on, tell_on, load_on}
use Rattle.cc_machine.specs.Machine.{has_frame, binds, calls_inner, does_all, does_chunk, takes_turns, takes_turn, gets_for, loads, gave, returned, done, ended}
use Rattle.cc_machine.specs.Machine.{turn_on}
use Rattle.cc_machine.specs.Moves.{land, logged}
use Rattle.cc_machine.specs.Steps.{onward, begin as begin_run}
use Rattle.cc_machine.proofs.Laws.{logged_twice, logged_all, bind_assoc, instead, attempt_instead}
use Rattle.cc_machine.proofs.Goes.{at, Goes, go_said, then_caught, bind_caught, judged_run, stay, more, far, Runs, Meets, then_run, goto, push, acted, acts, pop_acted, given, alike}
use Rattle.cc_machine.proofs.Calls.{AreBodies, inner_run, get_run}
use Rattle.cc_machine.proofs.Statements.{next_run, ex_run, exs_run}
use Rattle.cc_machine.specs.Promises.{MachineMeans}

module _ (J : Mode) (P : Program) where
  -- ---- a function's body runs in a frame of its own, one depth below

  abbrev inside : ℕ → Option Val → Env
  inside n t = record { at = Some n; this = t; declares = [] }

  left : (g h : Env) (d : ℕ) (f : Code) (K : List Frame) (l : List Event) (r : Res Comp) →
      Goes J P (land ended h d (leave_on g (suc d) f ∷ K) l r) (land returned g (suc d) K l (after r (λ k. ret (result f k))))
  unfolding onward land after
  left g h d f K l (ok u k s) = more J P (go_said J P returned g (suc d) K l u (ret (result f k) s) ((given J P (result f k)).run K (logged l u) s))
  left g h d f K l (threw u v s) = more J P (stay J P)
  left g h d f K l (over u e) = stay J P

  binds_run : (h : Env) (d : ℕ) (ss : Stmts) {m : M Comp} → Runs J P h d (does_all [] ss) m ended → Runs J P h d (binds ss) (hoist J h ss >>= λ _. m) ended
  unfolding onward
  binds_run h d ss p = acts J P _ (λ K l s. refl) (λ _. p)

  framed_run : (g : Env) (d n : ℕ) (f : Code) (t : Option Val) {m : M Comp} → Runs J P (inside n t) d (does_all [] (body_of P f.function)) m ended →
      Runs J P g (suc d) (has_frame n f t) ((hoist J (inside n t) (body_of P f.function) >>= λ _. m) >>= λ k. ret (result f k)) returned
  unfolding onward ◌>>=◌
  framed_run g d n f t {m = m} p = record { run = λ K l s. more J P (far J P ((binds_run (inside n t) d (body_of P f.function) p).run (leave_on g (suc d) f ∷ K) l s) (left g (inside n t) d f K l ((hoist J (inside n t) (body_of P f.function) >>= λ _. m) s))) }

  pub bodies_run : (d : ℕ) → AreBodies J P d (bodies J P d)
  unfolding onward bodies
  bodies_run zero g f t vs = acted J P (λ K l s. refl)
  bodies_run (suc d) g f t vs = acts J P _ (λ K l s. refl) (λ n. framed_run g d n f t (exs_run J P d (bodies J P d) (bodies_run d) (inside n t) [] (body_of P f.function)))

  module _ (d : ℕ) (B : Bodies) (bodies_go : AreBodies J P d B) where
    -- ---- chunks

    chunk_left : (g h : Env) (ss : Stmts) {k : M Comp} → Runs J P g d (does_chunk ss) k ended → (K : List Frame) (l : List Event) (r : Res Comp) →
        Goes J P (land ended h d (chunk_on g ss ∷ K) l r) (land ended g d K l (after r (λ c. next c k)))
    unfolding onward land after
    chunk_left g h ss {k = k} p K l (ok u c s) = more J P (go_said J P ended g d K l u (next c k s) ((next_run J P d B bodies_go c p).run K (logged l u) s))
    chunk_left g h ss p K l (threw u v s) = more J P (stay J P)
    chunk_left g h ss p K l (over u e) = stay J P

    chunk_run : (g : Env) (ss : Stmts) → Runs J P g d (does_chunk ss) (ex_chunk J B g ss) ended
    unfolding onward ex_chunk ◌>>=◌ with_tables
    chunk_run g no_stmts = goto J P (λ K l s. refl) (given J P normal)
    chunk_run g (more_stmts x ss) = record {
      run = λ K l s. more J P (far J P
          ((ex_run J P d B bodies_go (record g { declares = declared_by s.tables x }) [] x).run (chunk_on g ss ∷ K) l s)
          (chunk_left g (record g { declares = declared_by s.tables x }) ss (chunk_run g ss) K l (ex J B (record g { declares = declared_by s.tables x }) [] x s)));
    }

    -- ---- turns

    load_ended : (n : ℕ) (K : List Frame) (l : List Event) (r : Res Comp) →
        Goes J P (land ended top d (load_on n ∷ K) l r) (land (λ _. done) top d K l (after (attempted r) (λ w. changing (note_end n (instead (prim undefined) w)) >>= λ _. tell_end (instead (prim undefined) w))))
    unfolding onward instead
    load_ended n K l r = then_caught J P _ (λ c. pop_acted J P (λ K l s. refl)) (λ v. pop_acted J P (λ K l s. refl)) K l r

    loaded_as : (n : ℕ) → (attempt (hoist J top (body_of P n) >>= λ _. ex_chunk J B top (body_of P n)) >>= λ w. changing (note_end n (instead (prim undefined) w)) >>= λ _. tell_end (instead (prim undefined) w))
        ≡ (attempt (run_chunk J P B n) >>= λ w. changing (note_end n w) >>= λ _. tell_end w)
    unfolding run_chunk
    loaded_as n = sym (attempt_instead (hoist J top (body_of P n) >>= λ _. ex_chunk J B top (body_of P n)) (prim undefined) (λ w. changing (note_end n w) >>= λ _. tell_end w))
        ∙ ap (λ q. attempt q >>= λ w. changing (note_end n w) >>= λ _. tell_end w) (bind_assoc (hoist J top (body_of P n)) _ _)

    loads_run : (i : Spot) (n : ℕ) → Runs J P top d (loads i n) (attempt (run_chunk J P B n) >>= λ w. changing (note_end n w) >>= λ _. tell_end w) (λ _. done)
    unfolding onward ◌>>=◌ attempt
    loads_run i n = alike J P (loaded_as n) (record { run = λ K l s. more J P (far J P (then_run J P (λ _. chunk_run top (body_of P n)) (load_on n ∷ K) l (hoist J top (body_of P n) s)) (load_ended n K l ((hoist J top (body_of P n) >>= λ _. ex_chunk J B top (body_of P n)) s))) })

    told_meets : {g : Env} {f : Focus} {m : M Val} → Runs J P g d f m gave → Meets J P g d f tell_on (attempt m >>= λ w. tell_end w) (λ _. done)
    unfolding onward
    told_meets p = bind_caught J P _ p (λ v. pop_acted J P (λ K l s. refl)) (λ v. pop_acted J P (λ K l s. refl))

    -- a call of a handle is like one that a reply makes
    handle_call : (i : Spot) (v t : Val) (vs : List Val) → Runs J P top d (calls_inner i v t vs) (attempt (call_at J B i v t vs) >>= λ w. tell_end w) (λ _. done)
    unfolding inner_call call_at ◌>>=◌ attempt after attempted stop
    handle_call i (obj n) t vs = inner_run J P d B bodies_go top i (obj n) t vs
    handle_call i (out n) t vs = inner_run J P d B bodies_go top i (out n) t vs
    handle_call i (prim p) t vs = inner_run J P d B bodies_go top i (prim p) t vs

    gets_run : (i : Spot) (v : Val) (a : Access) → Runs J P top d (gets_for i v a) (attempt (get_on J B i v a) >>= λ w. tell_end w) (λ _. done)
    unfolding onward
    gets_run i v a = push J P (λ K l s. refl) (told_meets (get_run J P d B bodies_go top i v a))

    turn_runs : (i : Spot) (t : Turn) → Runs J P top d (takes_turn i t) (turn J P B i t) (λ _. done)
    unfolding onward turn load_chunk call_handle get_handle ◌>>=◌
    turn_runs i (load n) = record { run = λ K l s. more J P (then_run J P (λ _. loads_run i n) K l (judged J i (judge.hosts true None None (dependency_failed s n)) (changing (note_load n)) s)) }
    turn_runs i (sc.call x) = record { run = λ K l s. more J P (judged_run J P i (judge.hosts (all_given s (handle x.callee ∷ x.this ∷ x.args)) None None false) (handle_call i (viewed s (handle x.callee)) (viewed s x.this) (views s x.args)) K l s) }
    turn_runs i (sc.get h n) = record { run = λ K l s. more J P (judged_run J P i (judge.hosts (was_given s (handle h)) (Some (viewed s (handle h))) (Some n) false) (gets_run i (viewed s (handle h)) (quoted n)) K l s) }
    turn_runs i (sc.set h n x) = acted J P (λ K l s. refl)

    -- the last turn ends the run
    -- how the run ends, after a log
    after_log : List Event → Res (Unit {0}) → Run
    after_log l (ok u a s) = record { events = logged l u; end = finished }
    after_log l (threw u v s) = record { events = logged l u; end = finished }
    after_log l (over u e) = record { events = logged l u; end = stopped e }

    after_said : (l : List Event) (u : List Said) (r : Res (Unit {0})) → after_log (logged l u) r ≡ after_log l (said u r)
    unfolding after_log said
    after_said l u (ok v a s) = ap (λ z. record { events = z; end = finished }) (logged_twice l u v)
    after_said l u (threw v x s) = ap (λ z. record { events = z; end = finished }) (logged_twice l u v)
    after_said l u (over v e) = ap (λ z. record { events = z; end = stopped e }) (logged_twice l u v)

    after_none : (r : Res (Unit {0})) → after_log [] r ≡ finish r
    unfolding after_log finish
    after_none (ok u a s) = ap (λ z. record { events = z; end = finished }) (logged_all [] u)
    after_none (threw u v s) = ap (λ z. record { events = z; end = finished }) (logged_all [] u)
    after_none (over u e) = ap (λ z. record { events = z; end = stopped e }) (logged_all [] u)

    turned : (n : ℕ) (ts : List Turn) (l : List Event) (r : Res (Unit {0})) → ((l : List Event) (s : State) → Goes J P (at (takes_turns n ts) top d [] s l) (halt (after_log l (turns_from J P B n ts s)))) →
        Goes J P (land (λ _. done) top d (on_done (turn_on n ts) ∷ []) l r) (halt (after_log l (after r (λ _. turns_from J P B n ts))))
    unfolding onward land after after_log
    turned n ts l (ok u a s) p = more J P (subst (λ z. Goes J P (at (takes_turns n ts) top d [] s (logged l u)) (halt z)) (after_said l u (turns_from J P B n ts s)) (p (logged l u) s))
    turned n ts l (threw u v s) p = more J P (more J P (stay J P))
    turned n ts l (over u e) p = stay J P

    turns_go : (n : ℕ) (ts : List Turn) (l : List Event) (s : State) → Goes J P (at (takes_turns n ts) top d [] s l) (halt (after_log l (turns_from J P B n ts s)))
    unfolding onward turns_from ◌>>=◌ after_log ret logged
    turns_go n [] l s = more J P (stay J P)
    turns_go n (t ∷ ts) l s = more J P (far J P ((turn_runs (at_turn n) t).run (on_done (turn_on (suc n) ts) ∷ []) l s) (turned (suc n) ts l (turn J P B (at_turn n) t s) (turns_go (suc n) ts)))

pub means : MachineMeans
unfolding raw run begin_run
means J P sc n = (halts.steps, halts.there ∙ ap (λ z. halt z) (after_none J P n (bodies J P n) (bodies_run J P n) (raw J P sc n)))
  where
    halts : Goes J P (at (takes_turns 0 sc.turns) top n [] (start J P sc.replies n) []) (halt (after_log J P n (bodies J P n) (bodies_run J P n) [] (raw J P sc n)))
    halts = turns_go J P n (bodies J P n) (bodies_run J P n) 0 sc.turns [] (start J P sc.replies n)
