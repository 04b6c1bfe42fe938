-- Statements.
use Rattle.std.proofs.Common.{◌≡◌, ℕ, zero, suc, Bool, true, false, List, [], ◌∷◌, Option, Some, None, refl, ap, ◌∙◌, sym}
use Rattle.cc_ast.specs.Syntax.{Prim, undefined, Expr, Declarator, ForInit, no_init, init_value, init_vars, ForTarget, in_target, in_declared, Stmt, simple, vars, fun_decl, if, while, do_while, for, for_in, return, throw, break, continue, label, switch, try, pay_stmt, Stmts, no_stmts, more_stmts, absent, present, Cases, no_cases, more_cases, Program}
use Rattle.cc_ast.specs.declared.tree.Ref.{Ref}
use Rattle.cc_meaning.specs.Values.{Val, Event, prim, at_site}
use Rattle.cc_meaning.specs.Operators.{truthy, strict_equal, is_in}
use Rattle.cc_meaning.specs.State.{Env, State}
use Rattle.cc_meaning.specs.Monad.{Res, ok, threw, over, M, ret, skip, after, ◌>>=◌, Way, went, thrown, attempted, attempt, pay, with_budget, pick, Mode}
use Rattle.cc_meaning.specs.Acts.{probe}
use Rattle.cc_meaning.specs.Shapes.{path_of_ref}
use Rattle.cc_meaning.specs.Calls.{Bodies, value}
use Rattle.cc_meaning.specs.Meaning.{Comp, normal, returns, breaks, continues, next, next_turn, labelled, unbroken, resume, turns, do_turns, each_name, ev, value_at, test_at, only_run, set_variable, declare, begin_for, begin_names, put_name, thrown_at, ex, exs, ex_catch, ex_finally, ex_cases, run_cases}
use Rattle.cc_machine.specs.Machine.{Focus, Frame, on_val, on_end, restore_on, catch_on, finally_on}
use Rattle.cc_machine.specs.Machine.{want, does, does_all, declares, begins, begins_names, turning, turn_body, again, resting, doing, do_again, retesting, naming, named, puts_name, chooses, runs_cases, has_caught, done, ended}
use Rattle.cc_machine.specs.Machine.{simple_on, declare_on, branch_on, test_on, rest_on, do_test_on, begun_on, names_on, return_on, throw_on, switch_on, case_on}
use Rattle.cc_machine.specs.Machine.{name_on, vars_on, for_on, for_in_on, name_put_on, list_on, turn_end_on, do_end_on, name_end_on, label_on, unbroken_on, cases_on, resume_on}
use Rattle.cc_machine.specs.Moves.{land, next_focus, turn_focus, way_focus}
use Rattle.cc_machine.specs.StatementSteps.{step_variable}
use Rattle.cc_machine.specs.Steps.{onward}
use Rattle.cc_machine.proofs.Laws.{bind_assoc, bind_ret, ret_bind, attempted_resumed}
use Rattle.cc_machine.proofs.Goes.{mach, Goes, raised, then_caught, bind_caught, stay, more, far, Runs, Meets, bind, goto, push, acted, acts, acts_push, pop, swap, pop_acted, pop_acts, runs_pick, given, alike, meets_alike}
use Rattle.cc_machine.proofs.Calls.{val_passes, place_passes, done_passes, end_passes, AreBodies}
use Rattle.cc_machine.proofs.Expressions.{want_run, aim_run}

-- the value before is given on
bind_tt : {A : Type 0} (m : M Val) (k : M A) → ((m >>= λ _. skip) >>= λ _. k) ≡ (m >>= λ _. k)
bind_tt m k = bind_assoc m _ _ ∙ ap (λ h. m >>= h) (λ i v. ret_bind tt (λ _. k) i)

bind_through : {A B C : Type 0} (m : M A) (f : A → B) (k : B → M C) → ((m >>= λ v. ret (f v)) >>= k) ≡ (m >>= λ v. k (f v))
bind_through m f k = bind_assoc m _ _ ∙ ap (λ h. m >>= h) (λ i v. ret_bind (f v) k i)

module _ (J : Mode) (P : Program) (d : ℕ) (B : Bodies) (bodies_run : AreBodies J P d B) where
  pub next_run : {g : Env} {f : Focus} {m : M Comp} (c : Comp) → Runs J P g d f m ended → Runs J P g d (next_focus c f) (next c m) ended
  unfolding next next_focus
  next_run normal p = p
  next_run (returns i v) p = given J P (returns i v)
  next_run (breaks l) p = given J P (breaks l)
  next_run (continues l) p = given J P (continues l)

  turn_run : {g : Env} {f : Focus} {m : M Comp} (ls : List (List ℕ)) (c : Comp) → Runs J P g d f m ended → Runs J P g d (turn_focus ls c f) (next_turn ls c m) ended
  unfolding next_turn turn_focus
  turn_run ls normal p = p
  turn_run ls (returns i v) p = given J P (returns i v)
  turn_run ls (breaks None) p = given J P normal
  turn_run ls (breaks (Some l)) p = given J P (breaks (Some l))
  turn_run ls (continues None) p = p
  turn_run ls (continues (Some l)) p = runs_pick J P (is_in l ls) p (given J P (continues (Some l)))

  way_run : {g : Env} (w : Way Comp) → Runs J P g d (way_focus w) (resume w) ended
  unfolding way_focus resume
  way_run (went c) = given J P c
  way_run (thrown v) = raised J P v

  -- ---- declarations

  declared_meets : (g : Env) (i : ℕ) (r : Ref) (e : Expr) (ds : List Declarator) {m : M (Unit {0})} → Runs J P g d (declares ds) m (λ _. done) →
      Meets J P g d (want (path_of_ref r) e) (on_val (declare_on i r ds)) (set_variable J B g i r (Some e) >>= λ _. m) (λ _. done)
  unfolding onward set_variable
  declared_meets g i r e ds p = meets_alike J P (sym (bind_assoc (value J B (ev J B g (path_of_ref r) e)) _ _)) (bind J P (val_passes J P (declare_on i r ds)) (want_run J P d B bodies_run g (path_of_ref r) e) (λ v. pop_acts J P _ (λ K l s. refl) (λ _. p)))

  variable_goes : (g : Env) (f : Focus) (i : ℕ) (r : Ref) (o : Option Expr) (ds : List Declarator) {m : M (Unit {0})} → Runs J P g d (declares ds) m (λ _. done) → (K : List Frame) (l : List Event) (s : State) →
      Goes J P (step_variable J i r o ds (mach f g d K s l)) (land (λ _. done) g d K l ((set_variable J B g i r o >>= λ _. m) s))
  unfolding step_variable set_variable
  variable_goes g f i r None ds {m = m} p K l s = (alike J P (sym (ret_bind tt (λ _. m))) p).run K l s
  variable_goes g f i r (Some e) ds p K l s = (declared_meets g i r e ds p).run K l s

  pub declares_run : (g : Env) (ds : List Declarator) → Runs J P g d (declares ds) (declare J B g ds) (λ _. done)
  unfolding onward declare
  declares_run g [] = goto J P (λ K l s. refl) (given J P tt)
  declares_run g (x ∷ ds) = record { run = λ K l s. more J P (variable_goes g (declares (x ∷ ds)) x.site x.variable x.value ds (declares_run g ds) K l s) }

  begins_run : (g : Env) (h : ForInit) → Runs J P g d (begins h) (begin_for J B g h) (λ _. done)
  unfolding onward begin_for value_at
  begins_run g no_init = goto J P (λ K l s. refl) (given J P tt)
  begins_run g (init_value e) = push J P (λ K l s. refl) (bind J P (val_passes J P begun_on) (want_run J P d B bodies_run g None e) (λ v. pop J P (λ K l s. refl) (given J P tt)))
  begins_run g (init_vars ds) = goto J P (λ K l s. refl) (declares_run g ds)

  declare_one : (g : Env) (x : Declarator) → declare J B g (x ∷ []) ≡ set_variable J B g x.site x.variable x.value
  unfolding declare
  declare_one g x = bind_ret (set_variable J B g x.site x.variable x.value)

  begins_names_run : (g : Env) (t : ForTarget) → Runs J P g d (begins_names t) (begin_names J B g t) (λ _. done)
  unfolding onward begin_names
  begins_names_run g (in_target t) = goto J P (λ K l s. refl) (given J P tt)
  begins_names_run g (in_declared x) = goto J P (λ K l s. refl) (alike J P (declare_one g x) (declares_run g (x ∷ [])))

  puts_name_run : (g : Env) (t : ForTarget) (n : List ℕ) → Runs J P g d (puts_name t n) (put_name J B g t n) (λ _. done)
  unfolding onward put_name
  puts_name_run g (in_target t) n = push J P (λ K l s. refl) (bind J P (place_passes J P (name_on n)) (aim_run J P d B bodies_run g t) (λ p. pop_acted J P (λ K l s. refl)))
  puts_name_run g (in_declared x) n = acted J P (λ K l s. refl)

  -- ---- loops

  module _ (g : Env) (body : Stmts) (m : M Comp) (p : Runs J P g d (does_all [] body) m ended) where
    resting_run : (ls : List (List ℕ)) (n : ℕ) (t e : Option Expr) {k : M Comp} → Runs J P g d (again ls n t e body) k ended → Runs J P g d (resting ls n t e body) (only_run J B g e >>= λ _. k) ended
    unfolding onward only_run value_at
    resting_run ls n t None {k = k} q = alike J P (sym (ret_bind tt (λ _. k))) (goto J P (λ K l s. refl) q)
    resting_run ls n t (Some e) {k = k} q = push J P (λ K l s. refl) (meets_alike J P (sym (bind_tt (value J B (ev J B g None e)) k)) (bind J P (val_passes J P (rest_on ls n t (Some e) body)) (want_run J P d B bodies_run g None e) (λ v. pop J P (λ K l s. refl) q)))

    turn_body_run : (ls : List (List ℕ)) (n : ℕ) (t e : Option Expr) {k : M Comp} → Runs J P g d (again ls n t e body) k ended →
        Runs J P g d (turn_body ls n t e body) (pay 1 >>= λ _. m >>= λ c. next_turn ls c (only_run J B g e >>= λ _. k)) ended
    unfolding onward
    turn_body_run ls n t e q = acts_push J P _ (λ K l s. refl) (end_passes J P (turn_end_on ls n t e body)) (λ _. bind J P (end_passes J P (turn_end_on ls n t e body)) p (λ c. pop J P (λ K l s. refl) (turn_run ls c (resting_run ls n t e q))))

    tested_run : (ls : List (List ℕ)) (n : ℕ) (t e : Option Expr) → Runs J P g d (again ls n t e body) (turns ls n (test_at J B g t) (only_run J B g e) m) ended →
        Runs J P g d (turning ls n t e body) (turns ls (suc n) (test_at J B g t) (only_run J B g e) m) ended
    unfolding onward turns test_at value_at
    tested_run ls n None e q = alike J P (sym (ret_bind true _)) (goto J P (λ K l s. refl) (turn_body_run ls n None e q))
    tested_run ls n (Some t) e q = push J P (λ K l s. refl) (meets_alike J P (sym (bind_through (value J B (ev J B g None t)) truthy _)) (bind J P (val_passes J P (test_on ls n (Some t) e body)) (want_run J P d B bodies_run g None t) (λ v. pop J P (λ K l s. refl)
        (runs_pick J P (truthy v) (turn_body_run ls n (Some t) e q) (given J P normal)))))

    again_run : (ls : List (List ℕ)) (n : ℕ) (t e : Option Expr) → Runs J P g d (again ls n t e body) (turns ls n (test_at J B g t) (only_run J B g e) m) ended
    unfolding onward turns
    again_run ls zero t e = acted J P (λ K l s. refl)
    again_run ls (suc n) t e = goto J P (λ K l s. refl) (tested_run ls n t e (again_run ls n t e))

    turning_run : (ls : List (List ℕ)) (n : ℕ) (t e : Option Expr) → Runs J P g d (turning ls n t e body) (turns ls (suc n) (test_at J B g t) (only_run J B g e) m) ended
    turning_run ls n t e = tested_run ls n t e (again_run ls n t e)

    retesting_run : (ls : List (List ℕ)) (n : ℕ) (t : Expr) {k : M Comp} → Runs J P g d (do_again ls n t body) k ended →
        Runs J P g d (retesting ls n t body) (test_at J B g (Some t) >>= λ b. pick b k (ret normal)) ended
    unfolding onward test_at value_at
    retesting_run ls n t q = push J P (λ K l s. refl) (meets_alike J P (sym (bind_through (value J B (ev J B g None t)) truthy _)) (bind J P (val_passes J P (do_test_on ls n t body)) (want_run J P d B bodies_run g None t) (λ v. pop J P (λ K l s. refl)
        (runs_pick J P (truthy v) q (given J P normal)))))

    do_tested_run : (ls : List (List ℕ)) (n : ℕ) (t : Expr) → Runs J P g d (do_again ls n t body) (do_turns ls n (test_at J B g (Some t)) m) ended → Runs J P g d (doing ls n t body) (do_turns ls (suc n) (test_at J B g (Some t)) m) ended
    unfolding onward do_turns
    do_tested_run ls n t q = acts_push J P _ (λ K l s. refl) (end_passes J P (do_end_on ls n t body)) (λ _. bind J P (end_passes J P (do_end_on ls n t body)) p (λ c. pop J P (λ K l s. refl) (turn_run ls c (retesting_run ls n t q))))

    do_again_run : (ls : List (List ℕ)) (n : ℕ) (t : Expr) → Runs J P g d (do_again ls n t body) (do_turns ls n (test_at J B g (Some t)) m) ended
    unfolding onward do_turns
    do_again_run ls zero t = acted J P (λ K l s. refl)
    do_again_run ls (suc n) t = goto J P (λ K l s. refl) (do_tested_run ls n t (do_again_run ls n t))

    doing_run : (ls : List (List ℕ)) (n : ℕ) (t : Expr) → Runs J P g d (doing ls n t body) (do_turns ls (suc n) (test_at J B g (Some t)) m) ended
    doing_run ls n t = do_tested_run ls n t (do_again_run ls n t)

    named_run : (ls : List (List ℕ)) (i : ℕ) (v : Val) (t : ForTarget) (n : List ℕ) (ns : List (List ℕ)) {k : M Comp} → Runs J P g d (naming ls i v t body ns) k ended → (b : Bool) →
        Runs J P g d (named ls i v t body n ns b) (pick b (pay 1 >>= λ _. put_name J B g t n >>= λ _. m >>= λ c. next_turn ls c k) k) ended
    unfolding onward
    named_run ls i v t n ns q true = acts_push J P _ (λ K l s. refl) (done_passes J P (name_put_on ls i v t body ns)) (λ _. bind J P (done_passes J P (name_put_on ls i v t body ns)) (puts_name_run g t n) (λ _. swap J P (λ K l s. refl)
        (bind J P (end_passes J P (name_end_on ls i v t body ns)) p (λ c. pop J P (λ K l s. refl) (turn_run ls c q)))))
    named_run ls i v t n ns q false = goto J P (λ K l s. refl) q

    naming_run : (ls : List (List ℕ)) (i : ℕ) (v : Val) (t : ForTarget) (ns : List (List ℕ)) → Runs J P g d (naming ls i v t body ns) (each_name ls (probe J (at_site i) v) (put_name J B g t) m ns) ended
    unfolding onward each_name
    naming_run ls i v t [] = goto J P (λ K l s. refl) (given J P normal)
    naming_run ls i v t (n ∷ ns) = acts J P _ (λ K l s. refl) (λ b. named_run ls i v t n ns (naming_run ls i v t ns) b)

  -- ---- catch clauses: they run in a frame of their own

  restored : (g h : Env) (K : List Frame) (l : List Event) (r : Res Comp) → Goes J P (land ended h d (restore_on g ∷ K) l r) (land ended g d K l r)
  unfolding onward land
  restored g h K l (ok u c s) = more J P (stay J P)
  restored g h K l (threw u v s) = more J P (stay J P)
  restored g h K l (over u e) = stay J P

  caught_run : (g : Env) (n : ℕ) (ss : Stmts) {m : M Comp} → Runs J P (record g { at = Some n }) d (does_all [] ss) m ended → Runs J P g d (has_caught n ss) m ended
  unfolding onward
  caught_run g n ss {m = m} p = record { run = λ K l s. more J P (far J P (p.run (restore_on g ∷ K) l s) (restored g (record g { at = Some n }) K l (m s))) }

  catch_meets : (g : Env) {f : Focus} {m : M Comp} (ss : Stmts) → Runs J P g d f m ended → ((n : ℕ) → Runs J P (record g { at = Some n }) d (does_all [] ss) (exs J B (record g { at = Some n }) [] ss) ended) →
      Meets J P g d f (catch_on ss) (attempt m >>= λ w. ex_catch J B g (present ss) w) ended
  unfolding onward ex_catch
  catch_meets g ss p q = bind_caught J P _ p (λ c. pop J P (λ K l s. refl) (given J P c)) (λ v. pop_acts J P _ (λ K l s. refl) (λ n. caught_run g n ss (q n)))

  resumes : (g : Env) (ss : Stmts) {k : M Comp} → Runs J P g d (does_all [] ss) k ended → (w : Way Comp) → Meets J P g d (does_all [] ss) (on_end (resume_on w)) (k >>= λ c. next c (resume w)) ended
  unfolding onward
  resumes g ss q w = bind J P (end_passes J P (resume_on w)) q (λ c. pop J P (λ K l s. refl) (next_run c (way_run w)))

  finishes_goes : (g : Env) (ss : Stmts) {k : M Comp} → Runs J P g d (does_all [] ss) k ended → (K : List Frame) (l : List Event) (r : Res Comp) →
      Goes J P (land ended g d (finally_on ss ∷ K) l r) (land ended g d K l (after (attempted r) (λ w. k >>= λ c. next c (resume w))))
  unfolding onward
  finishes_goes g ss q K l r = then_caught J P _ (λ c. swap J P (λ K l s. refl) (resumes g ss q (went c))) (λ v. swap J P (λ K l s. refl) (resumes g ss q (thrown v))) K l r

  finally_meets : (g : Env) {f : Focus} {m k : M Comp} (ss : Stmts) → Runs J P g d f m ended → Runs J P g d (does_all [] ss) k ended →
      Meets J P g d f (finally_on ss) (attempt m >>= λ w. k >>= λ c. next c (resume w)) ended
  unfolding ◌>>=◌ attempt
  finally_meets g {m = m} ss p q = record { run = λ K l s. far J P (p.run (finally_on ss ∷ K) l s) (finishes_goes g ss q K l (m s)) }

  unbroken_meets : (g : Env) {f : Focus} {m : M Comp} → Runs J P g d f m ended → Meets J P g d f (on_end unbroken_on) (m >>= λ c. ret (unbroken c)) ended
  unfolding onward
  unbroken_meets g p = bind J P (end_passes J P unbroken_on) p (λ c. pop J P (λ K l s. refl) (given J P (unbroken c)))

  try_both : (g : Env) (i : ℕ) (ls : List (List ℕ)) (body ss fs : Stmts) {m k : M Comp} → Runs J P g d (does_all [] body) m ended →
      ((n : ℕ) → Runs J P (record g { at = Some n }) d (does_all [] ss) (exs J B (record g { at = Some n }) [] ss) ended) → Runs J P g d (does_all [] fs) k ended →
      Runs J P g d (does ls (try i body (present ss) (present fs))) (attempt (attempt m >>= λ w. ex_catch J B g (present ss) w) >>= λ w. k >>= λ c. next c (resume w)) ended
  unfolding onward ◌>>=◌ attempt
  try_both g i ls body ss fs {m = m} {k = k} p q r = record { run = λ K l s. more J P (far J P ((catch_meets g ss p q).run (finally_on fs ∷ K) l s) (finishes_goes g fs r K l ((attempt m >>= λ w. ex_catch J B g (present ss) w) s))) }

  falls : (g : Env) (t : Option Expr) (ss : Stmts) (cs : Cases) {m k : M Comp} → Runs J P g d (does_all [] ss) m ended → Runs J P g d (runs_cases cs) k ended → Runs J P g d (runs_cases (more_cases t ss cs)) (m >>= λ c. next c k) ended
  unfolding onward
  falls g t ss cs p q = push J P (λ K l s. refl) (bind J P (end_passes J P (cases_on cs)) p (λ c. pop J P (λ K l s. refl) (next_run c q)))

  -- what a switch does where no case is met
  abbrev Otherwise : Env → Option Cases → M Comp → Type 0
  Otherwise g None m = ret normal ≡ m
  Otherwise g (Some cs) m = Runs J P g d (runs_cases cs) m ended

  otherwise_run : (g : Env) (v : Val) (o : Option Cases) (m : M Comp) → Otherwise g o m → Runs J P g d (chooses v no_cases o) m ended
  unfolding onward
  otherwise_run g v None m p = goto J P (λ K l s. refl) (alike J P p (given J P normal))
  otherwise_run g v (Some cs) m p = goto J P (λ K l s. refl) p

  mutual
    unfolding onward ex exs ex_catch ex_finally ex_cases run_cases value_at with_budget only_run thrown_at

    pub ex_run : (g : Env) (ls : List (List ℕ)) (s : Stmt) → Runs J P g d (does ls s) (ex J B g ls s) ended
    ex_run g ls (simple i e) = push J P (λ K l s. refl) (bind J P (val_passes J P simple_on) (want_run J P d B bodies_run g None e) (λ v. pop J P (λ K l s. refl) (given J P normal)))
    ex_run g ls (vars i ds) = push J P (λ K l s. refl) (bind J P (done_passes J P vars_on) (declares_run g ds) (λ _. pop J P (λ K l s. refl) (given J P normal)))
    ex_run g ls (fun_decl i r f) = goto J P (λ K l s. refl) (given J P normal)
    ex_run g ls (if i t a b) = push J P (λ K l s. refl) (bind J P (val_passes J P (branch_on a b)) (want_run J P d B bodies_run g None t) (λ v. pop J P (λ K l s. refl) (runs_pick J P (truthy v) (exs_run g [] a) (exs_run g [] b))))
    ex_run g ls (while i t body) = record { run = λ K l s. more J P ((turning_run g body (exs J B g [] body) (exs_run g [] body) ls s.budget (Some t) None).run K l s) }
    ex_run g ls (do_while i body t) = record { run = λ K l s. more J P ((doing_run g body (exs J B g [] body) (exs_run g [] body) ls s.budget t).run K l s) }
    ex_run g ls (for i h t e body) = push J P (λ K l s. refl) (bind J P (done_passes J P (for_on ls t e body)) (begins_run g h) (λ _. record { run = λ K l s. more J P ((turning_run g body (exs J B g [] body) (exs_run g [] body) ls s.budget t e).run K l s) }))
    ex_run g ls (for_in i t e body) = push J P (λ K l s. refl) (bind J P (done_passes J P (for_in_on ls i t e body)) (begins_names_run g t) (λ _. swap J P (λ K l s. refl)
        (bind J P (val_passes J P (names_on ls i t body)) (want_run J P d B bodies_run g None e) (λ v. pop_acts J P _ (λ K l s. refl) (λ ns. naming_run g body (exs J B g [] body) (exs_run g [] body) ls i v t ns)))))
    ex_run g ls (return i None) = goto J P (λ K l s. refl) (given J P (returns i (prim undefined)))
    ex_run g ls (return i (Some e)) = push J P (λ K l s. refl) (bind J P (val_passes J P (return_on i)) (want_run J P d B bodies_run g None e) (λ v. pop J P (λ K l s. refl) (given J P (returns i v))))
    ex_run g ls (throw i e) = push J P (λ K l s. refl) (bind J P (val_passes J P throw_on) (want_run J P d B bodies_run g None e) (λ v. pop J P (λ K l s. refl) (raised J P v)))
    ex_run g ls (break i l) = goto J P (λ K l s. refl) (given J P (breaks l))
    ex_run g ls (continue i l) = goto J P (λ K l s. refl) (given J P (continues l))
    ex_run g ls (label i l body) = push J P (λ K l s. refl) (bind J P (end_passes J P (label_on l)) (exs_run g (l ∷ ls) body) (λ c. pop J P (λ K l s. refl) (given J P (labelled l c))))
    ex_run g ls (switch i e cs) = push J P (λ K l s. refl) (bind J P (val_passes J P (switch_on cs)) (want_run J P d B bodies_run g None e) (λ v. swap J P (λ K l s. refl) (unbroken_meets g (chooses_run g v cs None (ret normal) refl))))
    ex_run g ls (try i body absent absent) = goto J P (λ K l s. refl) (alike J P (sym (attempted_resumed (exs J B g [] body))) (exs_run g [] body))
    ex_run g ls (try i body (present ss) absent) = push J P (λ K l s. refl) (catch_meets g ss (exs_run g [] body) (λ n. exs_run (record g { at = Some n }) [] ss))
    ex_run g ls (try i body absent (present fs)) = push J P (λ K l s. refl) (finally_meets g fs (alike J P (sym (attempted_resumed (exs J B g [] body))) (exs_run g [] body)) (exs_run g [] fs))
    ex_run g ls (try i body (present ss) (present fs)) = try_both g i ls body ss fs (exs_run g [] body) (λ n. exs_run (record g { at = Some n }) [] ss) (exs_run g [] fs)
    ex_run g ls (pay_stmt i p) = acts J P _ (λ K l s. refl) (λ _. given J P normal)

    pub exs_run : (g : Env) (ls : List (List ℕ)) (ss : Stmts) → Runs J P g d (does_all ls ss) (exs J B g ls ss) ended
    exs_run g ls no_stmts = goto J P (λ K l s. refl) (given J P normal)
    exs_run g ls (more_stmts s ss) = push J P (λ K l s. refl) (bind J P (end_passes J P (list_on ls ss)) (ex_run g ls s) (λ c. pop J P (λ K l s. refl) (next_run c (exs_run g ls ss))))

    chooses_run : (g : Env) (v : Val) (cs : Cases) (o : Option Cases) (m : M Comp) → Otherwise g o m → Runs J P g d (chooses v cs o) (ex_cases J B g v cs m) ended
    chooses_run g v no_cases o m p = otherwise_run g v o m p
    chooses_run g v (more_cases None ss cs) o m p = goto J P (λ K l s. refl) (chooses_run g v cs (Some (more_cases None ss cs)) _ (falls g None ss cs (exs_run g [] ss) (cases_run g cs)))
    chooses_run g v (more_cases (Some t) ss cs) o m p = push J P (λ K l s. refl) (bind J P (val_passes J P (case_on v ss cs o)) (want_run J P d B bodies_run g None t) (λ x. pop J P (λ K l s. refl)
        (runs_pick J P (strict_equal v x) (falls g None ss cs (exs_run g [] ss) (cases_run g cs)) (chooses_run g v cs o m p))))

    cases_run : (g : Env) (cs : Cases) → Runs J P g d (runs_cases cs) (run_cases J B g cs) ended
    cases_run g no_cases = goto J P (λ K l s. refl) (given J P normal)
    cases_run g (more_cases t ss cs) = falls g t ss cs (exs_run g [] ss) (cases_run g cs)
