-- Calls, and what is asked of the outside.
use Rattle.std.proofs.Common.{ℕ, Bool, true, false, List, [], ◌∷◌, ◌++◌, Option, Some, None, refl, sym, subst}
use Rattle.cc_ast.specs.Syntax.{Prim, Exprs, Program}
use Rattle.cc_meaning.specs.Values.{Val, Event, prim, obj, out, shown_out, handle, got, Spot, at_site}
use Rattle.cc_meaning.specs.State.{Code, Env, Inner, Answer, State}
use Rattle.cc_meaning.specs.Monad.{told, M, ret, say, ◌>>=◌, with_tables, Mode}
use Rattle.cc_meaning.specs.Store.{Access, name_of, Use}
use Rattle.cc_meaning.specs.Rules.{built_op}
use Rattle.cc_meaning.specs.Judge as judge
use Rattle.cc_meaning.specs.Built.{BuiltOutcome, built_value, built_change, built_object, built_question, built_call, built_breaks, outcome_of}
use Rattle.cc_meaning.specs.Acts.{make_instance, all_given, viewed}
use Rattle.cc_meaning.specs.Calls.{Reference, Reach, plain, access, built_global, built_member, Callee, called_value, called_use, Bodies, code_at, built_result, views, method_on, receiver_of, answered, get_on, value_of, perform, reach_method, read_method, begin, begin_at, call_object, inner_call, inner, inners, ask, call_out, construct_out, get, use_built, callee_by, callee_of, call_value, apply, construct_by, construct}
use Rattle.cc_machine.specs.Machine.{Frame, ReachFrame, ValFrame, ListFrame, PlaceFrame, DoneFrame, EndFrame, on_reach, on_val, on_list, on_place, on_done, on_end, args_on, leaves_on}
use Rattle.cc_machine.specs.Machine.{take, get_from, find, applies, carries_out, calls_object, begins_at, enters, does_body, calls_outside, asks, replies, calls_inner, constructs, builds_at, builds_on, builds_outside, gave, found, returned, done}
use Rattle.cc_machine.specs.Machine.{got_on, found_on, built_on}
use Rattle.cc_machine.specs.Machine.{reply_on}
use Rattle.cc_machine.specs.Moves.{land}
use Rattle.cc_machine.specs.ExpressionSteps.{step_begin, step_find_by, step_build}
use Rattle.cc_machine.specs.Steps.{onward}
use Rattle.cc_machine.proofs.Laws.{bind_assoc, ret_bind, judged_first, judged_bind}
use Rattle.cc_machine.proofs.Goes.{mach, at, Goes, bind_caught, judged_run, judged_meet, stay, more, Runs, Meets, Passes, bind, then_run, goto, push, acted, acts, acts_push, pop, pop_acted, pop_acts, passes, given, alike, meets_alike}

module _ (J : Mode) (P : Program) where
  pub reach_passes : (k : ReachFrame) {g : Env} {d : ℕ} → Passes J P g d (on_reach k)
  unfolding onward
  reach_passes k = passes J P (λ v K l s. refl)

  pub val_passes : (k : ValFrame) {g : Env} {d : ℕ} → Passes J P g d (on_val k)
  unfolding onward
  val_passes k = passes J P (λ v K l s. refl)

  pub list_passes : (k : ListFrame) {g : Env} {d : ℕ} → Passes J P g d (on_list k)
  unfolding onward
  list_passes k = passes J P (λ v K l s. refl)

  pub place_passes : (k : PlaceFrame) {g : Env} {d : ℕ} → Passes J P g d (on_place k)
  unfolding onward
  place_passes k = passes J P (λ v K l s. refl)

  pub done_passes : (k : DoneFrame) {g : Env} {d : ℕ} → Passes J P g d (on_done k)
  unfolding onward
  done_passes k = passes J P (λ v K l s. refl)

  pub end_passes : (k : EndFrame) {g : Env} {d : ℕ} → Passes J P g d (on_end k)
  unfolding onward
  end_passes k = passes J P (λ v K l s. refl)

  pub args_passes : (i : ℕ) (es : Exprs) {g : Env} {d : ℕ} → Passes J P g d (args_on i es)
  unfolding onward
  args_passes i es = passes J P (λ v K l s. refl)

  pub leaves_passes : (f : Code) (b : Bool) {g : Env} {d : ℕ} → Passes J P g d (leaves_on f b)
  unfolding onward
  leaves_passes f b = passes J P (λ v K l s. refl)

  -- what functions do, at a depth
  abbrev pub AreBodies : ℕ → Bodies → Type 0
  AreBodies d B = (g : Env) (f : Code) (t : Option Val) (vs : List Val) → Runs J P g d (does_body f t vs) (B f t vs) returned

  module _ (d : ℕ) (B : Bodies) (bodies_run : AreBodies d B) where
    pub enters_run : (g : Env) (i : Spot) (f : Code) (built : Bool) (t : Option Val) (vs : List Val) → Runs J P g d (enters i f built t vs) (begin J B i f built t vs) gave
    unfolding onward begin
    enters_run g i f built t vs =
        acts_push J P _ (λ K l s. refl) (leaves_passes f built) (λ _.
        bind J P (leaves_passes f built) (acted J P (λ K l s. refl)) (λ _.
        bind J P (leaves_passes f built) (bodies_run g f t vs) (λ r.
        pop_acts J P _ (λ K l s. refl) (λ _. given J P r.value))))

    begins_by : (g : Env) (i : Spot) (n : ℕ) (t : Option Val) (vs : List Val) (o : Option Code) (K : List Frame) (l : List Event) (s : State) →
        Goes J P (step_begin J i o t vs (mach (begins_at i n t vs) g d K s l)) (land gave g d K l (begin_at J B i o t vs s))
    unfolding step_begin begin_at
    begins_by g i n t vs None K l s = stay J P
    begins_by g i n t vs (Some f) K l s = (enters_run g i f false t vs).run K l s

    pub object_run : (g : Env) (i : Spot) (n : ℕ) (t : Option Val) (vs : List Val) → Runs J P g d (calls_object i n t vs) (call_object J B i n t vs) gave
    unfolding onward call_object
    object_run g i n t vs = alike J P (sym (judged_first J i (judge.calls (obj n)) _)) (acts J P _ (λ K l s. refl) (λ _. record { run = λ K l s. more J P (begins_by g i n t vs (code_at s n) K l s) }))

    -- ---- the outside

    pub inner_run : (g : Env) (i : Spot) (v t : Val) (vs : List Val) → Runs J P g d (calls_inner i v t vs) (inner_call J B i v t vs) (λ _. done)
    unfolding onward inner_call
    inner_run g i (obj n) t vs = push J P (λ K l s. refl) (bind_caught J P _ (object_run g i n (Some t) vs) (λ v. pop_acted J P (λ K l s. refl)) (λ v. pop_acted J P (λ K l s. refl)))
    inner_run g i (out n) t vs = acted J P (λ K l s. refl)
    inner_run g i (prim p) t vs = acted J P (λ K l s. refl)

    reply_meets : (g : Env) (i : Spot) (cs : List Inner) (a : Answer) → Runs J P g d (replies i cs a) (inners J B i cs >>= λ _. answered J i a) gave →
        (v t : Val) (vs : List Val) → Meets J P g d (calls_inner i v t vs) (on_done (reply_on i cs a)) (inner_call J B i v t vs >>= λ _. inners J B i cs >>= λ _. answered J i a) gave
    unfolding onward
    reply_meets g i cs a p v t vs = bind J P (done_passes (reply_on i cs a)) (inner_run g i v t vs) (λ _. pop J P (λ K l s. refl) p)

    replies_run : (g : Env) (i : Spot) (cs : List Inner) (a : Answer) → Runs J P g d (replies i cs a) (inners J B i cs >>= λ _. answered J i a) gave
    unfolding onward inners inner ◌>>=◌
    replies_run g i [] a = alike J P (sym (ret_bind tt _)) (acted J P (λ K l s. refl))
    replies_run g i (x ∷ cs) a = alike J P (sym (bind_assoc (inner J B i x) _ _)) (record {
      run = λ K l s. more J P
          (subst (λ (q : M Val). Goes J P (onward J P (at (replies i (x ∷ cs) a) g d K s l)) (land gave g d K l (q s))) (sym (judged_bind J i (judge.calls_inner (all_given s (handle x.callee ∷ x.this ∷ x.args))) (inner_call J B i (viewed s (handle x.callee)) (viewed s x.this) (views s x.args)) (λ _. inners J B i cs >>= λ _. answered J i a)))
          (judged_meet J P i (judge.calls_inner (all_given s (handle x.callee ∷ x.this ∷ x.args))) (done_passes (reply_on i cs a)) (reply_meets g i cs a (replies_run g i cs a) (viewed s (handle x.callee)) (viewed s x.this) (views s x.args)) K l s));
    })

    pub ask_run : (g : Env) (i : Spot) → Runs J P g d (asks i) (ask J B i) gave
    unfolding onward ask
    ask_run g i = acts J P _ (λ K l s. refl) (λ r. replies_run g i r.first r.answer)

    pub outside_run : (g : Env) (i : Spot) (n : ℕ) (t : Option Val) (vs : List Val) → Runs J P g d (calls_outside i n t vs) (call_out J B i n t vs) gave
    unfolding onward call_out
    outside_run g i n t vs = alike J P (simp (bind_assoc) refl) (acts J P _ (λ K l s. refl) (λ _. ask_run g i))

    pub build_outside_run : (g : Env) (i : Spot) (n : ℕ) (vs : List Val) → Runs J P g d (builds_outside i n vs) (construct_out J B i n vs) gave
    unfolding onward construct_out
    build_outside_run g i n vs = alike J P (simp (bind_assoc) refl) (acts J P _ (λ K l s. refl) (λ _. ask_run g i))

    -- ---- reads

    pub get_run : (g : Env) (i : Spot) (v : Val) (a : Access) → Runs J P g d (get_from i v a) (get_on J B i v a) gave
    unfolding onward get_on with_tables ◌>>=◌
    get_run g i (obj n) a = acted J P (λ K l s. refl)
    get_run g i (prim p) a = acted J P (λ K l s. refl)
    get_run g i (out n) a = alike J P (sym (judged_first J i (judge.reads (out n) a) _)) (acts J P _ (λ K l s. refl) (λ _. acts J P (with_tables (λ T. say (told (got (shown_out n) (name_of T a))))) (λ K l s. refl) (λ _. ask_run g i)))

    pub take_run : (g : Env) (r : Reach) → Runs J P g d (take r) (value_of J B r) gave
    unfolding onward value_of get
    take_run g (plain v) = goto J P (λ K l s. refl) (given J P v)
    take_run g (access r) = push J P (λ K l s. refl) (bind J P (val_passes (got_on r)) (get_run g (at_site r.site) r.on r.key) (λ v. meets_alike J P (bind_assoc _ _ _) (pop_acts J P _ (λ K l s. refl) (λ _. given J P v))))
    take_run g (built_global i b) = acted J P (λ K l s. refl)
    take_run g (built_member i b n) = acted J P (λ K l s. refl)

    -- ---- uses of what is built in, calls and `new`

    carry_run : (g : Env) (i : Spot) (o : BuiltOutcome) → Runs J P g d (carries_out i o) (perform J B i o) gave
    unfolding onward perform
    carry_run g i (built_value v) = acted J P (λ K l s. refl)
    carry_run g i (built_change n es c) = acted J P (λ K l s. refl)
    carry_run g i (built_object p) = acted J P (λ K l s. refl)
    carry_run g i (built_question n t) = acted J P (λ K l s. refl)
    carry_run g i (built_call n v vs) = goto J P (λ K l s. refl) (object_run g i n (Some v) vs)
    carry_run g i (built_breaks r) = acted J P (λ K l s. refl)

    pub apply_run : (g : Env) (i : Spot) (x : Callee) (vs : List Val) → Runs J P g d (applies i x vs) (apply J B i x vs) gave
    unfolding onward apply call_value use_built
    apply_run g i (called_value (obj n) t) vs = goto J P (λ K l s. refl) (object_run g i n t vs)
    apply_run g i (called_value (out n) t) vs = alike J P (sym (judged_first J i (judge.calls (out n)) _)) (acts J P _ (λ K l s. refl) (λ _. outside_run g i n t vs))
    apply_run g i (called_value (prim p) t) vs = acted J P (λ K l s. refl)
    apply_run g i (called_use u us) vs = record { run = λ K l s. more J P (judged_run J P i (judge.operates (built_op u) (us ++ vs)) (carry_run g i (outcome_of s u (us ++ vs))) K l s) }

    build_on_run : (g : Env) (i : Spot) (f : Code) (o : Val) (vs : List Val) → Runs J P g d (builds_on i f o vs) (begin J B i f true (Some o) vs >>= λ v. ret (built_result o v)) gave
    unfolding onward
    build_on_run g i f o vs = push J P (λ K l s. refl) (bind J P (val_passes (built_on o)) (enters_run g i f true (Some o) vs) (λ v. pop J P (λ K l s. refl) (given J P (built_result o v))))

    build_by : (g : Env) (i : Spot) (n : ℕ) (vs : List Val) (o : Option Code) (K : List Frame) (l : List Event) (s : State) →
        Goes J P (step_build J i n o vs (mach (builds_at i n vs) g d K s l)) (land gave g d K l (construct_by J B i n o vs s))
    unfolding step_build construct_by ◌>>=◌
    build_by g i n vs None K l s = stay J P
    build_by g i n vs (Some f) K l s = then_run J P (λ o. build_on_run g i f o vs) K l (make_instance n f.function s)

    pub construct_run : (g : Env) (i : Spot) (v : Val) (vs : List Val) → Runs J P g d (constructs i v vs) (construct J B i v vs) gave
    unfolding onward construct
    construct_run g i (obj n) vs = alike J P (sym (judged_first J i (judge.calls (obj n)) _)) (acts J P _ (λ K l s. refl) (λ _. record { run = λ K l s. more J P (build_by g i n vs (code_at s n) K l s) }))
    construct_run g i (out n) vs = alike J P (sym (judged_first J i (judge.calls (out n)) _)) (acts J P _ (λ K l s. refl) (λ _. build_outside_run g i n vs))
    construct_run g i (prim p) vs = acted J P (λ K l s. refl)

    -- ---- callees

    found_meets : (g : Env) (r : Reference) → Meets J P g d (take (access r)) (on_val (found_on r)) (get J B r >>= λ v. ret (called_value v (receiver_of r))) found
    unfolding onward value_of
    found_meets g r = bind J P (val_passes (found_on r)) (take_run g (access r)) (λ v. pop J P (λ K l s. refl) (given J P (called_value v (receiver_of r))))

    find_by : (g : Env) (r : Reference) (o : Option Use) (K : List Frame) (l : List Event) (s : State) →
        Goes J P (step_find_by J r o (mach (find (access r)) g d K s l)) (land found g d K l (callee_by J B r o s))
    unfolding step_find_by callee_by ◌>>=◌
    find_by g r None K l s = (found_meets g r).run K l s
    find_by g r (Some u) K l s = subst (λ (q : M Callee). Goes J P (step_find_by J r (Some u) (mach (find (access r)) g d K s l)) (land found g d K l (q s)))
        (bind_assoc (reach_method J (at_site r.site) r.on r.key) (λ _. read_method J r r.casts) (λ _. ret (called_use u (r.on ∷ []))))
        (then_run J P (λ _. given J P (called_use u (r.on ∷ []))) K l ((reach_method J (at_site r.site) r.on r.key >>= λ _. read_method J r r.casts) s))

    pub find_run : (g : Env) (r : Reach) → Runs J P g d (find r) (callee_of J B r) found
    unfolding onward callee_of
    find_run g (plain v) = goto J P (λ K l s. refl) (given J P (called_value v None))
    find_run g (access r) = record { run = λ K l s. more J P (find_by g r (method_on s r.on (name_of s.tables r.key)) K l s) }
    find_run g (built_global i b) = acted J P (λ K l s. refl)
    find_run g (built_member i b n) = acted J P (λ K l s. refl)
