-- Uses of what is built in keep the injection.
use Rattle.std.proofs.Common.{◌≡◌, ℕ, Bool, true, false, List, Option, Some, None, is_some, refl, subst}
use Rattle.std.specs.Prelude.{slice_get}
use Rattle.cc_ast.specs.Syntax.{Prim, null, truth, text}
use Rattle.cc_meaning.specs.Values.{Val, prim, obj, Spot}
use Rattle.cc_meaning.specs.Operators.{Outcome, strict_equal}
use Rattle.cc_meaning.specs.Builtins.{ArrayUse, array_push, array_unshift, array_concat, ArrayAnswer, ArrayChange, ArrayResult}
use Rattle.cc_meaning.specs.State.{Code, Obj, bare, State, Tables}
use Rattle.cc_meaning.specs.Monad.{ret}
use Rattle.cc_meaning.specs.Store.{runtime, own_value, chain_of, Use, of_array, of_text, of_math, string_of_value, from_codes, create_object, has_own, call_with}
use Rattle.cc_meaning.specs.Rules.{built_op, operate_rule}
use Rattle.cc_meaning.specs.Judge.{operates, probes, least_broken}
use Rattle.cc_meaning.specs.Built.{BuiltOutcome, built_value, built_change, built_object, built_question, built_call, built_breaks, from_outcome, put_in, from_result, as_arg, arg_of, args_of, array_result, on_array, on_code, on_function, outcome_of, wanted_in, change_rule, rule_in}
use Rattle.cc_meaning.specs.Acts.{reading, make_from}
use Rattle.cc_meaning.specs.Calls.{Bodies, call_object, array_answer, perform, use_built}
use Rattle.cc_meaning.specs.Script.{checked}
use Rattle.cc_tied.specs.Tied.{ListT, nil_t, cons_t, OptT, none_t, some_t, ValT, prim_t, out_t, obj_t}
use Rattle.cc_tied.specs.Facts.{Facts}
use Rattle.cc_tied.proofs.Sim.{Tie, World, Sim, fine, sim_bind, sim_ret}
use Rattle.cc_tied.proofs.Injection.World.{Tabs, Ext, Mates, Vals, val_more, vals_more, Codes, ObjT}
use Rattle.cc_tied.proofs.Injection.Tie.{Other, with_set, TiedI, once, inject}
use Rattle.cc_tied.proofs.Injection.Objects.{ObjAt, obj_at, is_some_same, elements_at, value_at, chain_of_tied}
use Rattle.cc_tied.proofs.Injection.Types.{of_all_elements_true}
use Rattle.cc_tied.proofs.Injection.Acts.{judged_in, judged_i, stopped_left, at_of, add_t, change_t}
use Rattle.cc_tied.proofs.Injection.Made.{bare_t, array_t}
use Rattle.cc_tied.proofs.Injection.Asked.{probe_none}
use Rattle.cc_tied.proofs.Injection.Built.{OutT, gives_u, breaks_u, text_use_out, string_out, from_codes_out, math_out, AnswerT, value_a, array_a, ChangeT, ResultT, changes_r, breaks_r, ArgT, value_g, list_g, concat_out, array_out}

-- what two uses come to, where the left one breaks no rule
pub data BuiltT (O : ℕ → ℕ → Type 0) : BuiltOutcome → BuiltOutcome → Type 0 where
  value_b : {a b : Val} → ValT O a b → BuiltT O (built_value a) (built_value b)
  change_b : {m n : ℕ} {vs us : List Val} {c d : ArrayChange} → O m n → ListT (ValT O) vs us → ChangeT O c d → BuiltT O (built_change m vs c) (built_change n us d)
  object_b : {o p : Option ℕ} → OptT O o p → BuiltT O (built_object o) (built_object p)
  question_b : {m n : ℕ} → O m n → (t : List ℕ) → BuiltT O (built_question m t) (built_question n t)
  call_b : {m n : ℕ} {a b : Val} {vs us : List Val} → O m n → ValT O a b → ListT (ValT O) vs us → BuiltT O (built_call m a vs) (built_call n b us)
  breaks_b : {r : ℕ} {o : BuiltOutcome} → BuiltT O (built_breaks r) o

module _ {O : ℕ → ℕ → Type 0} where
  from_out : {o p : Outcome} → OutT O o p → BuiltT O (from_outcome o) (from_outcome p)
  unfolding from_outcome
  from_out (gives_u h) = value_b h
  from_out breaks_u = breaks_b

  put_in_tied : (u : ArrayUse) {vs us : List Val} → ListT (ValT O) vs us → ListT (ValT O) (put_in u vs) (put_in u us)
  unfolding put_in
  put_in_tied array_push h = h
  put_in_tied array_unshift h = h
  put_in_tied _ h = nil_t

  from_result_tied : (m n : ℕ) → O m n → {vs us : List Val} → ListT (ValT O) vs us → {c d : ArrayResult} → ResultT O c d → BuiltT O (from_result m vs c) (from_result n us d)
  unfolding from_result
  from_result_tied m n o h (changes_r k) = change_b o h k
  from_result_tied m n o h breaks_r = breaks_b

  as_arg_tied : {a b : Val} → ValT O a b → {x y : Option (List Val)} → OptT (ListT (ValT O)) x y → ArgT O (as_arg a x) (as_arg b y)
  unfolding as_arg
  as_arg_tied v none_t = value_g v
  as_arg_tied v (some_t h) = list_g h

module _ (F : Facts) (S : Tables) (set' : Other S) where
  abbrev R : Tables
  R = with_set S set'

  abbrev T : Tie
  T = inject F S set'

  abbrev W : Type 0
  W = World T

  abbrev Tied : Tabs → State → State → Type 0
  Tied = TiedI F S set'

  abbrev Done : W → Unit {0} → Unit {0} → Type 0
  Done v a b = Unit {0}

  pub strict_same : {w : Tabs} {s t : State} → Tied w s t → (a b x y : Val) → Vals w a b → Vals w x y → strict_equal a x ≡ strict_equal b y
  unfolding strict_equal
  strict_same ti _ _ _ _ prim_t prim_t = refl
  strict_same ti _ _ _ _ prim_t out_t = refl
  strict_same ti _ _ _ _ prim_t (obj_t k) = refl
  strict_same ti _ _ _ _ out_t prim_t = refl
  strict_same ti _ _ _ _ out_t out_t = refl
  strict_same ti _ _ _ _ out_t (obj_t k) = refl
  strict_same ti _ _ _ _ (obj_t h) prim_t = refl
  strict_same ti _ _ _ _ (obj_t h) out_t = refl
  strict_same ti _ _ _ _ (obj_t h) (obj_t k) = once F S set' ti h k

  -- ---- what a use comes to

  module _ {w : Tabs} {s t : State} (ti : Tied w s t) where
    abbrev B : BuiltOutcome → BuiltOutcome → Type 0
    B = BuiltT (Mates w)

    arg_tied : {a b : Val} → Vals w a b → ArgT (Mates w) (arg_of s.objs a) (arg_of t.objs b)
    unfolding arg_of
    arg_tied prim_t = value_g prim_t
    arg_tied out_t = value_g out_t
    arg_tied (obj_t o) = as_arg_tied (obj_t o) (elements_at F S w (at_of F S set' ti _ _ o))

    args_tied : {vs us : List Val} → ListT (Vals w) vs us → ListT (ArgT (Mates w)) (args_of s.objs vs) (args_of t.objs us)
    unfolding args_of
    args_tied nil_t = nil_t
    args_tied (cons_t h k) = cons_t (arg_tied h) (args_tied k)

    result_tied : (u : ArrayUse) {es ds vs us : List Val} → ListT (Vals w) es ds → ListT (Vals w) vs us → ResultT (Mates w) (array_result s.objs u es vs) (array_result t.objs u ds us)
    unfolding array_result
    result_tied array_concat h k = concat_out (Mates w) h (args_tied k)
    result_tied u h k = array_out (Mates w) (strict_same ti) u h k

    on_array_tied : (u : ArrayUse) {m n : ℕ} → Mates w m n → {x y : Option (List Val)} → OptT (ListT (Vals w)) x y → {vs us : List Val} → ListT (Vals w) vs us → B (on_array s.objs u m x vs) (on_array t.objs u n y us)
    unfolding on_array
    on_array_tied u o none_t k = breaks_b
    on_array_tied u o (some_t h) k = from_result_tied _ _ o (put_in_tied u k) (result_tied u h k)

    on_code_tied : {m n : ℕ} → Mates w m n → {c d : Option Code} → OptT (Codes F S w) c d → {vs us : List Val} → ListT (Vals w) vs us → B (on_code m c vs) (on_code n d us)
    unfolding on_code
    on_code_tied o none_t k = breaks_b
    on_code_tied o (some_t h) nil_t = breaks_b
    on_code_tied o (some_t h) (cons_t v k) = call_b o v k

    on_function_tied : {m n : ℕ} → Mates w m n → {a b : Option Obj} → ObjAt F S w a b → {vs us : List Val} → ListT (Vals w) vs us → B (on_function m a vs) (on_function n b us)
    unfolding on_function
    on_function_tied o (obj_at h) k = on_code_tied o h.code k

    pub outcome_tied : (u : Use) {vs us : List Val} → ListT (Vals w) vs us → B (outcome_of s u vs) (outcome_of t u us)
    unfolding outcome_of
    outcome_tied (of_array u) (cons_t (obj_t o) k) = on_array_tied u o (elements_at F S w (at_of F S set' ti _ _ o)) k
    outcome_tied (of_text u) (cons_t (prim_t {p = text x}) k) = from_out (text_use_out (Mates w) u x k)
    outcome_tied (of_math u) k = from_out (math_out (Mates w) u k)
    outcome_tied string_of_value k = from_out (string_out (Mates w) k)
    outcome_tied from_codes k = from_out (from_codes_out (Mates w) k)
    outcome_tied create_object (cons_t (obj_t o) nil_t) = object_b (some_t o)
    outcome_tied create_object (cons_t (prim_t {p = null}) nil_t) = object_b none_t
    outcome_tied has_own (cons_t (obj_t o) (cons_t (prim_t {p = text x}) nil_t)) = question_b o x
    outcome_tied call_with (cons_t (obj_t o) k) = on_function_tied o (at_of F S set' ti _ _ o) k
    outcome_tied u k = breaks_b

    -- ---- what it breaks

    wanted_true : {a b : Option Obj} → ObjAt F S w a b → {vs us : List Val} → ListT (Vals w) vs us → wanted_in a vs S s.objs ≡ true → wanted_in b us R t.objs ≡ true
    unfolding wanted_in
    wanted_true (obj_at {a = a} {b = b} h) k e = of_all_elements_true S set' F w s.objs t.objs (at_of F S set' ti) a.wanted b.wanted h.wanted k e

    change_none : (b c : Bool) → (b ≡ true → c ≡ true) → change_rule b ≡ None → change_rule c ≡ None
    unfolding change_rule
    change_none true c f e = let d : c ≡ true = f refl in rw d refl
    change_none false c f e = absurd (cc)

    rule_none : {o p : BuiltOutcome} → B o p → rule_in S s o ≡ None → rule_in R t p ≡ None
    unfolding rule_in
    rule_none (value_b h) e = refl
    rule_none (change_b o h k) e = change_none _ _ (wanted_true (at_of F S set' ti _ _ o) h) e
    rule_none (object_b h) e = refl
    rule_none (question_b o x) e = refl
    rule_none (call_b o v k) e = refl
    rule_none breaks_b e = absurd (cc)

  -- ---- what it does

  chain_t : (w : Tabs) {s t : State} → Tied w s t → {m n : ℕ} → Mates w m n → ObjT F S w None (record bare { chain = chain_of s.objs m }) (record bare { chain = chain_of t.objs n })
  chain_t w {s = s} {t = t} ti o = record { label = refl; class = refl; chain = chain_of_tied F S w s.objs t.objs (at_of F S set' ti) o; slots = nil_t; code = none_t; elements = none_t; wanted = λ e q. q }

  from_t : {w : W} {o p : Option ℕ} → OptT (Mates w.w) o p → Sim T (λ v. Vals v.w) w (make_from o) (make_from p)
  unfolding make_from
  from_t none_t s t ti le le' = add_t F S set' _ _ (bare_t F S set' None None none_t) s t ti le le'
  from_t {w = w} (some_t o) s t ti le le' = add_t F S set' _ _ (chain_t w.w ti o) s t ti le le'

  answer_t : {w : W} {a b : ArrayAnswer} → AnswerT (Mates w.w) a b → Sim T (λ v. Vals v.w) w (array_answer checked a) (array_answer checked b)
  unfolding array_answer
  answer_t (value_a h) = sim_ret T _ _ h
  answer_t (array_a h) = array_t F S set' h

  answer_later : {v w : Tabs} → Ext v w → {a b : ArrayAnswer} → AnswerT (Mates v) a b → AnswerT (Mates w) a b
  answer_later l (value_a h) = value_a (val_more l _ _ h)
  answer_later l (array_a h) = array_a (vals_more l h)

  elements_tied : {w : Tabs} {es ds : List Val} → ListT (Vals w) es ds → (x : Option Code) (a b : Obj) → ObjT F S w x a b → ObjT F S w x (record a { elements = Some es }) (record b { elements = Some ds })
  elements_tied k x a b h = record { label = h.label; class = h.class; chain = h.chain; slots = h.slots; code = h.code; elements = some_t k; wanted = h.wanted }

  question_t : {w : W} {m n : ℕ} → Mates w.w m n → (c : List ℕ) → Sim T (λ v. Vals v.w) w (reading (λ s. prim (truth (is_some (own_value (slice_get s.objs m) c))))) (reading (λ s. prim (truth (is_some (own_value (slice_get s.objs n) c)))))
  unfolding reading ret
  question_t {w = w} {m = m} {n = n} o c s t ti le le' = fine T _ _ (subst (λ z. Vals w.w (prim (truth (is_some (own_value (slice_get s.objs m) c)))) (prim (truth z))) (is_some_same (value_at F S w.w (at_of F S set' ti m n o) c)) prim_t) ti le le'

  module _ (Bl Br : Bodies) (i i' : Spot) (w : W) (call_t : (m n : ℕ) (x y : Val) (vs us : List Val) → Mates w.w m n → Vals w.w x y → ListT (Vals w.w) vs us → Sim T (λ v. Vals v.w) w (call_object checked Bl i m (Some x) vs) (call_object checked Br i' n (Some y) us)) where
    perform_t : {o p : BuiltOutcome} → BuiltT (Mates w.w) o p → Sim T (λ v. Vals v.w) w (perform checked Bl i o) (perform checked Br i' p)
    unfolding perform least_broken
    perform_t (value_b h) = sim_ret T _ _ h
    perform_t (change_b o h k) = sim_bind T {R = Done} (change_t F S set' o _ _ (elements_tied k.elements)) (λ v l _ _ _. answer_t (answer_later l.2.ext k.answer))
    perform_t (object_b h) = from_t h
    perform_t (question_b {m = m} {n = n} o x) = judged_i F S set' i i' (probes (obj m) (runtime x false)) (probes (obj n) (runtime x false)) _ _ (λ s t ti e. probe_none F S set' ti o x false e) (question_t o x)
    perform_t (call_b o v k) = call_t _ _ _ _ _ _ o v k
    perform_t (breaks_b {r = r}) = stopped_left F S set' r i _

    pub use_t : (u : Use) {vs us : List Val} → ListT (Vals w.w) vs us → Sim T (λ v. Vals v.w) w (use_built checked Bl i u vs) (use_built checked Br i' u us)
    unfolding use_built least_broken operate_rule
    use_t u {vs = vs} {us = us} k s t ti le le' = judged_in F S set' i i' (operates (built_op u) vs) (operates (built_op u) us) (perform checked Bl i (outcome_of s u vs)) (perform checked Br i' (outcome_of t u us)) ti (λ e. (rule_none ti (outcome_tied ti u k) e, perform_t (outcome_tied ti u k) s t ti le le'))
