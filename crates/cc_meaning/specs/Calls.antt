-- References, calls, and what goes to the outside (ECMA-262 5.1, 8.7, 11.2 and 13.2).
use Rattle.std.specs.Prelude.{ℕ, pos, Bool, true, false, List, [], ◌∷◌, ◌++◌, ◌||◌, length, slice_get, Option, Some, None, is_some}
use Rattle.cc_ast.specs.Syntax.{Prim, undefined, truth, whole, text}
use Rattle.cc_ast.specs.declared.operator.UnOp.{UnOp}
use Rattle.cc_ast.specs.declared.operator.UnOp.TheVariants.{Delete}
use Rattle.cc_meaning.specs.Values.{Val, prim, obj, out, View, shown_out, handle, called, constructed, got, put, ended, threw, Spot, at_site}
use Rattle.cc_meaning.specs.Operators.{list_eq}
use Rattle.cc_meaning.specs.Names.{name_length, name_create, name_fromCharCode}
use Rattle.cc_meaning.specs.Builtins.{ArrayAnswer, answers, answers_array, TextUse, text_method, MathUse, math_method}
use Rattle.cc_meaning.specs.State.{Kind, Code, Obj, Env, Inner, Answer, gives, throws, State}
use Rattle.cc_meaning.specs.Monad.{told, M, ret, skip, raise, stop, say, ◌>>=◌, Way, went, thrown, attempt, pay, with_tables, pick, Mode}
use Rattle.cc_meaning.specs.Store.{Access, dotted, quoted, runtime, name_of, kind_by, Built, object_global, math_global, string_global, Use, of_text, of_math, string_of_value, from_codes, create_object, Found, found_value, found_use, nothing_found, look_up, own_value, change}
use Rattle.cc_meaning.specs.Typed.{flat, params_in, result_in, function_doc}
use Rattle.cc_meaning.specs.SlotRules.{is_code_of}
use Rattle.cc_meaning.specs.Rules.{built_op, is_prim}
use Rattle.cc_meaning.specs.Judge.{operates, reads, writes, probes, calls, enters, leaves, takes, calls_inner, answers_with}
use Rattle.cc_meaning.specs.Built.{BuiltOutcome, built_value, built_change, built_object, built_question, built_call, built_breaks, outcome_of}
use Rattle.cc_meaning.specs.Acts.{judged, reading, changing, receive, receive_each, make_array, make_from, make_instance, keep, read_slot, write_slot, remove, is_there, operate_one, cast_to, show, show_all, show_receiver, next_reply, all_given, was_given, viewed}

-- ---- what an expression reaches (8.7)

-- an access that isn't read yet: its site, its object and key, its number where it is a flat path,
-- and the casts around it, from the innermost on
pub record Reference : Type 0 where
  pub site : ℕ
  pub on : Val
  pub key : Access
  pub path : Option (ℕ × ℕ)
  pub casts : List (ℕ × ℕ)

pub data Reach : Type 0 where
  plain : Val → Reach
  access : Reference → Reach
  built_global : (site : ℕ) → Built → Reach
  built_member : (site : ℕ) → Built → List ℕ → Reach

-- what is called: a value with the receiver where there is one, or a use of what is built in with
-- what it is used on
pub data Callee : Type 0 where
  called_value : Val → (receiver : Option Val) → Callee
  called_use : Use → List Val → Callee

-- what the body of a function gives, and the site of the `return` that gave it, or of the function
pub record Returned : Type 0 where
  pub site : ℕ
  pub value : Val

-- what the bodies of functions do
abbrev pub Bodies : Type 0
Bodies = Code → Option Val → List Val → M Returned

unfoldable pub code_in : Option Obj → Option Code
code_in None = None
code_in (Some o) = o.code

unfoldable pub code_at : State → ℕ → Option Code
unfolding code_in
code_at s n = code_in (slice_get s.objs n)

-- a turn or an inner call is over
unfoldable pub tell_end : Way Val → M (Unit {0})
unfolding show
tell_end (went v) = show v >>= λ x. say (told (ended x))
tell_end (thrown v) = show v >>= λ x. say (told (threw x))

-- the value of `new`: what the function gives where that is an object, else the object that was made
unfoldable pub built_result : Val → Val → Val
unfolding is_prim
built_result o v = pick (is_prim v) o v

-- the built-in method that a callee is, where it is one
unfoldable pub use_found : Found → Option Use
use_found (found_use u) = Some u
use_found (found_value v) = None
use_found nothing_found = None

unfoldable pub text_use_of : Option TextUse → Option Use
text_use_of None = None
text_use_of (Some u) = Some (of_text u)

unfoldable pub method_on : State → Val → List ℕ → Option Use
unfolding use_found look_up text_use_of text_method
method_on s (obj o) n = use_found (look_up s.objs o n)
method_on s (prim (text t)) n = text_use_of (text_method n)
method_on s (prim p) n = None
method_on s (out m) n = None

unfoldable pub math_use_of : Option MathUse → Option Use
math_use_of None = None
math_use_of (Some u) = Some (of_math u)

-- what the built-in globals have
unfoldable pub member_use : Built → List ℕ → Option Use
unfolding list_eq math_use_of math_method
member_use object_global n = pick (list_eq n name_create) (Some create_object) None
member_use math_global n = math_use_of (math_method n)
member_use string_global n = pick (list_eq n name_fromCharCode) (Some from_codes) None

-- a flat path gives no receiver
unfoldable pub receiver_by : Option (ℕ × ℕ) → Val → Option Val
receiver_by None o = Some o
receiver_by (Some w) o = None

unfoldable pub receiver_of : Reference → Option Val
unfolding receiver_by
receiver_of r = receiver_by r.path r.on

-- what texts have besides their methods
unfoldable pub prim_member : Prim → List ℕ → Val
unfolding list_eq
prim_member (text t) n = pick (list_eq n name_length) (prim (whole (pos (length t)))) (prim undefined)
prim_member _ n = prim undefined

-- whether a write to this object is made by the declaration of its prototype
unfoldable pub declares_on : State → List ℕ → Val → Bool
unfolding is_code_of code_at
declares_on s [] v = false
declares_on s (f ∷ fs) (obj n) = is_code_of (code_at s n) f || declares_on s fs (obj n)
declares_on s (f ∷ fs) (out m) = false
declares_on s (f ∷ fs) (prim p) = false

unfoldable pub views : State → List View → List Val
unfolding viewed
views s [] = []
views s (x ∷ xs) = viewed s x ∷ views s xs

module _ (J : Mode) where
  -- ---- calls of the program's functions (13.2.1)

  -- the acts of a call are judged before its cost, and its cost is taken before it happens
  unfoldable pub begin : Bodies → Spot → Code → (built : Bool) → Option Val → List Val → M Val
  unfolding judged receive receive_each params_in result_in function_doc
  begin B i c built this vs =
      judged J i (enters c.function this vs) (with_tables (λ T. receive_each (params_in (function_doc T c.function)) vs)) >>= λ _.
      pay 1 >>= λ _.
      B c this vs >>= λ r.
      judged J (at_site r.site) (leaves c.function built r.value) (with_tables (λ T. receive (result_in (function_doc T c.function)) r.value)) >>= λ _.
      ret r.value

  unfoldable pub begin_at : Bodies → Spot → Option Code → Option Val → List Val → M Val
  unfolding begin
  begin_at B i None this vs = stop (J.fault 2 i)
  begin_at B i (Some c) this vs = begin B i c false this vs

  unfoldable pub call_object : Bodies → Spot → ℕ → Option Val → List Val → M Val
  unfolding judged begin_at code_at
  call_object B i n this vs = judged J i (calls (obj n)) (λ s. begin_at B i (code_at s n) this vs s)

  -- ---- the outside: an event, and where it asks for one, the next reply

  -- a call that the outside makes of a handle; a throw goes no further
  unfoldable pub inner_call : Bodies → Spot → Val → Val → List Val → M (Unit {0})
  unfolding call_object tell_end
  inner_call B i (obj n) this vs = attempt (call_object B i n (Some this) vs) >>= λ w. tell_end w
  inner_call B i (out n) this vs = stop (J.fault 13 i)
  inner_call B i (prim p) this vs = stop (J.fault 13 i)

  unfoldable pub inner : Bodies → Spot → Inner → M (Unit {0})
  unfolding judged all_given inner_call viewed views
  inner B i c s = judged J i (calls_inner (all_given s (handle c.callee ∷ c.this ∷ c.args))) (inner_call B i (viewed s (handle c.callee)) (viewed s c.this) (views s c.args)) s

  unfoldable pub inners : Bodies → Spot → List Inner → M (Unit {0})
  unfolding inner
  inners B i [] = skip
  inners B i (c ∷ cs) = inner B i c >>= λ _. inners B i cs

  unfoldable pub answered : Spot → Answer → M Val
  unfolding judged was_given viewed
  answered i (gives x) s = judged J i (answers_with (was_given s x)) (ret (viewed s x)) s
  answered i (throws x) s = judged J i (answers_with (was_given s x)) (raise (viewed s x)) s

  -- the next reply: its inner calls in order, and then its answer
  unfoldable pub ask : Bodies → Spot → M Val
  unfolding next_reply inners answered
  ask B i = next_reply >>= λ r. inners B i r.first >>= λ _. answered i r.answer

  unfoldable pub call_out : Bodies → Spot → ℕ → Option Val → List Val → M Val
  unfolding show_receiver show_all ask
  call_out B i n this vs =
      pay 1 >>= λ _.
      show_receiver this >>= λ t. show_all vs >>= λ xs.
      say (told (called (shown_out n) t xs)) >>= λ _. ask B i

  unfoldable pub construct_out : Bodies → Spot → ℕ → List Val → M Val
  unfolding show_all ask
  construct_out B i n vs = pay 1 >>= λ _. show_all vs >>= λ xs. say (told (constructed (shown_out n) xs)) >>= λ _. ask B i

  -- ---- reading and writing (8.7.1, 8.7.2)

  unfoldable pub get_on : Bodies → Spot → Val → Access → M Val
  unfolding read_slot judged name_of ask prim_member
  get_on B i (obj o) a = read_slot J i o a
  get_on B i (out n) a = judged J i (reads (out n) a) (with_tables (λ T. say (told (got (shown_out n) (name_of T a))) >>= λ _. ask B i))
  get_on B i (prim p) a = judged J i (reads (prim p) a) (with_tables (λ T. ret (prim_member p (name_of T a))))

  unfoldable pub put_on : Spot → Val → Access → Kind → Val → Bool → M (Unit {0})
  unfolding write_slot judged name_of show
  put_on i (obj o) a made v declares = write_slot J i o a made v declares
  put_on i (out n) a made v declares = judged J i (writes (out n) a v declares) (with_tables (λ T. show v >>= λ x. say (told (put (shown_out n) (name_of T a) x))))
  put_on i (prim p) a made v declares = judged J i (writes (prim p) a v declares) skip

  -- a flat path counts as a variable, which is set when its slot is there
  unfoldable pub take_path : Spot → Option (ℕ × ℕ) → Val → Access → M (Unit {0})
  unfolding judged is_there name_of
  take_path i None on a = skip
  take_path i (Some w) on a = λ s. judged J i (takes (flat w.0 w.1) true (is_there s on (name_of s.tables a))) skip s

  unfoldable pub keep_path : Spot → Option (ℕ × ℕ) → Val → M (Unit {0})
  unfolding keep
  keep_path i None v = skip
  keep_path i (Some w) v = keep J i (flat w.0 w.1) v (λ s. s)

  unfoldable pub cast_all : List (ℕ × ℕ) → Val → M (Unit {0})
  unfolding cast_to
  cast_all [] v = skip
  cast_all (c ∷ cs) v = cast_to J (at_site c.0) c.1 v >>= λ _. cast_all cs v

  unfoldable pub get : Bodies → Reference → M Val
  unfolding get_on take_path cast_all
  get B r = get_on B (at_site r.site) r.on r.key >>= λ v. take_path (at_site r.site) r.path r.on r.key >>= λ _. cast_all r.casts v >>= λ _. ret v

  unfoldable pub put_to : Env → Reference → Val → M (Unit {0})
  unfolding put_on declares_on keep_path
  put_to g r v = (λ s. put_on (at_site r.site) r.on r.key (kind_by r.key) v (declares_on s g.declares r.on) s) >>= λ _. keep_path (at_site r.site) r.path v

  -- the value of what was reached
  unfoldable pub value_of : Bodies → Reach → M Val
  unfolding get
  value_of B (plain v) = ret v
  value_of B (access r) = get B r
  value_of B (built_global i b) = stop (J.fault 2 (at_site i))
  value_of B (built_member i b n) = stop (J.fault 2 (at_site i))

  unfoldable pub value : Bodies → M Reach → M Val
  unfolding value_of
  value B m = m >>= λ r. value_of B r

  -- `delete` of what was reached (11.4.1), and every other unary operator on its value
  unfoldable pub delete_at : ℕ → Reach → M Val
  unfolding remove
  delete_at i (access r) = remove J (at_site r.site) r.on r.key
  delete_at i (plain v) = stop (J.fault 2 (at_site i))
  delete_at i (built_global j b) = stop (J.fault 2 (at_site i))
  delete_at i (built_member j b n) = stop (J.fault 2 (at_site i))

  unfoldable pub apply_unary : Bodies → ℕ → UnOp → Reach → M Val
  unfolding delete_at value_of operate_one
  apply_unary B i Delete r = delete_at i r
  apply_unary B i op r = value_of B r >>= λ v. operate_one J (at_site i) op v

  unfoldable pub cast_reach : ℕ → (doc : ℕ) → Reach → M Reach
  unfolding cast_to
  cast_reach i d (plain v) = cast_to J (at_site i) d v >>= λ _. ret (plain v)
  cast_reach i d (access r) = ret (access (record r { casts = r.casts ++ (i, d) ∷ [] }))
  cast_reach i d (built_global j b) = ret (built_global j b)
  cast_reach i d (built_member j b n) = ret (built_member j b n)

  -- ---- uses of what is built in (15)

  unfoldable pub array_answer : ArrayAnswer → M Val
  unfolding make_array
  array_answer (answers v) = ret v
  array_answer (answers_array vs) = make_array vs

  unfoldable pub perform : Bodies → Spot → BuiltOutcome → M Val
  unfolding changing change array_answer make_from judged reading own_value call_object
  perform B i (built_value v) = ret v
  perform B i (built_change n new c) = changing (change n (λ o. record o { elements = Some c.elements })) >>= λ _. array_answer c.answer
  perform B i (built_object p) = make_from p
  perform B i (built_question n t) = judged J i (probes (obj n) (runtime t false)) (reading (λ s. prim (truth (is_some (own_value (slice_get s.objs n) t)))))
  perform B i (built_call n v vs) = call_object B i n (Some v) vs
  perform B i (built_breaks r) = stop (J.fault r i)

  unfoldable pub use_built : Bodies → Spot → Use → List Val → M Val
  unfolding judged perform outcome_of
  use_built B i u vs s = judged J i (operates (built_op u) vs) (perform B i (outcome_of s u vs)) s

  -- ---- callees (11.2.3)

  -- a built-in method that is cast is read, and not only called
  unfoldable pub read_method : Reference → List (ℕ × ℕ) → M (Unit {0})
  unfolding judged
  read_method r [] = skip
  read_method r (c ∷ cs) = judged J (at_site r.site) (reads r.on r.key) skip

  -- one that a value between brackets names is reached past the slots of the chain, as in a read
  unfoldable pub reach_method : Spot → Val → Access → M (Unit {0})
  unfolding judged
  reach_method i (obj o) (runtime t w) = judged J i (probes (obj o) (runtime t w)) skip
  reach_method i (obj o) (quoted t) = skip
  reach_method i (obj o) (dotted p) = skip
  reach_method i (out n) a = skip
  reach_method i (prim p) a = skip

  unfoldable pub callee_by : Bodies → Reference → Option Use → M Callee
  unfolding get receiver_of reach_method read_method
  callee_by B r None = get B r >>= λ v. ret (called_value v (receiver_of r))
  callee_by B r (Some u) = reach_method (at_site r.site) r.on r.key >>= λ _. read_method r r.casts >>= λ _. ret (called_use u (r.on ∷ []))

  unfoldable pub member_callee : ℕ → Option Use → M Callee
  member_callee i None = stop (J.fault 2 (at_site i))
  member_callee i (Some u) = ret (called_use u [])

  unfoldable pub global_callee : ℕ → Built → M Callee
  global_callee i string_global = ret (called_use string_of_value [])
  global_callee i object_global = stop (J.fault 2 (at_site i))
  global_callee i math_global = stop (J.fault 2 (at_site i))

  unfoldable pub callee_of : Bodies → Reach → M Callee
  unfolding callee_by method_on name_of global_callee member_callee member_use
  callee_of B (plain v) = ret (called_value v None)
  callee_of B (access r) = λ s. callee_by B r (method_on s r.on (name_of s.tables r.key)) s
  callee_of B (built_global i b) = global_callee i b
  callee_of B (built_member i b n) = member_callee i (member_use b n)

  unfoldable pub call_value : Bodies → Spot → Val → Option Val → List Val → M Val
  unfolding call_object judged call_out
  call_value B i (obj n) this vs = call_object B i n this vs
  call_value B i (out n) this vs = judged J i (calls (out n)) (call_out B i n this vs)
  call_value B i (prim p) this vs = judged J i (calls (prim p)) (stop (J.fault 3 i))

  unfoldable pub apply : Bodies → Spot → Callee → List Val → M Val
  unfolding call_value use_built
  apply B i (called_value v this) vs = call_value B i v this vs
  apply B i (called_use u us) vs = use_built B i u (us ++ vs)

  -- ---- `new` (11.2.2, 13.2.2)

  unfoldable pub construct_by : Bodies → Spot → ℕ → Option Code → List Val → M Val
  unfolding make_instance begin built_result
  construct_by B i n None vs = stop (J.fault 2 i)
  construct_by B i n (Some c) vs = make_instance n c.function >>= λ o. begin B i c true (Some o) vs >>= λ v. ret (built_result o v)

  unfoldable pub construct : Bodies → Spot → Val → List Val → M Val
  unfolding judged construct_by code_at construct_out
  construct B i (obj n) vs = judged J i (calls (obj n)) (λ s. construct_by B i n (code_at s n) vs s)
  construct B i (out n) vs = judged J i (calls (out n)) (construct_out B i n vs)
  construct B i (prim p) vs = judged J i (calls (prim p)) (stop (J.fault 3 i))
