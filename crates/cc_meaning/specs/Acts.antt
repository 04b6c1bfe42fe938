-- What a run does to the store: each act is judged, and then it happens. The two make one step.
use Rattle.std.specs.Prelude.{ℕ, suc, Bool, true, false, not, ◌&&◌, nat_eq, nat_lt, nat_le, is_some, List, [], ◌∷◌, ◌++◌, length, slice_get, slice_set, Option, Some, None, codes}
use Rattle.std.specs.List.{list_any}
use Rattle.cc_ast.specs.Syntax.{Prim, undefined, truth, whole, text}
use Rattle.cc_ast.specs.declared.operator.BinOp.{BinOp}
use Rattle.cc_ast.specs.declared.operator.BinOp.TheVariants.{Instance, Has}
use Rattle.cc_ast.specs.declared.operator.UnOp.{UnOp}
use Rattle.cc_ast.specs.declared.operator.UnOp.TheVariants.{Typeof}
use Rattle.cc_ast.specs.declared.tree.Ref.{Ref}
use Rattle.cc_ast.specs.declared.tables.TypeSet.{TypeSet}
use Rattle.cc_ast.specs.declared.tables.Element.{Element}
use Rattle.cc_meaning.specs.Values.{Val, prim, obj, out, View, shown_prim, shown_out, handle, Spot}
use Rattle.cc_meaning.specs.Operators.{Outcome, gives, breaks, key_text, binary_of, unary_of}
use Rattle.cc_meaning.specs.Names.{name_prototype}
use Rattle.cc_meaning.specs.Builtins.{or_undefined}
use Rattle.cc_meaning.specs.State.{Kind, kept_kind, Code, Obj, bare, FrameKind, of_call, of_catch, of_own_name, Frame, Env, Head, Reply, State}
use Rattle.cc_meaning.specs.Monad.{waits, M, ret, skip, stop, ◌>>=◌, with_tables, pick, Mode}
use Rattle.cc_meaning.specs.Store.{Access, runtime, name_of, kind_for, Global, extern, built_in, of_chunk, global_kind, look_up, has_name, value_found, chain_of, chain_in, names_on, put_own, drop_slot, change, frame_up, frame_at, flat_option, class_of_function}
use Rattle.cc_meaning.specs.Typed.{Variable, global, local, variable_type, value_in, doc_at, entered_in}
use Rattle.cc_meaning.specs.SlotRules.{fields_reached}
use Rattle.cc_meaning.specs.Rules.{unary_op, binary_op, prototype_at}
use Rattle.cc_meaning.specs.Judge.{Act, operates, reads, writes, removes, probes, walks, takes, keeps, reads_this, casts, hosts, calls_inner, answers_with, least_broken}

-- ---- judging

-- the plain run ends too at a rule of 1, 2 and 3, and at a handle that wasn't given out
unfoldable pub is_fatal : Act → ℕ → Bool
is_fatal (hosts given on n threw) r = not given
is_fatal (calls_inner given) r = not given
is_fatal (answers_with given) r = not given
is_fatal a r = nat_le r 3

unfoldable pub refused : {A : Type 0} → Mode → Spot → Bool → ℕ → M A → M A
refused J i true r m = stop (J.fault r i)
refused J i false r m = J.breach r i >>= λ _. m

unfoldable pub allowed : {A : Type 0} → Mode → Spot → Act → Option ℕ → M A → M A
unfolding is_fatal refused
allowed J i a None m s = m s
allowed J i a (Some r) m s = refused J i (is_fatal a r) r m s

-- an act, and what happens where it breaks no rule
unfoldable pub judged : {A : Type 0} → Mode → Spot → Act → M A → M A
unfolding allowed least_broken
judged J i a m s = allowed J i a (least_broken s.tables s a) m s

-- a value that is read off the state
unfoldable pub reading : {A : Type 0} → (State → A) → M A
reading f s = ret (f s) s

unfoldable pub changing : (State → State) → M (Unit {0})
changing f s = skip (f s)

-- ---- element types: an array that a type with an element type receives has it entered

unfoldable pub enter_element : Option Element → Val → M (Unit {0})
unfolding changing change
enter_element (Some e) (obj n) = changing (change n (entered_in e))
enter_element (Some e) (out n) = skip
enter_element (Some e) (prim p) = skip
enter_element None v = skip

unfoldable pub receive : Option TypeSet → Val → M (Unit {0})
unfolding enter_element
receive None v = skip
receive (Some t) v = enter_element t.element v

unfoldable pub receive_all : List TypeSet → Val → M (Unit {0})
unfolding receive
receive_all [] v = skip
receive_all (t ∷ ts) v = receive (Some t) v >>= λ _. receive_all ts v

unfoldable pub receive_each : List (Option TypeSet) → List Val → M (Unit {0})
unfolding receive
receive_each [] vs = skip
receive_each (t ∷ ts) [] = skip
receive_each (t ∷ ts) (v ∷ vs) = receive t v >>= λ _. receive_each ts vs

-- ---- objects

unfoldable pub add_obj : Obj → M Val
add_obj o s = ret (obj (length s.objs)) (record s { objs = s.objs ++ o ∷ [] })

-- an object literal without its keys (11.1.5)
unfoldable pub make_object : M Val
unfolding add_obj
make_object = add_obj bare

unfoldable pub make_array : List Val → M Val
unfolding add_obj
make_array vs = add_obj (record bare { elements = Some vs })

-- `Object.create` (15.2.3.5)
unfoldable pub make_from : Option ℕ → M Val
unfolding add_obj chain_of
make_from None = add_obj bare
make_from (Some p) = λ s. add_obj (record bare { chain = chain_of s.objs p }) s

-- an object of class c, or of none, for a constructor whose prototype is p (13.2.2)
unfoldable pub chain_from : State → Option ℕ → List ℕ
unfolding chain_of
chain_from s None = []
chain_from s (Some p) = chain_of s.objs p

unfoldable pub note_constructed : Option ℕ → List ℕ → List ℕ
note_constructed None cs = cs
note_constructed (Some c) cs = pick (list_any (λ d. nat_eq d c) cs) cs (cs ++ c ∷ [])

unfoldable pub make_instance : (callee function : ℕ) → M Val
unfolding add_obj class_of_function chain_from prototype_at note_constructed
make_instance n f s =
    let c = class_of_function s.tables f in
    add_obj (record bare { class = c; chain = chain_from s (prototype_at s (obj n)) }) (record s { constructed = note_constructed c s.constructed })

-- a function object and the prototype that it is made with (13.2)
unfoldable pub function_object : Code → (prototype : ℕ) → Obj
function_object c p = record bare { slots = (record { name = name_prototype; kind = kept_kind; value = obj p }) ∷ []; code = Some c }

unfoldable pub add_function : (function site : ℕ) → Option ℕ → M Val
unfolding function_object
add_function f i up s =
    let n = length s.objs in
    ret (obj (suc n)) (record s { objs = s.objs ++ bare ∷ function_object (record { function = f; up = up; site = i }) n ∷ [] })

unfoldable pub push_frame : FrameKind → Option ℕ → List (Option Val) → M ℕ
push_frame k up vs s = ret (length s.frames) (record s { frames = s.frames ++ (record { kind = k; up = up; values = vs }) ∷ [] })

-- the own name of a function expression stands in a frame of its own (13)
unfoldable pub has_own_name : Option Head → Bool
has_own_name None = false
has_own_name (Some h) = h.own

unfoldable pub add_function_by : Bool → (function site : ℕ) → Option ℕ → M Val
unfolding add_function push_frame
add_function_by false f i up = add_function f i up
add_function_by true f i up = λ s. (push_frame of_own_name up (Some (obj (suc (length s.objs))) ∷ []) >>= λ n. add_function f i (Some n)) s

unfoldable pub make_function : (function site : ℕ) → Env → M Val
unfolding add_function_by has_own_name
make_function f i g = with_tables (λ T. add_function_by (has_own_name (slice_get T.heads f)) f i g.at)

-- ---- variables (10.2.1)

unfoldable pub place_in : Option Frame → ℕ → Option Val
unfolding flat_option
place_in None n = None
place_in (Some f) n = flat_option (slice_get f.values n)

-- a place of a call's frame is judged; a catch variable and an own name aren't
unfoldable pub read_by_kind : Mode → Spot → FrameKind → ℕ → Option Val → M Val
unfolding judged or_undefined
read_by_kind J i (of_call c) n v = judged J i (takes (local c n) true (is_some v)) (ret (or_undefined v))
read_by_kind J i of_catch n v = ret (or_undefined v)
read_by_kind J i of_own_name n v = ret (or_undefined v)

unfoldable pub read_place : Mode → Spot → Option Frame → ℕ → M Val
unfolding read_by_kind place_in
read_place J i None n = stop (J.fault 3 i)
read_place J i (Some f) n = read_by_kind J i f.kind n (place_in (Some f) n)

unfoldable pub is_loaded : State → ℕ → Bool
is_loaded s c = list_any (λ d. nat_eq d c) s.loaded

unfoldable pub global_value : State → ℕ → Option Val
unfolding flat_option
global_value s n = flat_option (slice_get s.globals n)

unfoldable pub read_global : Mode → Spot → ℕ → Global → M Val
unfolding judged or_undefined is_loaded global_value
read_global J i n extern = ret (out n)
read_global J i n (built_in b) = stop (J.fault 2 i)
read_global J i n (of_chunk c) = λ s. judged J i (takes (global n) (is_loaded s c) (is_some (global_value s n))) (ret (or_undefined (global_value s n))) s

unfoldable pub read_var : Mode → Spot → Env → Ref → M Val
unfolding read_place read_global frame_up frame_at global_kind
read_var J i g (Ref.Frame up n) s = read_place J i (frame_at s.frames (frame_up up s.frames g.at)) n s
read_var J i g (Ref.Global n) s = read_global J i n (global_kind s.tables n) s

unfoldable pub frames_with : List Frame → (frame place : ℕ) → Val → Option Frame → List Frame
frames_with fs i n v None = fs
frames_with fs i n v (Some f) = slice_set fs i (record f { values = slice_set f.values n (Some v) })

unfoldable pub set_place : Option ℕ → ℕ → Val → State → State
unfolding frames_with
set_place None n v s = s
set_place (Some i) n v s = record s { frames = frames_with s.frames i n v (slice_get s.frames i) }

unfoldable pub set_global : ℕ → Val → State → State
set_global n v s = record s { globals = slice_set s.globals n (Some v) }

-- a variable receives a value
unfoldable pub keep : Mode → Spot → Variable → Val → (State → State) → M (Unit {0})
unfolding judged changing receive variable_type
keep J i x v f = judged J i (keeps x v) (changing f) >>= λ _. with_tables (λ T. receive (variable_type T x) v)

-- a write to an own name leaves it as it is
unfoldable pub write_by_kind : Mode → Spot → FrameKind → Option ℕ → ℕ → Val → M (Unit {0})
unfolding keep set_place changing
write_by_kind J i (of_call c) at n v = keep J i (local c n) v (set_place at n v)
write_by_kind J i of_catch at n v = changing (set_place at n v)
write_by_kind J i of_own_name at n v = skip

unfoldable pub write_place : Mode → Spot → Option Frame → Option ℕ → ℕ → Val → M (Unit {0})
unfolding write_by_kind
write_place J i None at n v = skip
write_place J i (Some f) at n v = write_by_kind J i f.kind at n v

unfoldable pub write_var : Mode → Spot → Env → Ref → Val → M (Unit {0})
unfolding write_place keep set_global frame_up frame_at
write_var J i g (Ref.Frame up n) v s = (let at = frame_up up s.frames g.at in write_place J i (frame_at s.frames at) at n v) s
write_var J i g (Ref.Global n) v s = keep J i (global n) v (set_global n v) s

-- `this` (11.1.1)
unfoldable pub read_this : Mode → Spot → Option Val → M Val
unfolding judged or_undefined
read_this J i r = judged J i (reads_this r) (ret (or_undefined r))

-- ---- slots of the program's own objects

-- the value that is found, and the types of the field enter their element types
unfoldable pub read_slot : Mode → Spot → ℕ → Access → M Val
unfolding judged reading value_found look_up name_of receive_all fields_reached
read_slot J i o a =
    judged J i (reads (obj o) a) (reading (λ s. value_found (look_up s.objs o (name_of s.tables a)))) >>= λ v.
    (λ s. receive_all (fields_reached s.tables s.objs o a) v s) >>= λ _. ret v

unfoldable pub write_slot : Mode → Spot → ℕ → Access → Kind → Val → Bool → M (Unit {0})
unfolding judged changing change put_own kind_for name_of receive_all fields_reached
write_slot J i o a made v declares =
    judged J i (writes (obj o) a v declares) (λ s. changing (change o (put_own (name_of s.tables a) (kind_for s.tables (name_of s.tables a) made) v)) s) >>= λ _.
    (λ s. receive_all (fields_reached s.tables s.objs o a) v s)

unfoldable pub drop_own : List ℕ → Obj → Obj
unfolding drop_slot
drop_own n o = record o { slots = drop_slot o.slots n }

unfoldable pub dropped_from : Val → List ℕ → State → State
unfolding change drop_own
dropped_from (obj o) n s = change o (drop_own n) s
dropped_from (out m) n s = s
dropped_from (prim p) n s = s

-- `delete` (11.4.1)
unfoldable pub remove : Mode → Spot → Val → Access → M Val
unfolding judged changing dropped_from name_of
remove J i on a = judged J i (removes on a) (λ s. (changing (dropped_from on (name_of s.tables a)) >>= λ _. ret (prim (truth true))) s)

unfoldable pub is_there : State → Val → List ℕ → Bool
unfolding has_name
is_there s (obj o) n = has_name s.objs o n
is_there s (out m) n = false
is_there s (prim p) n = false

-- whether a name is on the chain (11.8.7)
unfoldable pub probe : Mode → Spot → Val → List ℕ → M Bool
unfolding judged reading is_there
probe J i on n = judged J i (probes on (runtime n false)) (reading (λ s. is_there s on n))

unfoldable pub names_of : State → Val → List (List ℕ)
unfolding names_on chain_of
names_of s (obj o) = names_on s.objs [] (chain_of s.objs o)
names_of s (out m) = []
names_of s (prim p) = []

-- the names of `for-in` (12.6.4)
unfoldable pub walk : Mode → Spot → Val → M (List (List ℕ))
unfolding judged reading names_of
walk J i on = judged J i (walks on) (reading (λ s. names_of s on))

-- ---- operators

unfoldable pub outcome_value : Outcome → Val
outcome_value (gives v) = v
outcome_value (breaks r) = prim undefined

-- the prototype of a function stands on the chain of an object (15.3.5.3)
unfoldable pub is_on : List ℕ → Option ℕ → Bool
is_on c None = false
is_on c (Some p) = list_any (λ m. nat_eq m p) c

unfoldable pub instance_value : State → Val → Val → Bool
unfolding is_on chain_in prototype_at
instance_value s (obj n) b = is_on (chain_in (slice_get s.objs n)) (prototype_at s b)
instance_value s (out m) b = false
instance_value s (prim p) b = false

unfoldable pub key_name : Option (List ℕ) → List ℕ
key_name None = []
key_name (Some n) = n

unfoldable pub operate : Mode → Spot → BinOp → Val → Val → M Val
unfolding judged reading instance_value probe outcome_value key_name
operate J i Has a b = judged J i (operates (binary_op Has) (a ∷ b ∷ [])) skip >>= λ _. probe J i b (key_name (key_text a)) >>= λ r. ret (prim (truth r))
operate J i Instance a b = judged J i (operates (binary_op Instance) (a ∷ b ∷ [])) (reading (λ s. prim (truth (instance_value s a b))))
operate J i op a b = judged J i (operates (binary_op op) (a ∷ b ∷ [])) (ret (outcome_value (binary_of op a b)))

unfoldable pub object_type : Option Obj → List ℕ
object_type None = codes "undefined"
object_type (Some o) = pick (is_some o.code) (codes "function") (codes "object")

-- `typeof` of an object tells whether it is a function (11.4.3)
unfoldable pub operate_one : Mode → Spot → UnOp → Val → M Val
unfolding judged reading object_type outcome_value
operate_one J i Typeof (obj n) = judged J i (operates (unary_op Typeof) (obj n ∷ [])) (reading (λ s. prim (text (object_type (slice_get s.objs n)))))
operate_one J i op a = judged J i (operates (unary_op op) (a ∷ [])) (ret (outcome_value (unary_of op a)))

unfoldable pub is_whole : Val → Bool
is_whole (prim (whole z)) = true
is_whole _ = false

unfoldable pub key_given : Mode → Spot → (whole : Bool) → Option (List ℕ) → M Access
key_given J i w None = stop (J.fault 2 i)
key_given J i w (Some t) = ret (runtime t w)

-- the key that a value between brackets is (11.2.1)
unfoldable pub runtime_key : Mode → Spot → Val → M Access
unfolding key_given is_whole
runtime_key J i v = key_given J i (is_whole v) (key_text v)

-- a cast
unfoldable pub cast_to : Mode → Spot → (doc : ℕ) → Val → M (Unit {0})
unfolding judged receive value_in doc_at
cast_to J i d v = judged J i (casts d v) skip >>= λ _. with_tables (λ T. receive (value_in (doc_at T (Some d))) v)

-- ---- what the outside sees and knows

unfoldable pub next_place : Option ℕ → Option ℕ
next_place None = None
next_place (Some n) = Some (suc n)

unfoldable pub handle_of : List ℕ → ℕ → Option ℕ
unfolding next_place
handle_of [] n = None
handle_of (m ∷ ms) n = pick (nat_eq m n) (Some 0) (next_place (handle_of ms n))

unfoldable pub shown : Option ℕ → ℕ → M View
shown (Some h) n s = ret (handle h) s
shown None n s = ret (handle (length s.handles)) (record s { handles = s.handles ++ n ∷ [] })

-- an object of the program gets the next handle when it is first shown
unfoldable pub show : Val → M View
unfolding handle_of shown
show (prim p) s = ret (shown_prim p) s
show (out n) s = ret (shown_out n) s
show (obj n) s = shown (handle_of s.handles n) n s

unfoldable pub show_all : List Val → M (List View)
unfolding show
show_all [] = ret []
show_all (v ∷ vs) = show v >>= λ x. show_all vs >>= λ xs. ret (x ∷ xs)

-- a receiver, undefined where there is none
unfoldable pub show_receiver : Option Val → M View
unfolding show
show_receiver None = ret (shown_prim undefined)
show_receiver (Some v) = show v

unfoldable pub next_reply_of : List Reply → M Reply
next_reply_of [] s = stop waits s
next_reply_of (r ∷ rs) s = ret r (record s { replies = rs })

unfoldable pub next_reply : M Reply
unfolding next_reply_of
next_reply s = next_reply_of s.replies s

-- whether a view is no handle, or one that was given out
unfoldable pub was_given : State → View → Bool
was_given s (handle h) = nat_lt h (length s.handles)
was_given s (shown_prim p) = true
was_given s (shown_out n) = true

unfoldable pub all_given : State → List View → Bool
unfolding was_given
all_given s [] = true
all_given s (x ∷ xs) = was_given s x && all_given s xs

unfoldable pub object_at : Option ℕ → Val
object_at None = prim undefined
object_at (Some n) = obj n

-- the value that a view stands for
unfoldable pub viewed : State → View → Val
unfolding object_at
viewed s (shown_prim p) = prim p
viewed s (shown_out n) = out n
viewed s (handle h) = object_at (slice_get s.handles h)
