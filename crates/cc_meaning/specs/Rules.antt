-- What the other acts break: calls, variables, `this`, casts, the host and operators.
use Rattle.std.specs.Prelude.{ℕ, Bool, true, false, not, ◌&&◌, ◌||◌, List, [], ◌∷◌, slice_get, Option, Some, None, is_some, is_none}
use Rattle.std.specs.List.{list_any}
use Rattle.cc_ast.specs.Syntax.{Prim, undefined, null, truth, whole, text}
use Rattle.cc_ast.specs.declared.operator.BinOp.{BinOp}
use Rattle.cc_ast.specs.declared.operator.BinOp.TheVariants.{Instance, Has}
use Rattle.cc_ast.specs.declared.operator.UnOp.{UnOp}
use Rattle.cc_ast.specs.declared.operator.UnOp.TheVariants.{Typeof}
use Rattle.cc_ast.specs.declared.tables.TypeSet.{TypeSet}
use Rattle.cc_meaning.specs.Values.{Val, prim, obj, out}
use Rattle.cc_meaning.specs.Operators.{Outcome, gives, breaks, key_text, binary_of, unary_of}
use Rattle.cc_meaning.specs.Names.{is_index}
use Rattle.cc_meaning.specs.Types.{extends}
use Rattle.cc_meaning.specs.State.{Obj, Tables, State}
use Rattle.cc_meaning.specs.Store.{is_kept, chain_of, slots_on, Use, code_class_from, class_of_function}
use Rattle.cc_meaning.specs.Typed.{Variable, of_opt_type, variable_type, is_settled, function_doc, doc_at, params_in, result_in, receiver_in, value_in, class_in}
use Rattle.cc_meaning.specs.SlotRules.{least, rule_if, rule_unless, is_dotted, prototype_of_function}
use Rattle.cc_meaning.specs.Built.{outcome_of, rule_in}

-- ---- Callee, Enter, Leave

unfoldable pub callable : Option Obj → Option ℕ
unfolding rule_unless
callable None = Some 2
callable (Some o) = rule_unless (is_some o.code) 2

-- a callee that is undefined or null breaks 3 and not 2
unfoldable pub callee_rule : State → Val → Option ℕ
unfolding callable
callee_rule s (prim undefined) = Some 3
callee_rule s (prim null) = Some 3
callee_rule s (prim (truth b)) = Some 2
callee_rule s (prim (whole z)) = Some 2
callee_rule s (prim (text t)) = Some 2
callee_rule s (obj n) = callable (slice_get s.objs n)
callee_rule s (out n) = None

unfoldable pub extends_class : Tables → Option ℕ → ℕ → Bool
unfolding extends
extends_class T None c = false
extends_class T (Some d) c = extends T.classes d c

-- an object whose class is this one or extends it
unfoldable pub is_instance : Tables → State → ℕ → Val → Bool
unfolding extends_class class_in
is_instance T s c (obj n) = extends_class T (class_in (slice_get s.objs n)) c
is_instance T s c (out n) = false
is_instance T s c (prim p) = false

unfoldable pub runs_on : Tables → State → Option ℕ → Option Val → Bool
unfolding is_instance
runs_on T s None r = true
runs_on T s (Some c) None = false
runs_on T s (Some c) (Some v) = is_instance T s c v

-- the receiver is of the type of `@this`; where there is none it counts as undefined
unfoldable pub receiver_fits : Tables → State → Option TypeSet → Option Val → Bool
unfolding of_opt_type
receiver_fits T s t None = true
receiver_fits T s t (Some v) = of_opt_type T s.objs t v

unfoldable pub all_fit : Tables → State → List (Option TypeSet) → List Val → Bool
unfolding of_opt_type
all_fit T s [] vs = true
all_fit T s (t ∷ ts) [] = true
all_fit T s (t ∷ ts) (v ∷ vs) = of_opt_type T s.objs t v && all_fit T s ts vs

unfoldable pub enter_rule : Tables → State → ℕ → Option Val → List Val → Option ℕ
unfolding least rule_unless runs_on code_class_from receiver_fits receiver_in function_doc all_fit params_in
enter_rule T s f r vs =
    least (rule_unless (runs_on T s (code_class_from 0 T.classes f) r && receiver_fits T s (receiver_in (function_doc T f)) r) 5)
    (rule_unless (all_fit T s (params_in (function_doc T f)) vs) 6)

unfoldable pub is_prim : Val → Bool
is_prim (prim p) = true
is_prim (obj n) = false
is_prim (out n) = false

-- the value of `new` is an instance of the class: the object that was made is, so this asks where
-- the function gives another object
unfoldable pub builds_well : Tables → State → Option ℕ → Bool → Val → Bool
unfolding is_prim is_instance
builds_well T s None built v = true
builds_well T s (Some c) false v = true
builds_well T s (Some c) true v = is_prim v || is_instance T s c v

unfoldable pub leave_rule : Tables → State → ℕ → Bool → Val → Option ℕ
unfolding rule_unless of_opt_type result_in function_doc builds_well class_of_function
leave_rule T s f built v = rule_unless (of_opt_type T s.objs (result_in (function_doc T f)) v && builds_well T s (class_of_function T f) built v) 6

-- ---- variables, `this`, casts

unfoldable pub take_rule : Tables → Variable → (loaded set : Bool) → Option ℕ
unfolding least rule_unless rule_if is_settled
take_rule T x loaded set = least (rule_unless loaded 3) (rule_if (is_settled T x && not set) 11)

unfoldable pub keep_rule : Tables → State → Variable → Val → Option ℕ
unfolding rule_unless of_opt_type variable_type
keep_rule T s x v = rule_unless (of_opt_type T s.objs (variable_type T x) v) 6

unfoldable pub this_rule : Option Val → Option ℕ
this_rule None = Some 4
this_rule (Some v) = None

unfoldable pub cast_rule : Tables → State → ℕ → Val → Option ℕ
unfolding rule_unless of_opt_type value_in doc_at
cast_rule T s d v = rule_unless (of_opt_type T s.objs (value_in (doc_at T (Some d))) v) 6

-- ---- the host

-- a name outside the kept ones and the index names, on a chain with a dotted slot
unfoldable pub names_well : Tables → State → Option Val → Option (List ℕ) → Bool
unfolding is_kept is_index is_dotted slots_on chain_of
names_well T s (Some (obj o)) (Some n) = is_kept T n || is_index n || not (list_any (λ x. is_dotted x.kind) (slots_on s.objs (chain_of s.objs o)))
names_well T s _ _ = true

unfoldable pub host_rule : Tables → State → Bool → Option Val → Option (List ℕ) → Bool → Option ℕ
unfolding rule_unless names_well
host_rule T s given on n threw = rule_unless (given && names_well T s on n && not threw) 13

-- ---- Operate

pub data Op : Type 0 where
  unary_op : UnOp → Op
  binary_op : BinOp → Op
  built_op : Use → Op

unfoldable pub outcome_rule : Outcome → Option ℕ
outcome_rule (gives v) = None
outcome_rule (breaks r) = Some r

-- `in` takes a key and an object, `instanceof` a function whose prototype is an object
unfoldable pub is_key : Option (List ℕ) → Bool
is_key None = false
is_key (Some t) = true

unfoldable pub has_rule : Val → Val → Option ℕ
unfolding rule_unless is_key key_text
has_rule a (obj n) = rule_unless (is_key (key_text a)) 2
has_rule a (out n) = Some 2
has_rule a (prim p) = Some 2

unfoldable pub prototype_object : Option Val → Option ℕ
prototype_object (Some (obj p)) = Some p
prototype_object (Some (out n)) = None
prototype_object (Some (prim p)) = None
prototype_object None = None

unfoldable pub prototype_at : State → Val → Option ℕ
unfolding prototype_object prototype_of_function
prototype_at s (obj n) = prototype_object (prototype_of_function (slice_get s.objs n))
prototype_at s (out n) = None
prototype_at s (prim p) = None

unfoldable pub binary_rule : State → BinOp → Val → Val → Option ℕ
unfolding has_rule rule_if prototype_at outcome_rule binary_of
binary_rule s Has a b = has_rule a b
binary_rule s Instance a b = rule_if (is_none (prototype_at s b)) 2
binary_rule s op a b = outcome_rule (binary_of op a b)

unfoldable pub unary_rule : UnOp → Val → Option ℕ
unfolding outcome_rule unary_of
unary_rule Typeof (obj n) = None
unary_rule op a = outcome_rule (unary_of op a)

unfoldable pub operate_rule : Tables → State → Op → List Val → Option ℕ
unfolding unary_rule binary_rule rule_in outcome_of
operate_rule T s (unary_op op) (a ∷ []) = unary_rule op a
operate_rule T s (binary_op op) (a ∷ b ∷ []) = binary_rule s op a b
operate_rule T s (built_op u) vs = rule_in T s (outcome_of s u vs)
operate_rule T s _ vs = Some 2
