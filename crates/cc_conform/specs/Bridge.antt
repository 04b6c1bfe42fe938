-- The act of the meaning for which one of src/ stands.
use Rattle.std.specs.Prelude.{◌≡◌, map}
use Rattle.std.specs.Option.{option_map}
use Rattle.cc_value.specs.Bridge.{value_of}
use Rattle.cc_meaning.specs.Builtins.{ArrayUse, TextUse, MathUse, text_char_at, text_char_code_at, text_index_of, text_last_index_of, text_slice, text_substring, math_max, math_min, math_abs, array_push, array_unshift, array_pop, array_shift, array_slice, array_concat, array_join, array_index_of}
use Rattle.cc_meaning.specs.Store.{Access, dotted, quoted, runtime, Use, of_array, of_text, of_math, string_of_value, from_codes, create_object, has_own, call_with}
use Rattle.cc_meaning.specs.State.{State}
use Rattle.cc_heap.specs.Store.{Store}
use Rattle.cc_meaning.specs.Typed.{Variable, global, local, flat}
use Rattle.cc_meaning.specs.Rules.{Op, unary_op, binary_op, built_op}
use Rattle.cc_meaning.specs.Judge.{Act, operates, reads, writes, removes, probes, walks, calls, enters, leaves, takes, keeps, reads_this, casts, hosts, calls_inner, answers_with}
use Rattle.cc_conform.specs.declared.act.ArrayUse as arrays
use Rattle.cc_conform.specs.declared.act.ArrayUse.TheVariants as L
use Rattle.cc_conform.specs.declared.act.TextUse as texts
use Rattle.cc_conform.specs.declared.act.TextUse.TheVariants as X
use Rattle.cc_conform.specs.declared.act.MathUse as numbers
use Rattle.cc_conform.specs.declared.act.MathUse.TheVariants as M
use Rattle.cc_conform.specs.declared.act.BuiltInUse.{BuiltInUse}
use Rattle.cc_conform.specs.declared.act.BuiltInUse.TheVariants as U
use Rattle.cc_conform.specs.declared.act.Op as operation
use Rattle.cc_conform.specs.declared.act.Op.TheVariants as O
use Rattle.cc_conform.specs.declared.act.Variable as place
use Rattle.cc_conform.specs.declared.act.Variable.TheVariants as V
use Rattle.cc_conform.specs.declared.act.Access as key
use Rattle.cc_conform.specs.declared.act.Access.TheVariants as K
use Rattle.cc_conform.specs.declared.act.Act as told
use Rattle.cc_conform.specs.declared.act.Act.TheVariants as A

abbrev pub array_use_of : arrays.ArrayUse → ArrayUse
array_use_of L.Push = array_push
array_use_of L.Unshift = array_unshift
array_use_of L.Pop = array_pop
array_use_of L.Shift = array_shift
array_use_of L.Slice = array_slice
array_use_of L.Concat = array_concat
array_use_of L.Join = array_join
array_use_of L.IndexOf = array_index_of

abbrev pub text_use_of : texts.TextUse → TextUse
text_use_of X.CharAt = text_char_at
text_use_of X.CharCodeAt = text_char_code_at
text_use_of X.IndexOf = text_index_of
text_use_of X.LastIndexOf = text_last_index_of
text_use_of X.Slice = text_slice
text_use_of X.Substring = text_substring

abbrev pub math_use_of : numbers.MathUse → MathUse
math_use_of M.Max = math_max
math_use_of M.Min = math_min
math_use_of M.Abs = math_abs

abbrev pub use_of : BuiltInUse → Use
use_of (U.Array u) = of_array (array_use_of u)
use_of (U.Text u) = of_text (text_use_of u)
use_of U.StringOf = string_of_value
use_of U.FromCharCode = from_codes
use_of (U.Math u) = of_math (math_use_of u)
use_of U.ObjectCreate = create_object
use_of U.HasOwnProperty = has_own
use_of U.Call = call_with

abbrev pub op_of : operation.Op → Op
op_of (O.Unary op) = unary_op op
op_of (O.Binary op) = binary_op op
op_of (O.Built u) = built_op (use_of u)

abbrev pub variable_of : place.Variable → Variable
variable_of (V.Global n) = global n
variable_of (V.Local scope n) = local scope n
variable_of (V.Flat g n) = flat g n

abbrev pub access_of : key.Access → Access
access_of (K.Dotted p) = dotted p
access_of (K.Quoted t) = quoted t
access_of (K.Runtime t w) = runtime t w

abbrev pub act_of : told.Act → Act
act_of (A.Operate op operands) = operates (op_of op) (map value_of operands)
act_of (A.Read on key) = reads (value_of on) (access_of key)
act_of (A.Write on key value declares) = writes (value_of on) (access_of key) (value_of value) declares
act_of (A.Remove on key) = removes (value_of on) (access_of key)
act_of (A.Probe on key) = probes (value_of on) (access_of key)
act_of (A.Walk on) = walks (value_of on)
act_of (A.Callee value) = calls (value_of value)
act_of (A.Enter function receiver args) = enters function (option_map value_of receiver) (map value_of args)
act_of (A.Leave function built value) = leaves function built (value_of value)
act_of (A.Take variable loaded set) = takes (variable_of variable) loaded set
act_of (A.Keep variable value) = keeps (variable_of variable) (value_of value)
act_of (A.This receiver) = reads_this (option_map value_of receiver)
act_of (A.Cast wanted value) = casts wanted (value_of value)
act_of (A.Host given on name threw) = hosts given (option_map value_of on) name threw
act_of (A.Inner given) = calls_inner given
act_of (A.Reply given) = answers_with given

-- a state with what a heap holds
abbrev pub with_store : State → Store → State
with_store s h = record s { objs = h.objs; constructed = h.constructed }

-- a heap holds the objects of a state, and the classes constructed
pub record Holds (s : State) (h : Store) : Type 0 where
  pub objs : s.objs ≡ h.objs
  pub constructed : s.constructed ≡ h.constructed
