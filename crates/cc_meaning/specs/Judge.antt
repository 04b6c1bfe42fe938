-- The rules that acts of a run break. Each act is judged as it is about to happen; the least rule
-- that it breaks is told.
--
--   1   every number made is whole, within 2^53-1 either way, and not negative zero
--   2   operands are of the kinds in the operator and the built-in table; a whole number as the key of an
--       array is an index
--   3   the engine itself raises nothing (a callee that isn't set, a read of a global whose chunk
--       isn't loaded)
--   4   `this` is read only where there is a receiver; a plain call gives none, a call through a
--       flat path gives none
--   5   code of a class F runs on instances of F
--   6   each annotated variable, parameter, result, field or cast receives a value of its type; each
--       value written into an array is of each element type that was entered for it
--   7   an unkept name isn't reached with dots on a chain that has it quoted, nor in quotes on a
--       chain that has it dotted
--   8   no dotted unkept access on a chain with a keyed slot, no runtime text as key on a chain with
--       an unkept dotted slot; an outside object counts as a chain with a keyed slot
--   9   `for-in` meets no unkept dotted slot and no standard name
--   10  a function's text, `name` and `length` aren't read, and these, `caller` and `arguments` are
--       written nowhere where the chain has a function; a standard name of objects and functions is
--       read only where an object of the chain has a slot of that name, and one of arrays also where
--       the chain has no array; a built-in method is only called
--   11  a variable marked `@const` or `@define` is read only after it is set
--   12  a constructor's prototype is set only by its declaration statement, before any `new` and
--       while the old prototype has no slot and stands on no chain, and its own chain is that of the
--       present prototypes along `@extends`
--   13  the host uses, in turns, inner calls and answers, only handles given out and names as in 8,
--       and loads no chunk of which a dependency threw
--
-- Slots with an index name break neither 7 nor 8.
use Rattle.std.specs.Prelude.{ℕ, Bool, List, Option}
use Rattle.cc_meaning.specs.Values.{Val}
use Rattle.cc_meaning.specs.State.{Tables, State}
use Rattle.cc_meaning.specs.Store.{Access}
use Rattle.cc_meaning.specs.Typed.{Variable}
use Rattle.cc_meaning.specs.SlotRules.{rule_unless, read_rule, write_rule, remove_rule, probe_rule, walk_rule}
use Rattle.cc_meaning.specs.Rules.{Op, operate_rule, callee_rule, enter_rule, leave_rule, take_rule, keep_rule, this_rule, cast_rule, host_rule}

-- What is about to happen. A write `declares` where it is made by the declaration statement of the
-- prototype of the function that it writes to. A leave is `built` where the call is by `new`. In an
-- act of the host, `given` tells whether each handle that is used was given out.
pub data Act : Type 0 where
  operates : Op → List Val → Act
  reads : (on : Val) → Access → Act
  writes : (on : Val) → Access → Val → (declares : Bool) → Act
  removes : (on : Val) → Access → Act
  probes : (on : Val) → Access → Act
  walks : (on : Val) → Act
  calls : Val → Act
  enters : (function : ℕ) → (receiver : Option Val) → List Val → Act
  leaves : (function : ℕ) → (built : Bool) → Val → Act
  takes : Variable → (loaded set : Bool) → Act
  keeps : Variable → Val → Act
  reads_this : (receiver : Option Val) → Act
  casts : (wanted : ℕ) → Val → Act
  hosts : (given : Bool) → (on : Option Val) → (name : Option (List ℕ)) → (threw : Bool) → Act
  calls_inner : (given : Bool) → Act
  answers_with : (given : Bool) → Act

-- ---- the least rule that an act breaks

unfoldable pub least_broken : Tables → State → Act → Option ℕ
unfolding operate_rule read_rule write_rule remove_rule probe_rule walk_rule callee_rule enter_rule leave_rule take_rule keep_rule this_rule cast_rule host_rule rule_unless
least_broken T s (operates op vs) = operate_rule T s op vs
least_broken T s (reads on a) = read_rule T s on a
least_broken T s (writes on a v declares) = write_rule T s on a v declares
least_broken T s (removes on a) = remove_rule T s on a
least_broken T s (probes on a) = probe_rule T s on a
least_broken T s (walks on) = walk_rule s on
least_broken T s (calls v) = callee_rule s v
least_broken T s (enters f r vs) = enter_rule T s f r vs
least_broken T s (leaves f built v) = leave_rule T s f built v
least_broken T s (takes x loaded set) = take_rule T x loaded set
least_broken T s (keeps x v) = keep_rule T s x v
least_broken T s (reads_this r) = this_rule r
least_broken T s (casts d v) = cast_rule T s d v
least_broken T s (hosts given on n threw) = host_rule T s given on n threw
least_broken T s (calls_inner given) = rule_unless given 13
least_broken T s (answers_with given) = rule_unless given 13
