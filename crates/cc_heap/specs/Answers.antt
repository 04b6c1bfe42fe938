-- What the answers of operators that need the store say.
use Rattle.std.specs.Prelude.{◌≡◌, ℕ, ℤ, Bool, false, nat_eq, List, Option, None, Some, Result, Ok, Err, slice_get}
use Rattle.std.specs.List.{list_any}
use Rattle.cc_ast.specs.Syntax.{whole, text}
use Rattle.cc_ast.specs.declared.operator.UnOp.TheVariants.{Typeof}
use Rattle.cc_meaning.specs.Values.{Val, prim, obj, out}
use Rattle.cc_meaning.specs.Operators.{unary_of}
use Rattle.cc_meaning.specs.Acts.{object_type, outcome_value}
use Rattle.cc_meaning.specs.State.{Obj, State}
use Rattle.cc_meaning.specs.Store.{chain_in}
use Rattle.cc_value.specs.declared.value.OpFault.{OpFault}
use Rattle.cc_value.specs.declared.value.OpFault.TheVariants.{Rule1, Rule2, Memory}

-- the value where no rule is broken, or the rule; no number is made
abbrev pub Tells : {A : Type 0} → Result A OpFault → (rule : Option ℕ) → (A → Type 0) → (memory : Type 0) → Type 0
Tells (Ok a) rule value memory = (rule ≡ None) × value a
Tells (Err Rule1) rule value memory = ⊥
Tells (Err Rule2) rule value memory = rule ≡ Some 2
Tells (Err Memory) rule value memory = memory

abbrev pub IsWhole : Val → Type 0
IsWhole v = (z : ℤ) × (v ≡ prim (whole z))

-- the value of `typeof`
abbrev pub type_in : List Obj → Val → Val
type_in os (obj n) = prim (text (object_type (slice_get os n)))
type_in os (prim p) = outcome_value (unary_of Typeof (prim p))
type_in os (out n) = outcome_value (unary_of Typeof (out n))

-- this object stands on the chain of a value
abbrev pub is_under : State → Val → ℕ → Bool
is_under s (obj n) p = list_any (λ m. nat_eq m p) (chain_in (slice_get s.objs n))
is_under s (out n) p = false
is_under s (prim q) p = false
