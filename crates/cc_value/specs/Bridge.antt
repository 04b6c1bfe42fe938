-- The value of the meaning for which one of src/ stands, and what an answer says.
use Rattle.std.specs.Prelude.{◌≡◌, ℕ, Bool, false, List, ◌++◌, ◌≤◌, unsigned_abs, nat_eq, ⊤, Option, Some, None, IsSome, Result, Ok, Err}
use Rattle.cc_ast.specs.Syntax.{undefined, null, truth, whole, text}
use Rattle.cc_meaning.specs.Values.{Val, prim, obj, out}
use Rattle.cc_meaning.specs.Operators.{Outcome, gives, breaks, greatest_whole, prim_text, prim_less, equal_prims, equal_object, is_nothing, on_wholes, on_whole, type_text}
use Rattle.cc_ast.specs.declared.operator.UnOp.{UnOp}
use Rattle.cc_ast.specs.declared.operator.BinOp.{BinOp}
use Rattle.cc_value.specs.declared.value.Value.{Value}
use Rattle.cc_value.specs.declared.value.Value.TheVariants as V
use Rattle.cc_value.specs.declared.value.OpFault.{OpFault}
use Rattle.cc_value.specs.declared.value.OpFault.TheVariants.{Rule1, Rule2, Memory}

abbrev pub value_of : Value → Val
value_of V.Undefined = prim undefined
value_of V.Null = prim null
value_of (V.Truth b) = prim (truth b)
value_of (V.Whole z) = prim (whole z)
value_of (V.Text t) = prim (text t)
value_of (V.Object n) = obj n
value_of (V.Outside n) = out n

-- a number is within 2^53-1, as each is that the meaning makes
abbrev pub IsMade : Value → Type 0
IsMade V.Undefined = ⊤
IsMade V.Null = ⊤
IsMade (V.Truth b) = ⊤
IsMade (V.Whole z) = unsigned_abs z ≤ greatest_whole
IsMade (V.Text t) = ⊤
IsMade (V.Object n) = ⊤
IsMade (V.Outside n) = ⊤

-- the answer is what the meaning has: its value, or the rule that it breaks. Memory is wanted
-- only where the value is a text.
abbrev pub Answers : Result Value OpFault → Outcome → Type 0
Answers (Ok v) o = o ≡ gives (value_of v)
Answers (Err Rule1) o = o ≡ breaks 1
Answers (Err Rule2) o = o ≡ breaks 2
Answers (Err Memory) o = (t : List ℕ) × (o ≡ gives (prim (text t)))

-- the rule that a fault tells; want of memory tells none
abbrev pub fault_rule : OpFault → Option ℕ
fault_rule Rule1 = Some 1
fault_rule Rule2 = Some 2
fault_rule Memory = None

-- the text of a value that is no object
abbrev pub text_of : Val → Option (List ℕ)
text_of (prim p) = Some (prim_text p)
text_of (obj n) = None
text_of (out n) = None

-- a text is appended, or there is none and rule 2 is broken
abbrev pub Appends : (old new : List ℕ) → Option (List ℕ) → Result (Unit {0}) OpFault → Type 0
Appends old new t (Ok _) = (s : List ℕ) × (t ≡ Some s) × (new ≡ old ++ s)
Appends old new t (Err Rule1) = ⊥
Appends old new t (Err Rule2) = t ≡ None
Appends old new t (Err Memory) = IsSome t

-- `<` and `==`, where the kinds are in the operator table
abbrev pub less_of : Val → Val → Option Bool
less_of (prim p) (prim q) = prim_less p q
less_of _ _ = None

abbrev pub equal_of : Val → Val → Option Bool
equal_of (prim p) (prim q) = equal_prims p q
equal_of (obj m) (obj n) = Some (nat_eq m n)
equal_of (out m) (out n) = Some (nat_eq m n)
equal_of (obj m) (out n) = None
equal_of (out m) (obj n) = None
equal_of (prim p) (obj n) = equal_object p
equal_of (prim p) (out n) = equal_object p
equal_of (obj m) (prim q) = equal_object q
equal_of (out m) (prim q) = equal_object q

-- undefined and null
abbrev pub nothing_of : Val → Bool
nothing_of (prim p) = is_nothing p
nothing_of (obj n) = false
nothing_of (out n) = false

-- the texts of both sides joined, where both have one
abbrev pub joined_of : Option (List ℕ) → Option (List ℕ) → Outcome
joined_of None t = breaks 2
joined_of (Some s) None = breaks 2
joined_of (Some s) (Some t) = gives (prim (text (s ++ t)))

-- the operators that only whole numbers have
abbrev pub wholes_of : BinOp → Val → Val → Outcome
wholes_of op (prim p) (prim q) = on_wholes op p q
wholes_of op _ _ = breaks 2

-- a sign or `~`, which only whole numbers have
abbrev pub whole_of : UnOp → Val → Outcome
whole_of op (prim p) = on_whole op p
whole_of op (obj n) = breaks 2
whole_of op (out n) = breaks 2

-- `typeof`, where it needs no store
abbrev pub type_of : Val → Outcome
type_of (prim p) = gives (prim (text (type_text p)))
type_of (obj n) = breaks 2
type_of (out n) = breaks 2

abbrev pub IsNoObject : Value → Type 0
IsNoObject V.Undefined = ⊤
IsNoObject V.Null = ⊤
IsNoObject (V.Truth b) = ⊤
IsNoObject (V.Whole z) = ⊤
IsNoObject (V.Text t) = ⊤
IsNoObject (V.Object n) = ⊥
IsNoObject (V.Outside n) = ⊤
