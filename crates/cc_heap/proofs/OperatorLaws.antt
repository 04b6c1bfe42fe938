-- The operators that need the store, value by value.
use Rattle.std.proofs.Common.{◌≡◌, ℕ, ℤ, Bool, true, false, List, slice_get, Option, Some, None, is_some, is_none, Result, Ok, Err, refl, sym, ap, ◌∙◌}
use Rattle.std.specs.Bool.{⊤}
use Rattle.cc_ast.specs.Syntax.{Prim, text}
use Rattle.cc_ast.specs.declared.operator.BinOp.TheVariants.{Instance, Has}
use Rattle.cc_ast.specs.declared.operator.UnOp.TheVariants.{Typeof}
use Rattle.cc_meaning.specs.Values.{Val, prim, obj, out}
use Rattle.cc_meaning.specs.Operators.{key_text, type_text, unary_of, prim_unary, object_unary}
use Rattle.cc_meaning.specs.Names.{name_prototype}
use Rattle.cc_meaning.specs.Acts.{instance_value, is_on, is_there, key_name, object_type, outcome_value}
use Rattle.cc_meaning.specs.Rules.{binary_rule, unary_rule, has_rule, is_key, outcome_rule, prototype_at, prototype_object}
use Rattle.cc_meaning.specs.SlotRules.{prototype_of_function, rule_if, rule_unless}
use Rattle.cc_meaning.specs.State.{Obj, State}
use Rattle.cc_meaning.specs.Monad.{pick}
use Rattle.cc_meaning.specs.Store.{find_slot, has_name}
use Rattle.cc_value.specs.declared.value.Value.{Value}
use Rattle.cc_value.specs.declared.value.Value.TheVariants as V
use Rattle.cc_value.specs.declared.value.OpFault.{OpFault}
use Rattle.cc_value.specs.declared.value.OpFault.TheVariants.{Rule1, Rule2, Memory}
use Rattle.cc_value.specs.Bridge.{value_of}
use Rattle.cc_heap.specs.Answers.{Tells, is_under, type_in}

-- ---- the prototype of a function

pub no-prototype : (o : Obj) → is_some o.code ≡ false → prototype_object (prototype_of_function (Some o)) ≡ None
unfolding prototype_object prototype_of_function
no-prototype o e = ap (λ b. prototype_object (pick b (find_slot o.slots name_prototype) None)) e

pub its-prototype : (o : Obj) → is_some o.code ≡ true → prototype_object (prototype_of_function (Some o)) ≡ prototype_object (find_slot o.slots name_prototype)
unfolding prototype_object prototype_of_function
its-prototype o e = ap (λ b. prototype_object (pick b (find_slot o.slots name_prototype) None)) e

pub no-object : (v : Value) → ((n : ℕ) → v ≡ V.Object n → ⊥) → prototype_object (Some (value_of v)) ≡ None
unfolding prototype_object
no-object V.Undefined h = refl
no-object V.Null h = refl
no-object (V.Truth b) h = refl
no-object (V.Whole z) h = refl
no-object (V.Text t) h = refl
no-object (V.Object n) h = absurd (h n refl)
no-object (V.Outside n) h = refl

pub none-at : (s : State) (v : Value) → ((n : ℕ) → v ≡ V.Object n → ⊥) → prototype_at s (value_of v) ≡ None
unfolding prototype_at
none-at s V.Undefined h = refl
none-at s V.Null h = refl
none-at s (V.Truth b) h = refl
none-at s (V.Whole z) h = refl
none-at s (V.Text t) h = refl
none-at s (V.Object n) h = absurd (h n refl)
none-at s (V.Outside n) h = refl

-- ---- `instanceof`

pub none-under : (s : State) (v : Value) (p : ℕ) → ((n : ℕ) → v ≡ V.Object n → ⊥) → false ≡ is_under s (value_of v) p
none-under s V.Undefined p h = refl
none-under s V.Null p h = refl
none-under s (V.Truth b) p h = refl
none-under s (V.Whole z) p h = refl
none-under s (V.Text t) p h = refl
none-under s (V.Object n) p h = absurd (h n refl)
none-under s (V.Outside n) p h = refl

pub instance-under : (s : State) (a b : Val) (p : ℕ) → prototype_at s b ≡ Some p → instance_value s a b ≡ is_under s a p
unfolding instance_value is_on
instance-under s (obj n) b p e = ap (is_on _) e
instance-under s (out n) b p e = refl
instance-under s (prim q) b p e = refl

pub instance-rule : (s : State) (a b : Val) (o : Option ℕ) → prototype_at s b ≡ o → binary_rule s Instance a b ≡ pick (is_some o) None (Some 2)
unfolding binary_rule rule_if
instance-rule s a b None e = ap (λ x. rule_if (is_none x) 2) e
instance-rule s a b (Some p) e = ap (λ x. rule_if (is_none x) 2) e

-- ---- `in`

pub has-key : (s : State) (left right : Value) (n : ℕ) (t : List ℕ) → right ≡ V.Object n → key_text (value_of left) ≡ Some t → (b : Bool) → b ≡ has_name s.objs n t
    → (binary_rule s Has (value_of left) (value_of right) ≡ None) × (b ≡ is_there s (value_of right) (key_name (key_text (value_of left))))
unfolding binary_rule has_rule rule_unless is_key is_there key_name
has-key s left right n t at key b is = (
  ap (λ r. binary_rule s Has (value_of left) (value_of r)) at ∙ ap (λ k. rule_unless (is_key k) 2) key,
  is ∙ sym (ap (λ r. is_there s (value_of r) (key_name (key_text (value_of left)))) at ∙ ap (λ k. has_name s.objs n (key_name k)) key),
)

pub no-key : (v : Value) → ((t : List ℕ) → v ≡ V.Text t → ⊥) → ((z : ℤ) → v ≡ V.Whole z → ⊥) → key_text (value_of v) ≡ None
unfolding key_text
no-key V.Undefined h k = refl
no-key V.Null h k = refl
no-key (V.Truth b) h k = refl
no-key (V.Whole z) h k = absurd (k z refl)
no-key (V.Text t) h k = absurd (h t refl)
no-key (V.Object n) h k = refl
no-key (V.Outside n) h k = refl

pub has-no-key : (s : State) (left right : Value) (n : ℕ) → right ≡ V.Object n → key_text (value_of left) ≡ None → binary_rule s Has (value_of left) (value_of right) ≡ Some 2
unfolding binary_rule has_rule rule_unless is_key
has-no-key s left right n at key = ap (λ r. binary_rule s Has (value_of left) (value_of r)) at ∙ ap (λ k. rule_unless (is_key k) 2) key

pub has-no-object : (s : State) (a : Val) (v : Value) → ((n : ℕ) → v ≡ V.Object n → ⊥) → binary_rule s Has a (value_of v) ≡ Some 2
unfolding binary_rule has_rule
has-no-object s a V.Undefined h = refl
has-no-object s a V.Null h = refl
has-no-object s a (V.Truth b) h = refl
has-no-object s a (V.Whole z) h = refl
has-no-object s a (V.Text t) h = refl
has-no-object s a (V.Object n) h = absurd (h n refl)
has-no-object s a (V.Outside n) h = refl

-- ---- `typeof`

pub tells-text : (r : Result (List ℕ) OpFault) (t : List ℕ) (rule : Option ℕ) (v : Val) → rule ≡ None → v ≡ prim (text t) → Tells r None (λ u. u ≡ t) ⊤ → Tells r rule (λ u. prim (text u) ≡ v) ⊤
tells-text (Ok u) t rule v e is h = (e, ap (λ x. prim (text x)) h.1 ∙ sym is)
tells-text (Err Rule1) t rule v e is h = h
tells-text (Err Rule2) t rule v e is h = cc
tells-text (Err Memory) t rule v e is h = tt

pub type-of-prim : (os : List Obj) (v : Value) (p : Prim) → value_of v ≡ prim p → (unary_rule Typeof (value_of v) ≡ None) × (type_in os (value_of v) ≡ prim (text (type_text p)))
unfolding unary_rule outcome_rule unary_of prim_unary outcome_value
type-of-prim os v p e = (ap (unary_rule Typeof) e, ap (type_in os) e)

pub type-of-object : (os : List Obj) (v : Value) (n : ℕ) → v ≡ V.Object n → (unary_rule Typeof (value_of v) ≡ None) × (type_in os (value_of v) ≡ prim (text (object_type (slice_get os n))))
unfolding unary_rule
type-of-object os v n e = (ap (λ x. unary_rule Typeof (value_of x)) e, ap (λ x. type_in os (value_of x)) e)

pub type-of-outside : (v : Value) (n : ℕ) → v ≡ V.Outside n → unary_rule Typeof (value_of v) ≡ Some 2
unfolding unary_rule outcome_rule unary_of object_unary
type-of-outside v n e = ap (λ x. unary_rule Typeof (value_of x)) e
