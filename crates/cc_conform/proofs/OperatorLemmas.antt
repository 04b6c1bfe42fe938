-- The rules of operators, by the number of their operands.
use Rattle.std.proofs.Common.{◌≡◌, ◌≢◌, ◌≤◌, ◌<◌, ℕ, List, [], ◌∷◌, length, get_or, map, Some, refl, sym, ap, arith}
use Rattle.cc_ast.specs.declared.operator.BinOp.{BinOp}
use Rattle.cc_ast.specs.declared.operator.BinOp.TheVariants as B
use Rattle.cc_ast.specs.declared.operator.UnOp.{UnOp}
use Rattle.cc_ast.specs.declared.operator.UnOp.TheVariants as U
use Rattle.cc_meaning.specs.Operators.{binary_of, unary_of}
use Rattle.cc_meaning.specs.Rules.{binary_rule, unary_rule, operate_rule, outcome_rule, unary_op, binary_op}
use Rattle.cc_meaning.specs.State.{State, Tables}
use Rattle.cc_meaning.specs.Values.{Val}
use Rattle.cc_value.specs.declared.value.Value.{Value}
use Rattle.cc_value.specs.declared.value.Value.TheVariants as V
use Rattle.cc_value.specs.Bridge.{value_of}

-- ---- operators without a store

pub binary-others : (s : State) (op : BinOp) (a b : Val) → op ≢ B.Has → op ≢ B.Instance → binary_rule s op a b ≡ outcome_rule (binary_of op a b)
unfolding binary_rule
binary-others s B.Has a b h i = absurd (h refl)
binary-others s B.Instance a b h i = absurd (i refl)
binary-others s op a b h i = refl

pub unary-others : (op : UnOp) (a : Val) → op ≢ U.Typeof → unary_rule op a ≡ outcome_rule (unary_of op a)
unfolding unary_rule
unary-others U.Typeof a h = absurd (h refl)
unary-others op a h = refl

pub type-others : (v : Value) → ((n : ℕ) → v ≡ V.Object n → ⊥) → unary_rule U.Typeof (value_of v) ≡ outcome_rule (unary_of U.Typeof (value_of v))
unfolding unary_rule
type-others (V.Object n) h = absurd (h n refl)
type-others V.Undefined h = refl
type-others V.Null h = refl
type-others (V.Truth b) h = refl
type-others (V.Whole z) h = refl
type-others (V.Text t) h = refl
type-others (V.Outside n) h = refl

-- ---- operands, where their number is known

pub one-operand : (xs : List Value) (v : Value) → 1 ≤ length xs → length xs < 2 → v ≡ get_or xs 0 v → xs ≡ v ∷ []
one-operand [] v h k e = absurd (omega arith)
one-operand (x ∷ []) v h k e = ap (λ (y : Value). y ∷ []) (sym e)
one-operand (x ∷ y ∷ xs) v h k e = absurd (omega arith)

pub two-operands : (xs : List Value) (v w : Value) → 2 ≤ length xs → length xs < 3 → v ≡ get_or xs 0 v → w ≡ get_or xs 1 w → xs ≡ v ∷ w ∷ []
two-operands [] v w h k e f = absurd (omega arith)
two-operands (x ∷ []) v w h k e f = absurd (omega arith)
two-operands (x ∷ y ∷ []) v w h k e f = (λ i. sym e i ∷ sym f i ∷ [])
two-operands (x ∷ y ∷ z ∷ xs) v w h k e f = absurd (omega arith)

-- any other number of operands breaks rule 2
pub not_unary : (T : Tables) (s : State) (op : UnOp) (xs : List Value) → (1 ≤ length xs → length xs < 2 → ⊥) → Some 2 ≡ operate_rule T s (unary_op op) (map value_of xs)
unfolding operate_rule
not_unary T s op [] h = refl
not_unary T s op (x ∷ []) h = absurd (h (omega arith) (omega arith))
not_unary T s op (x ∷ y ∷ xs) h = refl

pub not_binary : (T : Tables) (s : State) (op : BinOp) (xs : List Value) → (2 ≤ length xs → length xs < 3 → ⊥) → Some 2 ≡ operate_rule T s (binary_op op) (map value_of xs)
unfolding operate_rule
not_binary T s op [] h = refl
not_binary T s op (x ∷ []) h = refl
not_binary T s op (x ∷ y ∷ []) h = absurd (h (omega arith) (omega arith))
not_binary T s op (x ∷ y ∷ z ∷ xs) h = refl
