-- Operators give primitive values, and of tied operands the same ones.
use Rattle.std.proofs.Common.{◌≡◌, refl, ℕ, zero, suc, ◌*◌, ◌/◌, ◌%◌, Bool, true, false, Option, Some, None, subst}
use Rattle.std.specs.Prelude.{ℤ, pos, negsuc, ◌+ℤ◌, ◌-ℤ◌, unsigned_abs, nat_eq, not, if◌then◌else◌}
use Rattle.std.specs.Int.{is_negative}
use Rattle.cc_ast.specs.Syntax.{Prim, whole, text}
use Rattle.cc_ast.specs.declared.operator.BinOp.{BinOp}
use Rattle.cc_ast.specs.declared.operator.BinOp.TheVariants.{Add, Sub, Mul, Div, Rem, BitAnd, BitXor, BitOr, Shl, Shr, UShr, Less, Greater, LessEq, GreaterEq, NotEqual, Strict, NotStrict, Instance, Has}
use Rattle.cc_ast.specs.declared.operator.BinOp.TheVariants as B
use Rattle.cc_ast.specs.declared.operator.UnOp.{UnOp}
use Rattle.cc_ast.specs.declared.operator.UnOp.TheVariants.{Minus, Plus, BitNot, Not, Void, Typeof}
use Rattle.cc_meaning.specs.Values.{Val, prim}
use Rattle.cc_meaning.specs.Operators.{Outcome, gives, breaks, is_exact, signs_differ, number, with_sign, divide_sizes, rest_of_sizes, from_bits32, whole_binary, on_wholes, answer_of, answer_not, add_prims, prim_binary, object_binary, unlike_objects, prim_with_object, binary_of, whole_unary, on_whole, prim_unary, object_unary, unary_of, strict_equal, key_text}
use Rattle.cc_meaning.specs.Acts.{is_whole}
use Rattle.cc_tied.specs.Tied.{ValT, prim_t, out_t, obj_t}

-- one outcome, which isn't an object
pub data OutcomeT : Outcome → Outcome → Type 0 where
  gives_t : {p : Prim} → OutcomeT (gives (prim p)) (gives (prim p))
  breaks_t : {r : ℕ} → OutcomeT (breaks r) (breaks r)

one_of : (b : Bool) {o o' : Outcome} → OutcomeT o o → OutcomeT o' o' → OutcomeT (if b then o else o') (if b then o else o')
one_of true h k = h
one_of false h k = k

number_made : (z : ℤ) → OutcomeT (number z) (number z)
unfolding number
number_made z = one_of (is_exact z) gives_t breaks_t

with_sign_made : (minus : Bool) (n : ℕ) → OutcomeT (with_sign minus n) (with_sign minus n)
unfolding with_sign
with_sign_made false n = number_made (pos n)
with_sign_made true zero = breaks_t
with_sign_made true (suc n) = number_made (negsuc n)

divide_sizes_made : (minus : Bool) (m n : ℕ) → OutcomeT (divide_sizes minus m n) (divide_sizes minus m n)
unfolding divide_sizes
divide_sizes_made minus m zero = breaks_t
divide_sizes_made minus m (suc d) = one_of (nat_eq (m % suc d) 0) (with_sign_made minus (m / suc d)) breaks_t

rest_of_sizes_made : (minus : Bool) (m n : ℕ) → OutcomeT (rest_of_sizes minus m n) (rest_of_sizes minus m n)
unfolding rest_of_sizes
rest_of_sizes_made minus m zero = breaks_t
rest_of_sizes_made minus m (suc d) = with_sign_made minus (m % suc d)

whole_binary_made : (op : BinOp) (a b : ℤ) → OutcomeT (whole_binary op a b) (whole_binary op a b)
unfolding whole_binary from_bits32
whole_binary_made Sub a b = number_made (a -ℤ b)
whole_binary_made Mul a b = with_sign_made (signs_differ a b) (unsigned_abs a * unsigned_abs b)
whole_binary_made Div a b = divide_sizes_made (signs_differ a b) (unsigned_abs a) (unsigned_abs b)
whole_binary_made Rem a b = rest_of_sizes_made (is_negative a) (unsigned_abs a) (unsigned_abs b)
whole_binary_made BitAnd a b = gives_t
whole_binary_made BitXor a b = gives_t
whole_binary_made BitOr a b = gives_t
whole_binary_made Shl a b = gives_t
whole_binary_made Shr a b = gives_t
whole_binary_made UShr a b = gives_t
whole_binary_made _ a b = breaks_t

on_wholes_made : (op : BinOp) (p q : Prim) → OutcomeT (on_wholes op p q) (on_wholes op p q)
unfolding on_wholes
on_wholes_made op (whole a) (whole b) = whole_binary_made op a b
on_wholes_made op _ _ = breaks_t

answer_of_made : (b : Option Bool) → OutcomeT (answer_of b) (answer_of b)
unfolding answer_of
answer_of_made (Some b) = gives_t
answer_of_made None = breaks_t

answer_not_made : (b : Option Bool) → OutcomeT (answer_not b) (answer_not b)
unfolding answer_not
answer_not_made (Some b) = gives_t
answer_not_made None = breaks_t

add_prims_made : (p q : Prim) → OutcomeT (add_prims p q) (add_prims p q)
unfolding add_prims
add_prims_made (whole a) (whole b) = number_made (a +ℤ b)
add_prims_made (text s) q = gives_t
add_prims_made p (text t) = gives_t
add_prims_made _ _ = breaks_t

prim_binary_made : (op : BinOp) (p q : Prim) → OutcomeT (prim_binary op p q) (prim_binary op p q)
unfolding prim_binary
prim_binary_made Add p q = add_prims_made p q
prim_binary_made Less p q = answer_of_made _
prim_binary_made Greater p q = answer_of_made _
prim_binary_made LessEq p q = answer_not_made _
prim_binary_made GreaterEq p q = answer_not_made _
prim_binary_made B.Equal p q = answer_of_made _
prim_binary_made NotEqual p q = answer_not_made _
prim_binary_made Strict p q = gives_t
prim_binary_made NotStrict p q = gives_t
prim_binary_made op p q = on_wholes_made op p q

object_binary_made : (op : BinOp) (same same' : Bool) → same ≡ same' → OutcomeT (object_binary op same) (object_binary op same')
unfolding object_binary
object_binary_made op same same' e = subst (λ b. OutcomeT (object_binary op same) (object_binary op b)) e (made op same)
  where
    made : (op : BinOp) (same : Bool) → OutcomeT (object_binary op same) (object_binary op same)
    made B.Equal same = gives_t
    made NotEqual same = gives_t
    made Strict same = gives_t
    made NotStrict same = gives_t
    made _ same = breaks_t

unlike_objects_made : (op : BinOp) → OutcomeT (unlike_objects op) (unlike_objects op)
unfolding unlike_objects
unlike_objects_made Strict = gives_t
unlike_objects_made NotStrict = gives_t
unlike_objects_made _ = breaks_t

prim_with_object_made : (op : BinOp) (p : Prim) → OutcomeT (prim_with_object op p) (prim_with_object op p)
unfolding prim_with_object
prim_with_object_made B.Equal p = answer_of_made _
prim_with_object_made NotEqual p = answer_not_made _
prim_with_object_made Strict p = gives_t
prim_with_object_made NotStrict p = gives_t
prim_with_object_made _ p = breaks_t

whole_unary_made : (op : UnOp) (a : ℤ) → OutcomeT (whole_unary op a) (whole_unary op a)
unfolding whole_unary from_bits32
whole_unary_made Minus a = with_sign_made (not (is_negative a)) (unsigned_abs a)
whole_unary_made Plus a = gives_t
whole_unary_made BitNot a = gives_t
whole_unary_made _ a = breaks_t

on_whole_made : (op : UnOp) (p : Prim) → OutcomeT (on_whole op p) (on_whole op p)
unfolding on_whole
on_whole_made op (whole a) = whole_unary_made op a
on_whole_made op _ = breaks_t

prim_unary_made : (op : UnOp) (p : Prim) → OutcomeT (prim_unary op p) (prim_unary op p)
unfolding prim_unary
prim_unary_made Not p = gives_t
prim_unary_made Void p = gives_t
prim_unary_made Typeof p = gives_t
prim_unary_made op p = on_whole_made op p

object_unary_made : (op : UnOp) → OutcomeT (object_unary op) (object_unary op)
unfolding object_unary
object_unary_made Not = gives_t
object_unary_made Void = gives_t
object_unary_made _ = breaks_t

module _ (O : ℕ → ℕ → Type 0) where
  -- where `===` tells the same of both pairs
  pub binary_tied : (op : BinOp) {a b x y : Val} → ValT O a b → ValT O x y → strict_equal a x ≡ strict_equal b y → OutcomeT (binary_of op a x) (binary_of op b y)
  unfolding binary_of strict_equal
  binary_tied op (prim_t {p = p}) (prim_t {p = q}) e = prim_binary_made op p q
  binary_tied op (prim_t {p = p}) out_t e = prim_with_object_made op p
  binary_tied op (prim_t {p = p}) (obj_t h) e = prim_with_object_made op p
  binary_tied op out_t (prim_t {p = q}) e = prim_with_object_made op q
  binary_tied op out_t out_t e = object_binary_made op _ _ e
  binary_tied op out_t (obj_t h) e = unlike_objects_made op
  binary_tied op (obj_t h) (prim_t {p = q}) e = prim_with_object_made op q
  binary_tied op (obj_t h) out_t e = unlike_objects_made op
  binary_tied op (obj_t h) (obj_t k) e = object_binary_made op _ _ e

  pub unary_tied : (op : UnOp) {a b : Val} → ValT O a b → OutcomeT (unary_of op a) (unary_of op b)
  unfolding unary_of
  unary_tied op (prim_t {p = p}) = prim_unary_made op p
  unary_tied op out_t = object_unary_made op
  unary_tied op (obj_t h) = object_unary_made op

  pub is_whole_tied : {a b : Val} → ValT O a b → is_whole a ≡ is_whole b
  unfolding is_whole
  is_whole_tied (prim_t {p = p}) = refl
  is_whole_tied out_t = refl
  is_whole_tied (obj_t h) = refl

  pub key_text_tied : {a b : Val} → ValT O a b → key_text a ≡ key_text b
  unfolding key_text
  key_text_tied (prim_t {p = p}) = refl
  key_text_tied out_t = refl
  key_text_tied (obj_t h) = refl
