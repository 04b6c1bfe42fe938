-- Joined texts, numbers and unary operators at values of each kind.
use Rattle.std.proofs.Common.{◌≡◌, ℕ, ◌+ℤ◌, ℤ, true, false, not, List, ◌++◌, inl, inr, sym, ◌⊎◌, Option, Some, None, is_none, Err, refl, ap, ◌∙◌}
use Rattle.cc_ast.specs.Syntax.{undefined, whole, text}
use Rattle.cc_ast.specs.declared.operator.BinOp.{BinOp}
use Rattle.cc_ast.specs.declared.operator.BinOp.TheVariants.{Add, Sub, Mul, Div, Rem, BitAnd, BitXor, BitOr, Shl, Shr, UShr, Less, Greater, LessEq, GreaterEq, Equal, NotEqual, Strict, NotStrict, Instance, Has}
use Rattle.cc_meaning.specs.Values.{Val, prim, obj, out}
use Rattle.cc_meaning.specs.Operators.{gives, breaks, number, binary_of, answer, on_wholes, whole_binary, on_whole, whole_unary, unary_of, truthy}
use Rattle.cc_ast.specs.declared.operator.UnOp.{UnOp}
use Rattle.cc_ast.specs.declared.operator.UnOp.TheVariants.{Minus, Plus, BitNot, Not, Void, Typeof, Delete}
use Rattle.cc_value.specs.declared.value.Value.{Value}
use Rattle.cc_value.specs.declared.value.Value.TheVariants as V
use Rattle.cc_value.specs.Bridge.{value_of, joined_of, wholes_of, whole_of, type_of, Appends, Answers}
use Rattle.cc_value.specs.declared.value.OpFault.{OpFault}
use Rattle.cc_value.specs.declared.value.OpFault.TheVariants.{Rule1, Rule2, Memory}

-- ---- joined texts

pub joined_objects : (o p : Option (List ℕ)) → (is_none o ≡ true) ⊎ (is_none p ≡ true) → joined_of o p ≡ breaks 2
joined_objects None p h = refl
joined_objects (Some s) None h = refl
joined_objects (Some s) (Some t) (inl h) = cc
joined_objects (Some s) (Some t) (inr h) = cc

pub joined_first : (o p : Option (List ℕ)) (e : OpFault) (old new : List ℕ) → is_none o ≡ false → is_none p ≡ false → Appends old new o (Err e) → Answers (Err e) (joined_of o p)
joined_first None p e old new h k a = cc
joined_first (Some s) None e old new h k a = cc
joined_first (Some s) (Some t) Rule1 old new h k a = absurd a
joined_first (Some s) (Some t) Rule2 old new h k a = cc
joined_first (Some s) (Some t) Memory old new h k a = (s ++ t, refl)

pub joined_second : (o p : Option (List ℕ)) (e : OpFault) (old new : List ℕ) → is_none o ≡ false → is_none p ≡ false → Appends old new p (Err e) → Answers (Err e) (joined_of o p)
joined_second None p e old new h k a = cc
joined_second (Some s) None e old new h k a = cc
joined_second (Some s) (Some t) Rule1 old new h k a = absurd a
joined_second (Some s) (Some t) Rule2 old new h k a = cc
joined_second (Some s) (Some t) Memory old new h k a = (s ++ t, refl)

pub joined_both : (o p : Option (List ℕ)) (s t list : List ℕ) → o ≡ Some s → p ≡ Some t → list ≡ s ++ t → joined_of o p ≡ gives (prim (text list))
joined_both o p s t list e f is = rw (e, f, is) refl

pub add-wholes : (x y : ℤ) → number (x +ℤ y) ≡ binary_of Add (prim (whole x)) (prim (whole y))
unfolding binary_of
add-wholes x y = refl

-- ---- operators of whole numbers alone

pub wholes-both : (op : BinOp) (u v : Value) (x y : ℤ) → u ≡ V.Whole x → v ≡ V.Whole y → wholes_of op (value_of u) (value_of v) ≡ whole_binary op x y
unfolding on_wholes
wholes-both op u v x y e f = ap (λ (z : Value). wholes_of op (value_of z) (value_of v)) e ∙ ap (λ (z : Value). wholes_of op (prim (whole x)) (value_of z)) f

pub wholes-left : (op : BinOp) (u v : Value) → ((z : ℤ) → u ≡ V.Whole z → ⊥) → wholes_of op (value_of u) (value_of v) ≡ breaks 2
unfolding on_wholes
wholes-left op V.Undefined V.Undefined h = refl
wholes-left op V.Undefined V.Null h = refl
wholes-left op V.Undefined (V.Truth b1) h = refl
wholes-left op V.Undefined (V.Whole z1) h = refl
wholes-left op V.Undefined (V.Text t1) h = refl
wholes-left op V.Undefined (V.Object n1) h = refl
wholes-left op V.Undefined (V.Outside n1) h = refl
wholes-left op V.Null V.Undefined h = refl
wholes-left op V.Null V.Null h = refl
wholes-left op V.Null (V.Truth b1) h = refl
wholes-left op V.Null (V.Whole z1) h = refl
wholes-left op V.Null (V.Text t1) h = refl
wholes-left op V.Null (V.Object n1) h = refl
wholes-left op V.Null (V.Outside n1) h = refl
wholes-left op (V.Truth b) V.Undefined h = refl
wholes-left op (V.Truth b) V.Null h = refl
wholes-left op (V.Truth b) (V.Truth b1) h = refl
wholes-left op (V.Truth b) (V.Whole z1) h = refl
wholes-left op (V.Truth b) (V.Text t1) h = refl
wholes-left op (V.Truth b) (V.Object n1) h = refl
wholes-left op (V.Truth b) (V.Outside n1) h = refl
wholes-left op (V.Whole z) v h = absurd (h z refl)
wholes-left op (V.Text t) V.Undefined h = refl
wholes-left op (V.Text t) V.Null h = refl
wholes-left op (V.Text t) (V.Truth b1) h = refl
wholes-left op (V.Text t) (V.Whole z1) h = refl
wholes-left op (V.Text t) (V.Text t1) h = refl
wholes-left op (V.Text t) (V.Object n1) h = refl
wholes-left op (V.Text t) (V.Outside n1) h = refl
wholes-left op (V.Object n) v h = refl
wholes-left op (V.Outside n) v h = refl

pub wholes-right : (op : BinOp) (u v : Value) → ((z : ℤ) → v ≡ V.Whole z → ⊥) → wholes_of op (value_of u) (value_of v) ≡ breaks 2
unfolding on_wholes
wholes-right op V.Undefined V.Undefined h = refl
wholes-right op V.Undefined V.Null h = refl
wholes-right op V.Undefined (V.Truth b1) h = refl
wholes-right op V.Undefined (V.Whole z1) h = absurd (h z1 refl)
wholes-right op V.Undefined (V.Text t1) h = refl
wholes-right op V.Undefined (V.Object n1) h = refl
wholes-right op V.Undefined (V.Outside n1) h = refl
wholes-right op V.Null V.Undefined h = refl
wholes-right op V.Null V.Null h = refl
wholes-right op V.Null (V.Truth b1) h = refl
wholes-right op V.Null (V.Whole z1) h = absurd (h z1 refl)
wholes-right op V.Null (V.Text t1) h = refl
wholes-right op V.Null (V.Object n1) h = refl
wholes-right op V.Null (V.Outside n1) h = refl
wholes-right op (V.Truth b) V.Undefined h = refl
wholes-right op (V.Truth b) V.Null h = refl
wholes-right op (V.Truth b) (V.Truth b1) h = refl
wholes-right op (V.Truth b) (V.Whole z1) h = absurd (h z1 refl)
wholes-right op (V.Truth b) (V.Text t1) h = refl
wholes-right op (V.Truth b) (V.Object n1) h = refl
wholes-right op (V.Truth b) (V.Outside n1) h = refl
wholes-right op (V.Whole z) V.Undefined h = refl
wholes-right op (V.Whole z) V.Null h = refl
wholes-right op (V.Whole z) (V.Truth b1) h = refl
wholes-right op (V.Whole z) (V.Whole z1) h = absurd (h z1 refl)
wholes-right op (V.Whole z) (V.Text t1) h = refl
wholes-right op (V.Whole z) (V.Object n1) h = refl
wholes-right op (V.Whole z) (V.Outside n1) h = refl
wholes-right op (V.Text t) V.Undefined h = refl
wholes-right op (V.Text t) V.Null h = refl
wholes-right op (V.Text t) (V.Truth b1) h = refl
wholes-right op (V.Text t) (V.Whole z1) h = absurd (h z1 refl)
wholes-right op (V.Text t) (V.Text t1) h = refl
wholes-right op (V.Text t) (V.Object n1) h = refl
wholes-right op (V.Text t) (V.Outside n1) h = refl
wholes-right op (V.Object n) v h = refl
wholes-right op (V.Outside n) v h = refl

pub by-others : (op : BinOp) (x y : Val) → (op ≡ Add → ⊥) → (op ≡ Less → ⊥) → (op ≡ Greater → ⊥) → (op ≡ LessEq → ⊥) → (op ≡ GreaterEq → ⊥) → (op ≡ Equal → ⊥) → (op ≡ NotEqual → ⊥) → (op ≡ Strict → ⊥) → (op ≡ NotStrict → ⊥) → wholes_of op x y ≡ binary_of op x y
unfolding binary_of
by-others Add x y h1 h2 h3 h4 h5 h6 h7 h8 h9 = absurd (h1 refl)
by-others Less x y h1 h2 h3 h4 h5 h6 h7 h8 h9 = absurd (h2 refl)
by-others Greater x y h1 h2 h3 h4 h5 h6 h7 h8 h9 = absurd (h3 refl)
by-others LessEq x y h1 h2 h3 h4 h5 h6 h7 h8 h9 = absurd (h4 refl)
by-others GreaterEq x y h1 h2 h3 h4 h5 h6 h7 h8 h9 = absurd (h5 refl)
by-others Equal x y h1 h2 h3 h4 h5 h6 h7 h8 h9 = absurd (h6 refl)
by-others NotEqual x y h1 h2 h3 h4 h5 h6 h7 h8 h9 = absurd (h7 refl)
by-others Strict x y h1 h2 h3 h4 h5 h6 h7 h8 h9 = absurd (h8 refl)
by-others NotStrict x y h1 h2 h3 h4 h5 h6 h7 h8 h9 = absurd (h9 refl)
by-others Sub (prim p) (prim q) h1 h2 h3 h4 h5 h6 h7 h8 h9 = refl
by-others Sub (prim p) (obj n) h1 h2 h3 h4 h5 h6 h7 h8 h9 = refl
by-others Sub (prim p) (out n) h1 h2 h3 h4 h5 h6 h7 h8 h9 = refl
by-others Sub (obj m) (prim q) h1 h2 h3 h4 h5 h6 h7 h8 h9 = refl
by-others Sub (obj m) (obj n) h1 h2 h3 h4 h5 h6 h7 h8 h9 = refl
by-others Sub (obj m) (out n) h1 h2 h3 h4 h5 h6 h7 h8 h9 = refl
by-others Sub (out m) (prim q) h1 h2 h3 h4 h5 h6 h7 h8 h9 = refl
by-others Sub (out m) (obj n) h1 h2 h3 h4 h5 h6 h7 h8 h9 = refl
by-others Sub (out m) (out n) h1 h2 h3 h4 h5 h6 h7 h8 h9 = refl
by-others Mul (prim p) (prim q) h1 h2 h3 h4 h5 h6 h7 h8 h9 = refl
by-others Mul (prim p) (obj n) h1 h2 h3 h4 h5 h6 h7 h8 h9 = refl
by-others Mul (prim p) (out n) h1 h2 h3 h4 h5 h6 h7 h8 h9 = refl
by-others Mul (obj m) (prim q) h1 h2 h3 h4 h5 h6 h7 h8 h9 = refl
by-others Mul (obj m) (obj n) h1 h2 h3 h4 h5 h6 h7 h8 h9 = refl
by-others Mul (obj m) (out n) h1 h2 h3 h4 h5 h6 h7 h8 h9 = refl
by-others Mul (out m) (prim q) h1 h2 h3 h4 h5 h6 h7 h8 h9 = refl
by-others Mul (out m) (obj n) h1 h2 h3 h4 h5 h6 h7 h8 h9 = refl
by-others Mul (out m) (out n) h1 h2 h3 h4 h5 h6 h7 h8 h9 = refl
by-others Div (prim p) (prim q) h1 h2 h3 h4 h5 h6 h7 h8 h9 = refl
by-others Div (prim p) (obj n) h1 h2 h3 h4 h5 h6 h7 h8 h9 = refl
by-others Div (prim p) (out n) h1 h2 h3 h4 h5 h6 h7 h8 h9 = refl
by-others Div (obj m) (prim q) h1 h2 h3 h4 h5 h6 h7 h8 h9 = refl
by-others Div (obj m) (obj n) h1 h2 h3 h4 h5 h6 h7 h8 h9 = refl
by-others Div (obj m) (out n) h1 h2 h3 h4 h5 h6 h7 h8 h9 = refl
by-others Div (out m) (prim q) h1 h2 h3 h4 h5 h6 h7 h8 h9 = refl
by-others Div (out m) (obj n) h1 h2 h3 h4 h5 h6 h7 h8 h9 = refl
by-others Div (out m) (out n) h1 h2 h3 h4 h5 h6 h7 h8 h9 = refl
by-others Rem (prim p) (prim q) h1 h2 h3 h4 h5 h6 h7 h8 h9 = refl
by-others Rem (prim p) (obj n) h1 h2 h3 h4 h5 h6 h7 h8 h9 = refl
by-others Rem (prim p) (out n) h1 h2 h3 h4 h5 h6 h7 h8 h9 = refl
by-others Rem (obj m) (prim q) h1 h2 h3 h4 h5 h6 h7 h8 h9 = refl
by-others Rem (obj m) (obj n) h1 h2 h3 h4 h5 h6 h7 h8 h9 = refl
by-others Rem (obj m) (out n) h1 h2 h3 h4 h5 h6 h7 h8 h9 = refl
by-others Rem (out m) (prim q) h1 h2 h3 h4 h5 h6 h7 h8 h9 = refl
by-others Rem (out m) (obj n) h1 h2 h3 h4 h5 h6 h7 h8 h9 = refl
by-others Rem (out m) (out n) h1 h2 h3 h4 h5 h6 h7 h8 h9 = refl
by-others BitAnd (prim p) (prim q) h1 h2 h3 h4 h5 h6 h7 h8 h9 = refl
by-others BitAnd (prim p) (obj n) h1 h2 h3 h4 h5 h6 h7 h8 h9 = refl
by-others BitAnd (prim p) (out n) h1 h2 h3 h4 h5 h6 h7 h8 h9 = refl
by-others BitAnd (obj m) (prim q) h1 h2 h3 h4 h5 h6 h7 h8 h9 = refl
by-others BitAnd (obj m) (obj n) h1 h2 h3 h4 h5 h6 h7 h8 h9 = refl
by-others BitAnd (obj m) (out n) h1 h2 h3 h4 h5 h6 h7 h8 h9 = refl
by-others BitAnd (out m) (prim q) h1 h2 h3 h4 h5 h6 h7 h8 h9 = refl
by-others BitAnd (out m) (obj n) h1 h2 h3 h4 h5 h6 h7 h8 h9 = refl
by-others BitAnd (out m) (out n) h1 h2 h3 h4 h5 h6 h7 h8 h9 = refl
by-others BitXor (prim p) (prim q) h1 h2 h3 h4 h5 h6 h7 h8 h9 = refl
by-others BitXor (prim p) (obj n) h1 h2 h3 h4 h5 h6 h7 h8 h9 = refl
by-others BitXor (prim p) (out n) h1 h2 h3 h4 h5 h6 h7 h8 h9 = refl
by-others BitXor (obj m) (prim q) h1 h2 h3 h4 h5 h6 h7 h8 h9 = refl
by-others BitXor (obj m) (obj n) h1 h2 h3 h4 h5 h6 h7 h8 h9 = refl
by-others BitXor (obj m) (out n) h1 h2 h3 h4 h5 h6 h7 h8 h9 = refl
by-others BitXor (out m) (prim q) h1 h2 h3 h4 h5 h6 h7 h8 h9 = refl
by-others BitXor (out m) (obj n) h1 h2 h3 h4 h5 h6 h7 h8 h9 = refl
by-others BitXor (out m) (out n) h1 h2 h3 h4 h5 h6 h7 h8 h9 = refl
by-others BitOr (prim p) (prim q) h1 h2 h3 h4 h5 h6 h7 h8 h9 = refl
by-others BitOr (prim p) (obj n) h1 h2 h3 h4 h5 h6 h7 h8 h9 = refl
by-others BitOr (prim p) (out n) h1 h2 h3 h4 h5 h6 h7 h8 h9 = refl
by-others BitOr (obj m) (prim q) h1 h2 h3 h4 h5 h6 h7 h8 h9 = refl
by-others BitOr (obj m) (obj n) h1 h2 h3 h4 h5 h6 h7 h8 h9 = refl
by-others BitOr (obj m) (out n) h1 h2 h3 h4 h5 h6 h7 h8 h9 = refl
by-others BitOr (out m) (prim q) h1 h2 h3 h4 h5 h6 h7 h8 h9 = refl
by-others BitOr (out m) (obj n) h1 h2 h3 h4 h5 h6 h7 h8 h9 = refl
by-others BitOr (out m) (out n) h1 h2 h3 h4 h5 h6 h7 h8 h9 = refl
by-others Shl (prim p) (prim q) h1 h2 h3 h4 h5 h6 h7 h8 h9 = refl
by-others Shl (prim p) (obj n) h1 h2 h3 h4 h5 h6 h7 h8 h9 = refl
by-others Shl (prim p) (out n) h1 h2 h3 h4 h5 h6 h7 h8 h9 = refl
by-others Shl (obj m) (prim q) h1 h2 h3 h4 h5 h6 h7 h8 h9 = refl
by-others Shl (obj m) (obj n) h1 h2 h3 h4 h5 h6 h7 h8 h9 = refl
by-others Shl (obj m) (out n) h1 h2 h3 h4 h5 h6 h7 h8 h9 = refl
by-others Shl (out m) (prim q) h1 h2 h3 h4 h5 h6 h7 h8 h9 = refl
by-others Shl (out m) (obj n) h1 h2 h3 h4 h5 h6 h7 h8 h9 = refl
by-others Shl (out m) (out n) h1 h2 h3 h4 h5 h6 h7 h8 h9 = refl
by-others Shr (prim p) (prim q) h1 h2 h3 h4 h5 h6 h7 h8 h9 = refl
by-others Shr (prim p) (obj n) h1 h2 h3 h4 h5 h6 h7 h8 h9 = refl
by-others Shr (prim p) (out n) h1 h2 h3 h4 h5 h6 h7 h8 h9 = refl
by-others Shr (obj m) (prim q) h1 h2 h3 h4 h5 h6 h7 h8 h9 = refl
by-others Shr (obj m) (obj n) h1 h2 h3 h4 h5 h6 h7 h8 h9 = refl
by-others Shr (obj m) (out n) h1 h2 h3 h4 h5 h6 h7 h8 h9 = refl
by-others Shr (out m) (prim q) h1 h2 h3 h4 h5 h6 h7 h8 h9 = refl
by-others Shr (out m) (obj n) h1 h2 h3 h4 h5 h6 h7 h8 h9 = refl
by-others Shr (out m) (out n) h1 h2 h3 h4 h5 h6 h7 h8 h9 = refl
by-others UShr (prim p) (prim q) h1 h2 h3 h4 h5 h6 h7 h8 h9 = refl
by-others UShr (prim p) (obj n) h1 h2 h3 h4 h5 h6 h7 h8 h9 = refl
by-others UShr (prim p) (out n) h1 h2 h3 h4 h5 h6 h7 h8 h9 = refl
by-others UShr (obj m) (prim q) h1 h2 h3 h4 h5 h6 h7 h8 h9 = refl
by-others UShr (obj m) (obj n) h1 h2 h3 h4 h5 h6 h7 h8 h9 = refl
by-others UShr (obj m) (out n) h1 h2 h3 h4 h5 h6 h7 h8 h9 = refl
by-others UShr (out m) (prim q) h1 h2 h3 h4 h5 h6 h7 h8 h9 = refl
by-others UShr (out m) (obj n) h1 h2 h3 h4 h5 h6 h7 h8 h9 = refl
by-others UShr (out m) (out n) h1 h2 h3 h4 h5 h6 h7 h8 h9 = refl
by-others Instance (prim p) (prim q) h1 h2 h3 h4 h5 h6 h7 h8 h9 = refl
by-others Instance (prim p) (obj n) h1 h2 h3 h4 h5 h6 h7 h8 h9 = refl
by-others Instance (prim p) (out n) h1 h2 h3 h4 h5 h6 h7 h8 h9 = refl
by-others Instance (obj m) (prim q) h1 h2 h3 h4 h5 h6 h7 h8 h9 = refl
by-others Instance (obj m) (obj n) h1 h2 h3 h4 h5 h6 h7 h8 h9 = refl
by-others Instance (obj m) (out n) h1 h2 h3 h4 h5 h6 h7 h8 h9 = refl
by-others Instance (out m) (prim q) h1 h2 h3 h4 h5 h6 h7 h8 h9 = refl
by-others Instance (out m) (obj n) h1 h2 h3 h4 h5 h6 h7 h8 h9 = refl
by-others Instance (out m) (out n) h1 h2 h3 h4 h5 h6 h7 h8 h9 = refl
by-others Has (prim p) (prim q) h1 h2 h3 h4 h5 h6 h7 h8 h9 = refl
by-others Has (prim p) (obj n) h1 h2 h3 h4 h5 h6 h7 h8 h9 = refl
by-others Has (prim p) (out n) h1 h2 h3 h4 h5 h6 h7 h8 h9 = refl
by-others Has (obj m) (prim q) h1 h2 h3 h4 h5 h6 h7 h8 h9 = refl
by-others Has (obj m) (obj n) h1 h2 h3 h4 h5 h6 h7 h8 h9 = refl
by-others Has (obj m) (out n) h1 h2 h3 h4 h5 h6 h7 h8 h9 = refl
by-others Has (out m) (prim q) h1 h2 h3 h4 h5 h6 h7 h8 h9 = refl
by-others Has (out m) (obj n) h1 h2 h3 h4 h5 h6 h7 h8 h9 = refl
by-others Has (out m) (out n) h1 h2 h3 h4 h5 h6 h7 h8 h9 = refl

-- ---- unary operators

pub whole-other : (op : UnOp) (u : Value) → ((z : ℤ) → u ≡ V.Whole z → ⊥) → whole_of op (value_of u) ≡ breaks 2
unfolding on_whole
whole-other op V.Undefined h = refl
whole-other op V.Null h = refl
whole-other op (V.Truth b) h = refl
whole-other op (V.Whole z) h = absurd (h z refl)
whole-other op (V.Text t) h = refl
whole-other op (V.Object n) h = refl
whole-other op (V.Outside n) h = refl

pub whole-same : (op : UnOp) (u : Value) (z : ℤ) → u ≡ V.Whole z → whole_unary op z ≡ whole_of op (value_of u)
unfolding on_whole
whole-same op u z e = ap (λ (v : Value). whole_of op (value_of v)) (sym e)

pub by-Not : (x : Val) → unary_of Not x ≡ answer (not (truthy x))
unfolding unary_of truthy
by-Not (prim p) = refl
by-Not (obj n) = refl
by-Not (out n) = refl

pub by-Void : (x : Val) → unary_of Void x ≡ gives (prim undefined)
unfolding unary_of
by-Void (prim p) = refl
by-Void (obj n) = refl
by-Void (out n) = refl

pub by-Typeof : (x : Val) → unary_of Typeof x ≡ type_of x
unfolding unary_of
by-Typeof (prim p) = refl
by-Typeof (obj n) = refl
by-Typeof (out n) = refl

pub by-signs : (op : UnOp) (x : Val) → (op ≡ Not → ⊥) → (op ≡ Void → ⊥) → (op ≡ Typeof → ⊥) → whole_of op x ≡ unary_of op x
unfolding unary_of
by-signs Not x h1 h2 h3 = absurd (h1 refl)
by-signs Void x h1 h2 h3 = absurd (h2 refl)
by-signs Typeof x h1 h2 h3 = absurd (h3 refl)
by-signs Minus (prim p) h1 h2 h3 = refl
by-signs Minus (obj m) h1 h2 h3 = refl
by-signs Minus (out m) h1 h2 h3 = refl
by-signs Plus (prim p) h1 h2 h3 = refl
by-signs Plus (obj m) h1 h2 h3 = refl
by-signs Plus (out m) h1 h2 h3 = refl
by-signs BitNot (prim p) h1 h2 h3 = refl
by-signs BitNot (obj m) h1 h2 h3 = refl
by-signs BitNot (out m) h1 h2 h3 = refl
by-signs Delete (prim p) h1 h2 h3 = refl
by-signs Delete (obj m) h1 h2 h3 = refl
by-signs Delete (out m) h1 h2 h3 = refl
