-- Operators at values of each kind beside those of the others.
use Rattle.std.proofs.Common.{◌≡◌, ℕ, zero, suc, ◌-◌, ℤ, pos, negsuc, Bool, false, not, eqb, List, [], ◌∷◌, length, FitsSigned, inl, inr, sym, arith, Some, None, if◌then◌else◌, refl, ap, ◌∙◌}
use Rattle.std.specs.Int.{w64, cast_unsigned}
use Rattle.std.proofs.lemmas.Bool.{cases_eq, eq-eqb, ne_eqb}
use Rattle.cc_ast.specs.Syntax.{whole, text}
use Rattle.cc_ast.specs.declared.operator.BinOp.TheVariants.{Add, Less, Greater, LessEq, GreaterEq, Equal, NotEqual, Strict, NotStrict}
use Rattle.cc_meaning.specs.Values.{Val, prim, obj, out}
use Rattle.cc_meaning.specs.Operators.{breaks, binary_of, strict_equal, equal_prims, equal_object, prim_less, answer_of, answer_not, answer, whole_eq, truthy_prim}
use Rattle.cc_value.specs.declared.value.Value.{Value}
use Rattle.cc_value.specs.declared.value.Value.TheVariants as V
use Rattle.cc_value.specs.Bridge.{value_of, less_of, equal_of, nothing_of, text_of, joined_of}

pub same-Undefined : (v : Value) → (v ≡ V.Undefined → ⊥) → strict_equal (value_of V.Undefined) (value_of v) ≡ false
unfolding strict_equal
same-Undefined V.Undefined h = absurd (h refl)
same-Undefined V.Null h = refl
same-Undefined (V.Truth b) h = refl
same-Undefined (V.Whole z) h = refl
same-Undefined (V.Text t) h = refl
same-Undefined (V.Object n) h = refl
same-Undefined (V.Outside n) h = refl

pub same-Null : (v : Value) → (v ≡ V.Null → ⊥) → strict_equal (value_of V.Null) (value_of v) ≡ false
unfolding strict_equal
same-Null V.Undefined h = refl
same-Null V.Null h = absurd (h refl)
same-Null (V.Truth b) h = refl
same-Null (V.Whole z) h = refl
same-Null (V.Text t) h = refl
same-Null (V.Object n) h = refl
same-Null (V.Outside n) h = refl

pub same-Truth : (b0 : Bool) (v : Value) → ((b : Bool) → v ≡ V.Truth b → ⊥) → strict_equal (value_of (V.Truth b0)) (value_of v) ≡ false
unfolding strict_equal
same-Truth b0 V.Undefined h = refl
same-Truth b0 V.Null h = refl
same-Truth b0 (V.Truth b) h = absurd (h b refl)
same-Truth b0 (V.Whole z) h = refl
same-Truth b0 (V.Text t) h = refl
same-Truth b0 (V.Object n) h = refl
same-Truth b0 (V.Outside n) h = refl

pub same-Whole : (z0 : ℤ) (v : Value) → ((z : ℤ) → v ≡ V.Whole z → ⊥) → strict_equal (value_of (V.Whole z0)) (value_of v) ≡ false
unfolding strict_equal
same-Whole z0 V.Undefined h = refl
same-Whole z0 V.Null h = refl
same-Whole z0 (V.Truth b) h = refl
same-Whole z0 (V.Whole z) h = absurd (h z refl)
same-Whole z0 (V.Text t) h = refl
same-Whole z0 (V.Object n) h = refl
same-Whole z0 (V.Outside n) h = refl

pub same-Text : (t0 : List ℕ) (v : Value) → ((t : List ℕ) → v ≡ V.Text t → ⊥) → strict_equal (value_of (V.Text t0)) (value_of v) ≡ false
unfolding strict_equal
same-Text t0 V.Undefined h = refl
same-Text t0 V.Null h = refl
same-Text t0 (V.Truth b) h = refl
same-Text t0 (V.Whole z) h = refl
same-Text t0 (V.Text t) h = absurd (h t refl)
same-Text t0 (V.Object n) h = refl
same-Text t0 (V.Outside n) h = refl

pub same-Object : (n0 : ℕ) (v : Value) → ((n : ℕ) → v ≡ V.Object n → ⊥) → strict_equal (value_of (V.Object n0)) (value_of v) ≡ false
unfolding strict_equal
same-Object n0 V.Undefined h = refl
same-Object n0 V.Null h = refl
same-Object n0 (V.Truth b) h = refl
same-Object n0 (V.Whole z) h = refl
same-Object n0 (V.Text t) h = refl
same-Object n0 (V.Object n) h = absurd (h n refl)
same-Object n0 (V.Outside n) h = refl

pub same-Outside : (n0 : ℕ) (v : Value) → ((n : ℕ) → v ≡ V.Outside n → ⊥) → strict_equal (value_of (V.Outside n0)) (value_of v) ≡ false
unfolding strict_equal
same-Outside n0 V.Undefined h = refl
same-Outside n0 V.Null h = refl
same-Outside n0 (V.Truth b) h = refl
same-Outside n0 (V.Whole z) h = refl
same-Outside n0 (V.Text t) h = refl
same-Outside n0 (V.Object n) h = refl
same-Outside n0 (V.Outside n) h = absurd (h n refl)

pub equal-Truth : (b0 : Bool) (v : Value) → ((b : Bool) → v ≡ V.Truth b → ⊥) → equal_of (value_of (V.Truth b0)) (value_of v) ≡ (if nothing_of (value_of v) then Some false else None)
unfolding equal_prims equal_object
equal-Truth b0 V.Undefined h = refl
equal-Truth b0 V.Null h = refl
equal-Truth b0 (V.Truth b) h = absurd (h b refl)
equal-Truth b0 (V.Whole z) h = refl
equal-Truth b0 (V.Text t) h = refl
equal-Truth b0 (V.Object n) h = refl
equal-Truth b0 (V.Outside n) h = refl

pub equal-Whole : (z0 : ℤ) (v : Value) → ((z : ℤ) → v ≡ V.Whole z → ⊥) → equal_of (value_of (V.Whole z0)) (value_of v) ≡ (if nothing_of (value_of v) then Some false else None)
unfolding equal_prims equal_object
equal-Whole z0 V.Undefined h = refl
equal-Whole z0 V.Null h = refl
equal-Whole z0 (V.Truth b) h = refl
equal-Whole z0 (V.Whole z) h = absurd (h z refl)
equal-Whole z0 (V.Text t) h = refl
equal-Whole z0 (V.Object n) h = refl
equal-Whole z0 (V.Outside n) h = refl

pub equal-Text : (t0 : List ℕ) (v : Value) → ((t : List ℕ) → v ≡ V.Text t → ⊥) → equal_of (value_of (V.Text t0)) (value_of v) ≡ (if nothing_of (value_of v) then Some false else None)
unfolding equal_prims equal_object
equal-Text t0 V.Undefined h = refl
equal-Text t0 V.Null h = refl
equal-Text t0 (V.Truth b) h = refl
equal-Text t0 (V.Whole z) h = refl
equal-Text t0 (V.Text t) h = absurd (h t refl)
equal-Text t0 (V.Object n) h = refl
equal-Text t0 (V.Outside n) h = refl

pub equal-Object : (n0 : ℕ) (v : Value) → ((n : ℕ) → v ≡ V.Object n → ⊥) → equal_of (value_of (V.Object n0)) (value_of v) ≡ (if nothing_of (value_of v) then Some false else None)
unfolding equal_prims equal_object
equal-Object n0 V.Undefined h = refl
equal-Object n0 V.Null h = refl
equal-Object n0 (V.Truth b) h = refl
equal-Object n0 (V.Whole z) h = refl
equal-Object n0 (V.Text t) h = refl
equal-Object n0 (V.Object n) h = absurd (h n refl)
equal-Object n0 (V.Outside n) h = refl

pub equal-Outside : (n0 : ℕ) (v : Value) → ((n : ℕ) → v ≡ V.Outside n → ⊥) → equal_of (value_of (V.Outside n0)) (value_of v) ≡ (if nothing_of (value_of v) then Some false else None)
unfolding equal_prims equal_object
equal-Outside n0 V.Undefined h = refl
equal-Outside n0 V.Null h = refl
equal-Outside n0 (V.Truth b) h = refl
equal-Outside n0 (V.Whole z) h = refl
equal-Outside n0 (V.Text t) h = refl
equal-Outside n0 (V.Object n) h = refl
equal-Outside n0 (V.Outside n) h = absurd (h n refl)

pub equal-Undefined : (v : Value) → equal_of (value_of V.Undefined) (value_of v) ≡ Some (nothing_of (value_of v))
unfolding equal_prims equal_object
equal-Undefined V.Undefined = refl
equal-Undefined V.Null = refl
equal-Undefined (V.Truth b) = refl
equal-Undefined (V.Whole z) = refl
equal-Undefined (V.Text t) = refl
equal-Undefined (V.Object n) = refl
equal-Undefined (V.Outside n) = refl

pub equal-Null : (v : Value) → equal_of (value_of V.Null) (value_of v) ≡ Some (nothing_of (value_of v))
unfolding equal_prims equal_object
equal-Null V.Undefined = refl
equal-Null V.Null = refl
equal-Null (V.Truth b) = refl
equal-Null (V.Whole z) = refl
equal-Null (V.Text t) = refl
equal-Null (V.Object n) = refl
equal-Null (V.Outside n) = refl

pub less-Whole : (z0 : ℤ) (v : Value) → ((z : ℤ) → v ≡ V.Whole z → ⊥) → less_of (value_of (V.Whole z0)) (value_of v) ≡ None
unfolding prim_less
less-Whole z0 V.Undefined h = refl
less-Whole z0 V.Null h = refl
less-Whole z0 (V.Truth b) h = refl
less-Whole z0 (V.Whole z) h = absurd (h z refl)
less-Whole z0 (V.Text t) h = refl
less-Whole z0 (V.Object n) h = refl
less-Whole z0 (V.Outside n) h = refl

pub less-Text : (t0 : List ℕ) (v : Value) → ((t : List ℕ) → v ≡ V.Text t → ⊥) → less_of (value_of (V.Text t0)) (value_of v) ≡ None
unfolding prim_less
less-Text t0 V.Undefined h = refl
less-Text t0 V.Null h = refl
less-Text t0 (V.Truth b) h = refl
less-Text t0 (V.Whole z) h = refl
less-Text t0 (V.Text t) h = absurd (h t refl)
less-Text t0 (V.Object n) h = refl
less-Text t0 (V.Outside n) h = refl

pub less-others : (u v : Value) → ((z : ℤ) → u ≡ V.Whole z → ⊥) → ((t : List ℕ) → u ≡ V.Text t → ⊥) → less_of (value_of u) (value_of v) ≡ None
unfolding prim_less
less-others V.Undefined V.Undefined h j = refl
less-others V.Undefined V.Null h j = refl
less-others V.Undefined (V.Truth b1) h j = refl
less-others V.Undefined (V.Whole z1) h j = refl
less-others V.Undefined (V.Text t1) h j = refl
less-others V.Undefined (V.Object n1) h j = refl
less-others V.Undefined (V.Outside n1) h j = refl
less-others V.Null V.Undefined h j = refl
less-others V.Null V.Null h j = refl
less-others V.Null (V.Truth b1) h j = refl
less-others V.Null (V.Whole z1) h j = refl
less-others V.Null (V.Text t1) h j = refl
less-others V.Null (V.Object n1) h j = refl
less-others V.Null (V.Outside n1) h j = refl
less-others (V.Truth b) V.Undefined h j = refl
less-others (V.Truth b) V.Null h j = refl
less-others (V.Truth b) (V.Truth b1) h j = refl
less-others (V.Truth b) (V.Whole z1) h j = refl
less-others (V.Truth b) (V.Text t1) h j = refl
less-others (V.Truth b) (V.Object n1) h j = refl
less-others (V.Truth b) (V.Outside n1) h j = refl
less-others (V.Whole z) v h j = absurd (h z refl)
less-others (V.Text t) v h j = absurd (j t refl)
less-others (V.Object n) v h j = refl
less-others (V.Outside n) v h j = refl

-- `+` with a text on one side joins the texts of both
pub add-text_first : (t0 : List ℕ) (v : Value) → binary_of Add (prim (text t0)) (value_of v) ≡ joined_of (text_of (prim (text t0))) (text_of (value_of v))
unfolding binary_of
add-text_first t0 V.Undefined = refl
add-text_first t0 V.Null = refl
add-text_first t0 (V.Truth b) = refl
add-text_first t0 (V.Whole z) = refl
add-text_first t0 (V.Text t) = refl
add-text_first t0 (V.Object n) = refl
add-text_first t0 (V.Outside n) = refl

pub add-text_second : (u : Value) (t0 : List ℕ) → binary_of Add (value_of u) (prim (text t0)) ≡ joined_of (text_of (value_of u)) (text_of (prim (text t0)))
unfolding binary_of
add-text_second V.Undefined t0 = refl
add-text_second V.Null t0 = refl
add-text_second (V.Truth b) t0 = refl
add-text_second (V.Whole z) t0 = refl
add-text_second (V.Text t) t0 = refl
add-text_second (V.Object n) t0 = refl
add-text_second (V.Outside n) t0 = refl

pub add-whole_other : (z0 : ℤ) (v : Value) → ((z : ℤ) → v ≡ V.Whole z → ⊥) → ((t : List ℕ) → v ≡ V.Text t → ⊥) → binary_of Add (prim (whole z0)) (value_of v) ≡ breaks 2
unfolding binary_of
add-whole_other z0 V.Undefined h k = refl
add-whole_other z0 V.Null h k = refl
add-whole_other z0 (V.Truth b) h k = refl
add-whole_other z0 (V.Whole z) h k = absurd (h z refl)
add-whole_other z0 (V.Text t) h k = absurd (k t refl)
add-whole_other z0 (V.Object n) h k = refl
add-whole_other z0 (V.Outside n) h k = refl

pub add-others : (u v : Value) → ((t : List ℕ) → u ≡ V.Text t → ⊥) → ((z : ℤ) → u ≡ V.Whole z → ⊥) → ((t : List ℕ) → v ≡ V.Text t → ⊥) → binary_of Add (value_of u) (value_of v) ≡ breaks 2
unfolding binary_of
add-others V.Undefined V.Undefined h j k = refl
add-others V.Undefined V.Null h j k = refl
add-others V.Undefined (V.Truth b1) h j k = refl
add-others V.Undefined (V.Whole z1) h j k = refl
add-others V.Undefined (V.Text t1) h j k = absurd (k t1 refl)
add-others V.Undefined (V.Object n1) h j k = refl
add-others V.Undefined (V.Outside n1) h j k = refl
add-others V.Null V.Undefined h j k = refl
add-others V.Null V.Null h j k = refl
add-others V.Null (V.Truth b1) h j k = refl
add-others V.Null (V.Whole z1) h j k = refl
add-others V.Null (V.Text t1) h j k = absurd (k t1 refl)
add-others V.Null (V.Object n1) h j k = refl
add-others V.Null (V.Outside n1) h j k = refl
add-others (V.Truth b) V.Undefined h j k = refl
add-others (V.Truth b) V.Null h j k = refl
add-others (V.Truth b) (V.Truth b1) h j k = refl
add-others (V.Truth b) (V.Whole z1) h j k = refl
add-others (V.Truth b) (V.Text t1) h j k = absurd (k t1 refl)
add-others (V.Truth b) (V.Object n1) h j k = refl
add-others (V.Truth b) (V.Outside n1) h j k = refl
add-others (V.Whole z) v h j k = absurd (j z refl)
add-others (V.Text t) v h j k = absurd (h t refl)
add-others (V.Object n) V.Undefined h j k = refl
add-others (V.Object n) V.Null h j k = refl
add-others (V.Object n) (V.Truth b1) h j k = refl
add-others (V.Object n) (V.Whole z1) h j k = refl
add-others (V.Object n) (V.Text t1) h j k = absurd (k t1 refl)
add-others (V.Object n) (V.Object n1) h j k = refl
add-others (V.Object n) (V.Outside n1) h j k = refl
add-others (V.Outside n) V.Undefined h j k = refl
add-others (V.Outside n) V.Null h j k = refl
add-others (V.Outside n) (V.Truth b1) h j k = refl
add-others (V.Outside n) (V.Whole z1) h j k = refl
add-others (V.Outside n) (V.Text t1) h j k = absurd (k t1 refl)
add-others (V.Outside n) (V.Object n1) h j k = refl
add-others (V.Outside n) (V.Outside n1) h j k = refl

-- ---- the comparing operators by their tests

pub by-Less : (x y : Val) → binary_of Less x y ≡ answer_of (less_of x y)
unfolding binary_of strict_equal
by-Less (prim p) (prim q) = refl
by-Less (prim p) (obj n) = refl
by-Less (prim p) (out n) = refl
by-Less (obj m) (prim q) = refl
by-Less (obj m) (obj n) = refl
by-Less (obj m) (out n) = refl
by-Less (out m) (prim q) = refl
by-Less (out m) (obj n) = refl
by-Less (out m) (out n) = refl

pub by-Greater : (x y : Val) → binary_of Greater x y ≡ answer_of (less_of y x)
unfolding binary_of strict_equal
by-Greater (prim p) (prim q) = refl
by-Greater (prim p) (obj n) = refl
by-Greater (prim p) (out n) = refl
by-Greater (obj m) (prim q) = refl
by-Greater (obj m) (obj n) = refl
by-Greater (obj m) (out n) = refl
by-Greater (out m) (prim q) = refl
by-Greater (out m) (obj n) = refl
by-Greater (out m) (out n) = refl

pub by-LessEq : (x y : Val) → binary_of LessEq x y ≡ answer_not (less_of y x)
unfolding binary_of strict_equal
by-LessEq (prim p) (prim q) = refl
by-LessEq (prim p) (obj n) = refl
by-LessEq (prim p) (out n) = refl
by-LessEq (obj m) (prim q) = refl
by-LessEq (obj m) (obj n) = refl
by-LessEq (obj m) (out n) = refl
by-LessEq (out m) (prim q) = refl
by-LessEq (out m) (obj n) = refl
by-LessEq (out m) (out n) = refl

pub by-GreaterEq : (x y : Val) → binary_of GreaterEq x y ≡ answer_not (less_of x y)
unfolding binary_of strict_equal
by-GreaterEq (prim p) (prim q) = refl
by-GreaterEq (prim p) (obj n) = refl
by-GreaterEq (prim p) (out n) = refl
by-GreaterEq (obj m) (prim q) = refl
by-GreaterEq (obj m) (obj n) = refl
by-GreaterEq (obj m) (out n) = refl
by-GreaterEq (out m) (prim q) = refl
by-GreaterEq (out m) (obj n) = refl
by-GreaterEq (out m) (out n) = refl

pub by-Equal : (x y : Val) → binary_of Equal x y ≡ answer_of (equal_of x y)
unfolding binary_of strict_equal
by-Equal (prim p) (prim q) = refl
by-Equal (prim p) (obj n) = refl
by-Equal (prim p) (out n) = refl
by-Equal (obj m) (prim q) = refl
by-Equal (obj m) (obj n) = refl
by-Equal (obj m) (out n) = refl
by-Equal (out m) (prim q) = refl
by-Equal (out m) (obj n) = refl
by-Equal (out m) (out n) = refl

pub by-NotEqual : (x y : Val) → binary_of NotEqual x y ≡ answer_not (equal_of x y)
unfolding binary_of strict_equal
by-NotEqual (prim p) (prim q) = refl
by-NotEqual (prim p) (obj n) = refl
by-NotEqual (prim p) (out n) = refl
by-NotEqual (obj m) (prim q) = refl
by-NotEqual (obj m) (obj n) = refl
by-NotEqual (obj m) (out n) = refl
by-NotEqual (out m) (prim q) = refl
by-NotEqual (out m) (obj n) = refl
by-NotEqual (out m) (out n) = refl

pub by-Strict : (x y : Val) → binary_of Strict x y ≡ answer (strict_equal x y)
unfolding binary_of strict_equal
by-Strict (prim p) (prim q) = refl
by-Strict (prim p) (obj n) = refl
by-Strict (prim p) (out n) = refl
by-Strict (obj m) (prim q) = refl
by-Strict (obj m) (obj n) = refl
by-Strict (obj m) (out n) = refl
by-Strict (out m) (prim q) = refl
by-Strict (out m) (obj n) = refl
by-Strict (out m) (out n) = refl

pub by-NotStrict : (x y : Val) → binary_of NotStrict x y ≡ answer (not (strict_equal x y))
unfolding binary_of strict_equal
by-NotStrict (prim p) (prim q) = refl
by-NotStrict (prim p) (obj n) = refl
by-NotStrict (prim p) (out n) = refl
by-NotStrict (obj m) (prim q) = refl
by-NotStrict (obj m) (obj n) = refl
by-NotStrict (obj m) (out n) = refl
by-NotStrict (out m) (prim q) = refl
by-NotStrict (out m) (obj n) = refl
by-NotStrict (out m) (out n) = refl

-- ---- numbers by their bits

pub same_bits : (x y : ℤ) → FitsSigned w64 x → FitsSigned w64 y → eqb (cast_unsigned w64 x) (cast_unsigned w64 y) ≡ whole_eq x y
unfolding whole_eq
same_bits (pos m) (pos n) f g = refl
same_bits (pos m) (negsuc n) f g = let a = f.sfits in let b = g.sfits in ne_eqb m (18446744073709551616 - suc n) (λ e. omega arith)
same_bits (negsuc m) (pos n) f g = let a = f.sfits in let b = g.sfits in ne_eqb (18446744073709551616 - suc m) n (λ e. omega arith)
same_bits (negsuc m) (negsuc n) f g =
    let a = f.sfits in let b = g.sfits in
    elim (cases_eq m n) [ inl e ↦ eq-eqb (18446744073709551616 - suc m) (18446744073709551616 - suc n) (omega arith) ∙ sym (eq-eqb m n e) | inr k ↦ ne_eqb (18446744073709551616 - suc m) (18446744073709551616 - suc n) (λ e. k (omega arith)) ∙ sym (ne_eqb m n k) ]

pub truthy_bits : (z : ℤ) → FitsSigned w64 z → not (eqb (cast_unsigned w64 z) 0) ≡ truthy_prim (whole z)
unfolding truthy_prim
truthy_bits (pos zero) f = refl
truthy_bits (pos (suc n)) f = ap not (ne_eqb (suc n) 0 (λ e. omega arith))
truthy_bits (negsuc n) f = let a = f.sfits in ap not (ne_eqb (18446744073709551616 - suc n) 0 (λ e. omega arith))

pub truthy_length : (t : List ℕ) → not (eqb (length t) 0) ≡ truthy_prim (text t)
unfolding truthy_prim
truthy_length [] = refl
truthy_length (c ∷ t) = ap not (ne_eqb (length (c ∷ t)) 0 (λ e. omega arith))
