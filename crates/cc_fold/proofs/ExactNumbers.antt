-- What an operator gives on exact numbers is exact.
use Rattle.std.proofs.Common.{◌≡◌, ℕ, zero, suc, ◌/◌, ◌%◌, ◌^◌, ◌<◌, ◌≤◌, Bool, true, false, Option, Some, None, ℤ, pos, negsuc, ◌+ℤ◌, ◌-ℤ◌, unsigned_abs, refl, subst, arith, div-le_self, mod-lt}
use Rattle.std.specs.Prelude.{nat_eq, not, if◌then◌else◌}
use Rattle.std.specs.Int.{w32, cast_signed, int_shr, is_negative}
use Rattle.std.proofs.lemmas.Bool.{le-leb}
use Rattle.std.proofs.lemmas.Int.{ints}
use Rattle.cc_ast.specs.Syntax.{Prim, undefined, truth, whole, text}
use Rattle.cc_ast.specs.declared.operator.BinOp.{BinOp}
use Rattle.cc_ast.specs.declared.operator.BinOp.TheVariants.{Add, Sub, Mul, Div, Rem, BitAnd, BitXor, BitOr, Shl, Shr, UShr, Less, Greater, LessEq, GreaterEq, Equal, NotEqual, Strict, NotStrict}
use Rattle.cc_ast.specs.declared.operator.UnOp.{UnOp}
use Rattle.cc_ast.specs.declared.operator.UnOp.TheVariants.{Minus, Plus, BitNot, Not, Void, Typeof}
use Rattle.cc_meaning.specs.Values.{prim}
use Rattle.cc_meaning.specs.Operators.{Outcome, gives, breaks, greatest_whole, is_exact, number, with_sign, signs_differ, divide_sizes, rest_of_sizes, to_uint32, to_int32, from_bits32, shift_count, whole_binary, on_wholes, answer_of, answer_not, add_prims, prim_less, equal_prims, prim_binary, binary_of, whole_unary, on_whole, prim_unary, unary_of}
use Rattle.cc_meaning.specs.Parts.{exact_prim}

-- a primitive value that is given is exact
pub record IsExact (o : Outcome) : Type 0 where
  pub exact : (p : Prim) → o ≡ gives (prim p) → exact_prim p ≡ true

exact_given : (q : Prim) → exact_prim q ≡ true → IsExact (gives (prim q))
exact_given q h = record { exact = λ p e. let d : q ≡ p = cc in subst (λ z. exact_prim z ≡ true) d h }

exact_broken : (r : ℕ) → IsExact (breaks r)
exact_broken r = record { exact = λ p e. absurd (cc) }

exact_truth : (b : Bool) → IsExact (gives (prim (truth b)))
unfolding exact_prim
exact_truth b = exact_given (truth b) refl

exact_whole : (z : ℤ) → unsigned_abs z ≤ greatest_whole → IsExact (gives (prim (whole z)))
unfolding exact_prim
exact_whole z h = exact_given (whole z) (le-leb (unsigned_abs z) greatest_whole h)

-- ---- whole numbers

number_exact : (z : ℤ) → IsExact (number z)
unfolding number exact_prim
number_exact z = by_test (is_exact z) refl
  where
    by_test : (b : Bool) → is_exact z ≡ b → IsExact (if b then gives (prim (whole z)) else breaks 1)
    by_test true h = exact_given (whole z) h
    by_test false h = exact_broken 1

sign_exact : (minus : Bool) (n : ℕ) → IsExact (with_sign minus n)
unfolding with_sign
sign_exact false n = number_exact (pos n)
sign_exact true zero = exact_broken 1
sign_exact true (suc n) = number_exact (negsuc n)

division_exact : (minus : Bool) (n d : ℕ) → IsExact (divide_sizes minus n d)
unfolding divide_sizes
division_exact minus n zero = exact_broken 1
division_exact minus n (suc d) = by_test (nat_eq (n % suc d) 0)
  where
    by_test : (b : Bool) → IsExact (if b then with_sign minus (n / suc d) else breaks 1)
    by_test true = sign_exact minus (n / suc d)
    by_test false = exact_broken 1

rest_exact : (minus : Bool) (n d : ℕ) → IsExact (rest_of_sizes minus n d)
unfolding rest_of_sizes
rest_exact minus n zero = exact_broken 1
rest_exact minus n (suc d) = sign_exact minus (n % suc d)

bits_small : (n : ℕ) → unsigned_abs (cast_signed w32 n) ≤ greatest_whole
bits_small n = omega (arith, ints)

bits_exact : (n : ℕ) → IsExact (from_bits32 n)
unfolding from_bits32
bits_exact n = exact_whole (cast_signed w32 n) (bits_small n)

rest_small : (z : ℤ) → to_uint32 z ≤ greatest_whole
unfolding to_uint32
rest_small (pos a) = let some : 0 < 4294967296 = omega arith in let small = mod-lt a some in omega arith
rest_small (negsuc a) = omega arith

shifted_small : (z : ℤ) (k m : ℕ) → unsigned_abs z ≤ m → unsigned_abs (int_shr z k) ≤ m
shifted_small (pos a) k m h = omega (arith, div-le_self a (2 ^ k))
shifted_small (negsuc a) k m h = omega (arith, div-le_self a (2 ^ k))

signed_small : (z : ℤ) → unsigned_abs (to_int32 z) ≤ greatest_whole
unfolding to_int32
signed_small z = bits_small (to_uint32 z)

whole_two : (op : BinOp) (a b : ℤ) → IsExact (whole_binary op a b)
unfolding whole_binary
whole_two Sub a b = number_exact (a -ℤ b)
whole_two Mul a b = sign_exact (signs_differ a b) _
whole_two Div a b = division_exact (signs_differ a b) (unsigned_abs a) (unsigned_abs b)
whole_two Rem a b = rest_exact (is_negative a) (unsigned_abs a) (unsigned_abs b)
whole_two BitAnd a b = bits_exact _
whole_two BitXor a b = bits_exact _
whole_two BitOr a b = bits_exact _
whole_two Shl a b = bits_exact _
whole_two Shr a b = exact_whole _ (shifted_small (to_int32 a) (shift_count b) greatest_whole (signed_small a))
whole_two UShr a b = exact_whole _ (let l = div-le_self (to_uint32 a) (2 ^ shift_count b) in let k = rest_small a in omega arith)
whole_two op a b = exact_broken 2

whole_one : (op : UnOp) (a : ℤ) → is_exact a ≡ true → IsExact (whole_unary op a)
unfolding whole_unary exact_prim
whole_one Minus a h = sign_exact (not (is_negative a)) (unsigned_abs a)
whole_one Plus a h = exact_given (whole a) h
whole_one BitNot a h = bits_exact _
whole_one op a h = exact_broken 2

-- ---- primitive values

wholes_exact : (op : BinOp) (p q : Prim) → IsExact (on_wholes op p q)
unfolding on_wholes
wholes_exact op (whole a) (whole b) = whole_two op a b
wholes_exact op p q = exact_broken 2

answer_exact : (o : Option Bool) → IsExact (answer_of o)
unfolding answer_of
answer_exact (Some b) = exact_truth b
answer_exact None = exact_broken 2

opposite_exact : (o : Option Bool) → IsExact (answer_not o)
unfolding answer_not
opposite_exact (Some b) = exact_truth (not b)
opposite_exact None = exact_broken 2

sum_exact : (p q : Prim) → IsExact (add_prims p q)
unfolding add_prims exact_prim
sum_exact (whole a) (whole b) = number_exact (a +ℤ b)
sum_exact (text s) q = exact_given (text _) refl
sum_exact p (text t) = exact_given (text _) refl
sum_exact p q = exact_broken 2

prims_exact : (op : BinOp) (p q : Prim) → IsExact (prim_binary op p q)
unfolding prim_binary
prims_exact Add p q = sum_exact p q
prims_exact Less p q = answer_exact (prim_less p q)
prims_exact Greater p q = answer_exact (prim_less q p)
prims_exact LessEq p q = opposite_exact (prim_less q p)
prims_exact GreaterEq p q = opposite_exact (prim_less p q)
prims_exact Equal p q = answer_exact (equal_prims p q)
prims_exact NotEqual p q = opposite_exact (equal_prims p q)
prims_exact Strict p q = exact_truth _
prims_exact NotStrict p q = exact_truth _
prims_exact op p q = wholes_exact op p q

pub binary_exact : (op : BinOp) (p q : Prim) → IsExact (binary_of op (prim p) (prim q))
unfolding binary_of
binary_exact op p q = prims_exact op p q

on_exact : (op : UnOp) (p : Prim) → exact_prim p ≡ true → IsExact (on_whole op p)
unfolding on_whole exact_prim
on_exact op (whole a) h = whole_one op a h
on_exact op p h = exact_broken 2

prim_exact : (op : UnOp) (p : Prim) → exact_prim p ≡ true → IsExact (prim_unary op p)
unfolding prim_unary exact_prim
prim_exact Not p h = exact_truth _
prim_exact Void p h = exact_given undefined refl
prim_exact Typeof p h = exact_given (text _) refl
prim_exact op p h = on_exact op p h

pub unary_exact : (op : UnOp) (p : Prim) → exact_prim p ≡ true → IsExact (unary_of op (prim p))
unfolding unary_of
unary_exact op p h = prim_exact op p h
