-- Numbers that are made, and those that break rule 1.
use Rattle.std.proofs.Common.{◌≡◌, ◌≢◌, ℕ, zero, suc, ◌*◌, ◌/◌, ◌%◌, ◌^◌, ◌-ℤ◌, bit_and, bit_or, bit_xor, ◌<◌, ◌≤◌, Bool, true, false, not, ◌-◌, cond, ℤ, pos, negsuc, neg_ℤ, unsigned_abs, FitsSigned, refl, ap, inl, inr, arith}
use Rattle.std.proofs.lemmas.Bool.{le-leb, lt-leb, eq-eqb, ne_eqb, cases_lt}
use Rattle.std.proofs.lemmas.Int.{fits_signed_from_abs}
use Rattle.std.specs.Int.{w64, is_negative, int_shr}
use Rattle.cc_ast.specs.Syntax.{whole}
use Rattle.cc_ast.specs.declared.operator.BinOp.{BinOp}
use Rattle.cc_ast.specs.declared.operator.BinOp.TheVariants.{Add, Sub, Mul, Div, Rem, BitAnd, BitXor, BitOr, Shl, Shr, UShr, Less, Greater, LessEq, GreaterEq, Equal, NotEqual, Strict, NotStrict, Instance, Has}
use Rattle.cc_ast.specs.declared.operator.UnOp.{UnOp}
use Rattle.cc_ast.specs.declared.operator.UnOp.TheVariants.{Minus, Plus, BitNot, Not, Void, Typeof, Delete}
use Rattle.cc_meaning.specs.Values.{prim}
use Rattle.cc_meaning.specs.Operators.{gives, breaks, number, with_sign, divide_sizes, rest_of_sizes, whole_binary, whole_unary, signs_differ, from_bits32, to_uint32, to_int32, shift_count}

pub number-made : (z : ℤ) → unsigned_abs z ≤ 9007199254740991 → number z ≡ gives (prim (whole z))
unfolding number
number-made z h = ap (λ (b : Bool). cond b (gives (prim (whole z))) (breaks 1)) (le-leb (unsigned_abs z) 9007199254740991 h)

pub number-past : (z : ℤ) → 9007199254740991 < unsigned_abs z → number z ≡ breaks 1
unfolding number
number-past z h = ap (λ (b : Bool). cond b (gives (prim (whole z))) (breaks 1)) (lt-leb (unsigned_abs z) 9007199254740991 h)

-- what doesn't fit 64 bits is no number
pub number-wide : (z : ℤ) → (FitsSigned w64 z → ⊥) → number z ≡ breaks 1
number-wide z wide =
    elim (cases_lt 9007199254740991 (unsigned_abs z)) [
      | inl h ↦ number-past z h
      | inr h ↦ absurd (wide (fits_signed_from_abs w64 z (omega arith)))
    ]

pub sign-past : (minus : Bool) (n : ℕ) → 9007199254740991 < n → with_sign minus n ≡ breaks 1
unfolding with_sign
sign-past false n h = number-past (pos n) h
sign-past true zero h = refl
sign-past true (suc n) h = number-past (negsuc n) h

pub sign-zero : (minus : Bool) (n : ℕ) → minus ≡ true → n ≡ 0 → with_sign minus n ≡ breaks 1
unfolding with_sign
sign-zero true zero e h = refl
sign-zero true (suc n) e h = absurd (omega arith)
sign-zero false n e h = cc

pub sign-minus : (minus : Bool) (n : ℕ) (z : ℤ) → minus ≡ true → n ≢ 0 → n ≤ 9007199254740991 → z ≡ neg_ℤ (pos n) → with_sign minus n ≡ gives (prim (whole z))
unfolding with_sign
sign-minus true zero z e some h is = absurd (some refl)
sign-minus true (suc n) z e some h is = rw is (number-made (negsuc n) h)
sign-minus false n z e some h is = cc

pub sign-plus : (minus : Bool) (n : ℕ) (z : ℤ) → minus ≡ false → n ≤ 9007199254740991 → z ≡ pos n → with_sign minus n ≡ gives (prim (whole z))
unfolding with_sign
sign-plus true n z e h is = cc
sign-plus false n z e h is = rw is (number-made (pos n) h)

pub divide-by_zero : (minus : Bool) (n d : ℕ) → d ≡ 0 → divide_sizes minus n d ≡ breaks 1
unfolding divide_sizes
divide-by_zero minus n zero e = refl
divide-by_zero minus n (suc d) e = absurd (omega arith)

pub divide-rest : (minus : Bool) (n d : ℕ) → d ≢ 0 → n % d ≢ 0 → divide_sizes minus n d ≡ breaks 1
unfolding divide_sizes
divide-rest minus n zero k r = absurd (k refl)
divide-rest minus n (suc d) k r = ap (λ (b : Bool). cond b (with_sign minus (n / suc d)) (breaks 1)) (ne_eqb (n % suc d) 0 r)

pub divide-even : (minus : Bool) (n d : ℕ) → d ≢ 0 → n % d ≡ 0 → divide_sizes minus n d ≡ with_sign minus (n / d)
unfolding divide_sizes
divide-even minus n zero k r = absurd (k refl)
divide-even minus n (suc d) k r = ap (λ (b : Bool). cond b (with_sign minus (n / suc d)) (breaks 1)) (eq-eqb (n % suc d) 0 r)

pub rest-by_zero : (minus : Bool) (n d : ℕ) → d ≡ 0 → rest_of_sizes minus n d ≡ breaks 1
unfolding rest_of_sizes
rest-by_zero minus n zero e = refl
rest-by_zero minus n (suc d) e = absurd (omega arith)

pub rest-by : (minus : Bool) (n d : ℕ) → d ≢ 0 → rest_of_sizes minus n d ≡ with_sign minus (n % d)
unfolding rest_of_sizes
rest-by minus n zero k = absurd (k refl)
rest-by minus n (suc d) k = refl

-- ---- the operators, one by one

pub at-Sub : (a b : ℤ) → whole_binary Sub a b ≡ number (a -ℤ b)
unfolding whole_binary
at-Sub a b = refl

pub at-Mul : (a b : ℤ) → whole_binary Mul a b ≡ with_sign (signs_differ a b) (unsigned_abs a * unsigned_abs b)
unfolding whole_binary
at-Mul a b = refl

pub at-Div : (a b : ℤ) → whole_binary Div a b ≡ divide_sizes (signs_differ a b) (unsigned_abs a) (unsigned_abs b)
unfolding whole_binary
at-Div a b = refl

pub at-Rem : (a b : ℤ) → whole_binary Rem a b ≡ rest_of_sizes (is_negative a) (unsigned_abs a) (unsigned_abs b)
unfolding whole_binary
at-Rem a b = refl

pub at-BitAnd : (a b : ℤ) → whole_binary BitAnd a b ≡ from_bits32 (bit_and (to_uint32 a) (to_uint32 b))
unfolding whole_binary
at-BitAnd a b = refl

pub at-BitXor : (a b : ℤ) → whole_binary BitXor a b ≡ from_bits32 (bit_xor (to_uint32 a) (to_uint32 b))
unfolding whole_binary
at-BitXor a b = refl

pub at-BitOr : (a b : ℤ) → whole_binary BitOr a b ≡ from_bits32 (bit_or (to_uint32 a) (to_uint32 b))
unfolding whole_binary
at-BitOr a b = refl

pub at-Shl : (a b : ℤ) → whole_binary Shl a b ≡ from_bits32 (to_uint32 a * 2 ^ shift_count b % 4294967296)
unfolding whole_binary
at-Shl a b = refl

pub at-Shr : (a b : ℤ) → whole_binary Shr a b ≡ gives (prim (whole (int_shr (to_int32 a) (shift_count b))))
unfolding whole_binary
at-Shr a b = refl

pub at-UShr : (a b : ℤ) → whole_binary UShr a b ≡ gives (prim (whole (pos (to_uint32 a / 2 ^ shift_count b))))
unfolding whole_binary
at-UShr a b = refl

-- every other operator isn't one on numbers alone
pub at-others : (op : BinOp) (a b : ℤ) → op ≢ Sub → op ≢ Mul → op ≢ Div → op ≢ Rem → op ≢ BitAnd → op ≢ BitXor → op ≢ BitOr → op ≢ Shl → op ≢ Shr → op ≢ UShr → whole_binary op a b ≡ breaks 2
unfolding whole_binary
at-others Sub a b h1 h2 h3 h4 h5 h6 h7 h8 h9 h10 = absurd (h1 refl)
at-others Mul a b h1 h2 h3 h4 h5 h6 h7 h8 h9 h10 = absurd (h2 refl)
at-others Div a b h1 h2 h3 h4 h5 h6 h7 h8 h9 h10 = absurd (h3 refl)
at-others Rem a b h1 h2 h3 h4 h5 h6 h7 h8 h9 h10 = absurd (h4 refl)
at-others BitAnd a b h1 h2 h3 h4 h5 h6 h7 h8 h9 h10 = absurd (h5 refl)
at-others BitXor a b h1 h2 h3 h4 h5 h6 h7 h8 h9 h10 = absurd (h6 refl)
at-others BitOr a b h1 h2 h3 h4 h5 h6 h7 h8 h9 h10 = absurd (h7 refl)
at-others Shl a b h1 h2 h3 h4 h5 h6 h7 h8 h9 h10 = absurd (h8 refl)
at-others Shr a b h1 h2 h3 h4 h5 h6 h7 h8 h9 h10 = absurd (h9 refl)
at-others UShr a b h1 h2 h3 h4 h5 h6 h7 h8 h9 h10 = absurd (h10 refl)
at-others Add a b h1 h2 h3 h4 h5 h6 h7 h8 h9 h10 = refl
at-others Less a b h1 h2 h3 h4 h5 h6 h7 h8 h9 h10 = refl
at-others Greater a b h1 h2 h3 h4 h5 h6 h7 h8 h9 h10 = refl
at-others LessEq a b h1 h2 h3 h4 h5 h6 h7 h8 h9 h10 = refl
at-others GreaterEq a b h1 h2 h3 h4 h5 h6 h7 h8 h9 h10 = refl
at-others Equal a b h1 h2 h3 h4 h5 h6 h7 h8 h9 h10 = refl
at-others NotEqual a b h1 h2 h3 h4 h5 h6 h7 h8 h9 h10 = refl
at-others Strict a b h1 h2 h3 h4 h5 h6 h7 h8 h9 h10 = refl
at-others NotStrict a b h1 h2 h3 h4 h5 h6 h7 h8 h9 h10 = refl
at-others Instance a b h1 h2 h3 h4 h5 h6 h7 h8 h9 h10 = refl
at-others Has a b h1 h2 h3 h4 h5 h6 h7 h8 h9 h10 = refl

pub at-Minus : (z : ℤ) → whole_unary Minus z ≡ with_sign (not (is_negative z)) (unsigned_abs z)
unfolding whole_unary
at-Minus z = refl

pub at-Plus : (z : ℤ) → whole_unary Plus z ≡ gives (prim (whole z))
unfolding whole_unary
at-Plus z = refl

pub at-BitNot : (z : ℤ) → whole_unary BitNot z ≡ from_bits32 (4294967295 - to_uint32 z)
unfolding whole_unary
at-BitNot z = refl

pub at-unary_others : (op : UnOp) (z : ℤ) → op ≢ Minus → op ≢ Plus → op ≢ BitNot → whole_unary op z ≡ breaks 2
unfolding whole_unary
at-unary_others Minus z h1 h2 h3 = absurd (h1 refl)
at-unary_others Plus z h1 h2 h3 = absurd (h2 refl)
at-unary_others BitNot z h1 h2 h3 = absurd (h3 refl)
at-unary_others Not z h1 h2 h3 = refl
at-unary_others Void z h1 h2 h3 = refl
at-unary_others Typeof z h1 h2 h3 = refl
at-unary_others Delete z h1 h2 h3 = refl
