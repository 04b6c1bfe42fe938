-- The rows of the operator table at chosen values; the results are those of node 20, and rule 1
-- stands where its result isn't whole, is past 2^53-1 or is the negative zero.
use Rattle.std.specs.Prelude.{◌≡◌, List, [], ◌∷◌, codes, map}
use Rattle.std.proofs.Common.{refl}
use Rattle.cc_ast.specs.declared.operator.BinOp.{BinOp}
use Rattle.cc_ast.specs.declared.operator.BinOp.TheVariants.{Add, Sub, Mul, Div, Rem, BitAnd, BitXor, BitOr, Shl, Shr, UShr, Less, Greater, LessEq, GreaterEq, Equal, NotEqual, Strict, NotStrict}
use Rattle.cc_ast.specs.declared.operator.UnOp.{UnOp}
use Rattle.cc_ast.specs.declared.operator.UnOp.TheVariants.{Minus, Plus, BitNot, Not, Void, Typeof}
use Rattle.cc_meaning.specs.Values.{Val, obj, out}
use Rattle.cc_meaning.specs.Operators.{Outcome, gives, binary_of, unary_of}
use Rattle.cc_meaning.proofs.Shown.{w, minus, t, undef, nul, yes, no, rule1, rule2}

unfoldable results : BinOp → List (Val × Val) → List Outcome
unfolding binary_of
results op = map (λ p. binary_of op p.0 p.1)

unfoldable results_one : UnOp → List Val → List Outcome
unfolding unary_of
results_one op = map (unary_of op)

rows-Add : results Add (((w 1), (w 2)) ∷ ((w 9007199254740990), (w 1)) ∷ ((w 9007199254740991), (w 1)) ∷ ((minus 9007199254740991), (minus 1)) ∷ ((minus 5), (w 5)) ∷ ((t (codes "a")), (t (codes "b"))) ∷ ((t (codes "a")), (minus 7)) ∷ ((w 12), (t (codes "a"))) ∷ (yes, (t (codes "a"))) ∷ ((t (codes "a")), undef) ∷ (nul, (t (codes "a"))) ∷ ((w 1), yes) ∷ (undef, (w 1)) ∷ [])
    ≡ gives (w 3) ∷ gives (w 9007199254740991) ∷ rule1 ∷ rule1 ∷ gives (w 0) ∷ gives (t (codes "ab")) ∷ gives (t (codes "a-7")) ∷ gives (t (codes "12a")) ∷ gives (t (codes "truea")) ∷ gives (t (codes "aundefined")) ∷ gives (t (codes "nulla")) ∷ rule2 ∷ rule2 ∷ []
unfolding results
rows-Add = refl

rows-Sub : results Sub (((w 1), (w 2)) ∷ ((w 0), (w 0)) ∷ ((minus 9007199254740991), (w 1)) ∷ ((w 5), (minus 5)) ∷ ((t (codes "5")), (w 1)) ∷ [])
    ≡ gives (minus 1) ∷ gives (w 0) ∷ rule1 ∷ gives (w 10) ∷ rule2 ∷ []
unfolding results
rows-Sub = refl

rows-Mul : results Mul (((w 6), (minus 7)) ∷ ((w 0), (w 0)) ∷ ((w 0), (minus 1)) ∷ ((minus 1), (w 0)) ∷ ((w 94906265), (w 94906265)) ∷ ((w 94906266), (w 94906266)) ∷ ((minus 3), (minus 4)) ∷ ((t (codes "2")), (w 2)) ∷ [])
    ≡ gives (minus 42) ∷ gives (w 0) ∷ rule1 ∷ rule1 ∷ gives (w 9007199136250225) ∷ rule1 ∷ gives (w 12) ∷ rule2 ∷ []
unfolding results
rows-Mul = refl

rows-Div : results Div (((w 6), (w 3)) ∷ ((w 7), (w 2)) ∷ ((minus 6), (w 3)) ∷ ((w 0), (minus 3)) ∷ ((w 0), (w 3)) ∷ ((w 1), (w 0)) ∷ ((w 0), (w 0)) ∷ ((minus 9007199254740991), (minus 1)) ∷ [])
    ≡ gives (w 2) ∷ rule1 ∷ gives (minus 2) ∷ rule1 ∷ gives (w 0) ∷ rule1 ∷ rule1 ∷ gives (w 9007199254740991) ∷ []
unfolding results
rows-Div = refl

rows-Rem : results Rem (((w 7), (w 5)) ∷ ((minus 7), (w 5)) ∷ ((w 7), (minus 5)) ∷ ((minus 5), (w 5)) ∷ ((w 5), (minus 5)) ∷ ((w 0), (w 3)) ∷ ((w 5), (w 0)) ∷ (undef, (w 1)) ∷ [])
    ≡ gives (w 2) ∷ gives (minus 2) ∷ gives (w 2) ∷ rule1 ∷ gives (w 0) ∷ gives (w 0) ∷ rule1 ∷ rule2 ∷ []
unfolding results
rows-Rem = refl

rows-BitAnd : results BitAnd (((w 12), (w 10)) ∷ ((minus 1), (w 255)) ∷ ((w 4294967296), (w 1)) ∷ ((minus 4294967297), (w 7)) ∷ ((w 2147483648), (w 2147483648)) ∷ [])
    ≡ gives (w 8) ∷ gives (w 255) ∷ gives (w 0) ∷ gives (w 7) ∷ gives (minus 2147483648) ∷ []
unfolding results
rows-BitAnd = refl

rows-BitXor : results BitXor (((w 12), (w 10)) ∷ ((minus 1), (w 255)) ∷ ((w 4294967295), (w 0)) ∷ [])
    ≡ gives (w 6) ∷ gives (minus 256) ∷ gives (minus 1) ∷ []
unfolding results
rows-BitXor = refl

rows-BitOr : results BitOr (((w 12), (w 10)) ∷ ((minus 2147483649), (w 0)) ∷ ((w 9007199254740991), (w 0)) ∷ [])
    ≡ gives (w 14) ∷ gives (w 2147483647) ∷ gives (minus 1) ∷ []
unfolding results
rows-BitOr = refl

rows-Shl : results Shl (((w 1), (w 31)) ∷ ((w 1), (w 32)) ∷ ((w 3), (w 30)) ∷ ((minus 1), (w 4)) ∷ ((w 1), (minus 1)) ∷ [])
    ≡ gives (minus 2147483648) ∷ gives (w 1) ∷ gives (minus 1073741824) ∷ gives (minus 16) ∷ gives (minus 2147483648) ∷ []
unfolding results
rows-Shl = refl

rows-Shr : results Shr (((minus 8), (w 1)) ∷ ((minus 1), (w 31)) ∷ ((w 2147483648), (w 4)) ∷ ((w 8), (w 33)) ∷ [])
    ≡ gives (minus 4) ∷ gives (minus 1) ∷ gives (minus 134217728) ∷ gives (w 4) ∷ []
unfolding results
rows-Shr = refl

rows-UShr : results UShr (((minus 1), (w 0)) ∷ ((minus 8), (w 1)) ∷ ((minus 1), (w 31)) ∷ ((w 4294967296), (w 0)) ∷ ((w 8), (w 33)) ∷ [])
    ≡ gives (w 4294967295) ∷ gives (w 2147483644) ∷ gives (w 1) ∷ gives (w 0) ∷ gives (w 4) ∷ []
unfolding results
rows-UShr = refl

rows-Less : results Less (((w 1), (w 2)) ∷ ((w 2), (w 1)) ∷ ((minus 1), (w 0)) ∷ ((t (codes "a")), (t (codes "b"))) ∷ ((t (codes "ab")), (t (codes "b"))) ∷ ((t (codes "b")), (t (codes "ab"))) ∷ ((t (codes "a")), (t (codes "ab"))) ∷ ((t (codes "ab")), (t (codes "a"))) ∷ ((t (codes "10")), (t (codes "9"))) ∷ ((w 1), (t (codes "2"))) ∷ (undef, (w 1)) ∷ [])
    ≡ gives yes ∷ gives no ∷ gives yes ∷ gives yes ∷ gives yes ∷ gives no ∷ gives yes ∷ gives no ∷ gives yes ∷ rule2 ∷ rule2 ∷ []
unfolding results
rows-Less = refl

rows-Greater : results Greater (((w 1), (w 2)) ∷ ((w 2), (w 1)) ∷ ((w 2), (w 2)) ∷ ((t (codes "b")), (t (codes "ab"))) ∷ [])
    ≡ gives no ∷ gives yes ∷ gives no ∷ gives yes ∷ []
unfolding results
rows-Greater = refl

rows-LessEq : results LessEq (((w 1), (w 2)) ∷ ((w 2), (w 2)) ∷ ((w 3), (w 2)) ∷ ((t (codes "a")), (t (codes "a"))) ∷ [])
    ≡ gives yes ∷ gives yes ∷ gives no ∷ gives yes ∷ []
unfolding results
rows-LessEq = refl

rows-GreaterEq : results GreaterEq (((w 1), (w 2)) ∷ ((w 2), (w 2)) ∷ ((t (codes "b")), (t (codes "ab"))) ∷ (yes, (w 1)) ∷ [])
    ≡ gives no ∷ gives yes ∷ gives yes ∷ rule2 ∷ []
unfolding results
rows-GreaterEq = refl

rows-Equal : results Equal (((w 1), (w 1)) ∷ ((w 1), (w 2)) ∷ ((t (codes "a")), (t (codes "a"))) ∷ ((t (codes "a")), (t (codes "b"))) ∷ (undef, nul) ∷ (nul, (w 0)) ∷ ((w 0), undef) ∷ (yes, yes) ∷ (yes, (w 1)) ∷ ((t (codes "1")), (w 1)) ∷ [])
    ≡ gives yes ∷ gives no ∷ gives yes ∷ gives no ∷ gives yes ∷ gives no ∷ gives no ∷ gives yes ∷ rule2 ∷ rule2 ∷ []
unfolding results
rows-Equal = refl

rows-NotEqual : results NotEqual (((w 1), (w 1)) ∷ ((w 1), (w 2)) ∷ (undef, nul) ∷ ((t (codes "a")), nul) ∷ ((t (codes "1")), (w 1)) ∷ [])
    ≡ gives no ∷ gives yes ∷ gives no ∷ gives yes ∷ rule2 ∷ []
unfolding results
rows-NotEqual = refl

rows-Strict : results Strict (((w 1), (w 1)) ∷ ((w 1), (t (codes "1"))) ∷ (undef, nul) ∷ (nul, nul) ∷ ((t (codes "ab")), (t (codes "ab"))) ∷ (yes, no) ∷ [])
    ≡ gives yes ∷ gives no ∷ gives no ∷ gives yes ∷ gives yes ∷ gives no ∷ []
unfolding results
rows-Strict = refl

rows-NotStrict : results NotStrict (((w 1), (w 1)) ∷ ((w 1), (t (codes "1"))) ∷ (undef, undef) ∷ [])
    ≡ gives no ∷ gives yes ∷ gives no ∷ []
unfolding results
rows-NotStrict = refl

rows-Minus : results_one Minus ((w 5) ∷ (minus 5) ∷ (w 0) ∷ (w 9007199254740991) ∷ yes ∷ [])
    ≡ gives (minus 5) ∷ gives (w 5) ∷ rule1 ∷ gives (minus 9007199254740991) ∷ rule2 ∷ []
unfolding results_one
rows-Minus = refl

rows-Plus : results_one Plus ((w 5) ∷ (minus 5) ∷ (t (codes "5")) ∷ [])
    ≡ gives (w 5) ∷ gives (minus 5) ∷ rule2 ∷ []
unfolding results_one
rows-Plus = refl

rows-BitNot : results_one BitNot ((w 0) ∷ (minus 1) ∷ (w 5) ∷ (w 2147483648) ∷ (w 4294967295) ∷ [])
    ≡ gives (minus 1) ∷ gives (w 0) ∷ gives (minus 6) ∷ gives (w 2147483647) ∷ gives (w 0) ∷ []
unfolding results_one
rows-BitNot = refl

rows-Not : results_one Not (undef ∷ nul ∷ yes ∷ no ∷ (w 0) ∷ (minus 1) ∷ (t (codes "")) ∷ (t (codes "0")) ∷ [])
    ≡ gives yes ∷ gives yes ∷ gives no ∷ gives yes ∷ gives yes ∷ gives no ∷ gives yes ∷ gives no ∷ []
unfolding results_one
rows-Not = refl

rows-Void : results_one Void (undef ∷ (w 1) ∷ [])
    ≡ gives undef ∷ gives undef ∷ []
unfolding results_one
rows-Void = refl

rows-Typeof : results_one Typeof (undef ∷ nul ∷ yes ∷ (w 1) ∷ (t (codes "a")) ∷ [])
    ≡ gives (t (codes "undefined")) ∷ gives (t (codes "object")) ∷ gives (t (codes "boolean")) ∷ gives (t (codes "number")) ∷ gives (t (codes "string")) ∷ []
unfolding results_one
rows-Typeof = refl

-- objects: of the program by obj, of the outside by out
rows-objects : results Strict ((obj 1, obj 1) ∷ (obj 1, obj 2) ∷ (obj 1, out 1) ∷ (obj 1, undef) ∷ (out 2, out 2) ∷ []) ≡ gives yes ∷ gives no ∷ gives no ∷ gives no ∷ gives yes ∷ []
unfolding results
rows-objects = refl

rows-equal_objects : results Equal ((obj 1, obj 1) ∷ (obj 1, obj 2) ∷ (obj 1, out 1) ∷ (obj 1, nul) ∷ (undef, out 2) ∷ (obj 1, w 1) ∷ []) ≡ gives yes ∷ gives no ∷ rule2 ∷ gives no ∷ gives no ∷ rule2 ∷ []
unfolding results
rows-equal_objects = refl

rows-other_objects : results Add ((obj 1, t (codes "a")) ∷ (t (codes "a"), out 1) ∷ (obj 1, obj 1) ∷ []) ≡ rule2 ∷ rule2 ∷ rule2 ∷ []
unfolding results
rows-other_objects = refl
