-- Numbers that digits write.
use Rattle.std.specs.Prelude.{◌≡◌, ℕ, ◌+◌, ◌*◌, ◌^◌, ◌≤◌, List, [], ◌∷◌, Bool, true, false, ◌&&◌, nat_lt, if◌then◌else◌, Option, None}
use Rattle.std.proofs.Common.{refl, arith}
use Rattle.std.proofs.lemmas.Bool.Decides.{nat_tests}
use Rattle.std.specs.Char.{digit_value}
use Rattle.std.specs.List.{list_all}
use Rattle.cc_text.specs.Whole.{value_in, is_digit_in, numeral}

le_times : (v base : ℕ) → 1 ≤ base → v ≤ v * base
le_times v base h = grind arith

-- digits only make a number greater
value_in_le : (base v : ℕ) (cs : List ℕ) → 1 ≤ base → v ≤ value_in base v cs
value_in_le base v [] h = omega arith
value_in_le base v (c ∷ cs) h = omega (arith, le_times v base h, value_in_le base (v * base + digit_value c) cs h)

not_both : (a b : Bool) (x : Option ℕ) → b ≡ false → (if a && b then x else None) ≡ None
not_both true b x e = simp e
not_both false b x e = refl

pub numeral_over : (base v c : ℕ) (cs : List ℕ) → 1 ≤ base → 2 ^ 53 ≤ v * base + digit_value c → numeral base v (c ∷ cs) ≡ None
numeral_over base v c cs h over =
    let le = value_in_le base (v * base + digit_value c) cs h in
    let e : nat_lt (value_in base (v * base + digit_value c) cs) (2 ^ 53) ≡ false = grind (arith, nat_tests) in
    not_both (list_all (is_digit_in base) (c ∷ cs)) _ _ e
