-- Decimals and whole numbers.
use Rattle.std.proofs.Common.{◌≡◌, ℕ, ◌≤◌, ◌<◌, ◌^◌, ◌∷◌, [], List, ◌&&◌, Bool, true, false, not, ◌==◌, cond, Option, Some, None, Result, Ok, Err, length, ◌⊎◌, ◌≢◌, ◌-◌, pos, neg_ℤ, ◌-ℤ◌, to_z, of_z, w64, option_map, refl, ap, sym, subst, ◌∙◌, arith}
use Rattle.std.proofs.lemmas.Bool.{ne_eqb}
use Rattle.std.proofs.lemmas.Bool.Decides.{nat_tests}
use Rattle.std.proofs.lemmas.Int.{ints}
use Rattle.std.specs.Option.{MatchOption}
use Rattle.std.specs.Result.{result_ok, OkIff}
use Rattle.std.specs.Str.Parse.{ParsesUnsigned, digits_value}
use Rattle.std.proofs.lemmas.Str.Parse.{parse_digits, numerals_by_value, tells_all_ascii_digits}
use Rattle.cc_flags.specs.Numbers.{is_decimal, decimal, within, whole}
use Rattle.std.specs.List.{list_all}
use Rattle.std.specs.Char.{is_ascii_digit}
use Rattle.std.specs.Str.{all_ascii_digits}

pub all_digits-list : (bs : List ℕ) → list_all is_ascii_digit bs ≡ all_ascii_digits bs
all_digits-list [] = refl
all_digits-list (b ∷ bs) = ap (λ r. is_ascii_digit b && r) (all_digits-list bs)

both : (a b : Bool) → (a && b) ≡ true → (a ≡ true) × (b ≡ true)
both true true e = (refl, refl)
both true false e = cc
both false b e = cc

some_byte : (bs : List ℕ) → not (length bs == 0) ≡ true → 0 < length bs
some_byte [] e = cc
some_byte (b ∷ bs) e = omega arith

pub decimal-is : (bs : List ℕ) → is_decimal bs ≡ true → decimal bs ≡ Some (digits_value 10 bs)
unfolding decimal
decimal-is bs is = ap (λ b. cond b (Some (digits_value 10 bs)) None) is

pub decimal-isnt : (bs : List ℕ) → is_decimal bs ≡ false → decimal bs ≡ None
unfolding decimal
decimal-isnt bs isnt = ap (λ b. cond b (Some (digits_value 10 bs)) None) isnt

-- what `parse` answers of a decimal
pub decimal-parsed : {E : Type 0} (bs : List ℕ) (r : Result ℕ E) → ParsesUnsigned 64 10 bs r → is_decimal bs ≡ true
    → MatchOption (result_ok r) (2 ^ 64 ≤ digits_value 10 bs) (λ n. digits_value 10 bs ≡ n)
decimal-parsed {E} bs r parsed is =
    let digits : all_ascii_digits bs ≡ true = (both _ _ is).1 in
    let own = numerals_by_value (λ ds. all_ascii_digits ds ≡ true) tells_all_ascii_digits in
    by_answer (0 < length bs) (digits_value 10 bs) r (some_byte bs (both _ _ (both _ _ is).0).0) (parse_digits own 64 bs r parsed digits) where
      by_answer : (P : Type 0) (n : ℕ) (r : Result ℕ E) → P → OkIff r (P × (n < 2 ^ 64)) n → MatchOption (result_ok r) (2 ^ 64 ≤ n) (λ m. n ≡ m)
      by_answer P n (Ok m) p h = sym h.1
      by_answer P n (Err e) p h = omega (arith, λ (k : n < 2 ^ 64). h (p, k))

pub within-inside : (least most n : ℕ) → least ≤ n → n ≤ most → within least most (Some n) ≡ Some n
within-inside least most n low high = grind (arith, nat_tests)

pub within-above : (least most n : ℕ) → most < n → within least most (Some n) ≡ None
within-above least most n above = grind (arith, nat_tests)

pub within-outside : (least most n : ℕ) → ((least ≤ n) × (most < n)) ⊎ (n < least) → within least most (Some n) ≡ None
within-outside least most n out = grind (arith, nat_tests)

-- `within`, by what `parse` answers
pub within-beyond : {E : Type 0} (bs : List ℕ) (r : Result ℕ E) (least most : ℕ) → ParsesUnsigned 64 10 bs r → is_decimal bs ≡ true
    → result_ok r ≡ None → most < 2 ^ 64 → within least most (decimal bs) ≡ None
within-beyond bs r least most parsed is none small =
    let large = subst (λ o. MatchOption o (2 ^ 64 ≤ digits_value 10 bs) (λ n. digits_value 10 bs ≡ n)) none (decimal-parsed bs r parsed is) in
    ap (within least most) (decimal-is bs is) ∙ within-above least most (digits_value 10 bs) (omega arith)

pub within-some : {E : Type 0} (bs : List ℕ) (r : Result ℕ E) (least most n : ℕ) → ParsesUnsigned 64 10 bs r → is_decimal bs ≡ true
    → result_ok r ≡ Some n → within least most (decimal bs) ≡ within least most (Some n)
within-some bs r least most n parsed is some =
    let same = subst (λ o. MatchOption o (2 ^ 64 ≤ digits_value 10 bs) (λ m. digits_value 10 bs ≡ m)) some (decimal-parsed bs r parsed is) in
    ap (within least most) (decimal-is bs is) ∙ ap (λ m. within least most (Some m)) same

pub within-bounds : (least most n : ℕ) (o : Option ℕ) → within least most o ≡ Some n → (least ≤ n) × (n ≤ most)
within-bounds least most n None e = cc
within-bounds least most n (Some m) e = grind (arith, nat_tests)

-- ---- whole numbers

pub whole-minus : (bs ds : List ℕ) → bs ≡ 45 ∷ ds → whole bs ≡ option_map (λ n. neg_ℤ (pos n)) (within 1 (2 ^ 53 - 1) (decimal ds))
unfolding whole
whole-minus bs ds e = rw e refl

pub whole-plain : (bs : List ℕ) → ((rest : List ℕ) → bs ≢ 45 ∷ rest) → whole bs ≡ option_map pos (within 0 (2 ^ 53 - 1) (decimal bs))
unfolding whole decimal
whole-plain [] other = refl
whole-plain (c ∷ cs) other =
    let no : (c == 45) ≡ false = ne_eqb c 45 (λ e. other cs (ap (λ x. x ∷ cs) e)) in
    rw no refl

pub negated : (n : ℕ) → n ≤ 2 ^ 53 - 1 → to_z w64 (of_z w64 (pos 0 -ℤ to_z w64 n)) ≡ neg_ℤ (pos n)
negated n small = omega (arith, ints)

pub positive : (n : ℕ) → n ≤ 2 ^ 53 - 1 → to_z w64 n ≡ pos n
positive n small = omega (arith, ints)
