-- Digits with no zero in front are the decimal of the number that they write.
use Rattle.std.proofs.Common.{◌≡◌, ℕ, ◌+◌, ◌*◌, ◌-◌, ◌<◌, ◌≤◌, ◌^◌, true, ◌&&◌, ◌||◌, nat_eq, nat_lt, nat_le, List, [], ◌∷◌, ◌++◌, length, get_or, take, length-take-le, zero, suc, refl, ap, ◌∙◌, ⊎_elim, ◌⊎◌, inl, inr, arith, eqb-true, ltb-true, leb-true, lt-ltb, le-leb}
use Rattle.std.specs.List.{list_all}
use Rattle.std.specs.Fmt.{decimal}
use Rattle.std.specs.Int.{IsInRange}
use Rattle.std.proofs.lemmas.Bool.{and_parts, and_from, or_cases}
use Rattle.std.proofs.lemmas.List.{take_more}
use Rattle.std.proofs.lemmas.Str.Parse.{IsNumeralModel, IsDigitsTest, numerals_by_fold, digits_value_short}
use Rattle.std.proofs.lemmas.Fmt.{decimal-digits_value, digits_decimal, digits_value-decimal, length-decimal-le, decimal_nonempty, first_decimal, decimal_digit}
use Rattle.cc_driver.specs.Form.{whole_limit}
use Rattle.cc_driver.specs.FormReading.{look, is_digit, number_behind, leads_well, is_free_number}

abbrev pub AreDigits : List ℕ → Type 0
AreDigits ds = list_all is_digit ds ≡ true

digit_range : (c : ℕ) → is_digit c ≡ true → IsInRange 48 57 c
digit_range c e = let w = and_parts (nat_le 48 c) (nat_le c 57) e in (leb-true 48 c w.0, leb-true c 57 w.1)

range_digit : (c : ℕ) → IsInRange 48 57 c → is_digit c ≡ true
range_digit c h = and_from (nat_le 48 c) (nat_le c 57) (le-leb 48 c h.0) (le-leb c 57 h.1)

tells : IsDigitsTest AreDigits
tells = record {
  empty = refl;
  parts = λ c cs h. (let w = and_parts (is_digit c) (list_all is_digit cs) h in (digit_range c w.0, w.1));
  more = λ c cs h k. and_from (is_digit c) (list_all is_digit cs) (range_digit c h) k;
}

pub own : IsNumeralModel AreDigits (number_behind 0)
own = numerals_by_fold AreDigits tells number_behind (record { empty = λ n. refl; more = λ n c cs h. refl })

looked_first : (ds : List ℕ) → get_or ds 0 0 ≡ look ds
looked_first [] = refl
looked_first (d ∷ ds) = refl

leads_some : (ds : List ℕ) → leads_well ds ≡ true → 0 < length ds
leads_some [] e = absurd (cc)
leads_some (d ∷ ds) e = omega arith

leads_zero : (ds : List ℕ) → leads_well ds ≡ true → get_or ds 0 0 ≡ 48 → length ds ≡ 1
leads_zero ds e first = ⊎_elim (λ h. (let more : 48 < look ds = ltb-true 48 (look ds) h in let same : get_or ds 0 0 ≡ look ds = looked_first ds in absurd (omega arith))) (λ h. eqb-true (length ds) 1 h) (or_cases _ _ e)

-- what is known of a number of the form
pub record IsFree (ds : List ℕ) : Type 0 where
  pub leads : leads_well ds ≡ true
  pub few : length ds ≤ 16
  pub small : number_behind 0 ds < whole_limit

pub free_parts : (ds : List ℕ) → is_free_number ds ≡ true → IsFree ds
free_parts ds e =
    let w = and_parts (leads_well ds) (nat_le (length ds) 16 && nat_lt (number_behind 0 ds) whole_limit) e in
    let v = and_parts (nat_le (length ds) 16) (nat_lt (number_behind 0 ds) whole_limit) w.1 in
    record { leads = w.0; few = leb-true (length ds) 16 v.0; small = ltb-true (number_behind 0 ds) whole_limit v.1 }

pub free_written : (ds : List ℕ) → AreDigits ds → IsFree ds → decimal (number_behind 0 ds) ≡ ds
free_written ds d f = let small : number_behind 0 ds < whole_limit = f.small in decimal-digits_value own ds d (leads_some ds f.leads) (leads_zero ds f.leads) (omega arith)

module _ (n : ℕ) (l : n < whole_limit) where
  below : n < 2 ^ 64
  below = omega arith

  pub decimal_digits : AreDigits (decimal n)
  decimal_digits = digits_decimal own n below

  pub decimal_number : number_behind 0 (decimal n) ≡ n
  decimal_number = digits_value-decimal own n below

  pub decimal_some : 0 < length (decimal n)
  decimal_some = decimal_nonempty n below

  decimal_leads : leads_well (decimal n) ≡ true
  decimal_leads = by (zero_or_more n)
    where
      zero_or_more : (k : ℕ) → (k ≡ 0) ⊎ (0 < k)
      zero_or_more k = grind arith

      by : (n ≡ 0) ⊎ (0 < n) → leads_well (decimal n) ≡ true
      by (inl z) = ap (λ k. leads_well (decimal k)) z ∙ ap leads_well (decimal_digit 0 (omega arith))
      by (inr m) = let more : 48 < look (decimal n) = omega (arith, first_decimal n m below, looked_first (decimal n)) in ap (λ b. b || nat_eq (length (decimal n)) 1) (lt-ltb 48 (look (decimal n)) more)

  pub decimal_free : is_free_number (decimal n) ≡ true
  decimal_free =
      let few : length (decimal n) ≤ 16 = length-decimal-le 16 n (omega arith) (omega arith) below in
      let small : number_behind 0 (decimal n) < whole_limit = omega (arith, decimal_number) in
      and_from (leads_well (decimal n)) (nat_le (length (decimal n)) 16 && nat_lt (number_behind 0 (decimal n)) whole_limit) decimal_leads
      (and_from (nat_le (length (decimal n)) 16) (nat_lt (number_behind 0 (decimal n)) whole_limit) (le-leb (length (decimal n)) 16 few) (lt-ltb (number_behind 0 (decimal n)) whole_limit small))

-- a decimal begins with a digit
pub digits_begin : (ds rest : List ℕ) → AreDigits ds → 0 < length ds → is_digit (look (ds ++ rest)) ≡ true
digits_begin [] rest d l = absurd (omega arith)
digits_begin (c ∷ cs) rest d l = (and_parts (is_digit c) (list_all is_digit cs) d).0

-- ---- digit by digit

number_push : (n : ℕ) (xs : List ℕ) (c : ℕ) → number_behind n (xs ++ c ∷ []) ≡ number_behind n xs * 10 + (c - 48)
number_push n [] c = refl
number_push n (x ∷ xs) c = number_push (n * 10 + (x - 48)) xs c

pub number_more : (ds : List ℕ) (i d : ℕ) → i < length ds → number_behind 0 (take (i + 1) ds) ≡ number_behind 0 (take i ds) * 10 + (get_or ds i d - 48)
number_more ds i d l = ap (number_behind 0) (take_more ds i d l) ∙ number_push 0 (take i ds) (get_or ds i d)

digits_take : (ds : List ℕ) (i : ℕ) → AreDigits ds → AreDigits (take i ds)
digits_take [] zero h = refl
digits_take [] (suc i) h = refl
digits_take (c ∷ cs) zero h = refl
digits_take (c ∷ cs) (suc i) h = let w = and_parts (is_digit c) (list_all is_digit cs) h in and_from (is_digit c) (list_all is_digit (take i cs)) w.0 (digits_take cs i w.1)

pub number_small : (ds : List ℕ) (i : ℕ) → AreDigits ds → i < length ds → length ds ≤ 16 → number_behind 0 (take i ds) < 1000000000000000
number_small ds i h l few = digits_value_short own (take i ds) 15 (digits_take ds i h) (omega (arith, length-take-le i ds (omega arith)))

pub digit_there : (ds : List ℕ) (i d : ℕ) → AreDigits ds → i < length ds → IsInRange 48 57 (get_or ds i d)
digit_there [] i d h l = absurd (omega arith)
digit_there (c ∷ cs) zero d h l = digit_range c (and_parts (is_digit c) (list_all is_digit cs) h).0
digit_there (c ∷ cs) (suc i) d h l = digit_there cs i d (and_parts (is_digit c) (list_all is_digit cs) h).1 (omega arith)
