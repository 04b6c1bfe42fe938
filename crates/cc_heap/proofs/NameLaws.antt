-- Index names read digit by digit, and the names of the methods of arrays.
use Rattle.std.proofs.Common.{◌≡◌, ◌≢◌, ℕ, suc, ◌+◌, ◌-◌, ◌*◌, ◌<◌, ◌≤◌, Bool, true, false, ◌||◌, List, [], ◌∷◌, length, get_or, drop, Option, Some, None, is_some, if◌then◌else◌, nat_le, refl, ap, ◌∙◌, inl, inr, arith, drop-cons}
use Rattle.std.proofs.lemmas.Bool.{ne_eqb, le-leb, lt-leb, and_from, and_left, and_right, cases_Bool}
use Rattle.cc_meaning.specs.Operators.{list_eq}
use Rattle.cc_meaning.specs.Names.{is_digit, digits_after, alone, decimal_value, up_to_greatest_index, index_value, name_push, name_unshift, name_pop, name_shift, name_slice, name_concat, name_join, name_indexOf}
use Rattle.cc_meaning.specs.Builtins.{ArrayUse, array_methods, array_method, method_of}
use Rattle.cc_heap.proofs.SlotLaws.{flipped}
use Rattle.cc_heap.proofs.LookUpLaws.{drop-all}

-- ---- index names

-- what is left to read after some digits
abbrev pub read_on : ℕ → List ℕ → Option ℕ
read_on n t = up_to_greatest_index (digits_after n t)

pub index-empty : (t : List ℕ) → length t ≡ 0 → index_value t ≡ None
unfolding index_value decimal_value up_to_greatest_index
index-empty [] e = refl
index-empty (c ∷ t) e = absurd (omega arith)

pub index-zero : (t : List ℕ) → get_or t 0 0 ≡ 48 → length t ≡ 1 → index_value t ≡ Some 0
unfolding index_value decimal_value up_to_greatest_index alone
index-zero [] z e = absurd (omega arith)
index-zero (c ∷ []) z e = rw z refl
index-zero (c ∷ d ∷ t) z e = absurd (omega arith)

pub index-zero-more : (t : List ℕ) → get_or t 0 0 ≡ 48 → length t ≢ 1 → index_value t ≡ None
unfolding index_value decimal_value up_to_greatest_index alone
index-zero-more [] z e = refl
index-zero-more (c ∷ []) z e = absurd (e refl)
index-zero-more (c ∷ d ∷ t) z e = rw z refl

pub index-digits : (t : List ℕ) → length t ≢ 0 → get_or t 0 0 ≢ 48 → index_value t ≡ read_on 0 t
unfolding index_value decimal_value
index-digits [] e z = absurd (e refl)
index-digits (c ∷ t) e z = rw (ne_eqb c 48 z) refl

digit-step : (n c : ℕ) (t : List ℕ) → is_digit c ≡ true → digits_after n (c ∷ t) ≡ digits_after (n * 10 + (c - 48)) t
unfolding digits_after
digit-step n c t e = rw e refl

no-digit : (n c : ℕ) (t : List ℕ) → is_digit c ≡ false → digits_after n (c ∷ t) ≡ None
unfolding digits_after
no-digit n c t e = rw e refl

too-great : (n : ℕ) (t : List ℕ) → 4294967294 < n → read_on n t ≡ None
unfolding digits_after up_to_greatest_index
too-great n [] h = rw (lt-leb n 4294967294 h) refl
too-great n (c ∷ t) h =
    elim (cases_Bool (is_digit c)) [
      | inl e ↦ rw e (too-great (n * 10 + (c - 48)) t (omega arith))
      | inr e ↦ rw e refl
    ]

no-more : (n : ℕ) → n ≤ 4294967294 → read_on n [] ≡ Some n
unfolding digits_after up_to_greatest_index
no-more n h = rw (le-leb n 4294967294 h) refl

-- the name from a place on, at which a unit stands
module _ (t : List ℕ) (i n : ℕ) (within : i < length t) where
  abbrev unit : ℕ
  unit = get_or t i 0

  pub read-low : unit < 48 → read_on n (drop i t) ≡ None
  unfolding up_to_greatest_index
  read-low h = rw (drop-cons t i 0 within) (ap up_to_greatest_index (no-digit n unit (drop (suc i) t) (and_left (nat_le 48 unit) (nat_le unit 57) (lt-leb 48 unit h))))

  pub read-high : 57 < unit → read_on n (drop i t) ≡ None
  unfolding up_to_greatest_index
  read-high h = rw (drop-cons t i 0 within) (ap up_to_greatest_index (no-digit n unit (drop (suc i) t) (and_right (nat_le 48 unit) (nat_le unit 57) (lt-leb unit 57 h))))

  pub read-digit : 48 ≤ unit → unit ≤ 57 → read_on n (drop i t) ≡ read_on (n * 10 + (unit - 48)) (drop (i + 1) t)
  read-digit h k =
      let next : i + 1 ≡ suc i = omega arith in
      rw (drop-cons t i 0 within, next) (ap up_to_greatest_index (digit-step n unit (drop (suc i) t) (and_from (nat_le 48 unit) (nat_le unit 57) (le-leb 48 unit h) (le-leb unit 57 k))))

  pub read-great : 48 ≤ unit → unit ≤ 57 → 4294967294 < n * 10 + (unit - 48) → read_on n (drop i t) ≡ None
  read-great h k g = read-digit h k ∙ too-great (n * 10 + (unit - 48)) (drop (i + 1) t) g

pub read-all : (t : List ℕ) (i n : ℕ) → length t ≤ i → n ≤ 4294967294 → read_on n (drop i t) ≡ Some n
read-all t i n h k = rw (drop-all t i h) (no-more n k)

-- ---- methods of arrays

eight : (a b c d e f g h : Bool) (s t u v w x y z : ArrayUse)
    → is_some (if a then Some s else if b then Some t else if c then Some u else if d then Some v else if e then Some w else if f then Some x else if g then Some y else if h then Some z else None)
    ≡ (((((((a || b) || c) || d) || e) || f) || g) || h)
eight true b c d e f g h s t u v w x y z = refl
eight false true c d e f g h s t u v w x y z = refl
eight false false true d e f g h s t u v w x y z = refl
eight false false false true e f g h s t u v w x y z = refl
eight false false false false true f g h s t u v w x y z = refl
eight false false false false false true g h s t u v w x y z = refl
eight false false false false false false true h s t u v w x y z = refl
eight false false false false false false false true s t u v w x y z = refl
eight false false false false false false false false s t u v w x y z = refl

pub methods : (n : List ℕ) → is_some (array_method n) ≡ (((((((list_eq n name_push || list_eq n name_unshift) || list_eq n name_pop) || list_eq n name_shift) || list_eq n name_slice) || list_eq n name_concat) || list_eq n name_join) || list_eq n name_indexOf)
unfolding array_method array_methods method_of
methods n =
    eight (list_eq name_push n) (list_eq name_unshift n) (list_eq name_pop n) (list_eq name_shift n) (list_eq name_slice n) (list_eq name_concat n) (list_eq name_join n) (list_eq name_indexOf n) _ _ _ _ _ _ _ _
    ∙ (λ i. (((((((flipped name_push n i || flipped name_unshift n i) || flipped name_pop n i) || flipped name_shift n i) || flipped name_slice n i) || flipped name_concat n i) || flipped name_join n i) || flipped name_indexOf n i))
