-- What uses of texts break, by the kinds and the number of their arguments.
use Rattle.std.proofs.Common.{◌≡◌, ◌∙◌, ℕ, Bool, true, false, ◌&&◌, List, [], ◌∷◌, map, Some, None, option_to_list, refl, sym, ap}
use Rattle.std.specs.List.{list_all}
use Rattle.std.proofs.lemmas.List.Folds.{list_all-map}
use Rattle.cc_ast.specs.Syntax.{whole}
use Rattle.cc_meaning.specs.Builtins.{text_use, text_char_at, text_char_code_at, text_index_of, text_last_index_of, text_slice, text_substring}
use Rattle.cc_meaning.specs.Rules.{outcome_rule}
use Rattle.cc_meaning.specs.SlotRules.{rule_unless}
use Rattle.cc_meaning.specs.Values.{Val, prim}
use Rattle.cc_value.specs.declared.value.Value.{Value}
use Rattle.cc_value.specs.declared.value.Value.TheVariants as V
use Rattle.cc_value.specs.Bridge.{value_of}
use Rattle.cc_conform.specs.Operands.{is_whole, has_one, has_one_or_two, only}

pub and-false : (a : Bool) → (a && false) ≡ false
and-false true = refl
and-false false = refl

-- ---- whole numbers alone

char_at : (t : List ℕ) (vs : List Val) → outcome_rule (text_use text_char_at t vs) ≡ rule_unless (list_all is_whole vs && has_one vs) 2
unfolding outcome_rule text_use rule_unless
char_at t [] = refl
char_at t (prim (whole i) ∷ []) = refl
char_at t (prim (whole i) ∷ w ∷ vs) = ap (λ (b : Bool). rule_unless b 2) (sym (and-false (list_all is_whole (w ∷ vs))))
char_at t (v ∷ vs) = refl

slice : (t : List ℕ) (vs : List Val) → outcome_rule (text_use text_slice t vs) ≡ rule_unless (list_all is_whole vs && has_one_or_two vs) 2
unfolding outcome_rule text_use rule_unless
slice t [] = refl
slice t (prim (whole i) ∷ []) = refl
slice t (prim (whole i) ∷ prim (whole j) ∷ []) = refl
slice t (prim (whole i) ∷ prim (whole j) ∷ w ∷ vs) = ap (λ (b : Bool). rule_unless b 2) (sym (and-false (list_all is_whole (w ∷ vs))))
slice t (prim (whole i) ∷ w ∷ vs) = refl
slice t (v ∷ vs) = refl

substring : (t : List ℕ) (vs : List Val) → outcome_rule (text_use text_substring t vs) ≡ rule_unless (list_all is_whole vs && has_one_or_two vs) 2
unfolding outcome_rule text_use rule_unless
substring t [] = refl
substring t (prim (whole i) ∷ []) = refl
substring t (prim (whole i) ∷ prim (whole j) ∷ []) = refl
substring t (prim (whole i) ∷ prim (whole j) ∷ w ∷ vs) = ap (λ (b : Bool). rule_unless b 2) (sym (and-false (list_all is_whole (w ∷ vs))))
substring t (prim (whole i) ∷ w ∷ vs) = refl
substring t (v ∷ vs) = refl

by_kind : (p : Val → Bool) (n : Bool) (xs : List Value) → rule_unless (list_all p (map value_of xs) && n) 2 ≡ rule_unless (list_all (λ v. p (value_of v)) xs && n) 2
by_kind p n xs = ap (λ (b : Bool). rule_unless (b && n) 2) (list_all-map p value_of xs)

pub char_at-rule : (t : List ℕ) (xs : List Value) → outcome_rule (text_use text_char_at t (map value_of xs)) ≡ rule_unless (list_all (λ v. is_whole (value_of v)) xs && has_one (map value_of xs)) 2
char_at-rule t xs = char_at t (map value_of xs) ∙ by_kind is_whole (has_one (map value_of xs)) xs

pub slice-rule : (t : List ℕ) (xs : List Value) → outcome_rule (text_use text_slice t (map value_of xs)) ≡ rule_unless (list_all (λ v. is_whole (value_of v)) xs && has_one_or_two (map value_of xs)) 2
slice-rule t xs = slice t (map value_of xs) ∙ by_kind is_whole (has_one_or_two (map value_of xs)) xs

pub substring-rule : (t : List ℕ) (xs : List Value) → outcome_rule (text_use text_substring t (map value_of xs)) ≡ rule_unless (list_all (λ v. is_whole (value_of v)) xs && has_one_or_two (map value_of xs)) 2
substring-rule t xs = substring t (map value_of xs) ∙ by_kind is_whole (has_one_or_two (map value_of xs)) xs

-- ---- one argument alone

pub only-Some : {A : Type 0} (xs : List A) (x : A) → only xs ≡ Some x → xs ≡ x ∷ []
only-Some [] x e = cc
only-Some (y ∷ []) x e = ap option_to_list e
only-Some (y ∷ z ∷ xs) x e = cc

pub code-other : (t : List ℕ) (xs : List Value) → only xs ≡ None → Some 2 ≡ outcome_rule (text_use text_char_code_at t (map value_of xs))
unfolding outcome_rule text_use
code-other t [] e = refl
code-other t (x ∷ []) e = cc
code-other t (V.Whole z ∷ y ∷ xs) e = refl
code-other t (x ∷ y ∷ xs) e = refl

pub first-other : (t : List ℕ) (xs : List Value) → only xs ≡ None → Some 2 ≡ outcome_rule (text_use text_index_of t (map value_of xs))
unfolding outcome_rule text_use
first-other t [] e = refl
first-other t (x ∷ []) e = cc
first-other t (V.Text s ∷ y ∷ xs) e = refl
first-other t (x ∷ y ∷ xs) e = refl

pub last-other : (t : List ℕ) (xs : List Value) → only xs ≡ None → Some 2 ≡ outcome_rule (text_use text_last_index_of t (map value_of xs))
unfolding outcome_rule text_use
last-other t [] e = refl
last-other t (x ∷ []) e = cc
last-other t (V.Text s ∷ y ∷ xs) e = refl
last-other t (x ∷ y ∷ xs) e = refl
