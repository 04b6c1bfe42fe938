-- What uses of `Math` and of `String` break.
use Rattle.std.proofs.Common.{◌≡◌, ◌∙◌, ℕ, ℤ, pos, nat_le, unsigned_abs, Bool, true, false, not, ◌&&◌, cond, List, [], ◌∷◌, ◌++◌, map, Some, None, refl, sym, ap}
use Rattle.std.specs.List.{list_all}
use Rattle.std.proofs.lemmas.List.Folds.{list_all-map}
use Rattle.cc_ast.specs.Syntax.{whole}
use Rattle.cc_meaning.specs.Builtins.{math_use, math_max, math_min, math_abs, outermost, string_use, string_of, from_char_codes, codes_after, to_uint16}
use Rattle.cc_meaning.specs.Operators.{gives, breaks, number}
use Rattle.cc_meaning.specs.Rules.{outcome_rule, is_prim}
use Rattle.cc_meaning.specs.SlotRules.{rule_unless}
use Rattle.cc_meaning.specs.Values.{Val, prim, obj, out}
use Rattle.cc_value.specs.declared.value.Value.{Value}
use Rattle.cc_value.specs.declared.value.Value.TheVariants as V
use Rattle.cc_value.specs.Bridge.{value_of}
use Rattle.cc_conform.specs.Operands.{is_whole, has_none, has_one, only}
use Rattle.cc_conform.proofs.UseTexts.{and-false}

-- ---- numbers

outermost-rule : (f : ℤ → ℤ → ℤ) (z : ℤ) (vs : List Val) → outcome_rule (outermost f z vs) ≡ rule_unless (list_all is_whole vs) 2
unfolding outcome_rule outermost rule_unless
outermost-rule f z [] = refl
outermost-rule f z (prim (whole y) ∷ vs) = outermost-rule f (f z y) vs
outermost-rule f z (v ∷ vs) = refl

max : (vs : List Val) → outcome_rule (math_use math_max vs) ≡ rule_unless (not (has_none vs) && list_all is_whole vs) 2
unfolding outcome_rule math_use rule_unless
max [] = refl
max (prim (whole z) ∷ vs) = outermost-rule _ z vs
max (v ∷ vs) = refl

min : (vs : List Val) → outcome_rule (math_use math_min vs) ≡ rule_unless (not (has_none vs) && list_all is_whole vs) 2
unfolding outcome_rule math_use rule_unless
min [] = refl
min (prim (whole z) ∷ vs) = outermost-rule _ z vs
min (v ∷ vs) = refl

by_wholes : (xs : List Value) → rule_unless (not (has_none (map value_of xs)) && list_all is_whole (map value_of xs)) 2 ≡ rule_unless (not (has_none (map value_of xs)) && list_all (λ v. is_whole (value_of v)) xs) 2
by_wholes xs = ap (λ (b : Bool). rule_unless (not (has_none (map value_of xs)) && b) 2) (list_all-map is_whole value_of xs)

pub max-rule : (xs : List Value) → outcome_rule (math_use math_max (map value_of xs)) ≡ rule_unless (not (has_none (map value_of xs)) && list_all (λ v. is_whole (value_of v)) xs) 2
max-rule xs = max (map value_of xs) ∙ by_wholes xs

pub min-rule : (xs : List Value) → outcome_rule (math_use math_min (map value_of xs)) ≡ rule_unless (not (has_none (map value_of xs)) && list_all (λ v. is_whole (value_of v)) xs) 2
min-rule xs = min (map value_of xs) ∙ by_wholes xs

exact : (b : Bool) (v : Val) → rule_unless b 1 ≡ outcome_rule (cond b (gives v) (breaks 1))
unfolding outcome_rule rule_unless
exact true v = refl
exact false v = refl

pub abs-Whole : (z : ℤ) → rule_unless (nat_le (unsigned_abs z) 9007199254740991) 1 ≡ outcome_rule (math_use math_abs (prim (whole z) ∷ []))
unfolding math_use number
abs-Whole z = exact (nat_le (unsigned_abs z) 9007199254740991) (prim (whole (pos (unsigned_abs z))))

pub abs-no_whole : (v : Value) → ((z : ℤ) → v ≡ V.Whole z → ⊥) → Some 2 ≡ outcome_rule (math_use math_abs (value_of v ∷ []))
unfolding outcome_rule math_use
abs-no_whole (V.Whole z) h = absurd (h z refl)
abs-no_whole v h = refl

pub abs-other : (xs : List Value) → only xs ≡ None → Some 2 ≡ outcome_rule (math_use math_abs (map value_of xs))
unfolding outcome_rule math_use
abs-other [] e = refl
abs-other (x ∷ []) e = cc
abs-other (V.Whole z ∷ y ∷ xs) e = refl
abs-other (x ∷ y ∷ xs) e = refl

-- ---- texts

string : (vs : List Val) → outcome_rule (string_use vs) ≡ rule_unless (list_all is_prim vs && has_one vs) 2
unfolding outcome_rule string_use string_of rule_unless is_prim
string [] = refl
string (prim p ∷ []) = refl
string (obj n ∷ []) = refl
string (out n ∷ []) = refl
string (v ∷ w ∷ vs) = ap (λ (b : Bool). rule_unless b 2) (sym (and-false (list_all is_prim (v ∷ w ∷ vs))))

pub string-rule : (xs : List Value) → outcome_rule (string_use (map value_of xs)) ≡ rule_unless (list_all (λ v. is_prim (value_of v)) xs && has_one (map value_of xs)) 2
string-rule xs = string (map value_of xs) ∙ ap (λ (b : Bool). rule_unless (b && has_one (map value_of xs)) 2) (list_all-map is_prim value_of xs)

codes : (t : List ℕ) (vs : List Val) → outcome_rule (codes_after t vs) ≡ rule_unless (list_all is_whole vs) 2
unfolding outcome_rule codes_after rule_unless
codes t [] = refl
codes t (prim (whole z) ∷ vs) = codes (t ++ to_uint16 z ∷ []) vs
codes t (v ∷ vs) = refl

pub codes-rule : (xs : List Value) → outcome_rule (from_char_codes (map value_of xs)) ≡ rule_unless (list_all (λ v. is_whole (value_of v)) xs) 2
unfolding from_char_codes
codes-rule xs = codes [] (map value_of xs) ∙ ap (λ (b : Bool). rule_unless b 2) (list_all-map is_whole value_of xs)
