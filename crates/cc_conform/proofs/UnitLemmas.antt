-- The units of texts by place, and arguments of other kinds.
use Rattle.std.proofs.Common.{◌≡◌, ◌∙◌, ℕ, ◌<◌, nat_lt, int_lt, ℤ, pos, negsuc, unsigned_abs, Bool, true, false, List, [], ◌∷◌, length, get_or, slice_get, Option, Some, None, Fits, w16, refl, sym, ap, inl, inr, arith}
use Rattle.std.proofs.lemmas.Bool.{cases_lt, lt-ltb, le-ltb}
use Rattle.std.proofs.lemmas.Option.{slice_get-get_or, slice_get_past}
use Rattle.cc_meaning.specs.Builtins.{text_use, text_char_code_at, text_index_of, text_last_index_of, char_code_at, code_outcome, position_number, first_place, last_place}
use Rattle.cc_meaning.specs.Rules.{outcome_rule}
use Rattle.cc_meaning.specs.SlotRules.{rule_unless}
use Rattle.cc_value.specs.declared.value.Value.{Value}
use Rattle.cc_value.specs.declared.value.Value.TheVariants as V
use Rattle.cc_value.specs.Bridge.{value_of}
use Rattle.cc_conform.proofs.PositionLemmas.{count-made}

-- ---- the unit at a place

pub code-negative : (t : List ℕ) (z : ℤ) → int_lt z (pos 0) ≡ true → Some 1 ≡ outcome_rule (char_code_at t z)
unfolding outcome_rule char_code_at
code-negative t (negsuc n) h = refl
code-negative t (pos n) h = let e : nat_lt n 0 ≡ false = le-ltb n 0 (omega arith) in cc

code_is : (t : List ℕ) (n : ℕ) (o : Option ℕ) → slice_get t n ≡ o → outcome_rule (char_code_at t (pos n)) ≡ outcome_rule (code_outcome o)
unfolding char_code_at
code_is t n o e = ap (λ (p : Option ℕ). outcome_rule (code_outcome p)) e

pub code-place : (t : List ℕ) (z : ℤ) → int_lt z (pos 0) ≡ false → ((i : ℕ) → Fits w16 (get_or t i 0)) → rule_unless (nat_lt (unsigned_abs z) (length t)) 1 ≡ outcome_rule (char_code_at t z)
unfolding outcome_rule rule_unless code_outcome
code-place t (negsuc n) h fits = cc
code-place t (pos n) h fits =
    elim (cases_lt n (length t)) [
      | inl k ↦
          let small : get_or t n 0 < 65536 = omega (arith, fits n) in
          ap (λ (b : Bool). rule_unless b 1) (lt-ltb n (length t) k) ∙ sym (code_is t n (Some (get_or t n 0)) (slice_get-get_or t n 0 k) ∙ count-made (get_or t n 0) (omega (arith, small)))
      | inr k ↦ ap (λ (b : Bool). rule_unless b 1) (le-ltb n (length t) k) ∙ sym (code_is t n None (slice_get_past t n k))
    ]

-- ---- the kind of an argument

pub code-Whole : (t : List ℕ) (v : Value) (z : ℤ) → v ≡ V.Whole z → outcome_rule (char_code_at t z) ≡ outcome_rule (text_use text_char_code_at t (value_of v ∷ []))
unfolding text_use
code-Whole t v z e = sym (ap (λ (x : Value). outcome_rule (text_use text_char_code_at t (value_of x ∷ []))) e)

pub code-no_whole : (t : List ℕ) (v : Value) → ((z : ℤ) → v ≡ V.Whole z → ⊥) → Some 2 ≡ outcome_rule (text_use text_char_code_at t (value_of v ∷ []))
unfolding outcome_rule text_use
code-no_whole t (V.Whole z) h = absurd (h z refl)
code-no_whole t v h = refl

pub first-Text : (t : List ℕ) (v : Value) (s : List ℕ) → v ≡ V.Text s → outcome_rule (position_number (first_place 0 s t)) ≡ outcome_rule (text_use text_index_of t (value_of v ∷ []))
unfolding text_use
first-Text t v s e = sym (ap (λ (x : Value). outcome_rule (text_use text_index_of t (value_of x ∷ []))) e)

pub first-no_text : (t : List ℕ) (v : Value) → ((s : List ℕ) → v ≡ V.Text s → ⊥) → Some 2 ≡ outcome_rule (text_use text_index_of t (value_of v ∷ []))
unfolding outcome_rule text_use
first-no_text t (V.Text s) h = absurd (h s refl)
first-no_text t v h = refl

pub last-Text : (t : List ℕ) (v : Value) (s : List ℕ) → v ≡ V.Text s → outcome_rule (position_number (last_place 0 s t)) ≡ outcome_rule (text_use text_last_index_of t (value_of v ∷ []))
unfolding text_use
last-Text t v s e = sym (ap (λ (x : Value). outcome_rule (text_use text_last_index_of t (value_of x ∷ []))) e)

pub last-no_text : (t : List ℕ) (v : Value) → ((s : List ℕ) → v ≡ V.Text s → ⊥) → Some 2 ≡ outcome_rule (text_use text_last_index_of t (value_of v ∷ []))
unfolding outcome_rule text_use
last-no_text t (V.Text s) h = absurd (h s refl)
last-no_text t v h = refl
