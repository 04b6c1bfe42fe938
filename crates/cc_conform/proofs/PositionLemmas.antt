-- Numbers that are counts and places.
use Rattle.std.proofs.Common.{◌≡◌, ◌∙◌, ℕ, ◌<◌, ◌≤◌, pos, Option, Some, None, IfSome, Bool, nat_le, refl, sym, ap, inl, inr}
use Rattle.std.proofs.lemmas.Bool.{cases_lt, le-leb, lt-leb}
use Rattle.cc_meaning.specs.SlotRules.{rule_unless}
use Rattle.cc_meaning.specs.Builtins.{position_number}
use Rattle.cc_meaning.specs.Operators.{number}
use Rattle.cc_meaning.specs.Rules.{outcome_rule}
use Rattle.cc_value.proofs.Numbers.{number-made, number-past}

pub count-made : (n : ℕ) → n ≤ 9007199254740991 → outcome_rule (number (pos n)) ≡ None
unfolding outcome_rule
count-made n h = ap outcome_rule (number-made (pos n) h)

pub count-past : (n : ℕ) → 9007199254740991 < n → outcome_rule (number (pos n)) ≡ Some 1
unfolding outcome_rule
count-past n h = ap outcome_rule (number-past (pos n) h)

pub position-made : (o : Option ℕ) (n : ℕ) → o ≡ Some n → n ≤ 9007199254740991 → None ≡ outcome_rule (position_number o)
unfolding position_number
position-made o n e h = sym (ap (λ (p : Option ℕ). outcome_rule (position_number p)) e ∙ count-made n h)

pub position-past : (o : Option ℕ) (n : ℕ) → o ≡ Some n → 9007199254740991 < n → Some 1 ≡ outcome_rule (position_number o)
unfolding position_number
position-past o n e h = sym (ap (λ (p : Option ℕ). outcome_rule (position_number p)) e ∙ count-past n h)

pub position-none : (o : Option ℕ) → o ≡ None → None ≡ outcome_rule (position_number o)
unfolding outcome_rule position_number number
position-none o e = sym (ap (λ (p : Option ℕ). outcome_rule (position_number p)) e)

-- a place that is small enough
pub position-small : (o : Option ℕ) → IfSome o (λ p. p ≤ 9007199254740991) → None ≡ outcome_rule (position_number o)
position-small None h = position-none None refl
position-small (Some p) h = position-made (Some p) p refl h

-- the rule of a count, by its size
pub count-rule : (n : ℕ) → rule_unless (nat_le n 9007199254740991) 1 ≡ outcome_rule (number (pos n))
unfolding rule_unless
count-rule n =
    elim (cases_lt 9007199254740991 n) [
      | inl h ↦ ap (λ (b : Bool). rule_unless b 1) (lt-leb n 9007199254740991 h) ∙ sym (count-past n h)
      | inr h ↦ ap (λ (b : Bool). rule_unless b 1) (le-leb n 9007199254740991 h) ∙ sym (count-made n h)
    ]
