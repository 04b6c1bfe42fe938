-- The rules of outcomes, and receivers of another kind.
use Rattle.std.proofs.Common.{◌≡◌, ◌∙◌, ℕ, List, [], ◌∷◌, length, map, Some, refl, sym, ap, arith}
use Rattle.cc_meaning.specs.Built.{outcome_of, rule_in, from_outcome}
use Rattle.cc_meaning.specs.Builtins.{TextUse, text_use}
use Rattle.cc_meaning.specs.Operators.{Outcome, gives, breaks}
use Rattle.cc_meaning.specs.Rules.{outcome_rule}
use Rattle.cc_meaning.specs.State.{State, Tables}
use Rattle.cc_meaning.specs.Store.{of_text}
use Rattle.cc_meaning.specs.Values.{Val}
use Rattle.cc_value.specs.declared.value.Value.{Value}
use Rattle.cc_value.specs.declared.value.Value.TheVariants as V
use Rattle.cc_value.specs.Bridge.{value_of}

pub from-rule : (T : Tables) (s : State) (o : Outcome) → outcome_rule o ≡ rule_in T s (from_outcome o)
unfolding outcome_rule rule_in from_outcome
from-rule T s (gives v) = refl
from-rule T s (breaks r) = refl

pub text-receiver : (T : Tables) (s : State) (u : TextUse) (v : Value) (t : List ℕ) (vs : List Val) → v ≡ V.Text t → outcome_rule (text_use u t vs) ≡ rule_in T s (outcome_of s (of_text u) (value_of v ∷ vs))
unfolding outcome_of
text-receiver T s u v t vs e = from-rule T s (text_use u t vs) ∙ sym (ap (λ (x : Value). rule_in T s (outcome_of s (of_text u) (value_of x ∷ vs))) e)

pub no_text-receiver : (T : Tables) (s : State) (u : TextUse) (v : Value) (vs : List Val) → ((t : List ℕ) → v ≡ V.Text t → ⊥) → Some 2 ≡ rule_in T s (outcome_of s (of_text u) (value_of v ∷ vs))
unfolding outcome_of rule_in
no_text-receiver T s u (V.Text t) vs h = absurd (h t refl)
no_text-receiver T s u v vs h = refl

pub no-text : (T : Tables) (s : State) (u : TextUse) (xs : List Value) → length xs ≡ 0 → Some 2 ≡ rule_in T s (outcome_of s (of_text u) (map value_of xs))
unfolding outcome_of rule_in
no-text T s u [] e = refl
no-text T s u (x ∷ xs) e = absurd (omega (arith, e))
