use Rattle.std.proofs.Common.{◌≡◌, ◌∙◌, ℤ, List, ℕ, None, Some, refl, sym, ap, rules, FitsSigned}
use Rattle.std.proofs.lemmas.Int.{to_z-of_z}
use Rattle.std.specs.Int.{w64}
use Rattle.cc_ast.specs.declared.units.Units.{Units}
use Rattle.cc_meaning.specs.Operators.{decimal, key_text}
use Rattle.cc_value.specs.declared.value.Value.{Value}
use Rattle.cc_value.specs.declared.value.Value.TheVariants as V
use Rattle.cc_value.specs.Bridge.{value_of}
use Rattle.cc_acts.proofs.keys.key_of.Goals as goal

other : (v : Value) → ((x : Units) → v ≡ V.Text x → ⊥) → ((z : ℤ) → v ≡ V.Whole z → ⊥) → None ≡ key_text (value_of v)
unfolding key_text
other V.Undefined h j = refl
other V.Null h j = refl
other (V.Truth b) h j = refl
other (V.Whole z) h j = absurd (j z refl)
other (V.Text t) h j = absurd (h t refl)
other (V.Object n) h j = refl
other (V.Outside n) h j = refl

pub returns-in_ok-copy_of-in-Text : goal.returns-in_ok-copy_of-in-Text
unfolding key_text
returns-in_ok-copy_of-in-Text c = ap (λ (t : List ℕ). Some t) (c.in_ok-copy_of-in-Text.ensures {u = tt}) ∙ sym (ap (λ (v : Value). key_text (value_of v)) c.in-Text.is)

pub returns-in_ok-decimal_of-in-Whole : goal.returns-in_ok-decimal_of-in-Whole
unfolding key_text
returns-in_ok-decimal_of-in-Whole c =
    let fits : FitsSigned w64 c.in-Whole.number = search rules in
    ap (λ (t : List ℕ). Some t) (c.in_ok-decimal_of-in-Whole.ensures {u = tt} ∙ ap decimal (to_z-of_z w64 c.in-Whole.number fits)) ∙ sym (ap (λ (v : Value). key_text (value_of v)) c.in-Whole.is)

pub returns-in_default : goal.returns-in_default
returns-in_default c = other c.args.value.now c.in_default.not-Text c.in_default.not-Whole
