use Rattle.std.proofs.Common.{◌≡◌, ◌∙◌, ap, refl, codes, Some, List, ℕ, rules, ◌++◌}
use Rattle.std.proofs.lemmas.Int.{to_z-of_z}
use Rattle.std.specs.Int.{w64}
use Rattle.cc_meaning.specs.Operators.{prim_text, decimal, truth_text}
use Rattle.cc_value.specs.declared.value.Value.{Value}
use Rattle.cc_value.specs.declared.value.Value.TheVariants as V
use Rattle.cc_value.specs.Bridge.{text_of, value_of}
use Rattle.cc_value.proofs.texts.append_text.Goals as goal

-- the text of a value that is known
known : (v w : Value) (t : List ℕ) → v ≡ w → text_of (value_of w) ≡ Some t → text_of (value_of v) ≡ Some t
known v w t e is = ap (λ (x : Value). text_of (value_of x)) e ∙ is

undefined_text : text_of (value_of V.Undefined) ≡ Some (codes "undefined")
unfolding prim_text
undefined_text = refl

null_text : text_of (value_of V.Null) ≡ Some (codes "null")
unfolding prim_text
null_text = refl

pub returns-in_ok-append_ascii-in-Undefined : goal.returns-in_ok-append_ascii-in-Undefined
returns-in_ok-append_ascii-in-Undefined c = (codes "undefined", known c.args.value.now V.Undefined (codes "undefined") c.in-Undefined.is undefined_text, c.in_ok-append_ascii-in-Undefined.ensures)

pub returns-in_ok-append_ascii-in-Null : goal.returns-in_ok-append_ascii-in-Null
returns-in_ok-append_ascii-in-Null c = (codes "null", known c.args.value.now V.Null (codes "null") c.in-Null.is null_text, c.in_ok-append_ascii-in-Null.ensures)

pub returns-in_ok-append_truth-in-Truth : goal.returns-in_ok-append_truth-in-Truth
unfolding prim_text
returns-in_ok-append_truth-in-Truth c = (truth_text c.in-Truth.b, known c.args.value.now (V.Truth c.in-Truth.b) (truth_text c.in-Truth.b) c.in-Truth.is refl, c.in_ok-append_truth-in-Truth.ensures)

pub returns-in_ok-append_whole-in-Whole : goal.returns-in_ok-append_whole-in-Whole
unfolding prim_text
returns-in_ok-append_whole-in-Whole c = (decimal c.in-Whole.z, known c.args.value.now (V.Whole c.in-Whole.z) (decimal c.in-Whole.z) c.in-Whole.is refl, simp (to_z-of_z w64 c.in-Whole.z (search rules)) at c.in_ok-append_whole-in-Whole.ensures)

pub returns-in_ok-extend_from_slice-in-Text : goal.returns-in_ok-extend_from_slice-in-Text
unfolding prim_text
returns-in_ok-extend_from_slice-in-Text c = (c.in-Text.text, known c.args.value.now (V.Text c.in-Text.text) c.in-Text.text c.in-Text.is refl, c.in_ok-extend_from_slice-in-Text.ensures.items ∙ ap (λ (t : List ℕ). c.args.into.now.items ++ t) (c.as_slice.ensures.value ∙ c.text.view_is))
