use Rattle.std.proofs.Common.{◌≡◌, ◌∙◌, ap, sym, rules, Bool, List, ℕ, Some, None}
use Rattle.std.specs.Int.{w64}
use Rattle.std.proofs.lemmas.Int.{to_z-of_z}
use Rattle.cc_meaning.specs.Operators.{text_less, prim_less}
use Rattle.cc_value.specs.declared.value.Value.{Value}
use Rattle.cc_value.specs.declared.value.Value.TheVariants as V
use Rattle.cc_value.specs.Bridge.{value_of, less_of}
use Rattle.cc_value.proofs.Cases.{less-Whole, less-Text, less-others}
use Rattle.cc_value.proofs.operate.less.Goals as goal

both : (u v x y : Value) → u ≡ x → v ≡ y → less_of (value_of x) (value_of y) ≡ less_of (value_of u) (value_of v)
both u v x y e f = ap (λ (z : Value). less_of (value_of z) (value_of y)) (sym e) ∙ ap (λ (z : Value). less_of (value_of u) (value_of z)) (sym f)

left : (u v x : Value) → u ≡ x → less_of (value_of x) (value_of v) ≡ None → None ≡ less_of (value_of u) (value_of v)
left u v x e f = sym f ∙ ap (λ (z : Value). less_of (value_of z) (value_of v)) (sym e)

pub returns-in-Whole-b : goal.returns-in-Whole-b
unfolding prim_less
returns-in-Whole-b c = simp (to_z-of_z w64 c.in-Whole.x (search rules), to_z-of_z w64 c.in-Whole-b.y (search rules)) (both c.args.a.now c.args.b.now (V.Whole c.in-Whole.x) (V.Whole c.in-Whole-b.y) c.in-Whole.is c.in-Whole-b.is)

pub returns-in_default-b : goal.returns-in_default-b
returns-in_default-b c = left c.args.a.now c.args.b.now (V.Whole c.in-Whole.x) c.in-Whole.is (less-Whole c.in-Whole.x c.args.b.now c.in_default-b.not-Whole)

pub returns-in-Text-b : goal.returns-in-Text-b
unfolding prim_less
returns-in-Text-b c =
    let first : c.as_slice.result.now ≡ c.in-Text.x = c.as_slice.ensures.value ∙ c.x.view_is in
    let second : c.as_slice-in-Text-b.result.now ≡ c.in-Text-b.y = c.as_slice-in-Text-b.ensures.value ∙ c.y.view_is in
    ap (λ (b : Bool). Some b) (c.is_less.ensures ∙ ap (λ (s : List ℕ). text_less s c.as_slice-in-Text-b.result.now) first ∙ ap (text_less c.in-Text.x) second)
    ∙ both c.args.a.now c.args.b.now (V.Text c.in-Text.x) (V.Text c.in-Text-b.y) c.in-Text.is c.in-Text-b.is

pub returns-in_default-b-2 : goal.returns-in_default-b-2
returns-in_default-b-2 c = left c.args.a.now c.args.b.now (V.Text c.in-Text.x) c.in-Text.is (less-Text c.in-Text.x c.args.b.now c.in_default-b-2.not-Text)

pub returns-in_default : goal.returns-in_default
returns-in_default c = sym (less-others c.args.a.now c.args.b.now c.in_default.not-Whole c.in_default.not-Text)
