use Rattle.std.proofs.Common.{◌≡◌, ◌∙◌, ap, sym, subst, rules}
use Rattle.std.specs.Int.{w64}
use Rattle.std.proofs.lemmas.Int.{to_z-of_z}
use Rattle.cc_ast.specs.declared.operator.BinOp.TheVariants.{Add}
use Rattle.cc_meaning.specs.Operators.{Outcome, binary_of}
use Rattle.cc_meaning.specs.Rules.{outcome_rule}
use Rattle.cc_value.specs.declared.value.Value.{Value}
use Rattle.cc_value.specs.declared.value.Value.TheVariants as V
use Rattle.cc_value.specs.Bridge.{value_of, Answers, text_of, joined_of}
use Rattle.cc_value.proofs.Cases.{add-text_first, add-text_second, add-whole_other, add-others}
use Rattle.cc_value.proofs.OtherCases.{add-wholes}
use Rattle.cc_value.proofs.rules.add_rule.Goals as goal

-- a text on the left, and one on the right
first : (u v t : Value) → u ≡ t → binary_of Add (value_of t) (value_of v) ≡ joined_of (text_of (value_of t)) (text_of (value_of v)) → outcome_rule (joined_of (text_of (value_of u)) (text_of (value_of v))) ≡ outcome_rule (binary_of Add (value_of u) (value_of v))
first u v t e j = ap outcome_rule (let P : Value → Type 0 = λ x. joined_of (text_of (value_of x)) (text_of (value_of v)) ≡ binary_of Add (value_of x) (value_of v) in subst P (sym e) (sym j))

second : (u v t : Value) → v ≡ t → binary_of Add (value_of u) (value_of t) ≡ joined_of (text_of (value_of u)) (text_of (value_of t)) → outcome_rule (joined_of (text_of (value_of u)) (text_of (value_of v))) ≡ outcome_rule (binary_of Add (value_of u) (value_of v))
second u v t e j = ap outcome_rule (let P : Value → Type 0 = λ x. joined_of (text_of (value_of u)) (text_of (value_of x)) ≡ binary_of Add (value_of u) (value_of x) in subst P (sym e) (sym j))

pub returns-in-Text : goal.returns-in-Text
returns-in-Text c = c.joined_rule.ensures ∙ first c.args.a.now c.args.b.now (V.Text c.in-Text.field-0) c.in-Text.is (add-text_first c.in-Text.field-0 c.args.b.now)

pub returns-in-Whole-b : goal.returns-in-Whole-b
returns-in-Whole-b c =
    let row : binary_of Add (value_of (V.Whole c.in-Whole.x)) (value_of (V.Whole c.in-Whole-b.y)) ≡ binary_of Add (value_of c.args.a.now) (value_of c.args.b.now) =
    ap (λ (v : Value). binary_of Add (value_of v) (value_of (V.Whole c.in-Whole-b.y))) (sym c.in-Whole.is) ∙ ap (λ (v : Value). binary_of Add (value_of c.args.a.now) (value_of v)) (sym c.in-Whole-b.is) in
    c.rule_of.ensures _ (subst (λ (o : Outcome). Answers c.sum.result o) (add-wholes c.in-Whole.x c.in-Whole-b.y ∙ row) (simp (to_z-of_z w64 c.in-Whole.x (search rules), to_z-of_z w64 c.in-Whole-b.y (search rules)) at c.sum.ensures))

pub returns-in-Text-b : goal.returns-in-Text-b
returns-in-Text-b c = c.joined_rule-in-Text-b.ensures ∙ second c.args.a.now c.args.b.now (V.Text c.in-Text-b.field-0) c.in-Text-b.is (add-text_second c.args.a.now c.in-Text-b.field-0)

pub returns-in_default-b : goal.returns-in_default-b
unfolding outcome_rule
returns-in_default-b c = sym (ap outcome_rule (ap (λ (v : Value). binary_of Add (value_of v) (value_of c.args.b.now)) c.in-Whole.is ∙ add-whole_other c.in-Whole.x c.args.b.now c.in_default-b.not-Whole c.in_default-b.not-Text))

pub returns-in-Text-b-2 : goal.returns-in-Text-b-2
returns-in-Text-b-2 c = c.joined_rule-in-Text-b-2.ensures ∙ second c.args.a.now c.args.b.now (V.Text c.in-Text-b-2.field-0) c.in-Text-b-2.is (add-text_second c.args.a.now c.in-Text-b-2.field-0)

pub returns-in_default-b-2 : goal.returns-in_default-b-2
unfolding outcome_rule
returns-in_default-b-2 c = sym (ap outcome_rule (add-others c.args.a.now c.args.b.now c.in_default.not-Text c.in_default.not-Whole c.in_default-b-2.not-Text))
