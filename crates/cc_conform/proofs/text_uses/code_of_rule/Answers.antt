use Rattle.std.proofs.Common.{◌∙◌, ℤ, ap, rules}
use Rattle.std.specs.Int.{w64}
use Rattle.std.proofs.lemmas.Int.{to_z-of_z}
use Rattle.cc_meaning.specs.Builtins.{char_code_at}
use Rattle.cc_meaning.specs.Rules.{outcome_rule}
use Rattle.cc_conform.proofs.UnitLemmas.{code-Whole, code-no_whole}
use Rattle.cc_conform.proofs.text_uses.code_of_rule.Goals as goal

pub returns-in-Whole : goal.returns-in-Whole
returns-in-Whole c =
    c.code_at_rule.ensures ∙ ap (λ (z : ℤ). outcome_rule (char_code_at c.args.text.now z)) (to_z-of_z w64 c.in-Whole.place (search rules)) ∙ code-Whole c.args.text.now c.args.place.now c.in-Whole.place c.in-Whole.is

pub returns-in_default : goal.returns-in_default
returns-in_default c = code-no_whole c.args.text.now c.args.place.now c.in_default.not-Whole
