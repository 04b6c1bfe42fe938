use Rattle.std.proofs.Common.{◌∙◌, ℕ, List, ap}
use Rattle.cc_meaning.specs.Builtins.{position_number, first_place}
use Rattle.cc_meaning.specs.Rules.{outcome_rule}
use Rattle.cc_conform.proofs.UnitLemmas.{first-Text, first-no_text}
use Rattle.cc_conform.proofs.text_uses.first_of_rule.Goals as goal

pub returns-in-Text : goal.returns-in-Text
returns-in-Text c =
    c.first_place_rule.ensures ∙ ap (λ (s : List ℕ). outcome_rule (position_number (first_place 0 s c.args.text.now))) (c.as_slice.ensures.value ∙ c.part.view_is) ∙ first-Text c.args.text.now c.args.part.now c.in-Text.part c.in-Text.is

pub returns-in_default : goal.returns-in_default
returns-in_default c = first-no_text c.args.text.now c.args.part.now c.in_default.not-Text
