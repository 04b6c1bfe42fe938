use Rattle.std.proofs.Common.{◌∙◌, ℕ, Option, ap, arith}
use Rattle.cc_meaning.specs.Builtins.{position_number, first_place}
use Rattle.cc_meaning.specs.Rules.{outcome_rule}
use Rattle.cc_conform.proofs.PlaceLemmas.{first-within}
use Rattle.cc_conform.proofs.PositionLemmas.{position-small}
use Rattle.cc_conform.proofs.places.first_place_rule.Goals as goal

pub returns-then-text-le-GREATEST : goal.returns-then-text-le-GREATEST
returns-then-text-le-GREATEST c = position-small (first_place 0 c.args.part.now c.args.text.now) (first-within 0 c.args.part.now c.args.text.now 9007199254740991 (omega (arith, c.if-text-le-GREATEST.true)))

pub returns : goal.returns
returns c = c.position_rule.ensures ∙ ap (λ (o : Option ℕ). outcome_rule (position_number o)) c.first_place.ensures
