use Rattle.std.proofs.Common.{◌∙◌, ℕ, map, Option, ap, arith}
use Rattle.cc_meaning.specs.Builtins.{position_number, element_place}
use Rattle.cc_meaning.specs.Rules.{outcome_rule}
use Rattle.cc_value.specs.Bridge.{value_of}
use Rattle.cc_conform.proofs.UseArrays.{element-within}
use Rattle.cc_conform.proofs.PositionLemmas.{position-small}
use Rattle.cc_conform.proofs.array_uses.element_place_rule.Goals as goal

pub returns-then-elements-le-GREATEST : goal.returns-then-elements-le-GREATEST
returns-then-elements-le-GREATEST c =
    let v = value_of c.args.value.now in
    position-small (element_place 0 v (map value_of c.args.elements.now)) (element-within v c.args.elements.now 9007199254740991 (omega (arith, c.if-elements-le-GREATEST.true)))

pub returns : goal.returns
returns c = c.position_rule.ensures ∙ ap (λ (o : Option ℕ). outcome_rule (position_number o)) c.element_place.ensures
