use Rattle.std.proofs.Common.{◌∙◌, List, map, sym, ap}
use Rattle.cc_meaning.specs.Builtins.{array_use, array_index_of}
use Rattle.cc_value.specs.Bridge.{value_of}
use Rattle.cc_value.specs.declared.value.Value.{Value}
use Rattle.cc_conform.specs.Uses.{result_rule}
use Rattle.cc_conform.proofs.UseArrays.{index-one, index-other}
use Rattle.cc_conform.proofs.UseTexts.{only-Some}
use Rattle.cc_conform.proofs.array_uses.index_rule.Goals as goal

pub returns-in-Some : goal.returns-in-Some
returns-in-Some c =
    let es = map value_of c.args.elements.now in
    c.element_place_rule.ensures ∙ index-one es (value_of c.in-Some.value.now) ∙ sym (ap (λ (xs : List Value). result_rule (array_use array_index_of es (map value_of xs))) (only-Some c.args.args.now c.in-Some.value.now (sym c.in-Some.ensures)))

pub returns-in-None : goal.returns-in-None
returns-in-None c = index-other (map value_of c.args.elements.now) c.args.args.now (sym c.in-None.ensures)
