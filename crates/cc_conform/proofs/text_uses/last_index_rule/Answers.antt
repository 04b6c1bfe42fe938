use Rattle.std.proofs.Common.{◌∙◌, List, map, sym, ap}
use Rattle.cc_meaning.specs.Builtins.{text_use, text_last_index_of}
use Rattle.cc_meaning.specs.Rules.{outcome_rule}
use Rattle.cc_value.specs.Bridge.{value_of}
use Rattle.cc_value.specs.declared.value.Value.{Value}
use Rattle.cc_conform.proofs.UseTexts.{only-Some, last-other}
use Rattle.cc_conform.proofs.text_uses.last_index_rule.Goals as goal

pub returns-in-Some : goal.returns-in-Some
returns-in-Some c = c.last_of_rule.ensures ∙ sym (ap (λ (xs : List Value). outcome_rule (text_use text_last_index_of c.args.text.now (map value_of xs))) (only-Some c.args.args.now c.in-Some.part.now (sym c.in-Some.ensures)))

pub returns-in-None : goal.returns-in-None
returns-in-None c = last-other c.args.text.now c.args.args.now (sym c.in-None.ensures)
