use Rattle.std.proofs.Common.{◌∙◌, List, map, sym, ap}
use Rattle.cc_meaning.specs.Builtins.{text_use, text_char_code_at}
use Rattle.cc_meaning.specs.Rules.{outcome_rule}
use Rattle.cc_value.specs.Bridge.{value_of}
use Rattle.cc_value.specs.declared.value.Value.{Value}
use Rattle.cc_conform.proofs.UseTexts.{only-Some, code-other}
use Rattle.cc_conform.proofs.text_uses.char_code_rule.Goals as goal

pub returns-in-Some : goal.returns-in-Some
returns-in-Some c = c.code_of_rule.ensures ∙ sym (ap (λ (xs : List Value). outcome_rule (text_use text_char_code_at c.args.text.now (map value_of xs))) (only-Some c.args.args.now c.in-Some.place.now (sym c.in-Some.ensures)))

pub returns-in-None : goal.returns-in-None
returns-in-None c = code-other c.args.text.now c.args.args.now (sym c.in-None.ensures)
