use Rattle.std.proofs.Common.{◌∙◌, List, map, sym, ap}
use Rattle.cc_meaning.specs.Built.{outcome_of, rule_in}
use Rattle.cc_meaning.specs.Store.{of_text}
use Rattle.cc_value.specs.Bridge.{value_of}
use Rattle.cc_value.specs.declared.value.Value.{Value}
use Rattle.cc_conform.specs.Bridge.{text_use_of}
use Rattle.cc_conform.proofs.OutcomeLemmas.{no-text}
use Rattle.cc_conform.proofs.text_uses.text_rule.Goals as goal

pub returns-in-Some : goal.returns-in-Some
returns-in-Some c = λ T s. c.receiver_rule.ensures T s ∙ sym (ap (λ (xs : List Value). rule_in T s (outcome_of s (of_text (text_use_of c.args.kind)) (map value_of xs))) c.in-Some.ensures.cases.0)

pub returns-in-None : goal.returns-in-None
returns-in-None c = λ T s. no-text T s (text_use_of c.args.kind) c.args.operands.now c.in-None.ensures.cases
