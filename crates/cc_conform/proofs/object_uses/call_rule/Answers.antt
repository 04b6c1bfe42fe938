use Rattle.std.proofs.Common.{◌∙◌, List, map, sym, ap}
use Rattle.cc_meaning.specs.Built.{outcome_of, rule_in}
use Rattle.cc_meaning.specs.Store.{call_with}
use Rattle.cc_value.specs.Bridge.{value_of}
use Rattle.cc_value.specs.declared.value.Value.{Value}
use Rattle.cc_conform.specs.Bridge.{with_store}
use Rattle.cc_conform.proofs.UseObjects.{call-none}
use Rattle.cc_conform.proofs.object_uses.call_rule.Goals as goal

pub returns-in-Some : goal.returns-in-Some
returns-in-Some c = λ T s. c.function_rule.ensures T s ∙ sym (ap (λ (xs : List Value). rule_in T (with_store s c.args.heap.now) (outcome_of (with_store s c.args.heap.now) call_with (map value_of xs))) c.in-Some.ensures.cases.0)

pub returns-in-None : goal.returns-in-None
returns-in-None c = λ T s. call-none T (with_store s c.args.heap.now) c.args.operands.now c.in-None.ensures.cases
