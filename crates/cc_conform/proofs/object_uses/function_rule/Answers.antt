use Rattle.std.proofs.Common.{◌∙◌, ◌&&◌, not, map, Option, is_some, sym, ap}
use Rattle.cc_heap.specs.Kinds.{code_of}
use Rattle.cc_meaning.specs.SlotRules.{rule_unless}
use Rattle.cc_meaning.specs.State.{Code}
use Rattle.cc_value.specs.Bridge.{value_of}
use Rattle.cc_conform.specs.Bridge.{with_store}
use Rattle.cc_conform.proofs.MetLemmas.{some_map}
use Rattle.cc_conform.proofs.UseObjects.{call-Object, call-no_object}
use Rattle.cc_conform.proofs.object_uses.function_rule.Goals as goal

pub returns-in-Object : goal.returns-in-Object
returns-in-Object c = λ T s.
    let code = c.is_some.ensures ∙ sym (some_map code_of c.code_of.result) ∙ ap (λ (k : Option Code). is_some k) c.code_of.ensures in
    c.rule_unless.ensures ∙ (λ i. rule_unless (code i && not (c.has_none.ensures i)) 2) ∙ call-Object T (with_store s c.args.heap.now) c.args.function.now c.in-Object.object (map value_of c.args.args.now) c.in-Object.is

pub returns-in_default : goal.returns-in_default
returns-in_default c = λ T s. call-no_object T (with_store s c.args.heap.now) c.args.function.now (map value_of c.args.args.now) c.in_default.not-Object
