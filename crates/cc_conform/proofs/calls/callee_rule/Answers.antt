use Rattle.std.proofs.Common.{◌∙◌, Option, is_some, slice_get, sym, ap}
use Rattle.cc_heap.specs.Kinds.{code_of}
use Rattle.cc_meaning.specs.Rules.{callee_rule}
use Rattle.cc_meaning.specs.SlotRules.{rule_unless}
use Rattle.cc_meaning.specs.State.{Code}
use Rattle.cc_value.specs.Bridge.{value_of}
use Rattle.cc_value.specs.declared.value.Value.{Value}
use Rattle.cc_conform.specs.Bridge.{with_store}
use Rattle.cc_conform.proofs.MetLemmas.{some_map}
use Rattle.cc_conform.proofs.CallLemmas.{callable-parts, callee-others}
use Rattle.cc_conform.proofs.calls.callee_rule.Goals as goal

pub returns-in-Undefined : goal.returns-in-Undefined
unfolding callee_rule
returns-in-Undefined c = λ s. ap (λ (v : Value). callee_rule (with_store s c.args.heap.now) (value_of v)) (sym c.in-Undefined.is)

pub returns-in-Null : goal.returns-in-Null
unfolding callee_rule
returns-in-Null c = λ s. ap (λ (v : Value). callee_rule (with_store s c.args.heap.now) (value_of v)) (sym c.in-Null.is)

pub returns-in-Outside : goal.returns-in-Outside
unfolding callee_rule
returns-in-Outside c = λ s. ap (λ (v : Value). callee_rule (with_store s c.args.heap.now) (value_of v)) (sym c.in-Outside.is)

pub returns-in-Object : goal.returns-in-Object
unfolding callee_rule
returns-in-Object c = λ s.
    let code = c.is_some.ensures ∙ sym (some_map code_of c.code_of.result) ∙ ap (λ (k : Option Code). is_some k) c.code_of.ensures in
    c.rule_unless.ensures ∙ (λ i. rule_unless (code i) 2) ∙ sym (callable-parts (slice_get c.args.heap.now.objs c.in-Object.object)) ∙ ap (λ (v : Value). callee_rule (with_store s c.args.heap.now) (value_of v)) (sym c.in-Object.is)

pub returns-in_default : goal.returns-in_default
returns-in_default c = λ s. callee-others (with_store s c.args.heap.now) c.args.value.now c.in_default.not-Undefined c.in_default.not-Null c.in_default.not-Object c.in_default.not-Outside
