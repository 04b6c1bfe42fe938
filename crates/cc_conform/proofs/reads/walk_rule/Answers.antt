use Rattle.std.proofs.Common.{◌∙◌, sym, ap}
use Rattle.cc_meaning.specs.SlotRules.{walk_rule}
use Rattle.cc_meaning.specs.Store.{chain_of, slots_on}
use Rattle.cc_value.specs.Bridge.{value_of}
use Rattle.cc_value.specs.declared.value.Value.{Value}
use Rattle.cc_conform.specs.Bridge.{with_store}
use Rattle.cc_conform.proofs.SlotLemmas.{walk-parts}
use Rattle.cc_conform.proofs.ReadLemmas.{walk-others}
use Rattle.cc_conform.proofs.reads.walk_rule.Goals as goal

pub returns-in-Object : goal.returns-in-Object
unfolding walk_rule
returns-in-Object c = λ s. c.chain_rule.ensures ∙ sym (walk-parts _ (slots_on c.args.heap.now.objs (chain_of c.args.heap.now.objs c.in-Object.object))) ∙ ap (λ (v : Value). walk_rule (with_store s c.args.heap.now) (value_of v)) (sym c.in-Object.is)

pub returns-in-Undefined : goal.returns-in-Undefined
unfolding walk_rule
returns-in-Undefined c = λ s. ap (λ (v : Value). walk_rule (with_store s c.args.heap.now) (value_of v)) (sym c.in-Undefined.is)

pub returns-in-Null : goal.returns-in-Null
unfolding walk_rule
returns-in-Null c = λ s. ap (λ (v : Value). walk_rule (with_store s c.args.heap.now) (value_of v)) (sym c.in-Null.is)

pub returns-in_default : goal.returns-in_default
returns-in_default c = λ s. walk-others (with_store s c.args.heap.now) c.args.on.now c.in_default.not-Undefined c.in_default.not-Null c.in_default.not-Object
