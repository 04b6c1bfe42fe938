use Rattle.std.proofs.Common.{◌≡◌, ◌∙◌, List, ℕ, sym, ap}
use Rattle.cc_meaning.specs.Shapes.{tables_of}
use Rattle.cc_meaning.specs.SlotRules.{probe_rule, slots_rule}
use Rattle.cc_meaning.specs.Store.{chain_of, slots_on, name_of}
use Rattle.cc_value.specs.Bridge.{value_of}
use Rattle.cc_value.specs.declared.value.Value.{Value}
use Rattle.cc_conform.specs.Bridge.{access_of, with_store}
use Rattle.cc_conform.proofs.ReadLemmas.{probe-others}
use Rattle.cc_conform.proofs.reads.probe_rule.Goals as goal

pub returns-in-Object : goal.returns-in-Object
unfolding probe_rule
returns-in-Object c = λ s.
    let T = tables_of c.args.program.now in
    let a = access_of c.args.key.now in
    let os = c.args.heap.now.objs in
    let named : c.as_slice.result.now ≡ name_of T a = c.as_slice.ensures.value ∙ c.name.view_is ∙ c.name_of-name.ensures in
    c.chain_slots_rule.ensures ∙ ap (λ (n : List ℕ). slots_rule T a n (slots_on os (chain_of os c.in-Object.object))) named ∙ ap (λ (v : Value). probe_rule T (with_store s c.args.heap.now) (value_of v) a) (sym c.in-Object.is)

pub returns : goal.returns
returns c = λ s. probe-others (tables_of c.args.program.now) (with_store s c.args.heap.now) (access_of c.args.key.now) c.args.on.now c.in_default.not-Object
