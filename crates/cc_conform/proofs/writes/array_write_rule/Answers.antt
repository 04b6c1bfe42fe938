use Rattle.std.proofs.Common.{◌∙◌, slice_get, sym, ap}
use Rattle.cc_meaning.specs.SlotRules.{array_write_rule, rule_if}
use Rattle.cc_meaning.specs.Typed.{elements_in}
use Rattle.cc_conform.proofs.WriteLemmas.{array-index, array-length, array-none}
use Rattle.cc_conform.proofs.writes.array_write_rule.Goals as goal

pub returns-in-Some-index : goal.returns-in-Some-index
returns-in-Some-index c =
    let es = elements_in (slice_get c.args.heap.now.objs c.args.object) in
    c.rule_if.ensures ∙ array-index es c.args.name.now c.in-Some.count c.in-Some-index.at c.in-Some.ensures ∙ ap (array_write_rule es c.args.name.now) (sym c.in-Some-index.is)

pub returns-in-None-index : goal.returns-in-None-index
returns-in-None-index c =
    let es = elements_in (slice_get c.args.heap.now.objs c.args.object) in
    c.rule_if-in-None-index.ensures ∙ (λ i. rule_if (c.is_spelled.ensures i) 2) ∙ array-length es c.args.name.now c.in-Some.count c.in-Some.ensures ∙ ap (array_write_rule es c.args.name.now) (sym c.in-None-index.is)

pub returns-in-None : goal.returns-in-None
returns-in-None c = array-none (elements_in (slice_get c.args.heap.now.objs c.args.object)) c.args.name.now c.args.index c.in-None.ensures
