use Rattle.std.proofs.Common.{◌∙◌, pos, sym, ap}
use Rattle.cc_heap.specs.Bridge.{held_of}
use Rattle.cc_heap.specs.declared.slot.Held.{Held}
use Rattle.cc_meaning.specs.Shapes.{tables_of}
use Rattle.cc_meaning.specs.SlotRules.{field_rule}
use Rattle.cc_conform.specs.Bridge.{access_of, with_store}
use Rattle.cc_conform.proofs.ReadLemmas.{same_field}
use Rattle.cc_conform.proofs.reads.held_rule.Goals as goal

pub returns-in-Length : goal.returns-in-Length
returns-in-Length c = λ s.
    let T = tables_of c.args.program.now in
    let a = access_of c.args.key.now in
    let S = with_store s c.args.heap.now in
    c.field_rule-in-Length.ensures s ∙ same_field T S c.args.object a c.args.name.now c.args.broken (pos 0) (pos c.in-Length.field-0) ∙ ap (λ (h : Held). field_rule T S c.args.object a c.args.name.now c.args.broken (held_of h)) (sym c.in-Length.is)
