use Rattle.std.proofs.Common.{◌<◌, ◌∙◌, length, sym, arith}
use Rattle.cc_value.proofs.TextLemmas.{equal_all, equal_lengths, equal_differs}
use Rattle.cc_heap.proofs.names.is_spelled.Goals as goal

pub returns-then-name-text : goal.returns-then-name-text
returns-then-name-text c = sym (equal_lengths c.args.name.now c.args.text.now c.if-name-text.true)

pub returns-then-unit-from : goal.returns-then-unit-from
returns-then-unit-from c =
    let within : c.loop-i.i < length c.args.text.now = let e = c.loop-i.invariant.0 in omega arith in
    sym (equal_differs c.args.name.now c.args.text.now c.loop-i.i c.loop-i-test.true within (λ e. c.if-unit-from.true (e ∙ sym c.from.ensures)))

pub returns : goal.returns
returns c = sym (equal_all c.args.name.now c.args.text.now c.loop-i.invariant.0 (λ k h. c.loop-i.invariant.1 k (omega arith)))
