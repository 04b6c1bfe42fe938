use Rattle.std.proofs.Common.{◌<◌, length, sym, arith}
use Rattle.cc_value.proofs.TextLemmas.{equal_all, equal_lengths, equal_differs}
use Rattle.cc_value.proofs.texts.is_equal.Goals as goal

pub returns-then-s-t : goal.returns-then-s-t
returns-then-s-t c = sym (equal_lengths c.args.s.now c.args.t.now c.if-s-t.true)

pub returns-then-unit-t : goal.returns-then-unit-t
returns-then-unit-t c =
    let within : c.loop-i.i < length c.args.t.now = let e = c.loop-i.invariant.0 in omega arith in
    sym (equal_differs c.args.s.now c.args.t.now c.loop-i.i c.loop-i-test.true within c.if-unit-t.true)

pub returns : goal.returns
returns c = sym (equal_all c.args.s.now c.args.t.now c.loop-i.invariant.0 (λ k h. c.loop-i.invariant.1 k (omega arith)))
