use Rattle.std.proofs.Common.{◌∙◌, ap, map, arith}
use Rattle.cc_value.specs.Bridge.{value_of}
use Rattle.cc_heap.proofs.ObjectLaws.{set-within, set-past}
use Rattle.cc_heap.proofs.object.put_item.Goals as goal

pub returns-then-place-len-clause-put : goal.returns-then-place-len-clause-put
returns-then-place-len-clause-put c = ap (map value_of) c.set.ensures ∙ set-within c.args.items.now c.args.place c.args.value (omega (arith, c.if-place-len.true, c.len.ensures))

pub returns-in_ok-push-clause-put : goal.returns-in_ok-push-clause-put
returns-in_ok-push-clause-put c = ap (map value_of) c.in_ok-push.ensures.ok ∙ set-past c.args.items.now c.args.place c.args.value (omega (arith, c.if-place-len.false, c.len.ensures))
