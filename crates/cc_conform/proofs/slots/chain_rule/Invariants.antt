use Rattle.std.proofs.Common.{◌≡◌, drop}
use Rattle.cc_meaning.specs.SlotRules.{least}
use Rattle.cc_meaning.specs.Store.{chain_of, slots_on}
use Rattle.cc_conform.specs.Slots.{least_of}
use Rattle.cc_conform.proofs.slots.chain_rule.Given as goal

abbrev pub invariant-loop-above : goal.invariant-loop-above
invariant-loop-above l = least l.broken (least_of l.test l.name (slots_on l.heap.objs (drop l.above-index l.above-items))) ≡ least_of l.test l.name (slots_on l.heap.objs (chain_of l.heap.objs l.object))
