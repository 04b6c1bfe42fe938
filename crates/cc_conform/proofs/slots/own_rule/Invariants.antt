use Rattle.std.proofs.Common.{◌≡◌, drop, slice_get}
use Rattle.cc_meaning.specs.SlotRules.{least}
use Rattle.cc_meaning.specs.Store.{slots_in}
use Rattle.cc_conform.specs.Slots.{least_of}
use Rattle.cc_conform.proofs.slots.own_rule.Given as goal

abbrev pub invariant-loop-at : goal.invariant-loop-at
invariant-loop-at l = least l.broken (least_of l.test l.name (drop l.at (slots_in (slice_get l.heap.objs l.object)))) ≡ least_of l.test l.name (slots_in (slice_get l.heap.objs l.object))
