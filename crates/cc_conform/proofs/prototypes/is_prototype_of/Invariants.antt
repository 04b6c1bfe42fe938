use Rattle.std.proofs.Common.{◌≡◌, drop}
use Rattle.cc_meaning.specs.SlotRules.{is_prototype_of}
use Rattle.cc_conform.proofs.prototypes.is_prototype_of.Given as goal

abbrev pub invariant-loop-number : goal.invariant-loop-number
invariant-loop-number l = is_prototype_of (drop l.number l.heap.objs) l.function l.object ≡ is_prototype_of l.heap.objs l.function l.object
