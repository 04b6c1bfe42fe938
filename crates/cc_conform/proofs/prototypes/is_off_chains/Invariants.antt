use Rattle.std.proofs.Common.{◌≡◌, Some, drop}
use Rattle.cc_meaning.specs.SlotRules.{is_off_chains}
use Rattle.cc_meaning.specs.Values.{obj}
use Rattle.cc_conform.proofs.prototypes.is_off_chains.Given as goal

abbrev pub invariant-loop-object : goal.invariant-loop-object
invariant-loop-object l = is_off_chains (drop l.object l.heap.objs) (Some (obj l.prototype)) ≡ is_off_chains l.heap.objs (Some (obj l.prototype))
