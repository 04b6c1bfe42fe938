use Rattle.std.proofs.Common.{◌≡◌, drop}
use Rattle.cc_meaning.specs.SlotRules.{meets_function}
use Rattle.cc_conform.proofs.look_up.meets_function_on.Given as goal

abbrev pub invariant-loop-above : goal.invariant-loop-above
invariant-loop-above l = meets_function l.heap.objs (drop l.above-index l.chain) l.name ≡ meets_function l.heap.objs l.chain l.name
