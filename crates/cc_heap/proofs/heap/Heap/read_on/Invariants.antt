use Rattle.std.proofs.Common.{◌≡◌, drop}
use Rattle.cc_meaning.specs.Store.{found_on}
use Rattle.cc_heap.specs.Store.{value_if_found}
use Rattle.cc_heap.proofs.heap.Heap.read_on.Given as goal

abbrev pub invariant-loop-number : goal.invariant-loop-number
invariant-loop-number l = value_if_found (found_on l.self.objs l.chain l.name) ≡ value_if_found (found_on l.self.objs (drop l.number-index l.chain) l.name)
