use Rattle.std.proofs.Common.{◌≡◌, drop, map}
use Rattle.cc_meaning.specs.Shapes.{tables_of}
use Rattle.cc_meaning.specs.Typed.{of_all_elements}
use Rattle.cc_value.specs.Bridge.{value_of}
use Rattle.cc_conform.proofs.types.of_all_elements.Given as goal

abbrev pub invariant-loop-element : goal.invariant-loop-element
invariant-loop-element l = of_all_elements (tables_of l.program) l.heap.objs (drop l.element-index l.wanted) (map value_of l.values) ≡ of_all_elements (tables_of l.program) l.heap.objs l.wanted (map value_of l.values)
