use Rattle.std.proofs.Common.{◌≡◌, drop, map}
use Rattle.cc_meaning.specs.Shapes.{tables_of}
use Rattle.cc_meaning.specs.Typed.{all_of_element}
use Rattle.cc_value.specs.Bridge.{value_of}
use Rattle.cc_conform.proofs.types.all_of_element.Given as goal

abbrev pub invariant-loop-value : goal.invariant-loop-value
invariant-loop-value l = all_of_element (tables_of l.program) l.heap.objs l.element (map value_of (drop l.value-index l.values)) ≡ all_of_element (tables_of l.program) l.heap.objs l.element (map value_of l.values)
