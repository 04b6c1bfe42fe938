use Rattle.std.proofs.Common.{◌≡◌, drop}
use Rattle.cc_meaning.specs.Shapes.{tables_of}
use Rattle.cc_meaning.specs.Typed.{of_all_types, fields_from}
use Rattle.cc_value.specs.Bridge.{value_of}
use Rattle.cc_conform.proofs.fields.classes_fit.Given as goal

abbrev pub invariant-loop-at : goal.invariant-loop-at
invariant-loop-at l = of_all_types (tables_of l.program) l.heap.objs (fields_from (tables_of l.program) l.at (drop l.at l.classes) l.of l.name) (value_of l.value) ≡ of_all_types (tables_of l.program) l.heap.objs (fields_from (tables_of l.program) 0 l.classes l.of l.name) (value_of l.value)
