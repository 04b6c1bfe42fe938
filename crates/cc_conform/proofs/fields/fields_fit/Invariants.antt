use Rattle.std.proofs.Common.{◌≡◌, drop}
use Rattle.cc_meaning.specs.Shapes.{tables_of}
use Rattle.cc_meaning.specs.Typed.{of_all_types, types_of_fields}
use Rattle.cc_value.specs.Bridge.{value_of}
use Rattle.cc_conform.proofs.fields.fields_fit.Given as goal

abbrev pub invariant-loop-field : goal.invariant-loop-field
invariant-loop-field l = of_all_types (tables_of l.program) l.heap.objs (types_of_fields (tables_of l.program) l.name (drop l.field-index l.fields)) (value_of l.value) ≡ of_all_types (tables_of l.program) l.heap.objs (types_of_fields (tables_of l.program) l.name l.fields) (value_of l.value)
