use Rattle.std.proofs.Common.{◌≡◌, drop}
use Rattle.cc_meaning.specs.Shapes.{tables_of}
use Rattle.cc_meaning.specs.Typed.{types_of_fields}
use Rattle.cc_value.specs.Bridge.{value_of}
use Rattle.cc_acts.specs.Received.{received_all}
use Rattle.cc_acts.proofs.fields.receive_named.Given as goal

-- the objects alone change, and what is still to be received makes of them what all makes of the first
abbrev pub invariant-loop-field : goal.invariant-loop-field
invariant-loop-field l =
    (l.heap ≡ record l.fn.heap { objs = l.heap.objs })
    × (received_all (types_of_fields (tables_of l.program) l.name (drop l.field-index l.fields)) (value_of l.value) l.heap.objs ≡ received_all (types_of_fields (tables_of l.program) l.name l.fields) (value_of l.value) l.fn.heap.objs)
