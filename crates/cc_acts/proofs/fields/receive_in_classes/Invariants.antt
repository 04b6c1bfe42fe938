use Rattle.std.proofs.Common.{◌≡◌, drop}
use Rattle.cc_meaning.specs.Shapes.{tables_of}
use Rattle.cc_meaning.specs.Typed.{fields_from}
use Rattle.cc_value.specs.Bridge.{value_of}
use Rattle.cc_acts.specs.Received.{received_all}
use Rattle.cc_acts.proofs.fields.receive_in_classes.Given as goal

-- the objects alone change, and what is still to be received makes of them what all makes of the first
abbrev pub invariant-loop-at : goal.invariant-loop-at
invariant-loop-at l =
    (l.heap ≡ record l.fn.heap { objs = l.heap.objs })
    × (received_all (fields_from (tables_of l.program) l.at (drop l.at l.program.classes) l.of l.name) (value_of l.value) l.heap.objs ≡ received_all (fields_from (tables_of l.program) 0 l.program.classes l.of l.name) (value_of l.value) l.fn.heap.objs)
