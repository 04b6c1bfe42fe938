use Rattle.std.proofs.Common.{List, ap}
use Rattle.cc_conform.specs.Bridge.{access_of}
use Rattle.cc_meaning.specs.Shapes.{tables_of}
use Rattle.cc_meaning.specs.SlotRules.{fields_reached}
use Rattle.cc_meaning.specs.State.{Obj}
use Rattle.cc_value.specs.Bridge.{value_of}
use Rattle.cc_acts.proofs.FieldLaws.{nothing-entered, no-obj}
use Rattle.cc_acts.proofs.fields.receive_reached.Goals as goal

pub returns-in_default : goal.returns-in_default
returns-in_default c =
    ap (λ (os : List Obj). record c.args.heap.now { objs = os }) (nothing-entered (value_of c.args.value.now) (no-obj c.args.value.now c.in_default.not-Object) (fields_reached (tables_of c.args.program.now) c.args.heap.now.objs c.args.object (access_of c.args.key.now)) c.args.heap.now.objs)
