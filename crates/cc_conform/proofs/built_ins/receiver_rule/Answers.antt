use Rattle.std.proofs.Common.{◌∙◌, map, Some, None}
use Rattle.cc_meaning.specs.Shapes.{tables_of}
use Rattle.cc_value.specs.Bridge.{value_of}
use Rattle.cc_conform.specs.Bridge.{with_store}
use Rattle.cc_conform.specs.Bridge.{array_use_of}
use Rattle.cc_conform.proofs.UseElements.{array-receiver, no_elements, no_array-receiver}
use Rattle.cc_conform.proofs.built_ins.receiver_rule.Goals as goal

pub returns-in-Some : goal.returns-in-Some
returns-in-Some c = λ s.
    c.use_rule.ensures s ∙ array-receiver (tables_of c.args.program.now) (with_store s c.args.heap.now) (array_use_of c.args.kind) c.args.receiver.now c.in-Object.array (map value_of c.args.args.now) (Some (map value_of c.in-Some.elements.now)) c.in-Object.is c.in-Some.ensures

pub returns-in-None : goal.returns-in-None
returns-in-None c = λ s.
    let T = tables_of c.args.program.now in
    let w = with_store s c.args.heap.now in
    no_elements T w (array_use_of c.args.kind) c.in-Object.array (map value_of c.args.args.now) ∙ array-receiver T w (array_use_of c.args.kind) c.args.receiver.now c.in-Object.array (map value_of c.args.args.now) None c.in-Object.is c.in-None.ensures

pub returns-in_default : goal.returns-in_default
returns-in_default c = λ s. no_array-receiver (tables_of c.args.program.now) (with_store s c.args.heap.now) (array_use_of c.args.kind) c.args.receiver.now (map value_of c.args.args.now) c.in_default.not-Object
