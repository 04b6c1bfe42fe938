use Rattle.std.proofs.Common.{◌∙◌, List, map, sym, ap}
use Rattle.cc_meaning.specs.Built.{outcome_of, rule_in}
use Rattle.cc_meaning.specs.Shapes.{tables_of}
use Rattle.cc_meaning.specs.Store.{of_array}
use Rattle.cc_value.specs.Bridge.{value_of}
use Rattle.cc_value.specs.declared.value.Value.{Value}
use Rattle.cc_conform.specs.Bridge.{with_store}
use Rattle.cc_conform.specs.Bridge.{array_use_of}
use Rattle.cc_conform.proofs.UseElements.{no-array}
use Rattle.cc_conform.proofs.built_ins.array_rule.Goals as goal

pub returns-in-Some : goal.returns-in-Some
returns-in-Some c = λ s.
    let w = with_store s c.args.heap.now in
    c.receiver_rule.ensures s ∙ sym (ap (λ (xs : List Value). rule_in (tables_of c.args.program.now) w (outcome_of w (of_array (array_use_of c.args.kind)) (map value_of xs))) c.in-Some.ensures.cases.0)

pub returns-in-None : goal.returns-in-None
returns-in-None c = λ s. no-array (tables_of c.args.program.now) (with_store s c.args.heap.now) (array_use_of c.args.kind) c.args.operands.now c.in-None.ensures.cases
