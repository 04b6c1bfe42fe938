use Rattle.std.proofs.Common.{◌∙◌, Bool, slice_get, sym, ap}
use Rattle.cc_heap.specs.Kinds.{code_of}
use Rattle.cc_meaning.specs.Shapes.{tables_of}
use Rattle.cc_meaning.specs.SlotRules.{rule_unless}
use Rattle.cc_value.specs.Bridge.{value_of}
use Rattle.cc_conform.specs.Bridge.{with_store}
use Rattle.cc_conform.proofs.PrototypeLemmas.{rule-other, rule-code, rule-no_code}
use Rattle.cc_conform.proofs.prototypes.prototype_rule.Goals as goal

pub returns-then-not-is_spelled : goal.returns-then-not-is_spelled
returns-then-not-is_spelled c = λ s.
    rule-other (tables_of c.args.program.now) (with_store s c.args.heap.now) (slice_get c.args.heap.now.objs c.args.object) c.args.name.now (value_of c.args.value.now) c.args.declared (sym c.is_spelled.ensures ∙ c.if-not-is_spelled.true)

pub returns-in-Some : goal.returns-in-Some
returns-in-Some c = λ s.
    c.rule_unless.ensures ∙ ap (λ (b : Bool). rule_unless b 12) (c.declares.ensures s)
    ∙ rule-code (tables_of c.args.program.now) (with_store s c.args.heap.now) (slice_get c.args.heap.now.objs c.args.object) (code_of c.in-Some.code) c.args.name.now (value_of c.args.value.now) c.args.declared (sym c.is_spelled.ensures ∙ c.if-not-is_spelled.false) c.in-Some.ensures

pub returns-in-None : goal.returns-in-None
returns-in-None c = λ s. rule-no_code (tables_of c.args.program.now) (with_store s c.args.heap.now) (slice_get c.args.heap.now.objs c.args.object) c.args.name.now (value_of c.args.value.now) c.args.declared c.in-None.ensures
