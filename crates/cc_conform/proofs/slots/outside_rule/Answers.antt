use Rattle.std.proofs.Common.{◌∙◌, [], not, Bool, sym, ap}
use Rattle.cc_meaning.specs.Shapes.{tables_of}
use Rattle.cc_meaning.specs.SlotRules.{slot_rule, rule_if}
use Rattle.cc_meaning.specs.State.{keyed_kind}
use Rattle.cc_conform.specs.declared.act.Access as key
use Rattle.cc_conform.specs.Bridge.{access_of}
use Rattle.cc_conform.proofs.SlotLemmas.{outside-Dotted, outside-Quoted, outside-Runtime}
use Rattle.cc_conform.proofs.slots.outside_rule.Goals as goal

pub returns-in-Dotted : goal.returns-in-Dotted
returns-in-Dotted c = c.rule_if.ensures ∙ ap (λ (b : Bool). rule_if (not b) 8) c.is_kept.ensures ∙ sym (outside-Dotted (tables_of c.args.program.now) c.in-Dotted.field-0 c.args.name.now) ∙ ap (λ (k : key.Access). slot_rule (tables_of c.args.program.now) (access_of k) c.args.name.now keyed_kind []) (sym c.in-Dotted.is)

pub returns-in-Quoted : goal.returns-in-Quoted
returns-in-Quoted c = sym (outside-Quoted (tables_of c.args.program.now) c.in-Quoted.field-0 c.args.name.now) ∙ ap (λ (k : key.Access). slot_rule (tables_of c.args.program.now) (access_of k) c.args.name.now keyed_kind []) (sym c.in-Quoted.is)

pub returns-in-Runtime : goal.returns-in-Runtime
returns-in-Runtime c = sym (outside-Runtime (tables_of c.args.program.now) c.in-Runtime.text c.args.name.now c.in-Runtime.whole) ∙ ap (λ (k : key.Access). slot_rule (tables_of c.args.program.now) (access_of k) c.args.name.now keyed_kind []) (sym c.in-Runtime.is)
