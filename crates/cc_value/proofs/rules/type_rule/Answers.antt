use Rattle.std.proofs.Common.{sym, ◌∙◌}
use Rattle.cc_value.specs.Bridge.{value_of}
use Rattle.cc_value.proofs.Ruled.{breaks_type, keeps_type}
use Rattle.cc_value.proofs.rules.type_rule.Goals as goal

pub returns-then-is_object : goal.returns-then-is_object
returns-then-is_object c = breaks_type (value_of c.args.value.now) (sym c.is_object.ensures ∙ c.if-is_object.true)

pub returns-else-is_object : goal.returns-else-is_object
returns-else-is_object c = keeps_type (value_of c.args.value.now) (sym c.is_object.ensures ∙ c.if-is_object.false)
