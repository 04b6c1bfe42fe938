use Rattle.std.proofs.Common.{◌∙◌, List, map, sym, ap}
use Rattle.cc_meaning.specs.Builtins.{math_use, math_abs}
use Rattle.cc_meaning.specs.Rules.{outcome_rule}
use Rattle.cc_value.specs.Bridge.{value_of}
use Rattle.cc_value.specs.declared.value.Value.{Value}
use Rattle.cc_conform.proofs.UseGlobals.{abs-other}
use Rattle.cc_conform.proofs.UseTexts.{only-Some}
use Rattle.cc_conform.proofs.global_uses.abs_rule.Goals as goal

pub returns-in-Some : goal.returns-in-Some
returns-in-Some c = c.size_of_rule.ensures ∙ sym (ap (λ (xs : List Value). outcome_rule (math_use math_abs (map value_of xs))) (only-Some c.args.args.now c.in-Some.value.now (sym c.in-Some.ensures)))

pub returns-in-None : goal.returns-in-None
returns-in-None c = abs-other c.args.args.now (sym c.in-None.ensures)
