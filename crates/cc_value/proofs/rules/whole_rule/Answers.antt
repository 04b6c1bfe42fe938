use Rattle.std.proofs.Common.{ap, sym, subst, rules}
use Rattle.std.specs.Int.{w64}
use Rattle.std.proofs.lemmas.Int.{to_z-of_z}
use Rattle.cc_meaning.specs.Operators.{Outcome}
use Rattle.cc_meaning.specs.Rules.{outcome_rule}
use Rattle.cc_value.specs.Bridge.{Answers}
use Rattle.cc_value.proofs.OtherCases.{whole-other, whole-same}
use Rattle.cc_value.proofs.rules.whole_rule.Goals as goal

pub returns-in-Whole : goal.returns-in-Whole
returns-in-Whole c = c.rule_of.ensures _ (subst (λ (o : Outcome). Answers c.operate_one.result o) (whole-same c.args.op c.args.value.now c.in-Whole.z c.in-Whole.is) (simp (to_z-of_z w64 c.in-Whole.z (search rules)) at c.operate_one.ensures))

pub returns-in_default : goal.returns-in_default
unfolding outcome_rule
returns-in_default c = sym (ap outcome_rule (whole-other c.args.op c.args.value.now c.in_default.not-Whole))
