use Rattle.std.proofs.Common.{ap, sym, subst, rules}
use Rattle.std.specs.Int.{w64}
use Rattle.std.proofs.lemmas.Int.{to_z-of_z}
use Rattle.cc_meaning.specs.Operators.{Outcome}
use Rattle.cc_meaning.specs.Rules.{outcome_rule}
use Rattle.cc_value.specs.Bridge.{Answers}
use Rattle.cc_value.proofs.OtherCases.{wholes-left, wholes-right, wholes-both}
use Rattle.cc_value.proofs.rules.wholes_rule.Goals as goal

pub returns-in-Whole-b : goal.returns-in-Whole-b
returns-in-Whole-b c =
    let row = wholes-both c.args.op c.args.a.now c.args.b.now c.in-Whole.x c.in-Whole-b.y c.in-Whole.is c.in-Whole-b.is in
    c.rule_of.ensures _ (subst (λ (o : Outcome). Answers c.operate.result o) (sym row) (simp (to_z-of_z w64 c.in-Whole.x (search rules), to_z-of_z w64 c.in-Whole-b.y (search rules)) at c.operate.ensures))

pub returns-in_default-b : goal.returns-in_default-b
unfolding outcome_rule
returns-in_default-b c = sym (ap outcome_rule (wholes-right c.args.op c.args.a.now c.args.b.now c.in_default-b.not-Whole))

pub returns-in_default : goal.returns-in_default
unfolding outcome_rule
returns-in_default c = sym (ap outcome_rule (wholes-left c.args.op c.args.a.now c.args.b.now c.in_default.not-Whole))
