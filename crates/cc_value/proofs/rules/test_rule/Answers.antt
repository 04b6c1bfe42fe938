use Rattle.std.proofs.Common.{ap, sym, Option, Bool}
use Rattle.cc_meaning.specs.Operators.{answer_of}
use Rattle.cc_meaning.specs.Rules.{outcome_rule}
use Rattle.cc_value.proofs.rules.test_rule.Goals as goal

pub returns-in-Some : goal.returns-in-Some
unfolding answer_of outcome_rule
returns-in-Some c = sym (ap (λ (t : Option Bool). outcome_rule (answer_of t)) c.in-Some.is)

pub returns-in-None : goal.returns-in-None
unfolding answer_of outcome_rule
returns-in-None c = sym (ap (λ (t : Option Bool). outcome_rule (answer_of t)) c.in-None.is)
