use Rattle.std.proofs.Common.{◌∙◌}
use Rattle.cc_value.proofs.Ruled.{of-Ok, of-Err}
use Rattle.cc_value.proofs.rules.rule_of.Goals as goal
use Rattle.cc_value.proofs.rules.rule_of.Goals.{in-Ok, in-Err}

pub returns : goal.returns
returns c =
    elim c.match-answer.branch [
      | in-Ok w ↦ of-Ok c.args.answer _ _ w.in-Ok.is w.result-is
      | in-Err w ↦ of-Err c.args.answer _ _ w.in-Err.is (w.result-is ∙ w.fault_rule.ensures)
    ]
