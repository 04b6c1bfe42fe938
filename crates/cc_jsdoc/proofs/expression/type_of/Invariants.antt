use Rattle.std.proofs.Common.{vec_len}
use Rattle.std.specs.Str.{chars}
use Rattle.cc_jsdoc.specs.Types.{IsExpression}
use Rattle.cc_jsdoc.specs.Continuing.{Keeps, IsStepText, work_left}
use Rattle.cc_jsdoc.proofs.expression.type_of.Given as goal

abbrev pub invariant-loop-step : goal.invariant-loop-step
invariant-loop-step l = record {
  text : IsStepText l.step;
  keeps : Keeps (IsExpression (chars l.text)) l.reading l.step;
}

abbrev pub decreases-loop-step : goal.decreases-loop-step
decreases-loop-step l = work_left l.step (vec_len l.reading.stack)
