use Rattle.std.proofs.Common.{subst, Result}
use Rattle.cc_value.specs.declared.value.Value.{Value}
use Rattle.cc_value.specs.declared.value.OpFault.{OpFault}
use Rattle.cc_value.specs.Bridge.{Answers}
use Rattle.cc_acts.specs.Shown.{spot_of}
use Rattle.cc_acts.proofs.Operating.{answer-goes, answer-stops}
use Rattle.cc_acts.proofs.operators.settle_answer.Goals as goal

pub returns-in-Ok : goal.returns-in-Ok
returns-in-Ok c = λ o a s h e r. answer-goes c.args.plain (spot_of c.args.spot) a o s c.in-Ok.value (subst (λ (x : Result Value OpFault). Answers x o) c.in-Ok.is e) r

pub returns-in-Err : goal.returns-in-Err
returns-in-Err c = λ o a s h e r. answer-stops c.args.plain (spot_of c.args.spot) a o s c.in-Err.op_fault c.stop_by.result h (subst (λ (x : Result Value OpFault). Answers x o) c.in-Err.is e) r c.stop_by.ensures
