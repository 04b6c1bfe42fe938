use Rattle.cc_value.specs.Bridge.{value_of}
use Rattle.cc_acts.specs.Shown.{spot_of, state_of}
use Rattle.cc_acts.proofs.Operating.{type-goes, type-stops}
use Rattle.cc_acts.proofs.operators.operate_typeof.Goals as goal

pub returns-in-Ok : goal.returns-in-Ok
returns-in-Ok c = λ rs.
    let e = c.in-Ok.ensures {u = tt} in
    type-goes c.args.setting.now.plain (spot_of c.args.spot) (state_of c.args.setting.now.program.now rs c.args.state.now) (value_of c.args.value.now) c.in-Ok.name e.0 e.1

pub returns-in-Err : goal.returns-in-Err
returns-in-Err c = λ rs. type-stops c.args.setting.now.plain (spot_of c.args.spot) (state_of c.args.setting.now.program.now rs c.args.state.now) (value_of c.args.value.now) c.in-Err.op_fault c.stop_by.result _ _ (c.in-Err.ensures {u = tt}) c.stop_by.ensures
