use Rattle.std.proofs.Common.{[], ◌∷◌, Bool, refl, sym, ap}
use Rattle.cc_ast.specs.Syntax.{truth}
use Rattle.cc_ast.specs.declared.operator.BinOp.TheVariants.{Instance}
use Rattle.cc_value.specs.declared.value.Value.TheVariants as V
use Rattle.cc_value.specs.Bridge.{value_of}
use Rattle.cc_meaning.specs.Acts.{instance_value, is_fatal, operate, reading}
use Rattle.cc_meaning.specs.Judge.{least_broken, operates}
use Rattle.cc_meaning.specs.Monad.{ok, ret}
use Rattle.cc_meaning.specs.Rules.{binary_op, binary_rule}
use Rattle.cc_meaning.specs.Values.{prim}
use Rattle.cc_acts.specs.Shown.{spot_of, state_of}
use Rattle.cc_acts.proofs.Operating.{tells-goes, tells-stops}
use Rattle.cc_acts.proofs.operators.operate_instance.Goals as goal

pub returns-in-Ok : goal.returns-in-Ok
unfolding operate least_broken reading ret
returns-in-Ok c = λ rs.
    let s = state_of c.args.setting.now.program.now rs c.args.state.now in
    let x = value_of c.args.left.now in
    let y = value_of c.args.right.now in
    let e = c.in-Ok.ensures {u = tt} s refl in
    tells-goes c.args.setting.now.plain (spot_of c.args.spot) (operates (binary_op Instance) (x ∷ y ∷ [])) (reading (λ s. prim (truth (instance_value s x y)))) s (V.Truth c.in-Ok.answer) (binary_rule s Instance x y) e.0 refl (ap (λ (b : Bool). ok [] (prim (truth b)) s) (sym e.1))

pub returns-in-Err : goal.returns-in-Err
unfolding operate least_broken is_fatal
returns-in-Err c = λ rs.
    let s = state_of c.args.setting.now.program.now rs c.args.state.now in
    let x = value_of c.args.left.now in
    let y = value_of c.args.right.now in
    tells-stops c.args.setting.now.plain (spot_of c.args.spot) (operates (binary_op Instance) (x ∷ y ∷ [])) (reading (λ s. prim (truth (instance_value s x y)))) s c.in-Err.op_fault c.stop_by.result (binary_rule s Instance x y) _ _ refl (c.in-Err.ensures {u = tt} s refl) refl c.stop_by.ensures
