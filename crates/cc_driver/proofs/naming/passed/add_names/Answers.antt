use Rattle.cc_driver.proofs.SetLaws.{global_turn}
use Rattle.std.proofs.Common.{arith}
use Rattle.cc_driver.specs.NamingSteps.{has_name}
use Rattle.cc_driver.proofs.naming.passed.add_names.Goals as goal

pub loop-global-preserved : goal.loop-global-preserved
loop-global-preserved c = λ name.
    global_turn name c.args.globals.now c.loop-global.global-index c.global-item.result (omega arith) c.global-item.is
    (has_name c.loop-global.passed.keys name) (has_name c.add_global.new.passed.keys name) (c.in_ok-add_global.ensures name) _ (c.loop-global.invariant name)
