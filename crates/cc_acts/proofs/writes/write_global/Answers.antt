use Rattle.std.proofs.Common.{◌∙◌, [], sym, ap}
use Rattle.cc_meaning.specs.Acts.{set_global, write_var}
use Rattle.cc_meaning.specs.Monad.{ok}
use Rattle.cc_meaning.specs.State.{State}
use Rattle.cc_value.specs.Bridge.{value_of}
use Rattle.cc_acts.proofs.Variables.{err-anywhere, spares-global}
use Rattle.cc_acts.proofs.writes.write_global.Goals as goal

pub returns-in-Err : goal.returns-in-Err
unfolding write_var
returns-in-Err c = λ rs g.
    err-anywhere (λ (u : Unit {0}). u) c.in-Err.stop _ _ _ (c.in-Err.ensures {u = tt} rs (set_global c.args.global (value_of c.args.value)) (spares-global c.args.global (value_of c.args.value)))

pub returns : goal.returns
unfolding write_var
returns c = λ rs g.
    c.in_default.ensures {u = tt} rs (set_global c.args.global (value_of c.args.value)) (spares-global c.args.global (value_of c.args.value))
    ∙ ap (λ (s : State). ok [] tt s) (sym (c.set_global.ensures rs c.args.setting.now.program.now))
