use Rattle.std.proofs.Common.{map}
use Rattle.cc_meaning.specs.Acts.{read_this}
use Rattle.cc_meaning.specs.Values.{at_site}
use Rattle.cc_value.specs.Bridge.{value_of}
use Rattle.cc_acts.specs.Scripts.{reply_of}
use Rattle.cc_acts.specs.Shown.{state_of}
use Rattle.cc_acts.specs.Verdicts.{mode_of}
use Rattle.cc_machine.specs.Frames.{env_of}
use Rattle.cc_machine.specs.Steps.{onward}
use Rattle.cc_machine.proofs.Landing.{gives_value, ends_run}
use Rattle.cc_machine.proofs.wants.want_this.Goals as goal

pub returns-in-Ok : goal.returns-in-Ok
unfolding onward
returns-in-Ok c = λ w.
    let m = c.args.machine.now in
    let rs = map reply_of m.replies.now in
    let s = state_of m.setting.program.now rs m.state in
    gives_value m c.in-Ok.value (read_this (mode_of m.setting.plain) (at_site c.args.site) (env_of m.env).this s) (c.in-Ok.ensures {u = tt} rs)

pub returns-in-Err : goal.returns-in-Err
unfolding onward
returns-in-Err c = λ w.
    let m = c.args.machine.now in
    let rs = map reply_of m.replies.now in
    let s = state_of m.setting.program.now rs m.state in
    ends_run value_of m s c.in-Err.stop (read_this (mode_of m.setting.plain) (at_site c.args.site) (env_of m.env).this s) (c.in-Err.ensures {u = tt} rs)
