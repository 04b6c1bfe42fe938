use Rattle.std.proofs.Common.{◌∙◌, refl, sym, ap, [], Option, Ok, Err}
use Rattle.cc_ast.specs.declared.tables.TypeSet.{TypeSet}
use Rattle.cc_heap.specs.Store.{Store}
use Rattle.cc_value.specs.Bridge.{value_of}
use Rattle.cc_conform.specs.Bridge.{variable_of}
use Rattle.cc_meaning.specs.Acts.{is_fatal}
use Rattle.cc_meaning.specs.Judge.{keeps, least_broken}
use Rattle.cc_meaning.specs.Monad.{ok}
use Rattle.cc_meaning.specs.State.{State}
use Rattle.cc_acts.specs.Received.{received}
use Rattle.cc_acts.specs.Shown.{spot_of, state_of}
use Rattle.cc_acts.proofs.Judging.{settled_at}
use Rattle.cc_acts.proofs.Variables.{keep-goes, keep-ends}
use Rattle.cc_acts.proofs.writes.keep.Goals as goal

pub returns-in-Err : goal.returns-in-Err
unfolding least_broken is_fatal
returns-in-Err c = λ rs f k.
    let s = state_of c.args.setting.now.program.now rs c.args.state.now in
    let a = keeps (variable_of c.args.variable) (value_of c.args.value.now) in
    keep-ends c.args.setting.now.plain (spot_of c.args.spot) (variable_of c.args.variable) (value_of c.args.value.now) f s (f s) c.in-Err.stop
    (settled_at c.args.setting.now.plain (spot_of c.args.spot) a s c.keep_rule-rule.result c.settle.result (Err c.in-Err.stop) (c.keep_rule-rule.ensures s) (c.settle.ensures a (λ r. refl)) c.in-Err.is)

pub returns : goal.returns
unfolding least_broken is_fatal
returns c = λ rs f k.
    let P = c.args.setting.now.program.now in
    let s = state_of P rs c.args.state.now in
    let x = variable_of c.args.variable in
    let v = value_of c.args.value.now in
    let a = keeps x v in
    let type = ap (λ (t : Option TypeSet). record s { objs = received t v s.objs }) (sym c.variable_type.ensures) in
    let heap = ap (λ (h : Store). record s { objs = h.objs; frames = h.frames; constructed = h.constructed }) (sym (c.in_ok-receive.ensures {u = tt})) in
    keep-goes c.args.setting.now.plain (spot_of c.args.spot) x v f k s c.in_default.field-0
    (settled_at c.args.setting.now.plain (spot_of c.args.spot) a s c.keep_rule-rule.result c.settle.result (Ok c.in_default.field-0) (c.keep_rule-rule.ensures s) (c.settle.ensures a (λ r. refl)) c.in_default.is)
    ∙ ap (λ (z : State). ok [] tt (f z)) (type ∙ heap)
