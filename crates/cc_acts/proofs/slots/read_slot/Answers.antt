use Rattle.std.proofs.Common.{◌∙◌, refl, sym, ap, [], Ok, Err}
use Rattle.cc_heap.specs.Store.{Store}
use Rattle.cc_value.specs.Bridge.{value_of}
use Rattle.cc_conform.specs.Bridge.{access_of}
use Rattle.cc_meaning.specs.Acts.{is_fatal}
use Rattle.cc_meaning.specs.Judge.{reads, least_broken}
use Rattle.cc_meaning.specs.Monad.{ok}
use Rattle.cc_meaning.specs.State.{State}
use Rattle.cc_meaning.specs.Values.{obj}
use Rattle.cc_acts.specs.Shown.{spot_of, state_of}
use Rattle.cc_acts.proofs.Judging.{settled_at}
use Rattle.cc_acts.proofs.SlotLaws.{read-goes, read-ends}
use Rattle.cc_acts.proofs.slots.read_slot.Goals as goal

pub returns-in-Err : goal.returns-in-Err
unfolding least_broken is_fatal
returns-in-Err c = λ rs.
    let s = state_of c.args.setting.now.program.now rs c.args.state.now in
    let act = reads (obj c.args.object) (access_of c.args.key.now) in
    read-ends value_of c.args.setting.now.plain (spot_of c.args.spot) c.args.object (access_of c.args.key.now) s _ c.in-Err.stop
    (settled_at c.args.setting.now.plain (spot_of c.args.spot) act s c.read_rule-rule.result c.settle.result (Err c.in-Err.stop) (c.read_rule-rule.ensures s) (c.settle.ensures act (λ r. refl)) c.in-Err.is)

pub returns : goal.returns
unfolding least_broken is_fatal
returns c = λ rs.
    let P = c.args.setting.now.program.now in
    let s = state_of P rs c.args.state.now in
    let a = access_of c.args.key.now in
    let act = reads (obj c.args.object) a in
    let v = value_of c.in_ok-value.value in
    let heap = ap (λ (h : Store). record s { objs = h.objs; frames = h.frames; constructed = h.constructed }) (sym (c.in_ok-receive_reached.ensures {u = tt})) in
    read-goes c.args.setting.now.plain (spot_of c.args.spot) c.args.object a s c.in_default.field-0 v
    (settled_at c.args.setting.now.plain (spot_of c.args.spot) act s c.read_rule-rule.result c.settle.result (Ok c.in_default.field-0) (c.read_rule-rule.ensures s) (c.settle.ensures act (λ r. refl)) c.in_default.is)
    (sym (c.in_ok-value.ensures {u = tt}))
    ∙ ap (λ (z : State). ok [] v z) heap
