use Rattle.std.proofs.Common.{◌∙◌, refl, sym, ap, [], List, Ok, Err}
use Rattle.cc_heap.specs.Kinds.{kind_of}
use Rattle.cc_heap.specs.Store.{Store}
use Rattle.cc_value.specs.Bridge.{value_of}
use Rattle.cc_conform.specs.Bridge.{access_of}
use Rattle.cc_meaning.specs.Acts.{is_fatal}
use Rattle.cc_meaning.specs.Judge.{writes, least_broken}
use Rattle.cc_meaning.specs.Monad.{ok}
use Rattle.cc_meaning.specs.Shapes.{tables_of}
use Rattle.cc_meaning.specs.SlotRules.{fields_reached}
use Rattle.cc_meaning.specs.State.{Obj, State}
use Rattle.cc_meaning.specs.Store.{change}
use Rattle.cc_meaning.specs.Values.{obj}
use Rattle.cc_acts.specs.Received.{put_at, received_all}
use Rattle.cc_acts.specs.Shown.{spot_of, state_of}
use Rattle.cc_acts.proofs.Judging.{settled_at}
use Rattle.cc_acts.proofs.SlotLaws.{write-goes, write-ends}
use Rattle.cc_acts.proofs.slots.write_slot.Goals as goal

pub returns-in-Err : goal.returns-in-Err
unfolding least_broken is_fatal
returns-in-Err c = λ rs.
    let s = state_of c.args.setting.now.program.now rs c.args.state.now in
    let act = writes (obj c.args.object) (access_of c.args.key.now) (value_of c.args.value) c.args.declares in
    write-ends (λ (u : Unit {0}). u) c.args.setting.now.plain (spot_of c.args.spot) c.args.object (access_of c.args.key.now) (kind_of c.args.made) (value_of c.args.value) c.args.declares s _ c.in-Err.stop
    (settled_at c.args.setting.now.plain (spot_of c.args.spot) act s c.write_rule-rule.result c.settle.result (Err c.in-Err.stop) (c.write_rule-rule.ensures s) (c.settle.ensures act (λ r. refl)) c.in-Err.is)

pub returns : goal.returns
unfolding least_broken is_fatal change
returns c = λ rs.
    let P = c.args.setting.now.program.now in
    let s = state_of P rs c.args.state.now in
    let a = access_of c.args.key.now in
    let v = value_of c.args.value in
    let act = writes (obj c.args.object) a v c.args.declares in
    let one = c.in_ok-put.ensures {u = tt} in
    let two = c.in_ok-receive_reached.ensures {u = tt} in
    let os = put_at (tables_of P) c.args.object a (kind_of c.args.made) v c.args.state.now.heap.objs in
    let same = c.outline-received.ensures (fields_reached (tables_of P) os c.args.object a) os in
    let heap = ap (λ (h : Store). record s { objs = h.objs; frames = h.frames; constructed = h.constructed })
    (ap (λ (xs : List Obj). record c.args.state.now.heap { objs = xs }) (sym same)
    ∙ ap (λ (h : Store). record h { objs = received_all (fields_reached (tables_of P) h.objs c.args.object a) (value_of c.outline-received.result) h.objs }) (sym one) ∙ sym two) in
    write-goes c.args.setting.now.plain (spot_of c.args.spot) c.args.object a (kind_of c.args.made) v c.args.declares s c.in_default.field-0
    (settled_at c.args.setting.now.plain (spot_of c.args.spot) act s c.write_rule-rule.result c.settle.result (Ok c.in_default.field-0) (c.write_rule-rule.ensures s) (c.settle.ensures act (λ r. refl)) c.in_default.is)
    ∙ ap (λ (z : State). ok [] tt z) heap
