use Rattle.std.proofs.Common.{◌≡◌, ◌∙◌, [], Option, Some, true, is_some, sym, ap, subst, slice_get}
use Rattle.cc_heap.specs.Kinds.{frame_kind_of}
use Rattle.cc_heap.specs.Store.{frame_kind_in}
use Rattle.cc_meaning.specs.Acts.{judged, read_by_kind}
use Rattle.cc_meaning.specs.Builtins.{or_undefined}
use Rattle.cc_meaning.specs.Judge.{takes}
use Rattle.cc_meaning.specs.Monad.{End, M, Res, over, ret, stop}
use Rattle.cc_meaning.specs.State.{of_call, of_catch, of_own_name}
use Rattle.cc_meaning.specs.Typed.{local}
use Rattle.cc_meaning.specs.Values.{Val}
use Rattle.cc_value.specs.Bridge.{value_of}
use Rattle.cc_acts.specs.Shown.{Comes, spot_of, state_of}
use Rattle.cc_acts.specs.Verdicts.{mode_of}
use Rattle.cc_acts.proofs.Variables.{read-kind, read-nothing}
use Rattle.cc_acts.proofs.reads.read_place.Goals as goal

pub returns-in-Some-Call : goal.returns-in-Some-Call
unfolding read_by_kind
returns-in-Some-Call c = λ rs.
    let s = state_of c.args.setting.now.program.now rs c.args.state.now in
    let i = spot_of c.args.spot in
    let J = mode_of c.args.setting.now.plain in
    let o = slice_get s.frames c.args.frame in
    let kind : frame_kind_in o ≡ Some (of_call c.in-Some-Call.scope) = sym (c.in-Some-Call.ensures {u = tt}) ∙ ap (λ k. Some (frame_kind_of k)) c.in-Some-Call.field-0-is in
    let same = ap (λ (v : Option Val). judged J i (takes (local c.in-Some-Call.scope c.args.place) true (is_some v)) (ret (or_undefined v)) s) c.read_var-value.ensures in
    let step = ap (λ (m : M Val). m s) (sym (read-kind J i o c.args.place (of_call c.in-Some-Call.scope) kind)) in
    subst (λ (r : Res Val). Comes value_of c.take.result s r) (same ∙ step) (c.take.ensures rs)

pub returns-in-Some-Catch : goal.returns-in-Some-Catch
unfolding read_by_kind
returns-in-Some-Catch c = λ rs.
    let s = state_of c.args.setting.now.program.now rs c.args.state.now in
    let i = spot_of c.args.spot in
    let J = mode_of c.args.setting.now.plain in
    let o = slice_get s.frames c.args.frame in
    let kind : frame_kind_in o ≡ Some of_catch = sym (c.in-Some-Catch.ensures {u = tt}) ∙ ap (λ k. Some (frame_kind_of k)) c.in-Some-Catch.field-0-is in
    let same = ap (λ (v : Option Val). ret (or_undefined v) s) c.read_var-value.ensures in
    let step = ap (λ (m : M Val). m s) (sym (read-kind J i o c.args.place of_catch kind)) in
    subst (λ (r : Res Val). Comes value_of c.give.result s r) (same ∙ step) (c.give.ensures s)

pub returns-in-Some-OwnName : goal.returns-in-Some-OwnName
unfolding read_by_kind
returns-in-Some-OwnName c = λ rs.
    let s = state_of c.args.setting.now.program.now rs c.args.state.now in
    let i = spot_of c.args.spot in
    let J = mode_of c.args.setting.now.plain in
    let o = slice_get s.frames c.args.frame in
    let kind : frame_kind_in o ≡ Some of_own_name = sym (c.in-Some-OwnName.ensures {u = tt}) ∙ ap (λ k. Some (frame_kind_of k)) c.in-Some-OwnName.field-0-is in
    let same = ap (λ (v : Option Val). ret (or_undefined v) s) c.read_var-value.ensures in
    let step = ap (λ (m : M Val). m s) (sym (read-kind J i o c.args.place of_own_name kind)) in
    subst (λ (r : Res Val). Comes value_of c.give-in-Some-OwnName.result s r) (same ∙ step) (c.give-in-Some-OwnName.ensures s)

pub returns-in-None : goal.returns-in-None
unfolding stop
returns-in-None c = λ rs.
    let s = state_of c.args.setting.now.program.now rs c.args.state.now in
    let i = spot_of c.args.spot in
    let J = mode_of c.args.setting.now.plain in
    ap (λ (m : M Val). m s) (read-nothing J i (slice_get s.frames c.args.frame) c.args.place (sym (c.in-None.ensures {u = tt}))) ∙ ap (λ (e : End). over [] e) (sym c.fault.ensures)
