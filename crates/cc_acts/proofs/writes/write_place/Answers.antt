use Rattle.std.proofs.Common.{◌≡◌, ◌∙◌, [], Some, sym, ap, subst, slice_get}
use Rattle.cc_heap.specs.Kinds.{frame_kind_of}
use Rattle.cc_heap.specs.Store.{Store, frame_kind_in}
use Rattle.cc_meaning.specs.Acts.{changing, set_place, write_by_kind}
use Rattle.cc_meaning.specs.Monad.{M, Res, ok, ret}
use Rattle.cc_meaning.specs.State.{of_call, of_catch, of_own_name}
use Rattle.cc_value.specs.Bridge.{value_of}
use Rattle.cc_acts.specs.Shown.{Comes, spot_of, state_of}
use Rattle.cc_acts.specs.Verdicts.{mode_of}
use Rattle.cc_acts.proofs.Variables.{write-kind, write-nothing}
use Rattle.cc_acts.proofs.writes.write_place.Goals as goal

pub returns-in-Some-Call : goal.returns-in-Some-Call
returns-in-Some-Call c = λ rs.
    let P = c.args.setting.now.program.now in
    let s = state_of P rs c.args.state.now in
    let o = slice_get s.frames c.args.frame in
    let kind : frame_kind_in o ≡ Some (of_call c.in-Some-Call.scope) = sym (c.in-Some-Call.ensures {u = tt}) ∙ ap (λ k. Some (frame_kind_of k)) c.in-Some-Call.field-0-is in
    let step = ap (λ (m : M (Unit {0})). m s) (sym (write-kind (mode_of c.args.setting.now.plain) (spot_of c.args.spot) o (Some c.args.frame) c.args.place (value_of c.args.value) (of_call c.in-Some-Call.scope) kind)) in
    subst (λ (r : Res (Unit {0})). Comes {A = Unit {0}} (λ u. u) c.write_local.result (state_of P rs c.write_local.new.state) r) step (c.write_local.ensures rs)

pub returns-in-Some-Catch : goal.returns-in-Some-Catch
unfolding write_by_kind changing set_place ret
returns-in-Some-Catch c = λ rs.
    let s = state_of c.args.setting.now.program.now rs c.args.state.now in
    let o = slice_get s.frames c.args.frame in
    let kind : frame_kind_in o ≡ Some of_catch = sym (c.in-Some-Catch.ensures {u = tt}) ∙ ap (λ k. Some (frame_kind_of k)) c.in-Some-Catch.field-0-is in
    ap (λ (m : M (Unit {0})). m s) (write-kind (mode_of c.args.setting.now.plain) (spot_of c.args.spot) o (Some c.args.frame) c.args.place (value_of c.args.value) of_catch kind)
    ∙ ap (λ (h : Store). ok [] tt (record s { objs = h.objs; frames = h.frames; constructed = h.constructed })) (sym c.write_var.ensures)

pub returns-in-Some-OwnName : goal.returns-in-Some-OwnName
unfolding write_by_kind ret
returns-in-Some-OwnName c = λ rs.
    let s = state_of c.args.setting.now.program.now rs c.args.state.now in
    let o = slice_get s.frames c.args.frame in
    let kind : frame_kind_in o ≡ Some of_own_name = sym (c.in-Some-OwnName.ensures {u = tt}) ∙ ap (λ k. Some (frame_kind_of k)) c.in-Some-OwnName.field-0-is in
    ap (λ (m : M (Unit {0})). m s) (write-kind (mode_of c.args.setting.now.plain) (spot_of c.args.spot) o (Some c.args.frame) c.args.place (value_of c.args.value) of_own_name kind)

pub returns-in-None : goal.returns-in-None
unfolding ret
returns-in-None c = λ rs.
    let s = state_of c.args.setting.now.program.now rs c.args.state.now in
    ap (λ (m : M (Unit {0})). m s) (write-nothing (mode_of c.args.setting.now.plain) (spot_of c.args.spot) (slice_get s.frames c.args.frame) (Some c.args.frame) c.args.place (value_of c.args.value) (sym (c.in-None.ensures {u = tt})))
