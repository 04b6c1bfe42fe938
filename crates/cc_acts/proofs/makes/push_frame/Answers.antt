use Rattle.std.proofs.Common.{◌≡◌, ◌∙◌, ℕ, None, Some, sym, ap, [], ◌∷◌, ◌++◌, List, slice_get}
use Rattle.cc_heap.specs.Kinds.{frame_kind_of}
use Rattle.cc_heap.specs.Store.{Store}
use Rattle.cc_value.specs.Bridge.{value_of}
use Rattle.cc_meaning.specs.Acts.{frames_with, push_frame}
use Rattle.cc_meaning.specs.Monad.{ret, ok}
use Rattle.cc_meaning.specs.State.{Frame}
use Rattle.cc_acts.specs.Shown.{state_of}
use Rattle.cc_acts.proofs.Making.{frame-set}
use Rattle.cc_acts.proofs.makes.push_frame.Goals as goal

pub returns : goal.returns
unfolding push_frame ret
returns c = λ P rs.
    let s = state_of P rs c.args.state.now in
    let e = c.in_ok-frame.ensures {u = tt} in
    let v = value_of c.args.value in
    let h = c.args.state.now.heap in
    let set = frame-set h.frames (frame_kind_of c.args.kind) c.args.up v in
    let made = ap (λ (x : Store). record x { frames = frames_with x.frames c.in_ok-frame.frame 0 v (slice_get x.frames c.in_ok-frame.frame) }) (sym e.made) in
    let at = ap (λ (n : ℕ). record h { frames = frames_with (h.frames ++ (record { kind = frame_kind_of c.args.kind; up = c.args.up; values = None ∷ [] }) ∷ []) n 0 v (slice_get (h.frames ++ (record { kind = frame_kind_of c.args.kind; up = c.args.up; values = None ∷ [] }) ∷ []) n) }) (sym e.number) in
    let heap : record h { frames = h.frames ++ (record { kind = frame_kind_of c.args.kind; up = c.args.up; values = Some v ∷ [] }) ∷ [] } ≡ c.write_var.new.self =
    ap (λ (fs : List Frame). record h { frames = fs }) (sym set) ∙ at ∙ made ∙ sym c.write_var.ensures in
    λ i. ok [] (sym e.number i) (record s { objs = (heap i).objs; frames = (heap i).frames; constructed = (heap i).constructed })
