use Rattle.std.proofs.Common.{◌≡◌, ◌∙◌, List, ℕ, ap, subst, slice_get}
use Rattle.std.specs.Result.{OnOk}
use Rattle.cc_heap.specs.Kinds.{kind_of}
use Rattle.cc_value.specs.Bridge.{value_of}
use Rattle.cc_conform.specs.Bridge.{access_of}
use Rattle.cc_meaning.specs.Shapes.{tables_of}
use Rattle.cc_meaning.specs.State.{Obj}
use Rattle.cc_meaning.specs.Store.{changed_at, kind_for, name_of, put_own}
use Rattle.cc_acts.specs.Received.{put_at}
use Rattle.cc_acts.proofs.slots.put.Goals as goal

pub returns : goal.returns
returns c =
    let T = tables_of c.args.program.now in
    let a = access_of c.args.key.now in
    let v = value_of c.args.value in
    let os : List Obj = c.args.heap.now.objs in
    let name : c.in_ok-name.name ≡ name_of T a = c.in_ok-name.ensures {u = tt} in
    let units : c.as_slice.result.now ≡ name_of T a = c.as_slice.ensures.value ∙ c.name.view_is ∙ name in
    let kind : kind_of c.kind_for-kind.result ≡ kind_for T (name_of T a) (kind_of c.args.made) = c.kind_for-kind.ensures ∙ ap (λ (n : List ℕ). kind_for T n (kind_of c.args.made)) units in
    let same : changed_at os c.args.object (slice_get os c.args.object) (put_own c.in_ok-name.name (kind_of c.kind_for-kind.result) v) ≡ put_at T c.args.object a (kind_of c.args.made) v os =
    λ i. changed_at os c.args.object (slice_get os c.args.object) (put_own (name i) (kind i) v) in
    subst (λ (xs : List Obj). OnOk c.write_slot.result (c.write_slot.new.self ≡ record c.args.heap.now { objs = xs })) same c.write_slot.ensures.put
